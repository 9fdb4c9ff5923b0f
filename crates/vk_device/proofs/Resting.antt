-- What an entry leaves of memory, step by step.
use Rattle.std.proofs.Common.{◌≡◌, ℕ, List, length, true, refl, ap, sym, ◌∙◌, subst, Option, Some, None}
use Rattle.vk_memory.specs.declared.memories.Object.{Object}
use Rattle.vk_memory.specs.MemoryState.{MemoryState, IsLive, bytes_of, object_at, region_of, type_in, type_of}
use Rattle.vk_model.specs.Memory.MoveTargets.{Moved}
use Rattle.vma_defrag.specs.Bytes.{byte_in, AreAlikeObjects, IsTargetByte}
use Rattle.vma_defrag.specs.Ends.{freed}
use Rattle.vma_defrag.proofs.KeptBytes.{freed_byte, freed_stays}
use Rattle.vk_backing.specs.Allotted.{Allotted}
use Rattle.vk_backing.specs.Backed.{Backed}
use Rattle.vk_backing.specs.Passing.{open_moves}
use Rattle.vk_backing.specs.PassSteps.{Closes}
use Rattle.vk_resources.specs.Allocating.{allotted}
use Rattle.vk_resources.specs.Held.{Held}
use Rattle.vk_resources.specs.Rest.{KeepsRest}
use Rattle.vk_resources.proofs.Keeping.{still_placed}
use Rattle.vk_resources.proofs.KeptCopies.{live_alike}
use Rattle.vk_resources.proofs.RestThrough.{rest_same, rest_then}
use Rattle.vk_device.specs.declared.device.Device.{Device}
use Rattle.vk_device.specs.Led.{CopiesOnly, IsReserved, KeepsPadding}
use Rattle.vk_device.specs.Inner.Ready.{Between, Rests}

pub rests_same : (s : Held) → Rests s s
rests_same s = record { rest = rest_same s (λ c. true); resources = refl; shapes = refl }

pub rests_then : (old mid new : Held) → allotted mid ≡ allotted old → Rests old mid → KeepsRest mid new (λ c. true) → new.resources ≡ mid.resources → new.shapes ≡ mid.shapes → Rests old new
rests_then old mid new same first rest resources shapes = record {
  rest = rest_then old mid new (λ c. true) same first.resources first.shapes first.rest rest;
  resources = resources ∙ first.resources;
  shapes = shapes ∙ first.shapes;
}

-- ---- places that are reserved

-- what changes bytes of resources alone changes none there
pub rest_padding : (old new : Device) → KeepsRest old.resources new.resources (λ c. true) → KeepsPadding old new
rest_padding old new rest = record { types = rest.types; sizes = rest.sizes; bytes = λ number k was is none free. rest.bytes number k was is none }

-- one change after another, the first of which moves nothing
pub padding_then : (old mid new : Device) → allotted mid.resources ≡ allotted old.resources → mid.resources.resources ≡ old.resources.resources → mid.resources.shapes ≡ old.resources.shapes → open_moves mid.passes ≡ open_moves old.passes → KeepsPadding old mid → KeepsPadding mid new → KeepsPadding old new
padding_then old mid new same resources shapes moves first rest = record {
  types = λ number was is. let between = live number was in rest.types number between is ∙ first.types number was between;
  sizes = λ number was is. let between = live number was in rest.sizes number between is ∙ first.sizes number was between;
  bytes = λ number k was is none free.
      let between = live number was in
      rest.bytes number k between is (λ c passes w. none c passes (still_placed mid.resources old.resources (sym resources) (sym shapes) number k c w)) (λ at. free (before number k at)) ∙ first.bytes number k was between none free;
}
  where
    live : (number : ℕ) → IsLive old.resources.memory number → IsLive mid.resources.memory number
    live number was = live_alike old.resources mid.resources same number was

    before : (number k : ℕ) → IsReserved mid number k → IsReserved old number k
    before number k at =
        subst (λ (b : Backed). IsTargetByte b.pools (open_moves old.passes) (λ m. true) number k) (ap (λ (a : Allotted). a.backed) same)
        (subst (λ (ms : List Moved). IsTargetByte mid.resources.backed.pools ms (λ m. true) number k) moves at)

-- an entry, after what was picked before it and after its atoms
pub entry_padding : (old picked touched new : Device) → Between old picked → allotted picked.resources ≡ allotted old.resources → touched ≡ record picked { resources = touched.resources } → allotted touched.resources ≡ allotted picked.resources → Rests picked.resources touched.resources → KeepsPadding touched new → KeepsPadding old new
entry_padding old picked touched new first same is still second last =
    let passes = ap (λ (d : Device). open_moves d.passes) is in
    padding_then old touched new (still ∙ same) (second.resources ∙ first.resources) (second.shapes ∙ first.shapes) (passes ∙ first.moves) (padding_then old picked touched same first.resources first.shapes first.moves first.padding (rest_padding picked touched second.rest)) last

pub padding_same : (old new later : Device) → later.resources ≡ new.resources → later.passes ≡ new.passes → KeepsPadding old new → KeepsPadding old later
padding_same old new later resources passes keeps = record { types = rw resources keeps.types; sizes = rw resources keeps.sizes; bytes = rw resources keeps.bytes }

-- ---- memory objects that are alike

alike_type : (o p : Option Object) → AreAlikeObjects o p → type_in p ≡ type_in o
alike_type None None h = refl
alike_type (Some a) (Some b) h = h.0
alike_type None (Some b) h = absurd h
alike_type (Some a) None h = absurd h

alike_length : (o p : Option Object) → AreAlikeObjects o p → length (bytes_of p) ≡ length (bytes_of o)
alike_length None None h = refl
alike_length (Some a) (Some b) h = h.3
alike_length None (Some b) h = absurd h
alike_length (Some a) None h = absurd h

-- a part that is copied
pub copy_padding : (old new : Device) (part : ℕ) → CopiesOnly old new part → KeepsPadding old new
copy_padding old new part copied = record {
  types = λ number was is. alike_type (object_at old.resources.memory number) (object_at new.resources.memory number) (copied.copies.objects.each number);
  sizes = λ number was is. alike_length (object_at old.resources.memory number) (object_at new.resources.memory number) (copied.copies.objects.each number);
  bytes = λ number k was is none free. copied.copies.rest number k free;
}

-- the end of a pass
pub end_padding : (old new : Device) (id : ℕ) (ignored destroyed : List ℕ) → Closes old.passes new.passes old.resources.backed new.resources.backed old.resources.memory new.resources.memory id ignored destroyed → KeepsPadding old new
end_padding old new id ignored destroyed closes = record {
  types = λ number was is. ap type_in (same number is) ∙ alike_type (object_at old.resources.memory number) (object_at copied number) (closes.ended.copies.objects.each number);
  sizes = λ number was is. ap (λ (o : Option Object). length (bytes_of o)) (same number is) ∙ alike_length (object_at old.resources.memory number) (object_at copied number) (closes.ended.copies.objects.each number);
  bytes = λ number k was is none free.
      ap (λ (m : MemoryState). byte_in m number k) closes.ended.freed_are ∙ freed_byte closes.freed copied number k (live number is)
      ∙ closes.ended.copies.rest number k (λ t. free (record { move = t.move; there = t.there; passes = refl; from = t.from; to = t.to; between = t.between; object = t.object; low = t.low; high = t.high }));
}
  where
    copied : MemoryState
    copied = closes.ended.copied

    live : (number : ℕ) → IsLive new.resources.memory number → IsLive (freed copied closes.freed) number
    live number is = subst (λ (m : MemoryState). IsLive m number) closes.ended.freed_are is

    same : (number : ℕ) → IsLive new.resources.memory number → object_at new.resources.memory number ≡ object_at copied number
    same number is = ap (λ (m : MemoryState). object_at m number) closes.ended.freed_are ∙ freed_stays closes.freed copied number (live number is)
