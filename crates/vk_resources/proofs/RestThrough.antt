-- What stays of memory through two changes of it.
use Rattle.std.proofs.Common.{◌≡◌, ℕ, length, slice_index, Bool, true, refl, ap, sym, subst, ◌∙◌}
use Rattle.vk_memory.specs.MemoryState.{MemoryState, IsLive, region_of, type_of}
use Rattle.vk_model.specs.World.Bytes.{Byte}
use Rattle.vk_resources.specs.Allocating.{allotted}
use Rattle.vk_resources.specs.Held.{Held}
use Rattle.vk_resources.specs.Rest.{KeepsRest}
use Rattle.vk_resources.proofs.Keeping.{still_placed}
use Rattle.vk_resources.proofs.KeptCopies.{live_alike}

pub rest_same : (s : Held) (test : Byte → Bool) → KeepsRest s s test
rest_same s test = record { types = λ number was is. refl; sizes = λ number was is. refl; bytes = λ number k was is none. refl }

-- fewer bytes stay than those of a test
pub rest_any : (old new : Held) (test : Byte → Bool) → KeepsRest old new test → KeepsRest old new (λ c. true)
rest_any old new test rest = record { types = rest.types; sizes = rest.sizes; bytes = λ number k was is none. rest.bytes number k was is (λ c passes. none c refl) }

-- one change after another that leaves resources where they lie
pub rest_then : (old mid new : Held) (test : Byte → Bool) → allotted mid ≡ allotted old → mid.resources ≡ old.resources → mid.shapes ≡ old.shapes → KeepsRest old mid test → KeepsRest mid new test → KeepsRest old new test
rest_then old mid new test same resources shapes first rest = record {
  types = λ number was is. let between = live_alike old mid same number was in rest.types number between is ∙ first.types number was between;
  sizes = λ number was is. let between = live_alike old mid same number was in rest.sizes number between is ∙ first.sizes number was between;
  bytes = λ number k was is none.
      let between = live_alike old mid same number was in
      rest.bytes number k between is (λ c passes w. none c passes (still_placed mid old (sym resources) (sym shapes) number k c w)) ∙ first.bytes number k was between none;
}

-- the same where nothing of memory and of where resources lie has changed before
pub rest_from : (old mid new : Held) (test : Byte → Bool) → mid.memory ≡ old.memory → mid.resources ≡ old.resources → mid.shapes ≡ old.shapes → KeepsRest mid new test → KeepsRest old new test
rest_from old mid new test same resources shapes rest = record {
  types = λ number was is. rest.types number (live number was) is ∙ ap (λ (m : MemoryState). type_of m number) same;
  sizes = λ number was is. rest.sizes number (live number was) is ∙ ap (λ (m : MemoryState). length (region_of m number)) same;
  bytes = λ number k was is none. rest.bytes number k (live number was) is (λ c passes w. none c passes (still_placed mid old (sym resources) (sym shapes) number k c w)) ∙ ap (λ (m : MemoryState). slice_index (region_of m number) k) same;
}
  where
    live : (number : ℕ) → IsLive old.memory number → IsLive mid.memory number
    live number was = subst (λ (m : MemoryState). IsLive m number) (sym same) was
