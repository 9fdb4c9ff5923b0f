-- A part of the open pass that is copied on a device.
use Rattle.std.proofs.Common.{◌≡◌, ℕ, List, [], ◌∷◌, ◌++◌, map, ◌==◌, eq-eqb, Option, refl, ap, sym, ◌∙◌, subst}
use Rattle.std.specs.Prelude.{Contains}
use Rattle.vk_model.specs.Memory.HeapSizes.{HeapSizes}
use Rattle.vk_model.specs.declared.entry.Entry.{Entry}
use Rattle.vk_model.specs.Run.Runs.{Step, Stage, CopyPart, parts_left}
use Rattle.vk_model.proofs.Lists.Members.{member_passes}
use Rattle.vk_laws.specs.DirectRuns.{PartsGoOn}
use Rattle.vk_backing.specs.Allotted.{kind_of}
use Rattle.vk_backing.specs.Backed.{Backed}
use Rattle.vk_backing.specs.Passing as backing
use Rattle.vk_backing.specs.Passing.{Passing, ArePassing, CopiesAgree}
use Rattle.vk_backing.specs.PassSteps.{Copies}
use Rattle.vk_backing.proofs.Cleared.{kept_kinds}
use Rattle.vk_resources.specs.Allocating.{allotted}
use Rattle.vk_resources.specs.Held.{Held}
use Rattle.vk_resources.specs.Matches.{Stands}
use Rattle.vk_resources.specs.PassSteps.{KeepsCells}
use Rattle.vk_device.specs.declared.device.Device.{Device}
use Rattle.vk_device.specs.Led.{Led}
use Rattle.vk_device.proofs.KeptPasses.{copied_passes, host_same, was_there}

-- what is allotted stays
pub copy_allotted : (p q : Passing) (part : ℕ) (old new : Held) → Copies p q old.backed part old.memory new.memory → new.backed ≡ old.backed → allotted new ≡ allotted old
copy_allotted p q part old new copies same =
    ap (λ (b : Backed). record { sizes = new.memory.sizes; objects = map kind_of new.memory.objects; backed = b }) same
    ∙ ap (λ (x : HeapSizes). record { sizes = x; objects = map kind_of new.memory.objects; backed = old.backed }) copies.objects.sizes
    ∙ ap (λ (l : List (Option (ℕ × ℕ))). record { sizes = old.memory.sizes; objects = l; backed = old.backed }) (kept_kinds old.memory new.memory copies.objects)

pub has_copied : (t : List Entry) (steps : List Step) (s : Stage) (d : Device) → Led t steps s d → (part : ℕ) → PartsGoOn → (q : Passing) (new : Held) → Contains (backing.parts_left d.passes) part → Copies d.passes q d.resources.backed part d.resources.memory new.memory
    → (CopiesAgree d.passes d.resources.backed d.resources.memory → CopiesAgree q new.backed new.memory) → ArePassing q new.backed → KeepsCells d.resources new → Stands s.front.past new
    → Led t (steps ++ CopyPart part ∷ []) (record s { copied = part ∷ s.copied }) (record d { resources = new; passes = q })
has_copied t steps s d led part go_on q new among copies agree passing keeps stands = record {
  memory = led.memory;
  run = go_on t steps s led.memory part led.run (member_passes (λ j. part == j) (parts_left s) part (subst (λ (l : List ℕ). Contains l part) (sym led.passes.left) among) (eq-eqb part part refl));
  holds = λ c there.
      let has = led.holds c (was_there d.resources new keeps.resources keeps.shapes c there) in
      record { held = has.held ∙ sym (host_same d.resources new keeps.resources keeps.cache c); region = has.region ∙ sym (keeps.bytes c) };
  matches = stands;
  works = led.works;
  waits = led.waits;
  counts = led.counts;
  offers = led.offers;
  passes = copied_passes s.front.past s part d.passes q d.resources new copies keeps passing agree led.passes;
}
