-- Parts of what is reported of masks, as single functions find them.
use Rattle.std.specs.Prelude.{◌≡◌, ℕ, List, Option, Some, None, option_and_then, true, slice_get}
use Rattle.vk_model.specs.declared.command.Dependency.{Dependency}
use Rattle.vk_rules.specs.declared.items.Item.{Item}
use Rattle.vk_rules.specs.declared.items.Item.TheVariants as item
use Rattle.vk_rules.specs.declared.stages.Side.{Side}
use Rattle.vk_rules.specs.declared.stages.Side.TheVariants as side
use Rattle.vk_rules.specs.declared.stages.BadMasks.{BadMasks}
use Rattle.vk_rules.specs.Synchronization.{masks_of, IsUnfit, is_barring}

-- These are the masks of an item, and what is wrong with them.
abbrev pub AreMasks : Item → Side → ℕ → ℕ → BadMasks → Type 0
AreMasks q w stages accesses m = (m.item ≡ q) × (m.side ≡ w) × (m.stages.0 ≡ stages) × (m.accesses.0 ≡ accesses) × IsUnfit stages accesses m.fault

-- These are masks of dependency element k.
abbrev pub AreMasksAt : ℕ → Dependency → BadMasks → Type 0
AreMasksAt k d m = (m.item ≡ item.Element k) × (masks_of m.side d ≡ Some (m.stages.0, m.accesses.0)) × IsUnfit m.stages.0 m.accesses.0 m.fault

-- The same of element k of an event.
abbrev pub AreEventMasksAt : ℕ → Dependency → BadMasks → Type 0
AreEventMasksAt k d m = AreMasksAt k d m × (is_barring m.fault ≡ true → m.side ≡ side.Source)

-- The element that an item is.
abbrev pub element_at : List Dependency → Item → Option Dependency
element_at ms (item.Element k) = slice_get ms k
element_at ms _ = None

-- These are masks of one of the elements of an event.
abbrev pub AreEventMasks : List Dependency → BadMasks → Type 0
AreEventMasks ms m = (option_and_then (masks_of m.side) (element_at ms m.item) ≡ Some (m.stages.0, m.accesses.0)) × IsUnfit m.stages.0 m.accesses.0 m.fault × (is_barring m.fault ≡ true → m.side ≡ side.Source)
