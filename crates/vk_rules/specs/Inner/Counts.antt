-- Parts of what is reported of sizes, as single functions find them.
use Rattle.std.specs.Prelude.{◌≡◌, true, Some}
use Rattle.vk_model.specs.declared.command.Element.{Element}
use Rattle.vk_model.specs.declared.command.Length.{Length}
use Rattle.vk_rules.specs.declared.items.Item.{Item}
use Rattle.vk_rules.specs.declared.counts.Quantity.TheVariants as quantity
use Rattle.vk_rules.specs.declared.counts.SizeMeasure.{SizeMeasure}
use Rattle.vk_rules.specs.declared.counts.SizeMeasure.TheVariants as measure
use Rattle.vk_rules.specs.Counts.{length_limits, element_limits, limits, is_out}

-- A length that an item has is of no byte.
abbrev pub IsLength : Item → Length → SizeMeasure → Type 0
IsLength q n (measure.Amount m) = (m.item ≡ q) × (m.quantity ≡ quantity.Bytes) × (length_limits n ≡ Some (limits m.value m.least m.most)) × (is_out m.value m.least m.most ≡ true)
IsLength q n (measure.Block b) = ⊥

-- An element, as an item, is on no byte.
abbrev pub IsElementSize : Item → Element → SizeMeasure → Type 0
IsElementSize q e (measure.Amount m) = (m.item ≡ q) × (m.quantity ≡ quantity.Bytes) × (element_limits e ≡ Some (limits m.value m.least m.most)) × (is_out m.value m.least m.most ≡ true)
IsElementSize q e (measure.Block b) = ⊥
