-- Parts of what is reported of subresources, as single functions find them.
use Rattle.std.specs.Prelude.{◌≡◌, ℕ, Option, Some, option_and_then, true}
use Rattle.vk_model.specs.declared.command.Element.{Element}
use Rattle.vk_model.specs.declared.resource.ImageInfo.{ImageInfo}
use Rattle.vk_model.specs.Trace.Point.{Past}
use Rattle.vk_model.specs.Trace.Objects.{image}
use Rattle.vk_model.specs.World.Areas.{Area}
use Rattle.vk_model.specs.Rules.Ranges.{is_beyond}
use Rattle.vk_rules.specs.declared.items.Item.{Item}
use Rattle.vk_rules.specs.declared.items.Item.TheVariants as item
use Rattle.vk_rules.specs.declared.spans.Outside.{Outside}
use Rattle.vk_rules.specs.Subresources.{area_image, element_area, span_in, span}

-- An area of an image names these numbers, as an item, and they aren't numbers of it.
abbrev pub IsSpanOf : ImageInfo → Item → ℕ → Area → Outside → Type 0
IsSpanOf m q i a o = (o.item ≡ q) × (o.image ≡ i) × (span_in m o.axis a ≡ Some (span o.first o.count o.limit)) × (is_beyond o.limit o.first o.count ≡ true)

-- One of some areas of an image names these numbers, and they aren't numbers of it.
abbrev pub IsSpanIn : ImageInfo → ℕ → (Item → Option Area) → Outside → Type 0
IsSpanIn m i areas o =
    (o.image ≡ i) × (option_and_then area_image (areas o.item) ≡ Some i)
    × (option_and_then (span_in m o.axis) (areas o.item) ≡ Some (span o.first o.count o.limit)) × (is_beyond o.limit o.first o.count ≡ true)

-- Dependency element k names these numbers of its image, and they aren't numbers of it.
abbrev pub IsElementOutside : Past → ℕ → Element → Outside → Type 0
IsElementOutside past k e o =
    (o.item ≡ item.Element k) × (option_and_then area_image (element_area e) ≡ Some o.image)
    × (option_and_then (λ m. option_and_then (span_in m o.axis) (element_area e)) (image past o.image) ≡ Some (span o.first o.count o.limit))
    × (is_beyond o.limit o.first o.count ≡ true)
