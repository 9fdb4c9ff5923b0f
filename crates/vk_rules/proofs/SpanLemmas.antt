-- Numbers that aren't of an image, by the entry that made the image.
use Rattle.std.proofs.Common.{◌≡◌, ℕ, Option, Some, None, sym, ap, ◌∙◌}
use Rattle.std.specs.Prelude.{option_and_then, IfSome}
use Rattle.vk_model.specs.declared.resource.ImageInfo.{ImageInfo}
use Rattle.vk_model.specs.Trace.Point.{Past}
use Rattle.vk_model.specs.Trace.Objects.{image}
use Rattle.vk_model.specs.World.Areas.{Area}
use Rattle.vk_rules.specs.declared.items.Item.{Item}
use Rattle.vk_rules.specs.declared.spans.Outside.{Outside}
use Rattle.vk_rules.specs.Subresources.{IsOutsideOf, span_in}
use Rattle.vk_rules.specs.Inner.Subresources.{IsSpanIn}

-- what isn't of what the image was made with isn't of the image
pub of_image : (past : Past) (i : ℕ) (m : ImageInfo) (areas : Item → Option Area) (o : Outside) → Some m ≡ image past i → IsSpanIn m i areas o → IsOutsideOf past areas o
of_image past i m areas o is reported =
    let numbers = λ (n : ImageInfo). option_and_then (span_in n o.axis) (areas o.item) in
    (reported.1 ∙ ap Some (sym reported.0), ap (λ (k : ℕ). option_and_then numbers (image past k)) reported.0 ∙ ap (option_and_then numbers) (sym is) ∙ reported.2, reported.3)

-- the same of areas that are reported for each number
pub of_image_each : (past : Past) (i : ℕ) (m : ImageInfo) (areas : ℕ → Item → Option Area) (r : Option Outside) → Some m ≡ image past i
    → IfSome r (λ o. (n : ℕ) → IsSpanIn m i (areas n) o) → IfSome r (λ o. (n : ℕ) → IsOutsideOf past (areas n) o)
of_image_each past i m areas None is reported = tt
of_image_each past i m areas (Some o) is reported = λ n. of_image past i m (areas n) o is (reported n)
