use Rattle.std.proofs.Common.{◌∙◌, subst, Some}
use Rattle.std.specs.List.{flat_map}
use Rattle.vk_model.specs.declared.resource.ImageInfo.{ImageInfo}
use Rattle.vk_model.specs.World.ByteWrites.{copy_image_writes}
use Rattle.vk_image_bytes.specs.Copies.{AreCopies, AreBetween}
use Rattle.vk_image_bytes.specs.Numbers.{byte_of, byte_count}
use Rattle.vk_touches.proofs.PartChanges.{if_ok}
use Rattle.vk_history.proofs.Kept.ImageCopies.{same_some}
use Rattle.vk_history.proofs.contents.Contents.copies_between.Goals as goal

pub returns-in-Some-Some : goal.returns-in-Some-Some
returns-in-Some-Some c = if_ok c.copies_from.result c.copies_from.ensures (λ copies gives m n of to between.
    subst (λ (y : ImageInfo). AreBetween m y c.args.regions.now → AreCopies (byte_of m c.args.source) (byte_of y c.args.destination) (byte_count m) (byte_count y) (flat_map (copy_image_writes c.args.source c.args.destination (Some y)) c.args.regions.now) copies.items) (same_some (c.in-Some-Some.ensures' ∙ to))
    (subst (λ (x : ImageInfo). AreBetween x c.in-Some-Some.written.now c.args.regions.now → AreCopies (byte_of x c.args.source) (byte_of c.in-Some-Some.written.now c.args.destination) (byte_count x) (byte_count c.in-Some-Some.written.now) (flat_map (copy_image_writes c.args.source c.args.destination (Some c.in-Some-Some.written.now)) c.args.regions.now) copies.items) (same_some (c.in-Some-Some.ensures ∙ of))
    (gives c.args.source c.args.destination)) between)
