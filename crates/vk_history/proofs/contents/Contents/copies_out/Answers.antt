use Rattle.std.proofs.Common.{◌∙◌, subst, Some}
use Rattle.std.specs.List.{flat_map}
use Rattle.vk_model.specs.declared.resource.ImageInfo.{ImageInfo}
use Rattle.vk_model.specs.World.Bytes.{in_buffer}
use Rattle.vk_model.specs.World.ByteWrites.{copy_out_writes}
use Rattle.vk_image_bytes.specs.Copies.{AreCopies, AreInside}
use Rattle.vk_image_bytes.specs.Numbers.{byte_of, byte_count}
use Rattle.vk_touches.proofs.PartChanges.{if_ok}
use Rattle.vk_history.proofs.Kept.ImageCopies.{same_some}
use Rattle.vk_history.proofs.contents.Contents.copies_out.Goals as goal

pub returns-in-Some : goal.returns-in-Some
returns-in-Some c = if_ok c.copies_out.result c.copies_out.ensures (λ copies gives m is b size small inside.
    subst (λ (x : ImageInfo). AreInside x size c.args.regions.now → AreCopies (byte_of x c.args.image) (λ y. in_buffer b y) (byte_count x) size (flat_map (copy_out_writes c.args.image b (Some x)) c.args.regions.now) copies.items) (same_some (c.in-Some.ensures ∙ is)) (gives b c.args.image size small) inside)
