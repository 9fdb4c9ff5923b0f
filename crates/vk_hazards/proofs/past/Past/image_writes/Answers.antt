use Rattle.vk_model.specs.World.ByteWrites.{clear_writes, copy_image_writes}
use Rattle.vk_hazards.proofs.CommandAreas.{written_as, written_by}
use Rattle.vk_hazards.proofs.past.Past.image_writes.Goals as goal

pub returns-in_ok-areas-in-Clear : goal.returns-in_ok-areas-in-Clear
returns-in_ok-areas-in-Clear c =
    let w = c.in-Clear in
    written_by c.args.self.now c.in_ok-areas-in-Clear.areas.items _ _ w.is
    (written_as (λ o. clear_writes w.image w.color o) c.in_ok-areas-in-Clear.areas.items _ _ _ _ c.image.ensures c.as_slice.ensures (c.in_ok-areas-in-Clear.ensures w.color))

pub returns-in_ok-areas-in-CopyImage : goal.returns-in_ok-areas-in-CopyImage
returns-in_ok-areas-in-CopyImage c =
    let w = c.in-CopyImage in
    written_by c.args.self.now c.in_ok-areas-in-CopyImage.areas.items _ _ w.is
    (written_as (copy_image_writes w.source w.destination) c.in_ok-areas-in-CopyImage.areas.items _ _ _ _ c.image-info.ensures c.as_slice-in-CopyImage.ensures (c.in_ok-areas-in-CopyImage.ensures w.source))
