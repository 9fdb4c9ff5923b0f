use Rattle.vk_model.specs.World.ByteWrites.{copy_in_writes, copy_out_writes}
use Rattle.vk_hazards.proofs.CommandAreas.{written_as, written_by}
use Rattle.vk_hazards.proofs.past.Past.buffer_image_writes.Goals as goal

pub returns-in_ok-areas-in-CopyIn : goal.returns-in_ok-areas-in-CopyIn
returns-in_ok-areas-in-CopyIn c =
    let w = c.in-CopyIn in
    written_by c.args.self.now c.in_ok-areas-in-CopyIn.areas.items _ _ w.is
    (written_as (copy_in_writes w.buffer w.image) c.in_ok-areas-in-CopyIn.areas.items _ _ _ _ c.image-info.ensures c.as_slice.ensures (c.in_ok-areas-in-CopyIn.ensures w.buffer))

pub returns-in_ok-areas-in-CopyOut : goal.returns-in_ok-areas-in-CopyOut
returns-in_ok-areas-in-CopyOut c =
    let w = c.in-CopyOut in
    written_by c.args.self.now c.in_ok-areas-in-CopyOut.areas.items _ _ w.is
    (written_as (copy_out_writes w.image w.buffer) c.in_ok-areas-in-CopyOut.areas.items _ _ _ _ c.image-info-in-CopyOut.ensures c.as_slice-in-CopyOut.ensures (c.in_ok-areas-in-CopyOut.ensures w.image))
