use Rattle.std.proofs.Common.{List, sym, subst}
use Rattle.vk_model.specs.World.ByteWrites.{byte_writes, copy_in_writes, copy_out_writes, copy_image_writes}
use Rattle.vk_model.specs.Sync.Access.{origins}
use Rattle.vk_hazards.specs.declared.areas.Area.{Area}
use Rattle.vk_hazards.specs.Areas.{AreAreas}
use Rattle.vk_hazards.proofs.CommandAreas.{no_reads, read_as, read_by}
use Rattle.vk_hazards.proofs.past.Past.command_reads.Goals as goal

pub returns-in_ok-areas-in-CopyIn : goal.returns-in_ok-areas-in-CopyIn
returns-in_ok-areas-in-CopyIn c =
    let w = c.in-CopyIn in
    read_by c.args.self.now c.in_ok-areas-in-CopyIn.areas.items _ _ w.is
    (read_as (copy_in_writes w.buffer w.image) c.in_ok-areas-in-CopyIn.areas.items _ _ _ _ c.image.ensures c.as_slice-in-CopyIn.ensures (c.in_ok-areas-in-CopyIn.ensures w.image))

pub returns-in_ok-areas-in-CopyOut : goal.returns-in_ok-areas-in-CopyOut
returns-in_ok-areas-in-CopyOut c =
    let w = c.in-CopyOut in
    read_by c.args.self.now c.in_ok-areas-in-CopyOut.areas.items _ _ w.is
    (read_as (copy_out_writes w.image w.buffer) c.in_ok-areas-in-CopyOut.areas.items _ _ _ _ c.image-in-CopyOut.ensures c.as_slice-in-CopyOut.ensures (c.in_ok-areas-in-CopyOut.ensures w.buffer))

pub returns-in_ok-areas-in-CopyImage : goal.returns-in_ok-areas-in-CopyImage
returns-in_ok-areas-in-CopyImage c =
    let w = c.in-CopyImage in
    read_by c.args.self.now c.in_ok-areas-in-CopyImage.areas.items _ _ w.is
    (read_as (copy_image_writes w.source w.destination) c.in_ok-areas-in-CopyImage.areas.items _ _ _ _ c.image-info.ensures c.as_slice-in-CopyImage.ensures (c.in_ok-areas-in-CopyImage.ensures w.destination))

pub returns-in_ok-areas-in_default : goal.returns-in_ok-areas-in_default
returns-in_ok-areas-in_default c =
    subst (λ (l : List Area). AreAreas l (origins (byte_writes c.args.self.now c.args.command.now))) (sym c.in_ok-areas-in_default.ensures.items)
    (no_reads c.args.self.now c.args.command.now c.in_default.not-Copy c.in_default.not-CopyIn c.in_default.not-CopyOut c.in_default.not-CopyImage)
