use Rattle.std.proofs.Common.{arith}
use Rattle.vk_transfer.specs.Updates.{update_piece}
use Rattle.vk_resources.proofs.WrittenBytes.{stretch_has_writes}
use Rattle.vk_resources.proofs.resources.Resources.update_written.Goals as goal

pub returns : goal.returns
returns c =
    let to = c.stretch.ensures.to in
    let inside = c.requires.inside in
    stretch_has_writes c.args.self.now c.args.buffer c.args.placed c.requires.placed (update_piece c.args.buffer c.args.update.now c.args.number) c.stretch.result c.one.result c.one.ensures (c.stretch.ensures.written c.args.buffer) (omega (arith, to, inside))
