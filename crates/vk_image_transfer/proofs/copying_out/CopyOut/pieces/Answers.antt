use Rattle.std.proofs.Common.{◌∙◌}
use Rattle.vk_image_transfer.proofs.Copies.{rows_counted}
use Rattle.vk_image_transfer.proofs.copying_out.CopyOut.pieces.Goals as goal

pub returns : goal.returns
returns c = λ i b m. let g = c.args.self.now.region in c.row_count.ensures ∙ rows_counted m g.layers g.height g.width _
