use Rattle.std.proofs.Common.{List, ap, ◌∙◌}
use Rattle.std.proofs.lemmas.List.{take_all}
use Rattle.std.specs.List.{sum_by}
use Rattle.vk_model.specs.declared.command.SubresourceRange.{SubresourceRange}
use Rattle.vk_image_transfer.specs.Pieces.{range_rows}
use Rattle.vk_image_transfer.proofs.AllPieces.{clear_all_count}
use Rattle.vk_image_transfer.proofs.ranges.Clear.pieces.Goals as goal

pub returns-clause-pieces : goal.returns-clause-pieces
returns-clause-pieces c = λ i.
    let rs = c.args.self.now.ranges.now in
    c.loop-range.invariant.sum ∙ ap (λ (l : List SubresourceRange). sum_by (range_rows c.args.image.now) l) (take_all c.loop-range.range-index rs c.loop-range-test.false) ∙ clear_all_count i c.args.self.now.color c.args.image.now rs
