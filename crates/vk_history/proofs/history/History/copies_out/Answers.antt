use Rattle.std.proofs.Common.{◌∙◌}
use Rattle.vk_history.specs.PointViews.{past}
use Rattle.vk_touches.proofs.PartChanges.{if_ok}
use Rattle.vk_history.proofs.Kept.ImageCopies.{kept_image}
use Rattle.vk_history.proofs.history.History.copies_out.Goals as goal

pub returns : goal.returns
returns c =
    let now = rw c.self.view_is at c.self.invariant in
    if_ok c.copies_out.result c.copies_out.ensures (λ gs copies m of. copies m (kept_image c.self.inside.tables.contents (past c.args.self.now) now.1.contents c.args.id ∙ of))
