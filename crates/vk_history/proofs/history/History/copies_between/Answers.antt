use Rattle.std.proofs.Common.{◌∙◌}
use Rattle.vk_history.specs.PointViews.{past}
use Rattle.vk_touches.proofs.PartChanges.{if_ok}
use Rattle.vk_history.proofs.Kept.ImageCopies.{kept_image}
use Rattle.vk_history.proofs.history.History.copies_between.Goals as goal

pub returns : goal.returns
returns c =
    let now = rw c.self.view_is at c.self.invariant in
    let kept = kept_image c.self.inside.tables.contents (past c.args.self.now) now.1.contents in
    if_ok c.copies_between.result c.copies_between.ensures (λ gs copies m n of to. copies m n (kept c.args.source ∙ of) (kept c.args.destination ∙ to))
