use Rattle.std.proofs.Common.{◌∙◌, ap, sym, ◌&&◌}
use Rattle.vk_history.specs.PointViews.{past}
use Rattle.vk_laws.proofs.Forms.Written.{transition_written}
use Rattle.vk_rules.proofs.written.written_by_element.Goals as goal

pub returns-in-Image : goal.returns-in-Image
returns-in-Image c = λ f.
    let e = c.in-Image.on_image in
    rw c.in-Image.is (c.only_if.ensures f ∙ ap (λ b. b && f e.image) c.changes_some.ensures ∙ sym (transition_written f (past c.args.history.now) c.args.queue e))
