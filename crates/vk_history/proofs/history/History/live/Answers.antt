use Rattle.std.proofs.Common.{◌∙◌, sym, refl}
use Rattle.vk_history.specs.PointViews.{past}
use Rattle.vk_history.proofs.Making.Ended.{ended_is}
use Rattle.vk_history.proofs.history.History.live.Goals as goal

pub returns-in-Some : goal.returns-in-Some
returns-in-Some c =
    let e = sym c.first_end.ensures ∙ c.in-Some.is in
    rw (ended_is (past c.args.self.now) c.args.id, e) refl

pub returns-in-None : goal.returns-in-None
returns-in-None c =
    let e = sym c.first_end.ensures ∙ c.in-None.is in
    rw (ended_is (past c.args.self.now) c.args.id, e) c.made.ensures
