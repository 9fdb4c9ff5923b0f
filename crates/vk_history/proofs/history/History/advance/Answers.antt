use Rattle.std.proofs.Common.{arith, ◌≡◌, Some}
use Rattle.std.specs.Prelude.{slice_get}
use Rattle.std.proofs.lemmas.Option.{slice_get_within}
use Rattle.vk_history.proofs.Kept.PastLemmas.{past-next}
use Rattle.vk_history.proofs.history.History.advance.Goals as goal

pub invariant_of-self : goal.invariant_of-self
invariant_of-self c =
    let at : slice_get c.self.inside.points.now c.self.inside.count ≡ Some c.args.point.now = rw (← c.self.view_is) at c.requires.here in
    let lt = slice_get_within c.self.inside.points.now c.self.inside.count c.args.point.now at in
    let judged = rw (← c.self.view_is) at c.requires.judged in
    let next = past-next c.self.inside.points.now c.self.inside.count c.args.point.now at in
    (omega (arith, lt), rw next (c.in-Ok.ensures _ judged c.self.invariant.1), rw next judged)
