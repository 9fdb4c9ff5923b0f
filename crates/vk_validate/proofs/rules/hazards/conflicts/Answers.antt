use Rattle.std.proofs.Common.{subst, sym, refl, ◌≡◌, true}
use Rattle.vk_model.specs.Trace.Point.{Action}
use Rattle.vk_model.specs.Trace.PointViews.{point_of}
use Rattle.vk_history.specs.PointViews.{past}
use Rattle.vk_validate.proofs.Points.Calm.{calm}
use Rattle.vk_validate.proofs.Judging.CalmConflicts.{quiet_conflicts, calm_conflicts}
use Rattle.vk_validate.proofs.rules.hazards.conflicts.Goals as goal

pub returns-in-Nothing : goal.returns-in-Nothing
returns-in-Nothing c = quiet_conflicts (past c.args.history.now) (point_of c.args.point.now) c.in-Nothing.ensures

pub returns-in-Made : goal.returns-in-Made
returns-in-Made c = calm_conflicts (past c.args.history.now) (point_of c.args.point.now) (subst (λ (d : Action). calm d ≡ true) (sym c.in-Made.ensures) refl)

pub returns-in-ImageMade : goal.returns-in-ImageMade
returns-in-ImageMade c = calm_conflicts (past c.args.history.now) (point_of c.args.point.now) (subst (λ (d : Action). calm d ≡ true) (sym c.in-ImageMade.ensures) refl)

pub returns-in-Flushed : goal.returns-in-Flushed
returns-in-Flushed c = calm_conflicts (past c.args.history.now) (point_of c.args.point.now) (subst (λ (d : Action). calm d ≡ true) (sym c.in-Flushed.ensures) refl)

pub returns-in-Invalidated : goal.returns-in-Invalidated
returns-in-Invalidated c = calm_conflicts (past c.args.history.now) (point_of c.args.point.now) (subst (λ (d : Action). calm d ≡ true) (sym c.in-Invalidated.ensures) refl)
