use Rattle.std.proofs.Common.{sym, ◌∙◌}
use Rattle.vk_model.specs.Trace.PointViews.{point_of}
use Rattle.vk_history.specs.PointViews.{past}
use Rattle.vk_validate.proofs.Judging.Rules.{found_late}
use Rattle.vk_validate.proofs.rules.first_late.Goals as goal

pub returns-then-found : goal.returns-then-found
returns-then-found c = found_late (past c.args.history.now) (point_of c.args.point.now) _ _ _ _ _ _ (sym c.if-found.true ∙ c.requires.found.war) c.requires.found.raw c.requires.found.waw c.requires.used c.requires.found.undefined (c.breaks_limit-is_over.ensures (point_of c.args.point.now))

pub returns-then-found-2 : goal.returns-then-found-2
returns-then-found-2 c = found_late (past c.args.history.now) (point_of c.args.point.now) _ _ _ _ _ _ (sym c.if-found.false ∙ c.requires.found.war) (sym c.if-found-2.true ∙ c.requires.found.raw) c.requires.found.waw c.requires.used c.requires.found.undefined (c.breaks_limit-is_over.ensures (point_of c.args.point.now))

pub returns-then-found-3 : goal.returns-then-found-3
returns-then-found-3 c = found_late (past c.args.history.now) (point_of c.args.point.now) _ _ _ _ _ _ (sym c.if-found.false ∙ c.requires.found.war) (sym c.if-found-2.false ∙ c.requires.found.raw) (sym c.if-found-3.true ∙ c.requires.found.waw) c.requires.used c.requires.found.undefined (c.breaks_limit-is_over.ensures (point_of c.args.point.now))

pub returns-then-is_used : goal.returns-then-is_used
returns-then-is_used c = found_late (past c.args.history.now) (point_of c.args.point.now) _ _ _ _ _ _ (sym c.if-found.false ∙ c.requires.found.war) (sym c.if-found-2.false ∙ c.requires.found.raw) (sym c.if-found-3.false ∙ c.requires.found.waw) (sym c.if-is_used.true ∙ c.requires.used) c.requires.found.undefined (c.breaks_limit-is_over.ensures (point_of c.args.point.now))

pub returns-then-found-4 : goal.returns-then-found-4
returns-then-found-4 c = found_late (past c.args.history.now) (point_of c.args.point.now) _ _ _ _ _ _ (sym c.if-found.false ∙ c.requires.found.war) (sym c.if-found-2.false ∙ c.requires.found.raw) (sym c.if-found-3.false ∙ c.requires.found.waw) (sym c.if-is_used.false ∙ c.requires.used) (sym c.if-found-4.true ∙ c.requires.found.undefined) (c.breaks_limit-is_over.ensures (point_of c.args.point.now))

pub returns-then-is_over : goal.returns-then-is_over
returns-then-is_over c = found_late (past c.args.history.now) (point_of c.args.point.now) _ _ _ _ _ _ (sym c.if-found.false ∙ c.requires.found.war) (sym c.if-found-2.false ∙ c.requires.found.raw) (sym c.if-found-3.false ∙ c.requires.found.waw) (sym c.if-is_used.false ∙ c.requires.used) (sym c.if-found-4.false ∙ c.requires.found.undefined) (sym c.if-is_over.true ∙ (c.breaks_limit-is_over.ensures (point_of c.args.point.now)))

pub returns-else-is_over : goal.returns-else-is_over
returns-else-is_over c = found_late (past c.args.history.now) (point_of c.args.point.now) _ _ _ _ _ _ (sym c.if-found.false ∙ c.requires.found.war) (sym c.if-found-2.false ∙ c.requires.found.raw) (sym c.if-found-3.false ∙ c.requires.found.waw) (sym c.if-is_used.false ∙ c.requires.used) (sym c.if-found-4.false ∙ c.requires.found.undefined) (sym c.if-is_over.false ∙ (c.breaks_limit-is_over.ensures (point_of c.args.point.now)))
