use Rattle.std.proofs.Common.{◌≡◌, ℕ, Option, Some, None, ap, ◌∙◌}
use Rattle.std.specs.Prelude.{◌==◌, IfSome, IsTrue}
use Rattle.vk_model.specs.Trace.Point.{Past, Point}
use Rattle.vk_model.specs.Trace.PointViews.{point_of}
use Rattle.vk_model.specs.Sync.Node.{acts}
use Rattle.vk_history.specs.PointViews.{past}
use Rattle.vk_rules.specs.Passes.{acts_write}
use Rattle.vk_findings.specs.declared.passes.MovingResource.{MovingResource}
use Rattle.vk_findings.specs.Defrags.{IsMoving}
use Rattle.vk_findings.specs.Writes.{IsPassWrite}
use Rattle.vk_findings.proofs.writes.pass_write_of.Goals as goal

write_reported : (past : Past) (p : Point) (r : ℕ) (m : Option MovingResource) → IsTrue (acts_write past p.queue (λ k. k == r) (acts p.action)) → IfSome m (λ o. o.resource ≡ r) → IfSome m (IsMoving past) → IfSome m (IsPassWrite past p)
write_reported past p r None written same moving = tt
write_reported past p r (Some o) written same moving = record { written = ap (λ (n : ℕ). acts_write past p.queue (λ k. k == n) (acts p.action)) same ∙ written; moving = moving }

pub returns-clause-reported : goal.returns-clause-reported
returns-clause-reported c =
    write_reported (past c.args.history.now) (point_of c.args.point.now) c.in_ok-resource.resource.resource c.with_pass.result c.in_ok-resource.ensures.reported.0 c.with_pass.ensures.same c.with_pass.ensures.reported
