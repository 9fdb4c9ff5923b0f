-- PASS_WRITE: a resource that is written while a pass of its pool is open.
use Rattle.std.specs.Prelude.{◌==◌, IsTrue}
use Rattle.vk_model.specs.Trace.Point.{Past, Point}
use Rattle.vk_model.specs.Sync.Node.{acts}
use Rattle.vk_rules.specs.Passes.{acts_write}
use Rattle.vk_findings.specs.declared.passes.MovingResource.{MovingResource}
use Rattle.vk_findings.specs.Defrags.{IsMoving}

-- What is reported of a point that breaks PASS_WRITE: a resource that it writes bytes of, and the open pass of its pool (VMA, "Defragmentation").
pub record IsPassWrite (past : Past) (p : Point) (m : MovingResource) : Type 0 where
  pub written : IsTrue (acts_write past p.queue (λ r. r == m.resource) (acts p.action))
  pub moving : IsMoving past m
