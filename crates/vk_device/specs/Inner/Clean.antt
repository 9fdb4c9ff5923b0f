-- What may have happened on a device.
use Rattle.std.specs.Prelude.{IsTrue}
use Rattle.vk_model.specs.declared.rule.Rule.{Rule}
use Rattle.vk_model.specs.Trace.Point.{Past, Point}
use Rattle.vk_model.specs.Rules.Table.{breaks}
use Rattle.vk_model.specs.Rules.Fault.{Comes}

-- No point of a past breaks a rule.
pub record IsClean (past : Past) : Type 0 where
  pub sound : (before : Past) (p : Point) (r : Rule) → Comes past before p → IsTrue (breaks r before p) → ⊥
