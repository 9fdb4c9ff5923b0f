-- Where points are refused.
use Rattle.std.specs.Prelude.{◌≡◌, Some}
use Rattle.vk_model.specs.declared.rule.At.{At}
use Rattle.vk_model.specs.declared.rule.Rule.{Rule}
use Rattle.vk_model.specs.Trace.Point.{Past, at_of}
use Rattle.vk_model.specs.Trace.PointViews.{point_of}
use Rattle.vk_model.specs.Rules.Fault.{Comes}
use Rattle.vk_model.specs.Rules.Table.{first_rule}
use Rattle.vk_history.specs.PointViews.{past}
use Rattle.vk_validate.specs.declared.refusals.Refusal.{Refusal}

-- The fault that a refusal is by.
abbrev pub refused_by : Refusal → At × Rule
refused_by r = (r.at, r.rule)

-- The point is one of a past, with what came before it there, is reported so, and breaks this rule first.
pub record IsRefusal (whole : Past) (r : Refusal) : Type 0 where
  pub comes : Comes whole (past r.history) (point_of r.point)
  pub is_reported : at_of (point_of r.point) ≡ r.at
  pub broken : first_rule (past r.history) (point_of r.point) ≡ Some r.rule
