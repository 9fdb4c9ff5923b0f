-- LIMIT: which numbers are compared.
use Rattle.std.specs.Prelude.{◌≡◌, ◌≤◌, length}
use Rattle.vk_model.specs.Trace.Point.{Past}
use Rattle.vk_rules.specs.declared.traces.PointNumber.{PointNumber}

-- What is reported of a point that breaks LIMIT: so many points come before it, and a trace may have 131,072 (profile).
pub record IsLimit (past : Past) (m : PointNumber) : Type 0 where
  pub number : m.number ≡ length past
  pub most : m.most ≡ 131072
  pub over : m.most ≤ m.number
