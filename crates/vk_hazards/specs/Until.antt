-- The points up to and with one.
use Rattle.std.specs.Prelude.{◌≡◌, ◌∷◌}
use Rattle.vk_model.specs.declared.rule.At.{At}
use Rattle.vk_model.specs.Trace.Point.{Past, Point, at_of}
use Rattle.vk_model.specs.Rules.Fault.{Comes}

-- No point of a past is reported so.
abbrev pub IsNowhere : Past → At → Type 0
IsNowhere whole at = (before : Past) (p : Point) → Comes whole before p → at_of p ≡ at → ⊥

-- The newest point of a past is one of a whole past that is reported so, with what came before it there.
pub record IsUntil (whole : Past) (at : At) (past : Past) : Type 0 where
  pub before : Past
  pub point : Point
  pub comes : Comes whole before point
  pub is_reported : at_of point ≡ at
  pub here : past ≡ point ∷ before
