-- The limit on points, which no trace that can be computed here reaches.
use Rattle.std.specs.Prelude.{◌≡◌, true, false, length}
use Rattle.vk_model.specs.declared.rule.Rule.TheVariants as rule
use Rattle.vk_model.specs.Trace.Point.{Past, Point}
use Rattle.vk_model.specs.Rules.Table.{breaks}

-- The point after 131,072 others breaks the rule, the one after 131,071 doesn't.
pub record Limits : Type 0 where
  pub limit : (past : Past) (p : Point) → length past ≡ 131072 → breaks rule.Limit past p ≡ true
  pub limit_corrected : (past : Past) (p : Point) → length past ≡ 131071 → breaks rule.Limit past p ≡ false
