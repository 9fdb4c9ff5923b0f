-- Broken rules as a relation.
use Rattle.std.specs.Prelude.{List, ◌∷◌, IsTrue}
use Rattle.vk_model.specs.declared.entry.Entry.{Entry}
use Rattle.vk_model.specs.declared.rule.Rule.{Rule}
use Rattle.vk_model.specs.Trace.Point.{Past, Point}
use Rattle.vk_model.specs.Trace.Order.{order}
use Rattle.vk_model.specs.Rules.Table.{breaks}

-- A past has a point, with what came before it.
pub data Comes : Past → Past → Point → Type 0 where
  newest : {past : Past} {p : Point} → Comes (p ∷ past) past p
  older : {past before : Past} {p q : Point} → Comes past before p → Comes (q ∷ past) before p

-- A point of a past, with what came before it, breaks a rule.
abbrev pub BrokenIn : Past → Past → Point → Rule → Type 0
BrokenIn past before p r = Comes past before p × IsTrue (breaks r before p)

-- No point of the past breaks a rule.
abbrev pub IsUnbroken : Past → Type 0
IsUnbroken past = (before : Past) (p : Point) (r : Rule) → BrokenIn past before p r → ⊥

-- A point of a trace, with what came before it in reference order, breaks a rule.
abbrev pub Broken : List Entry → Past → Point → Rule → Type 0
Broken t = BrokenIn (order t)

-- No point of the trace breaks a rule.
abbrev pub IsSound : List Entry → Type 0
IsSound t = IsUnbroken (order t)
