-- What is reported of a point and a rule that it breaks.
use Rattle.std.specs.Prelude.{◌≡◌, List, ◌∷◌, length, Option, Some, None, IsTrue, false, ⊤}
use Rattle.vk_model.specs.declared.rule.Rule.{Rule}
use Rattle.vk_model.specs.declared.rule.Rule.TheVariants as rule
use Rattle.vk_model.specs.declared.entry.Entry.{Entry}
use Rattle.vk_model.specs.declared.rule.At.{At}
use Rattle.vk_model.specs.Trace.Point.{Past, Point, at_of}
use Rattle.vk_model.specs.Trace.Order.{order}
use Rattle.vk_model.specs.Rules.Fault.{Comes}
use Rattle.vk_model.specs.Rules.Ids.{breaks_live_id}
use Rattle.vk_model.specs.Rules.Table.{breaks}
use Rattle.vk_model.specs.Sync.Node.{nodes}
use Rattle.vk_hazards.specs.declared.hazards.Hazard.{Hazard}
use Rattle.vk_hazards.specs.declared.hazards.Hazard.TheVariants.{War, Raw, Waw}
use Rattle.vk_hazards.specs.declared.hazards.HazardFact.{HazardFact}
use Rattle.vk_hazards.specs.declared.facts.Fact.{Fact}
use Rattle.vk_hazards.specs.declared.facts.Fact.TheVariants as fact
use Rattle.vk_hazards.specs.Latest.{IsBest}
use Rattle.vk_hazards.specs.Lives.{IsMade, IsDead}
use Rattle.vk_hazards.specs.Strays.{IsStray}
use Rattle.vk_hazards.specs.Counters.{IsLow, IsEndless}

-- What is reported of a point and a kind of hazard: the latest earlier node with which a node of the point is in hazard, or that there is none.
abbrev pub IsHazardOf : Past → Point → Hazard → Option HazardFact → Type 0
IsHazardOf past p h found = IsBest (p ∷ past) h (length (nodes past)) (length (nodes (p ∷ past))) found

-- A fact is so of a point that comes next, and is one that its rule is reported by.
abbrev pub IsSo : Rule → Past → Point → Fact → Type 0
IsSo rule.NewId past p (fact.Made l) = IsMade past p (Some l)
IsSo rule.LiveId past p (fact.Dead d) = IsDead past p (Some d)
IsSo rule.LiveId past p (fact.Stray s) = IsStray past p.action s
IsSo rule.SignalValue past p (fact.Signaled f) = IsLow past p (Some f)
IsSo rule.WaitNever past p (fact.Waited f) = IsEndless past p (Some f)
IsSo rule.HazardWar past p (fact.Hazard f) = IsHazardOf past p War (Some f)
IsSo rule.HazardRaw past p (fact.Hazard f) = IsHazardOf past p Raw (Some f)
IsSo rule.HazardWaw past p (fact.Hazard f) = IsHazardOf past p Waw (Some f)
IsSo _ past p _ = ⊥

-- There is no fact that the rule is reported by: it isn't broken, or no fact is reported of it.
abbrev pub IsUnreported : Rule → Past → Point → Type 0
IsUnreported rule.NewId past p = IsMade past p None
IsUnreported rule.LiveId past p = breaks_live_id past p ≡ false
IsUnreported rule.SignalValue past p = IsLow past p None
IsUnreported rule.WaitNever past p = IsEndless past p None
IsUnreported rule.HazardWar past p = IsHazardOf past p War None
IsUnreported rule.HazardRaw past p = IsHazardOf past p Raw None
IsUnreported rule.HazardWaw past p = IsHazardOf past p Waw None
IsUnreported _ past p = ⊤

-- What is reported of a point that comes next, and a rule.
abbrev pub IsReported : Rule → Past → Point → Option Fact → Type 0
IsReported r past p None = IsUnreported r past p
IsReported r past p (Some f) = IsSo r past p f

-- What is reported of the point that a trace is refused at: of the point of its reference order at this place, with what came before it, which breaks the rule.
pub record IsReportedOf (entries : List Entry) (at : At) (r : Rule) (found : Option Fact) : Type 0 where
  pub before : Past
  pub point : Point
  pub comes : Comes (order entries) before point
  pub is_reported : at_of point ≡ at
  pub broken : IsTrue (breaks r before point)
  pub reported : IsReported r before point found
