-- The links of a hazard at which a trace is refused.
use Rattle.std.specs.Prelude.{◌≡◌, List, ◌∷◌, Option, Some, None}
use Rattle.vk_model.specs.declared.entry.Entry.{Entry}
use Rattle.vk_model.specs.declared.rule.At.{At}
use Rattle.vk_model.specs.Trace.Point.{Past, Point, at_of}
use Rattle.vk_model.specs.Trace.Order.{order}
use Rattle.vk_model.specs.Rules.Fault.{Comes}
use Rattle.vk_order.specs.Bytes.{byte_of}
use Rattle.vk_hazards.specs.declared.hazards.HazardFact.{HazardFact}
use Rattle.vk_hazards.specs.Hazards.{node_at}
use Rattle.vk_hazards.specs.declared.facts.Fact.{Fact}
use Rattle.vk_hazards.specs.declared.facts.Fact.TheVariants as fact
use Rattle.vk_hazards.specs.declared.links.Links.{Links}
use Rattle.vk_hazards.specs.Links.{AreLinks}

-- What is reported of a hazard of the point at this place of a trace's reference order: of the points up to and with it.
pub record AreLinksAt (entries : List Entry) (at : At) (f : HazardFact) (l : Links) : Type 0 where
  pub before : Past
  pub point : Point
  pub comes : Comes (order entries) before point
  pub is_reported : at_of point ≡ at
  pub links : AreLinks (point ∷ before) f.hazard (node_at f.earlier) (node_at f.later) (byte_of f.byte) l

-- What is reported of a fact: of a hazard its links, of another one nothing.
abbrev pub AreLinksOfFact : List Entry → At → Fact → Option Links → Type 0
AreLinksOfFact entries at (fact.Hazard f) None = ⊥
AreLinksOfFact entries at (fact.Hazard f) (Some l) = AreLinksAt entries at f l
AreLinksOfFact entries at _ found = found ≡ None

-- The same, where a fact is reported.
abbrev pub AreLinksOf : List Entry → At → Option Fact → Option Links → Type 0
AreLinksOf entries at None found = found ≡ None
AreLinksOf entries at (Some f) found = AreLinksOfFact entries at f found
