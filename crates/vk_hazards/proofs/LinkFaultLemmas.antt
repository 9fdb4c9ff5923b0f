-- The point that a trace is refused at, and what is reported of it.
use Rattle.std.proofs.Common.{◌≡◌, ◌∷◌, List, Some, true, Option, sym, ap, ◌∙◌, subst, ◌&&◌}
use Rattle.std.specs.Prelude.{Contains, MatchOption}
use Rattle.std.proofs.lemmas.Bool.{and_parts}
use Rattle.vk_model.specs.declared.entry.Entry.{Entry}
use Rattle.vk_model.specs.declared.rule.At.{At}
use Rattle.vk_model.specs.declared.rule.Rule.{Rule}
use Rattle.vk_model.specs.declared.rule.Rule.TheVariants as rule
use Rattle.vk_model.specs.Trace.Point.{Past, Point}
use Rattle.vk_model.specs.Trace.Order.{order}
use Rattle.vk_model.specs.Sync.Node.{Node, nodes}
use Rattle.vk_model.proofs.Trace.Structure.{order_ordered}
use Rattle.vk_order.specs.Bytes.{byte_of}
use Rattle.vk_hazards.specs.declared.facts.Fact.TheVariants as fact
use Rattle.vk_hazards.specs.declared.hazards.Hazard.{Hazard}
use Rattle.vk_hazards.specs.declared.hazards.Hazard.TheVariants.{War, Raw, Waw}
use Rattle.vk_hazards.specs.declared.hazards.HazardFact.{HazardFact}
use Rattle.vk_hazards.specs.Facts.{IsHazardOf, IsSo, IsReportedOf}
use Rattle.vk_model.specs.Sync.Access.{is_in}
use Rattle.vk_hazards.specs.Hazards.{node_at, is_missing, earlier_bytes, later_bytes}
use Rattle.vk_hazards.specs.Until.{IsNowhere, IsUntil}
use Rattle.vk_hazards.proofs.FaultLemmas.{same_point}
use Rattle.vk_hazards.specs.declared.links.Links.{Links}
use Rattle.vk_hazards.specs.Links.{AreLinks}
use Rattle.vk_hazards.specs.Faults.{AreLinksAt}

-- ---- what is reported of a hazard

-- two nodes of a past of which something is missing
pub record IsLacking (past : Past) (f : HazardFact) : Type 0 where
  pub earlier : Contains (nodes past) (node_at f.earlier)
  pub later : Contains (nodes past) (node_at f.later)
  pub hazard : is_missing past f.hazard (node_at f.earlier) (node_at f.later) (byte_of f.byte) ≡ true

lacking_of : (past : Past) (p : Point) (h : Hazard) (f : HazardFact) → IsHazardOf past p h (Some f) → IsLacking (p ∷ past) f
lacking_of past p h f best =
    let reported = best.reported in
    let of = reported.3 in
    let is : is_missing (p ∷ past) h (node_at f.earlier) reported.0 (byte_of f.byte) ≡ true = (and_parts (is_in (byte_of f.byte) (earlier_bytes (p ∷ past) h (node_at f.earlier)) && is_in (byte_of f.byte) (later_bytes (p ∷ past) h reported.0)) _ of.found.1).1 in
    record {
      earlier = of.earlier;
      later = subst (λ (n : Node). Contains (nodes (p ∷ past)) n) (sym of.later) reported.1;
      hazard = subst (λ (n : Node). is_missing (p ∷ past) f.hazard (node_at f.earlier) n (byte_of f.byte) ≡ true) (sym of.later)
          (subst (λ (g : Hazard). is_missing (p ∷ past) g (node_at f.earlier) reported.0 (byte_of f.byte) ≡ true) (sym of.hazard) is);
    }

lacking : (r : Rule) (past : Past) (p : Point) (f : HazardFact) → IsSo r past p (fact.Hazard f) → IsLacking (p ∷ past) f
lacking rule.HazardWar past p f so = lacking_of past p War f so
lacking rule.HazardRaw past p f so = lacking_of past p Raw f so
lacking rule.HazardWaw past p f so = lacking_of past p Waw f so
lacking _ past p f so = absurd so

-- the point that is reported of is the one up to which points are
pub until_lacking : (t : List Entry) (at : At) (r : Rule) (f : HazardFact) (past : Past) → IsReportedOf t at r (Some (fact.Hazard f)) → IsUntil (order t) at past → IsLacking past f
until_lacking t at r f past reported until =
    let same = same_point (order t) reported.before reported.point reported.comes until.before until.point until.comes (order_ordered t) (reported.is_reported ∙ sym until.is_reported) in
    let here : reported.point ∷ reported.before ≡ past = ap (λ (b : Past). reported.point ∷ b) same.0 ∙ ap (λ (p : Point). p ∷ until.before) same.1 ∙ sym until.here in
    subst (λ (l : Past). IsLacking l f) here (lacking r reported.before reported.point f reported.reported)

pub until_links : (t : List Entry) (at : At) (f : HazardFact) (past : Past) (l : Links) → IsUntil (order t) at past → AreLinks past f.hazard (node_at f.earlier) (node_at f.later) (byte_of f.byte) l → AreLinksAt t at f l
until_links t at f past l until are = record {
  before = until.before;
  point = until.point;
  comes = until.comes;
  is_reported = until.is_reported;
  links = subst (λ (p : Past). AreLinks p f.hazard (node_at f.earlier) (node_at f.later) (byte_of f.byte) l) until.here are;
}

pub until_some : (t : List Entry) (at : At) (found : Option Past) (past : Past) → found ≡ Some past → MatchOption found (IsNowhere (order t) at) (IsUntil (order t) at) → IsUntil (order t) at past
until_some t at found past is of = subst (λ (o : Option Past). MatchOption o (IsNowhere (order t) at) (IsUntil (order t) at)) is of
