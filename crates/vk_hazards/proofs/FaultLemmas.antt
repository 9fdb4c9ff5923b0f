-- The point that a trace is refused at.
use Rattle.std.proofs.Common.{◌≡◌, ◌∷◌, List, Some, None, IsTrue, refl, ap, sym, ◌∙◌, subst}
use Rattle.std.specs.Prelude.{Option, MatchOption, length}
use Rattle.vk_model.specs.declared.entry.Entry.{Entry}
use Rattle.vk_model.specs.declared.rule.At.{At}
use Rattle.vk_model.specs.declared.rule.Rule.{Rule}
use Rattle.vk_model.specs.Trace.Point.{Past, Point, at_of}
use Rattle.vk_model.specs.Trace.Order.{order}
use Rattle.vk_model.specs.Trace.Structure.{IsOrdered}
use Rattle.vk_model.specs.Rules.Fault.{Comes, newest, older}
use Rattle.vk_model.specs.Rules.Table.{breaks, first_fault}
use Rattle.vk_model.specs.Laws.{IsFirst}
use Rattle.vk_model.proofs.Rules.Fault.{first_of_fault}
use Rattle.vk_model.proofs.Trace.Once.{come_once}
use Rattle.vk_model.proofs.Trace.Structure.{order_ordered}
use Rattle.vk_model.proofs.Trace.Older.{comes_has}
use Rattle.vk_hazards.specs.Until.{IsNowhere, IsUntil}
use Rattle.vk_hazards.specs.declared.facts.Fact.{Fact}
use Rattle.vk_model.specs.Sync.Node.{nodes}
use Rattle.vk_hazards.specs.declared.hazards.Hazard.{Hazard}
use Rattle.vk_hazards.specs.declared.hazards.Hazard.TheVariants.{War, Raw, Waw}
use Rattle.vk_hazards.specs.declared.hazards.HazardFact.{HazardFact}
use Rattle.vk_hazards.specs.Hazards.{rule_of}
use Rattle.vk_hazards.specs.Latest.{IsBest}
use Rattle.vk_hazards.specs.Facts.{IsHazardOf, IsReported, IsUnreported, IsReportedOf}

-- points of an ordered past that are reported alike are one, with the same points before it
pub same_point : (all b : Past) (p : Point) → Comes all b p → (c : Past) (q : Point) → Comes all c q → IsOrdered all → at_of p ≡ at_of q → (b ≡ c) × (p ≡ q)
same_point all b p newest c q there ordered e = go (p ∷ b) c q there refl e
  where
    go : (l c : Past) (q : Point) → Comes l c q → l ≡ p ∷ b → at_of p ≡ at_of q → (b ≡ c) × (p ≡ q)
    go l c q newest is e = (cc, cc)
    go l c q (older {past = rest} {q = r} come) is e =
        let same : rest ≡ b = cc in
        absurd (come_once (p ∷ b) b p q ordered newest (comes_has b c q (subst (λ (m : Past). Comes m c q) same come)) (sym e))
same_point all b p (older {past = rest} {q = r} come) c q there ordered e = go (r ∷ rest) c q there refl e (λ d. same_point rest b p come c q d ordered.1 e)
  where
    go : (l c : Past) (q : Point) → Comes l c q → l ≡ r ∷ rest → at_of p ≡ at_of q → (Comes rest c q → (b ≡ c) × (p ≡ q)) → (b ≡ c) × (p ≡ q)
    go l c q newest is e next =
        let same : q ≡ r = cc in
        absurd (come_once (r ∷ rest) rest r p ordered newest (comes_has rest b p come) (e ∙ ap at_of same))
    go l c q (older {past = more} {q = s} d) is e next = let same : more ≡ rest = cc in next (subst (λ (m : Past). Comes m c q) same d)

-- the point that a trace is refused at
pub first_at : (t : List Entry) (at : At) (r : Rule) → first_fault t ≡ Some (at, r) → IsFirst (order t) at r
unfolding first_fault
first_at t at r is = first_of_fault (order t) at r is

-- it is somewhere
pub somewhere : (t : List Entry) (at : At) (r : Rule) → first_fault t ≡ Some (at, r) → IsNowhere (order t) at → ⊥
somewhere t at r is none = let f = first_at t at r is in none f.before f.point f.comes f.is_reported

-- what is reported of the point at this place is reported of the one that the trace is refused at
pub reported_of : (t : List Entry) (at : At) (r : Rule) (past : Past) (found : Option Fact) → first_fault t ≡ Some (at, r) → IsUntil (order t) at past
    → ((before : Past) (p : Point) → past ≡ p ∷ before → IsReported r before p found) → IsReportedOf t at r found
reported_of t at r past found is until reported =
    let f = first_at t at r is in
    let same = same_point (order t) f.before f.point f.comes until.before until.point until.comes (order_ordered t) (f.is_reported ∙ sym until.is_reported) in
    record {
      before = until.before;
      point = until.point;
      comes = until.comes;
      is_reported = until.is_reported;
      broken = subst (λ (b : Past). IsTrue (breaks r b until.point)) same.0 (subst (λ (p : Point). IsTrue (breaks r f.before p)) same.1 f.broken);
      reported = reported until.before until.point until.here;
    }

-- the same where no point was found, and where one was
pub none_reported : (t : List Entry) (at : At) (r : Rule) (found : Option Past) → first_fault t ≡ Some (at, r) → found ≡ None
    → MatchOption found (IsNowhere (order t) at) (IsUntil (order t) at) → IsReportedOf t at r None
none_reported t at r found is none of = absurd (somewhere t at r is (subst (λ (o : Option Past). MatchOption o (IsNowhere (order t) at) (IsUntil (order t) at)) none of))

pub some_reported : (t : List Entry) (at : At) (r : Rule) (found : Option Past) (past : Past) (fact : Option Fact) → first_fault t ≡ Some (at, r) → found ≡ Some past
    → MatchOption found (IsNowhere (order t) at) (IsUntil (order t) at) → ((before : Past) (p : Point) → past ≡ p ∷ before → IsReported r before p fact) → IsReportedOf t at r fact
some_reported t at r found past fact is some of reported = reported_of t at r past fact is (subst (λ (o : Option Past). MatchOption o (IsNowhere (order t) at) (IsUntil (order t) at)) some of) reported

-- that there is no hazard of a kind is what is reported of its rule
hazard_unreported : (h : Hazard) (past : Past) (p : Point) → IsHazardOf past p h None → IsUnreported (rule_of h) past p
hazard_unreported War past p none = none
hazard_unreported Raw past p none = none
hazard_unreported Waw past p none = none

pub no_hazard_reported : (h : Hazard) (now past : Past) (p : Point) (found : Option HazardFact) → now ≡ p ∷ past → found ≡ None
    → IsBest now h (length (nodes past)) (length (nodes now)) found → IsUnreported (rule_of h) past p
no_hazard_reported h now past p found is none best =
    hazard_unreported h past p (subst (λ (o : Option HazardFact). IsHazardOf past p h o) none (subst (λ (l : Past). IsBest l h (length (nodes past)) (length (nodes l)) found) is best))
