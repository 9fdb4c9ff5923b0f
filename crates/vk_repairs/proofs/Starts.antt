-- The points before the first fault, as a part of the points of a trace.
use Rattle.std.proofs.Common.{◌≡◌, ℕ, ◌+◌, ◌⊎◌, inl, inr, List, [], ◌∷◌, length, take, refl, ap, sym, ◌∙◌, subst, arith, Option, Some, None, slice_get}
use Rattle.std.specs.Prelude.{option_map, IfSome, IsSomeAnd}
use Rattle.std.specs.List.{fold}
use Rattle.vk_model.specs.declared.rule.At.{At}
use Rattle.vk_model.specs.declared.rule.Rule.{Rule}
use Rattle.vk_model.specs.Trace.Point.{Past, Point, at_of}
use Rattle.vk_model.specs.Trace.Structure.{IsOrdered}
use Rattle.vk_model.specs.Trace.Order.{order}
use Rattle.vk_model.specs.Rules.Table.{first_rule, fault, first_fault}
use Rattle.vk_model.specs.declared.entry.Entry.{Entry}
use Rattle.vk_model.proofs.Trace.Structure.{order_ordered}
use Rattle.vk_model.specs.Rules.Fault.{Comes, newest, older}
use Rattle.vk_model.proofs.Trace.Once.{come_once}
use Rattle.vk_model.specs.declared.point.Point.{Point as Given}
use Rattle.vk_model.specs.Trace.PointViews.{point_of}
use Rattle.vk_queues.specs.PointViews.{past_of, add}
use Rattle.vk_model.proofs.Trace.Older.{comes_has}
use Rattle.vk_queues.proofs.NewPoints.{comes_at}
use Rattle.vk_repairs.specs.Starts.{sound_start, IsAmong}

-- ---- the point of the first fault

none_first : fault [] ≡ None
unfolding fault
none_first = refl

-- without a fault all points are before it
pub whole : (past : Past) → fault past ≡ None → sound_start past ≡ past
unfolding sound_start
whole [] none = refl
whole (p ∷ past) none = rw none refl

-- a point from which on there is a fault isn't before it
later : (past : Past) (p : Point) (f : At × Rule) → fault (p ∷ past) ≡ Some f → sound_start (p ∷ past) ≡ sound_start past
unfolding sound_start
later past p f some = rw some refl

-- a fault was there before the newest point, or is that of the newest point
fault_cases : (past : Past) (p : Point) (f : At × Rule) → fault (p ∷ past) ≡ Some f → (fault past ≡ Some f) ⊎ ((fault past ≡ None) × (at_of p ≡ f.0))
unfolding fault
fault_cases past p f =
    elim (fault past) as (λ o. (let g : Option (At × Rule) = elim o [ Some h ↦ Some h | None ↦ option_map (λ r. (let h : At × Rule = (at_of p, r) in h)) (first_rule past p) ] in g ≡ Some f) → (o ≡ Some f) ⊎ ((let n : Option (At × Rule) = None in o ≡ n) × (at_of p ≡ f.0))) [
      | Some h ↦ λ some. inl some
      | None ↦ λ some. inr (refl, here (first_rule past p) some)
    ]
  where
    here : (rule : Option Rule) → option_map (λ r. (let h : At × Rule = (at_of p, r) in h)) rule ≡ Some f → at_of p ≡ f.0
    here None some = absurd cc
    here (Some r) some = let h : At × Rule = (at_of p, r) in let same : h ≡ f = cc in ap (λ (g : At × Rule). g.0) same

-- the point of a fault, and what comes before it
record IsAt (past : Past) (reported : At) : Type 0 where
  before : Past
  point : Point
  comes : Comes past before point
  same : at_of point ≡ reported
  start : sound_start past ≡ before

at_fault : (past : Past) (f : At × Rule) → fault past ≡ Some f → IsAt past f.0
at_fault [] f some = let bad : None ≡ Some f = sym none_first ∙ some in absurd cc
at_fault (p ∷ past) f some = elim (fault_cases past p f some) [
  | inl there ↦ let a = at_fault past f there in record { before = a.before; point = a.point; comes = older a.comes; same = a.same; start = later past p f some ∙ a.start }
  | inr here ↦ record { before = past; point = p; comes = newest; same = here.1; start = later past p f some ∙ whole past here.0 }
]

-- points that are reported alike have the same points before them
one_place : (past first second : Past) (p q : Point) → IsOrdered past → Comes past first p → Comes past second q → at_of p ≡ at_of q → first ≡ second
one_place past first second p q ordered newest newest same = refl
one_place past first second p q ordered newest (older {past = rest} come) same = absurd (come_once past rest p q ordered newest (comes_has rest second q come) (sym same))
one_place past first second p q ordered (older {past = rest} come) newest same = absurd (come_once past rest q p ordered newest (comes_has rest first p come) same)
one_place past first second p q ordered (older {past = rest} come) (older other) same = one_place rest first second p q ordered.1 come other same

-- ---- points one after another

module _ (ps : List Given) (k : ℕ) (p : Given) (at : slice_get ps k ≡ Some p) where
  pub start_at : (f : At × Rule) → IsOrdered (past_of ps) → fault (past_of ps) ≡ Some f → at_of (point_of p) ≡ f.0 → past_of (take k ps) ≡ sound_start (past_of ps)
  start_at f ordered some same =
      let a = at_fault (past_of ps) f some in
      one_place (past_of ps) (past_of (take k ps)) a.before (point_of p) a.point ordered (comes_at [] ps k p at) a.comes (same ∙ sym a.same) ∙ sym a.start

  pub among : (reported : At) → at_of (point_of p) ≡ reported → IsAmong (past_of ps) reported
  among reported same = record { point = point_of p; there = comes_has (past_of ps) (past_of (take k ps)) (point_of p) (comes_at [] ps k p at); same = same }

-- the place of a point that is reported as the first fault
start_here : (ps : List Given) (k : ℕ) (f : At × Rule) (o : Option Given) → slice_get ps k ≡ o → IsOrdered (past_of ps) → fault (past_of ps) ≡ Some f → IsSomeAnd o (λ p. at_of (point_of p) ≡ f.0) → past_of (take k ps) ≡ sound_start (past_of ps)
start_here ps k f None e ordered some there = absurd there
start_here ps k f (Some p) e ordered some there = start_at ps k p e f ordered some there

pub start_found : (ps : List Given) (f : At × Rule) (n : Option ℕ) → IsOrdered (past_of ps) → fault (past_of ps) ≡ Some f → IfSome n (λ k. IsSomeAnd (slice_get ps k) (λ p. at_of (point_of p) ≡ f.0)) → IfSome n (λ k. past_of (take k ps) ≡ sound_start (past_of ps))
start_found ps f None ordered some there = tt
start_found ps f (Some k) ordered some there = start_here ps k f (slice_get ps k) refl ordered some there

among_here : (ps : List Given) (k : ℕ) (reported : At) (o : Option Given) → slice_get ps k ≡ o → IsSomeAnd o (λ p. at_of (point_of p) ≡ reported) → IsAmong (past_of ps) reported
among_here ps k reported None e there = absurd there
among_here ps k reported (Some p) e there = among ps k p e reported there

pub among_found : (ps : List Given) (k : ℕ) (reported : At) → IsSomeAnd (slice_get ps k) (λ p. at_of (point_of p) ≡ reported) → IsAmong (past_of ps) reported
among_found ps k reported there = among_here ps k reported (slice_get ps k) refl there

-- how many points a past of points has
length_after : (ps : List Given) (past : Past) → length (fold add past ps) ≡ length ps + length past
length_after [] past = omega arith
length_after (p ∷ ps) past = length_after ps (add past p) ∙ (let same : length ps + length (add past p) ≡ length (p ∷ ps) + length past = omega arith in same)

pub length_past : (ps : List Given) → length (past_of ps) ≡ length ps
length_past ps = length_after ps [] ∙ (let same : length ps + 0 ≡ length ps = omega arith in same)

-- ---- the points of a trace

module _ (t : List Entry) (ps : List Given) (laid : past_of ps ≡ order t) where
  pub ordered_points : IsOrdered (past_of ps)
  ordered_points = subst IsOrdered (sym laid) (order_ordered t)

  pub fault_of_points : (f : Option (At × Rule)) → f ≡ first_fault t → f ≡ fault (past_of ps)
  unfolding first_fault
  fault_of_points f answered = answered ∙ ap fault (sym laid)

  pub length_start : (start : List Given) → past_of start ≡ sound_start (past_of ps) → length start ≡ length (sound_start (order t))
  length_start start is = sym (length_past start) ∙ ap length (is ∙ ap sound_start laid)

-- what is so of a value is so where it implies another
pub if_some : {A : Type 0} (P Q : A → Type 0) (o : Option A) → ((x : A) → P x → Q x) → IfSome o P → IfSome o Q
if_some P Q None step is = tt
if_some P Q (Some x) step is = step x is

pub among_if : (ps : List Given) (reported : At) (n : Option ℕ) (k : ℕ) → n ≡ Some k → IfSome n (λ j. IsSomeAnd (slice_get ps j) (λ p. at_of (point_of p) ≡ reported)) → IsAmong (past_of ps) reported
among_if ps reported None k is there = absurd cc
among_if ps reported (Some j) k is there = among_found ps j reported there
