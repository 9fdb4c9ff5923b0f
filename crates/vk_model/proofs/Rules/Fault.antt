-- The first fault, by recursion on the past and on the table of rules.
use Rattle.std.proofs.Common.{◌≡◌, ℕ, zero, suc, ◌<◌, List, [], ◌∷◌, Bool, true, false, refl, ap, sym, ◌∙◌, arith, Option, Some, None, IsTrue, ◌⊎◌, inl, inr}
use Rattle.std.specs.Prelude.{option_map, slice_get}
use Rattle.vk_model.specs.declared.rule.At.{At}
use Rattle.vk_model.specs.declared.rule.Rule.{Rule}
use Rattle.vk_model.specs.Basics.{first_that}
use Rattle.vk_model.specs.Trace.Point.{Past, Point, at_of}
use Rattle.vk_model.specs.Rules.Table.{breaks, rules, first_rule, fault}
use Rattle.vk_model.specs.Rules.Fault.{Comes, newest, older, IsUnbroken}
use Rattle.vk_model.specs.Laws.{IsFirst}
use Rattle.vk_model.proofs.Rules.Table.{place_of, once}
use Rattle.std.proofs.lemmas.Bool.{false_from_ne_true}

-- ---- the first item that passes a test

-- nothing passed: neither the first item does, nor any of the rest
none-head : {A : Type 0} (test : A → Bool) (y : A) (ys : List A) → first_that test (y ∷ ys) ≡ None → (test y ≡ false) × (first_that test ys ≡ None)
none-head {A} test y ys =
    elim (test y) as (λ b. (let f : Option A = elim b [ true ↦ Some y | false ↦ first_that test ys ] in f ≡ None) → (b ≡ false) × (first_that test ys ≡ None)) [
      | true ↦ λ none. let bad : Some y ≡ None = none in absurd cc
      | false ↦ λ none. (refl, none)
    ]

-- something passed: the first item, or it fails and something of the rest passed
some-head : {A : Type 0} (test : A → Bool) (x y : A) (ys : List A) → first_that test (y ∷ ys) ≡ Some x → ((test y ≡ true) × (y ≡ x)) ⊎ ((test y ≡ false) × (first_that test ys ≡ Some x))
some-head {A} test x y ys =
    elim (test y) as (λ b. (let f : Option A = elim b [ true ↦ Some y | false ↦ first_that test ys ] in f ≡ Some x) → ((b ≡ true) × (y ≡ x)) ⊎ ((b ≡ false) × (first_that test ys ≡ Some x))) [
      | true ↦ λ some. inl (refl, let same : Some y ≡ Some x = some in cc)
      | false ↦ λ some. inr (refl, some)
    ]

pub none_passes : {A : Type 0} (test : A → Bool) (x : A) (xs : List A) (i : ℕ) → first_that test xs ≡ None → slice_get xs i ≡ Some x → test x ≡ false
none_passes test x [] i none at = absurd cc
none_passes test x (y ∷ ys) zero none at = let same : y ≡ x = cc in ap test (sym same) ∙ (none-head test y ys none).0
none_passes test x (y ∷ ys) (suc i) none at = none_passes test x ys i (none-head test y ys none).1 at

pub first_passes : {A : Type 0} (test : A → Bool) (x : A) (xs : List A) → first_that test xs ≡ Some x → test x ≡ true
first_passes test x [] some = absurd cc
first_passes test x (y ∷ ys) some = elim (some-head test x y ys some) [
  | inl here ↦ ap test (sym here.1) ∙ here.0
  | inr later ↦ first_passes test x ys later.1
]

pub all_fail : {A : Type 0} (test : A → Bool) (xs : List A) → ((x : A) → test x ≡ false) → first_that test xs ≡ None
all_fail test [] fails = refl
all_fail test (y ∷ ys) fails = rw (fails y, first_that) (all_fail test ys fails)

-- ---- the fault of a past

pub fault-cons_none : (past : Past) (p : Point) → fault (p ∷ past) ≡ None → (fault past ≡ None) × (first_rule past p ≡ None)
unfolding fault
fault-cons_none past p =
    elim (fault past) as (λ f. (let g : Option (At × Rule) = elim f [ Some h ↦ Some h | None ↦ option_map (λ r. (let h : At × Rule = (at_of p, r) in h)) (first_rule past p) ] in g ≡ None) → (f ≡ None) × (first_rule past p ≡ None)) [
      | Some h ↦ λ none. let bad : Some h ≡ None = none in absurd cc
      | None ↦ newest_none (first_rule past p)
    ]
  where
    newest_none : (rule : Option Rule) → option_map (λ r. (let h : At × Rule = (at_of p, r) in h)) rule ≡ None → (let f : Option (At × Rule) = None in f ≡ None) × (rule ≡ None)
    newest_none None none = (refl, refl)
    newest_none (Some r) none = absurd cc

-- the fault of a past with one point more is the older one, or that of the point
pub fault-cons_some : (past : Past) (p : Point) (reported : At) (r : Rule) → fault (p ∷ past) ≡ Some (reported, r) → (fault past ≡ Some (reported, r)) ⊎ ((fault past ≡ None) × (first_rule past p ≡ Some r) × (at_of p ≡ reported))
unfolding fault
fault-cons_some past p reported r =
    elim (fault past) as (λ f. (let g : Option (At × Rule) = elim f [ Some h ↦ Some h | None ↦ option_map (λ s. (let h : At × Rule = (at_of p, s) in h)) (first_rule past p) ] in g ≡ Some (reported, r)) → (f ≡ Some (reported, r)) ⊎ ((f ≡ None) × (first_rule past p ≡ Some r) × (at_of p ≡ reported))) [
      | Some h ↦ λ some. inl some
      | None ↦ λ some. inr (newest_some (first_rule past p) some)
    ]
  where
    newest_some : (rule : Option Rule) → option_map (λ s. (let h : At × Rule = (at_of p, s) in h)) rule ≡ Some (reported, r) → (let f : Option (At × Rule) = None in f ≡ None) × (rule ≡ Some r) × (at_of p ≡ reported)
    newest_some None some = absurd cc
    newest_some (Some s) some =
        let both : (let h : At × Rule = (at_of p, s) in h) ≡ (reported, r) = cc in
        (refl, ap (λ (x : At × Rule). Some x.1) both, ap (λ (x : At × Rule). x.0) both)

pub no_fault-cons : (past : Past) (p : Point) → fault past ≡ None → first_rule past p ≡ None → fault (p ∷ past) ≡ None
unfolding fault
no_fault-cons past p none none_here = rw (none, none_here) refl

pub no_fault-at : (all before : Past) (p : Point) → fault all ≡ None → Comes all before p → first_rule before p ≡ None
no_fault-at all before p none newest = (fault-cons_none before p none).1
no_fault-at all before p none (older {past = past} {q = q} c) = no_fault-at past before p (fault-cons_none past q none).0 c

-- before the first point there is none
start : fault [] ≡ None
unfolding fault
start = refl

none_at_start : (reported : At) (r : Rule) → fault [] ≡ Some (reported, r) → ⊥
unfolding fault
none_at_start reported r some = cc

-- a point that breaks no rule of the table breaks no rule
pub breaks_none : (before : Past) (p : Point) (r : Rule) → first_rule before p ≡ None → breaks r before p ≡ false
unfolding first_rule
breaks_none before p r none = let place = place_of r in none_passes (λ s. breaks s before p) r rules place.0 none place.1

-- and the first rule of a point is broken there
pub first_is_broken : (before : Past) (p : Point) (r : Rule) → first_rule before p ≡ Some r → IsTrue (breaks r before p)
unfolding first_rule
first_is_broken before p r some = first_passes (λ s. breaks s before p) r rules some

pub breaks_all_none : (before : Past) (p : Point) → ((r : Rule) → breaks r before p ≡ false) → first_rule before p ≡ None
unfolding first_rule
breaks_all_none before p fails = all_fail (λ s. breaks s before p) rules fails

-- no item before the first that passes does
pub earlier_fails : {A : Type 0} (test : A → Bool) (x y : A) (xs : List A) (i j : ℕ) → first_that test xs ≡ Some x → test x ≡ true → slice_get xs i ≡ Some y → slice_get xs j ≡ Some x → i < j
    → ((k l : ℕ) → slice_get xs k ≡ Some x → slice_get xs l ≡ Some x → k ≡ l) → test y ≡ false
earlier_fails test x y [] i j some passes at_i at_j lt once = absurd cc
earlier_fails {A} test x y (z ∷ zs) i j some passes at_i at_j lt once = go i j (some-head test x z zs some) at_i at_j lt once (λ more k l a b c d. earlier_fails test x y zs k l more passes a b c d)
  where
    go : (i j : ℕ) → ((test z ≡ true) × (z ≡ x)) ⊎ ((test z ≡ false) × (first_that test zs ≡ Some x)) → slice_get (z ∷ zs) i ≡ Some y → slice_get (z ∷ zs) j ≡ Some x → i < j
        → ((k l : ℕ) → slice_get (z ∷ zs) k ≡ Some x → slice_get (z ∷ zs) l ≡ Some x → k ≡ l)
        → (first_that test zs ≡ Some x → (k l : ℕ) → slice_get zs k ≡ Some y → slice_get zs l ≡ Some x → k < l → ((m n : ℕ) → slice_get zs m ≡ Some x → slice_get zs n ≡ Some x → m ≡ n) → test y ≡ false) → test y ≡ false
    go i zero here at_i at_j lt once next = absurd (omega arith)
    go i (suc j) (inl here) at_i at_j lt once next = let same : 0 ≡ suc j = once 0 (suc j) (ap (λ (w : A). Some w) here.1) at_j in absurd (omega arith)
    go zero (suc j) (inr later) at_i at_j lt once next = let same : z ≡ y = cc in ap test (sym same) ∙ later.0
    go (suc i) (suc j) (inr later) at_i at_j lt once next = next later.1 i j at_i at_j (omega arith) (λ m n a b. let same : suc m ≡ suc n = once (suc m) (suc n) a b in omega arith)

-- ---- the laws

pub unbroken_of_none : (all : Past) → fault all ≡ None → IsUnbroken all
unbroken_of_none all none before p r broken =
    let unbroken : breaks r before p ≡ false = breaks_none before p r (no_fault-at all before p none broken.0) in
    absurd (let both : breaks r before p ≡ true = broken.1 in cc)

pub none_of_unbroken : (all : Past) → IsUnbroken all → fault all ≡ None
none_of_unbroken [] sound = start
none_of_unbroken (q ∷ past) sound =
    no_fault-cons past q
    (none_of_unbroken past (λ before p r broken. sound before p r (older broken.0, broken.1)))
    (breaks_all_none past q (λ r. false_from_ne_true (breaks r past q) (λ broken. sound past q r (newest, broken))))

-- the point of the first fault, in the past that has it
pub record IsFault (all : Past) (reported : At) (r : Rule) : Type 0 where
  pub before : Past
  pub point : Point
  pub comes : Comes all before point
  pub is_reported : at_of point ≡ reported
  pub first : first_rule before point ≡ Some r
  pub clean : fault before ≡ None

pub fault_at : (all : Past) (reported : At) (r : Rule) → fault all ≡ Some (reported, r) → IsFault all reported r
fault_at [] reported r some = absurd (none_at_start reported r some)
fault_at (q ∷ past) reported r some = elim (fault-cons_some past q reported r some) [
  | inl earlier ↦ let f = fault_at past reported r earlier in record { before = f.before; point = f.point; comes = older f.comes; is_reported = f.is_reported; first = f.first; clean = f.clean }
  | inr here ↦ record { before = past; point = q; comes = newest; is_reported = here.2; first = here.1; clean = here.0 }
]

pub first_of_fault : (all : Past) (reported : At) (r : Rule) → fault all ≡ Some (reported, r) → IsFirst all reported r
unfolding first_rule
first_of_fault all reported r some =
    let f = fault_at all reported r some in record {
      before = f.before;
      point = f.point;
      comes = f.comes;
      is_reported = f.is_reported;
      broken = first_is_broken f.before f.point r f.first;
      earlier_points = λ past p s comes broken.
          let unbroken : breaks s past p ≡ false = breaks_none past p s (no_fault-at f.before past p f.clean comes) in
          absurd (let both : breaks s past p ≡ true = broken in cc);
      earlier_rules = λ i j s at_i at_j lt. earlier_fails (λ s. breaks s f.before f.point) r s rules i j f.first (first_is_broken f.before f.point r f.first) at_i at_j lt (once r);
    }
