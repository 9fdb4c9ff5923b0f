-- Conflicts of ranges in a block that is sound.
use Rattle.std.proofs.Common.{◌≡◌, ℕ, zero, suc, ◌+◌, ◌-◌, ◌/◌, ◌<◌, ◌≤◌, ◌⊎◌, inl, inr, Bool, true, false, ◌&&◌, not, List, [], ◌∷◌, ◌++◌, Option, Some, refl, ap, sym, ◌∙◌, arith}
use Rattle.std.specs.Prelude.{nat_lt, nat_le}
use Rattle.std.specs.List.{list_any}
use Rattle.std.proofs.lemmas.List.Folds.{list_any-append}
use Rattle.std.proofs.lemmas.Bool.{and_parts, or_parts, not-true, lt-ltb, le-ltb, le-leb, lt-leb, cases_lt}
use Rattle.std.proofs.lemmas.Bool.Decides.{leb_tells}
use Rattle.vk_nodes.specs.declared.node.Node.{Node}
use Rattle.vk_nodes.specs.declared.node.RangeState.{RangeState}
use Rattle.vk_nodes.specs.declared.node.RangeState.TheVariants as state
use Rattle.vk_model.specs.declared.resource.Kind.{Kind}
use Rattle.vk_model.specs.declared.resource.Kind.TheVariants as kind
use Rattle.vk_model.specs.Memory.Suballocation.{Taken, conflict, ranges_meet, share_page, same_kind}
use Rattle.vk_model.proofs.Memory.Taken.{conflict_turned}
use Rattle.vma_tlsf.specs.Block.{is_sound}
use Rattle.vma_tlsf.specs.Inner.Chain.{Range, range_in, seen, taken_here, taken_by, taken_in}
use Rattle.vma_tlsf.specs.Inner.Wants.{state_of}
use Rattle.vma_tlsf.specs.Inner.Fits.{is_other}
use Rattle.std.proofs.Math.Bool.{or-false}

-- ---- truths

and4_third : (a b c d : Bool) → c ≡ false → (a && b && c && d) ≡ false
and4_third true true c d e = rw e refl
and4_third true false c d e = refl
and4_third false b c d e = refl

and4_last : (a b c d : Bool) → d ≡ false → (a && b && c && d) ≡ false
and4_last true true true d e = e
and4_last true true false d e = refl
and4_last true false c d e = refl
and4_last false b c d e = refl

-- ---- two ranges

pub kinds : (k l : Kind) → (same_kind k l ≡ true) ⊎ (same_kind k l ≡ false)
kinds kind.Linear kind.Linear = inl refl
kinds kind.Linear kind.Optimal = inr refl
kinds kind.Optimal kind.Linear = inr refl
kinds kind.Optimal kind.Optimal = inl refl

pub third_kind : (k l m : Kind) → same_kind k l ≡ true → same_kind k m ≡ false → same_kind l m ≡ false
third_kind kind.Linear kind.Linear m one two = two
third_kind kind.Linear kind.Optimal m one two = absurd cc
third_kind kind.Optimal kind.Linear m one two = absurd cc
third_kind kind.Optimal kind.Optimal m one two = two

pub other_kind : (k l : Kind) → is_other (state_of l) k ≡ not (same_kind k l)
other_kind kind.Linear kind.Linear = refl
other_kind kind.Linear kind.Optimal = refl
other_kind kind.Optimal kind.Linear = refl
other_kind kind.Optimal kind.Optimal = refl

pub meet_none : (a n b m : ℕ) → (a + n ≤ b) ⊎ (b + m ≤ a) → ranges_meet a n b m ≡ false
meet_none a n b m apart = elim apart [
  | inl le ↦ and4_last (nat_lt 0 n) (nat_lt 0 m) (nat_lt a (b + m)) (nat_lt b (a + n)) (le-ltb b (a + n) le)
  | inr le ↦ and4_third (nat_lt 0 n) (nat_lt 0 m) (nat_lt a (b + m)) (nat_lt b (a + n)) (le-ltb a (b + m) le)
]

pub pages_none : (a n b m : ℕ) → ((a + n - 1) / 1024 < b / 1024) ⊎ ((b + m - 1) / 1024 < a / 1024) → share_page a n b m ≡ false
pages_none a n b m apart = elim apart [
  | inl less ↦ and4_last (nat_lt 0 n) (nat_lt 0 m) (nat_le (a / 1024) ((b + m - 1) / 1024)) (nat_le (b / 1024) ((a + n - 1) / 1024)) (lt-leb (b / 1024) ((a + n - 1) / 1024) less)
  | inr less ↦ and4_third (nat_lt 0 n) (nat_lt 0 m) (nat_le (a / 1024) ((b + m - 1) / 1024)) (nat_le (b / 1024) ((a + n - 1) / 1024)) (lt-leb (a / 1024) ((b + m - 1) / 1024) less)
]

pub no_conflict : (k : Kind) (a n : ℕ) (l : Kind) (b m : ℕ) → ranges_meet a n b m ≡ false → (same_kind k l ≡ true) ⊎ (share_page a n b m ≡ false) → conflict k a n l b m ≡ false
no_conflict k a n l b m apart pages = elim pages [
  | inl same ↦ rw (apart, same) refl
  | inr none ↦ rw (apart, none) (last (same_kind k l))
]
  where
    last : (c : Bool) → (not c && false) ≡ false
    last true = refl
    last false = refl

-- what doesn't conflict has no byte in common, and no page where the kinds differ
pub meet_of : (k : Kind) (a n : ℕ) (l : Kind) (b m : ℕ) → conflict k a n l b m ≡ false → 0 < n → 0 < m → a < b + m → b < a + n → ⊥
meet_of k a n l b m none some_n some_m one two =
    let h = (or_parts (ranges_meet a n b m) (not (same_kind k l) && share_page a n b m) none).0 in
    let yes : ranges_meet a n b m ≡ true = rw (lt-ltb 0 n some_n, lt-ltb 0 m some_m, lt-ltb a (b + m) one, lt-ltb b (a + n) two) refl in
    let no_yes : true ≡ false = sym yes ∙ h in
    cc

pub pages_of : (k : Kind) (a n : ℕ) (l : Kind) (b m : ℕ) → conflict k a n l b m ≡ false → same_kind k l ≡ false → 0 < n → 0 < m → b / 1024 ≤ (a + n - 1) / 1024 → (b + m - 1) / 1024 < a / 1024
pages_of k a n l b m none differ some_n some_m le = elim (leb_tells (a / 1024) ((b + m - 1) / 1024)) [
  | inl one ↦
      let h = (or_parts (ranges_meet a n b m) (not (same_kind k l) && share_page a n b m) none).1 in
      let share : share_page a n b m ≡ true = rw (lt-ltb 0 n some_n, lt-ltb 0 m some_m, one.0, le-leb (b / 1024) ((a + n - 1) / 1024) le) refl in
      let yes : (not (same_kind k l) && share_page a n b m) ≡ true = rw (differ, share) refl in
      absurd (let no_yes : true ≡ false = sym yes ∙ h in cc)
  | inr one ↦ one.1
]

-- ---- what is taken by the slots

pub any_none : (p : Taken → Bool) (nodes : List (Option Node)) → ((j : ℕ) → list_any p (taken_here (seen nodes j)) ≡ false) → list_any p (taken_in nodes) ≡ false
any_none p [] each = refl
any_none p (x ∷ xs) each = rw (list_any-append p (taken_here (range_in x)) (taken_in xs), each 0) (any_none p xs (λ j. each (suc j)))

pub any_each : (p : Taken → Bool) (nodes : List (Option Node)) → list_any p (taken_in nodes) ≡ false → (j : ℕ) → list_any p (taken_here (seen nodes j)) ≡ false
any_each p [] none j = refl
any_each p (x ∷ xs) none zero = (or_parts (list_any p (taken_here (range_in x))) (list_any p (taken_in xs)) (sym (list_any-append p (taken_here (range_in x)) (taken_in xs)) ∙ none)).0
any_each p (x ∷ xs) none (suc j) = any_each p xs (or_parts (list_any p (taken_here (range_in x))) (list_any p (taken_in xs)) (sym (list_any-append p (taken_here (range_in x)) (taken_in xs)) ∙ none)).1 j

-- what a range of a kind takes
pub takes : (q : Range) (l : Kind) → q.state ≡ state_of l → taken_here (Some q) ≡ record { start = q.start; size = q.size; kind = l } ∷ []
takes q l e = ap (taken_by q.start q.size) e ∙ by l
  where
    by : (l : Kind) → taken_by q.start q.size (state_of l) ≡ record { start = q.start; size = q.size; kind = l } ∷ []
    by kind.Linear = refl
    by kind.Optimal = refl

pub state_cases : (s : RangeState) → (s ≡ state.Free) ⊎ ((l : Kind) × (s ≡ state_of l))
state_cases state.Free = inl refl
state_cases state.Linear = inr (kind.Linear, refl)
state_cases state.Optimal = inr (kind.Optimal, refl)

pub one_any : (p : Taken → Bool) (q : Range) (l : Kind) → q.state ≡ state_of l → list_any p (taken_here (Some q)) ≡ p (record { start = q.start; size = q.size; kind = l })
one_any p q l e = ap (list_any p) (takes q l e) ∙ or-false (p (record { start = q.start; size = q.size; kind = l }))

-- of two slots, the ranges that are taken don't conflict
sound_rest : (whole : ℕ) (c ts : List Taken) → is_sound whole (c ++ ts) ≡ true → is_sound whole ts ≡ true
sound_rest whole [] ts h = h
sound_rest whole (t ∷ c) ts h = sound_rest whole c ts (and_parts _ (is_sound whole (c ++ ts)) h).1

pub slots_apart : (whole : ℕ) (nodes : List (Option Node)) → is_sound whole (taken_in nodes) ≡ true → (i j : ℕ) (q w : Range) (l m : Kind)
    → i < j → seen nodes i ≡ Some q → seen nodes j ≡ Some w → q.state ≡ state_of l → w.state ≡ state_of m → conflict l q.start q.size m w.start w.size ≡ false
slots_apart whole [] sound i j q w l m less at_i at_j is_l is_m = absurd cc
slots_apart whole (x ∷ xs) sound zero zero q w l m less at_i at_j is_l is_m = absurd (omega arith)
slots_apart whole (x ∷ xs) sound (suc i) zero q w l m less at_i at_j is_l is_m = absurd (omega arith)
slots_apart whole (x ∷ xs) sound zero (suc j) q w l m less at_i at_j is_l is_m =
    let c : taken_here (range_in x) ≡ record { start = q.start; size = q.size; kind = l } ∷ [] = ap taken_here at_i ∙ takes q l is_l in
    let hit = λ (u : Taken). conflict l q.start q.size u.kind u.start u.size in
    let h : is_sound whole (record { start = q.start; size = q.size; kind = l } ∷ taken_in xs) ≡ true = sym (ap (λ ts. is_sound whole (ts ++ taken_in xs)) c) ∙ sound in
    let two = and_parts (nat_le (q.start + q.size) whole && not (list_any hit (taken_in xs))) (is_sound whole (taken_in xs)) h in
    let one = and_parts (nat_le (q.start + q.size) whole) (not (list_any hit (taken_in xs))) two.0 in
    let none = any_each hit xs (not-true (list_any hit (taken_in xs)) one.1) j in
    sym (ap (λ v. list_any hit (taken_here v)) at_j ∙ one_any hit w m is_m) ∙ none
slots_apart whole (x ∷ xs) sound (suc i) (suc j) q w l m less at_i at_j is_l is_m =
    slots_apart whole xs (sound_rest whole (taken_here (range_in x)) (taken_in xs) sound) i j q w l m (omega arith) at_i at_j is_l is_m

pub both_apart : (whole : ℕ) (nodes : List (Option Node)) → is_sound whole (taken_in nodes) ≡ true → (i j : ℕ) (q w : Range) (l m : Kind)
    → (i ≡ j → ⊥) → seen nodes i ≡ Some q → seen nodes j ≡ Some w → q.state ≡ state_of l → w.state ≡ state_of m → conflict l q.start q.size m w.start w.size ≡ false
both_apart whole nodes sound i j q w l m other at_i at_j is_l is_m = elim (cases_lt i j) [
  | inl less ↦ slots_apart whole nodes sound i j q w l m less at_i at_j is_l is_m
  | inr more ↦ conflict_turned l q.start q.size m w.start w.size ∙ slots_apart whole nodes sound j i w q m l (omega (arith, other)) at_j at_i is_m is_l
]
