-- Lines that are listed, before a node of them comes.
use Rattle.std.proofs.Common.{◌≡◌, ◌⊎◌, inl, inr, ⊎_elim, ℕ, ◌+◌, ◌<◌, ◌≤◌, List, [], ◌∷◌, ◌++◌, length, length-append, Bool, true, false, cond, IsTrue, Option, Some, None, refl, ap, sym, ◌∙◌, subst, arith}
use Rattle.std.specs.Prelude.{◌==◌, nat_lt, Contains, slice_get, slice_index_or, is_some, position}
use Rattle.std.specs.Option.{option_map_or}
use Rattle.std.specs.List.{position_or_len}
use Rattle.std.proofs.lemmas.Bool.{lt-ltb, ltb-true, ltb-false, le-ltb, eqb-true, eq-eqb}
use Rattle.std.proofs.lemmas.List.{get_or_past}
use Rattle.std.proofs.lemmas.List.Folds.{position_or_len_push}
use Rattle.vk_model.specs.Sync.Node.{Node}
use Rattle.vk_model.proofs.Lists.Truths.{no}
use Rattle.vk_order.specs.declared.lines.Line.{Line}
use Rattle.vk_order.specs.Lines.{same_line, on_line, place}
use Rattle.vk_order.specs.Inner.Kept.{IsLonger, clock_at}
use Rattle.vk_order.specs.Inner.Places.{index_in}
use Rattle.vk_order.proofs.ClockLemmas.{line_itself}
use Rattle.vk_order.proofs.KeptLemmas.{none_of}
use Rattle.vk_model.proofs.Lists.Members.{contains-head, contains-tail}

-- ---- where a line is when one more is listed

-- the place of the first that passes, or the length, and one more
pushed_place : (p n q : ℕ) (b : Bool) → q ≡ cond (p == n) (n + cond b 0 1) p
    → (cond (nat_lt q (n + 1)) (Some q) None ≡ cond (nat_lt p n) (Some p) None) ⊎ ((cond (nat_lt p n) (Some p) None ≡ None) × (cond (nat_lt q (n + 1)) (Some q) None ≡ Some n) × (b ≡ true))
pushed_place p n q b is = go (nat_lt p n) (p == n) b refl refl refl
  where
    go : (s t u : Bool) → nat_lt p n ≡ s → (p == n) ≡ t → b ≡ u
        → (cond (nat_lt q (n + 1)) (Some q) None ≡ cond (nat_lt p n) (Some p) None) ⊎ ((cond (nat_lt p n) (Some p) None ≡ None) × (cond (nat_lt q (n + 1)) (Some q) None ≡ Some n) × (b ≡ true))
    go true true u e f g = absurd (let lt = ltb-true p n e in let same : p ≡ n = eqb-true p n f in omega arith)
    go true false u e f g =
        let lt = ltb-true p n e in
        let same : q ≡ p = is ∙ rw f refl in
        inl (rw (same, lt-ltb p (n + 1) (omega arith), e) refl)
    go false true true e f g =
        let same : q ≡ n = is ∙ rw (f, g) (omega arith) in
        inr (rw e refl, rw (same, lt-ltb n (n + 1) (omega arith)) refl, g)
    go false true false e f g =
        let same : q ≡ n + 1 = is ∙ rw (f, g) refl in
        inl (rw (same, le-ltb (n + 1) (n + 1) (omega arith), e) refl)
    go false false u e f g =
        let ge = ltb-false p n e in
        let other : p ≡ n → ⊥ = (λ h. no (sym f ∙ eq-eqb p n h)) in
        let same : q ≡ p = is ∙ rw f refl in
        inl (rw (same, le-ltb p (n + 1) (more p n ge other), e) refl)
      where
        more : (p n : ℕ) → n ≤ p → (p ≡ n → ⊥) → n + 1 ≤ p
        more p n le ne = omega arith

pub index_push : (ls : List Line) (m l : Line) → (index_in (ls ++ m ∷ []) l ≡ index_in ls l) ⊎ ((index_in ls l ≡ None) × (index_in (ls ++ m ∷ []) l ≡ Some (length ls)) × (same_line m l ≡ true))
index_push ls m l =
    let p = position_or_len (λ x. same_line x l) ls in
    let q = position_or_len (λ x. same_line x l) (ls ++ m ∷ []) in
    let long : length (ls ++ m ∷ []) ≡ length ls + 1 = length-append ls (m ∷ []) in
    rw long (pushed_place p (length ls) q (same_line m l) (position_or_len_push (λ x. same_line x l) ls m))

-- a line that is there is found
place_low : (ls : List Line) (m : Line) → position_or_len (λ x. same_line x m) (ls ++ m ∷ []) < length (ls ++ m ∷ [])
place_low [] m = rw (line_itself m) (omega arith)
place_low (x ∷ ls) m = go (same_line x m) (place_low ls m)
  where
    go : (b : Bool) → position_or_len (λ x. same_line x m) (ls ++ m ∷ []) < length (ls ++ m ∷ []) → cond (Rattle.std.specs.Prelude.not b) (1 + position_or_len (λ x. same_line x m) (ls ++ m ∷ [])) 0 < length (x ∷ (ls ++ m ∷ []))
    go true h = omega arith
    go false h = omega arith

in_last : (ls : List Line) (m : Line) → is_some (index_in (ls ++ m ∷ []) m) ≡ true
in_last ls m = within (position_or_len (λ x. same_line x m) (ls ++ m ∷ [])) (length (ls ++ m ∷ [])) (place_low ls m)
  where
    within : (p n : ℕ) → p < n → is_some (cond (nat_lt p n) (Some p) None) ≡ true
    within p n lt = rw (lt-ltb p n lt) refl

past : (clock : List ℕ) (i : ℕ) → length clock ≤ i → slice_index_or clock i 0 ≡ 0
past clock i le = get_or_past clock i 0 le

-- a clock that is short enough counts as before
pub clock_push : (ls : List Line) (m : Line) (clock : List ℕ) → length clock ≤ length ls → (l : Line) → clock_at ls clock l ≡ clock_at (ls ++ m ∷ []) clock l
clock_push ls m clock short l = ⊎_elim
    (λ e. sym (ap (λ (o : Option ℕ). option_map_or (λ i. slice_index_or clock i 0) o 0) e))
    (λ r. rw (r.0, r.1) (sym (past clock (length ls) short)))
    (index_push ls m l)

pub still_listed : (ls : List Line) (m l : Line) → IsTrue (is_some (index_in ls l)) → IsTrue (is_some (index_in (ls ++ m ∷ []) l))
still_listed ls m l h = ⊎_elim (λ e. ap is_some e ∙ h) (λ r. ap is_some r.1) (index_push ls m l)

pub index_same : (ls : List Line) (m l : Line) (i : ℕ) → index_in ls l ≡ Some i → index_in (ls ++ m ∷ []) l ≡ Some i
index_same ls m l i h = ⊎_elim (λ e. e ∙ h) (λ r. absurd (let bad : None ≡ Some i = sym r.0 ∙ h in cc)) (index_push ls m l)

pub now_listed : (ls : List Line) (m : Line) → index_in ls m ≡ None → index_in (ls ++ m ∷ []) m ≡ Some (length ls)
now_listed ls m none = ⊎_elim (λ e. absurd (no (sym (ap is_some (e ∙ none)) ∙ in_last ls m))) (λ r. r.1) (index_push ls m m)

-- ---- no node is of a line that isn't listed

pub place-none : (ns : List Node) (l : Line) (k : ℕ) → ((n : Node) → Contains ns n → on_line l n ≡ false) → place ns l k ≡ 0
place-none [] l k off = refl
place-none (n ∷ ns) l k off = rw (off n (contains-head n ns), Rattle.std.proofs.Math.Bool.and-false (nat_lt n.number k)) (place-none ns l k (λ m c. off m (contains-tail n ns m c)))

-- ---- lines, and more of them

pub longer_push : (ls : List Line) (m : Line) → IsLonger ls (ls ++ m ∷ [])
longer_push ls m = record { same = clock_push ls m; listed = still_listed ls m; long = let e = length-append ls (m ∷ []) in omega arith }

pub longer_same : (ls more : List Line) → more ≡ ls → IsLonger ls more
longer_same ls more e = subst (λ (x : List Line). IsLonger ls x) (sym e) (record { same = λ clock short l. refl; listed = λ l h. h; long = omega arith })

pub longer_both : (a b c : List Line) → IsLonger a b → IsLonger b c → IsLonger a c
longer_both a b c i j = record {
  same = λ clock short l. i.same clock short l ∙ j.same clock (let le = i.long in omega arith) l;
  listed = λ l h. j.listed l (i.listed l h);
  long = let x = i.long in let y = j.long in omega arith;
}

pub longer_none : (more : List Line) → IsLonger [] more
longer_none more = record {
  same = λ clock short l. empty clock l short;
  listed = λ l h. absurd cc;
  long = omega arith;
}
  where
    empty : (clock : List ℕ) (l : Line) → length clock ≤ 0 → clock_at [] clock l ≡ clock_at more clock l
    empty [] l le = sym (none_of more l)
    empty (i ∷ clock) l le = absurd (let bad : length (i ∷ clock) ≤ 0 = le in omega arith)
