-- The two bindings next to an offset answer for all, and a binding that conflicts with none keeps all apart.
use Rattle.std.proofs.Common.{◌≡◌, ℕ, ◌+◌, ◌<◌, ◌≤◌, inl, inr, List, ◌∷◌, [], ◌++◌, Bool, true, false, Option, Some, None, refl, ap, sym, ◌∙◌, ◌^◌, subst, arith, rules}
use Rattle.std.specs.Prelude.{Contains, IsSome, IfSome}
use Rattle.std.specs.Cmp.{nat_cmp_total}
use Rattle.std.specs.FinMap.{nat_cmp-IsAntisymmetric}
use Rattle.std.specs.List.{list_any}
use Rattle.std.specs.Ordering.{nat_cmp, is_lt}
use Rattle.std.specs.BTreeMap.{BTreeMap, IsOrdered, get, is_at}
use Rattle.std.specs.BTreeMap.Range.{IsRangeOf}
use Rattle.std.specs.declared.ops.Bound.TheVariants.{Included, Unbounded}
use Rattle.std.proofs.lemmas.Bool.{cases_lt, cases_eq, cases_order}
use Rattle.std.proofs.lemmas.Map.Views.{btree_map_get_iff}
use Rattle.vk_model.specs.declared.resource.Kind.{Kind}
use Rattle.vk_model.specs.Memory.Suballocation.{conflict}
use Rattle.vk_model.proofs.Lists.Members.{member_passes, none_passes_any}
use Rattle.vk_model.proofs.Lists.Truths.{clash}
use Rattle.vk_buffer.specs.declared.bindings.BoundResource.{BoundResource}
use Rattle.vk_buffer.specs.BoundMemory.{conflicts_with}
use Rattle.vk_buffer.specs.Inner.Neighbors.{AreApart, IsLastUpTo, IsFirstAfter, bound_at, conflicts_there}
use Rattle.vk_buffer.proofs.Clear.{IsClear, clear_from, clear_is, none_clear, clear_turned, clear_before, clear_after}
use Rattle.vk_model.proofs.Lists.Keys.{not_above, other_key}
use Rattle.std.proofs.lemmas.Map.Keys.{le_from_not_gt}

abbrev Bound : Type 0
Bound = BTreeMap ℕ BoundResource

-- ---- the last binding of a range of a map

not_below : (a b : ℕ) → is_lt (nat_cmp a b) ≡ false → b ≤ a
not_below a b e = grind arith

by_some : (o : Option BoundResource) (x : BoundResource) → o ≡ Some x → IsSome o
by_some o x e = search (rules, e)

pub last_of_range : (m : Bound) (o : ℕ) (e : ℕ × BoundResource) (t r : List (ℕ × BoundResource)) → r ≡ t ++ e ∷ [] → IsRangeOf nat_cmp Unbounded (Included o) m r → IsLastUpTo m.entries o (Some e)
last_of_range m o e t r is range = let at = range.3 e t is in (le_from_not_gt e.0 o at.0.1, at.1, λ q above low. go q above low (get nat_cmp m q) refl)
  where
    go : (q : ℕ) → e.0 < q → q ≤ o → (x : Option BoundResource) → get nat_cmp m q ≡ x → get nat_cmp m q ≡ None
    go q above low None at = at
    go q above low (Some x) at =
        let le = not_below e.0 q (range.4 e t is q (tt, not_above q o low) (by_some (get nat_cmp m q) x at)) in
        absurd (omega arith)

-- ---- members

-- a binding is one of the entries
pub is_entry : (m : Bound) → IsOrdered nat_cmp m → (a : ℕ) (x : BoundResource) → bound_at m.entries a ≡ Some x → Contains m.entries (a, x)
is_entry m ordered a x at = (btree_map_get_iff nat_cmp_total nat_cmp-IsAntisymmetric m ordered a x).0 at

-- what conflicts with a binding conflicts with one of them
pub found : (m : Bound) → IsOrdered nat_cmp m → (o n : ℕ) (k : Kind) (there : Option (ℕ × BoundResource)) → IfSome there (λ e. bound_at m.entries e.0 ≡ Some e.1) → conflicts_there o n k there ≡ true → list_any (conflicts_with o n k) m.entries ≡ true
found m ordered o n k None at h = absurd cc
found m ordered o n k (Some e) at h = member_passes (conflicts_with o n k) m.entries e (is_entry m ordered e.0 e.1 at) h

-- what conflicts with none of them conflicts with no binding
pub not_found : (m : Bound) → IsOrdered nat_cmp m → (o n : ℕ) (k : Kind) → list_any (conflicts_with o n k) m.entries ≡ false → (a : ℕ) (x : BoundResource) → bound_at m.entries a ≡ Some x → conflicts_with o n k (a, x) ≡ false
not_found m ordered o n k none a x at = go (conflicts_with o n k (a, x)) refl
  where
    go : (b : Bool) → conflicts_with o n k (a, x) ≡ b → conflicts_with o n k (a, x) ≡ false
    go false e = e
    go true e = clash (member_passes (conflicts_with o n k) m.entries (a, x) (is_entry m ordered a x at) e) none

pub there_last : (bound : List (ℕ × BoundResource)) (o : ℕ) (e : Option (ℕ × BoundResource)) → IsLastUpTo bound o e → IfSome e (λ b. bound_at bound b.0 ≡ Some b.1)
there_last bound o None last = tt
there_last bound o (Some e) last = last.1

pub there_first : (bound : List (ℕ × BoundResource)) (o : ℕ) (e : Option (ℕ × BoundResource)) → IsFirstAfter bound o e → IfSome e (λ b. bound_at bound b.0 ≡ Some b.1)
there_first bound o None first = tt
there_first bound o (Some e) first = first.1

-- it ends where numbers of 64 bits do
pub there_fits : (size : ℕ) (bound : List (ℕ × BoundResource)) → AreApart size bound → size < 2 ^ 64 → (e : Option (ℕ × BoundResource)) → IfSome e (λ b. bound_at bound b.0 ≡ Some b.1) → IfSome e (λ b. b.0 + b.1.size < 2 ^ 64)
there_fits size bound apart fits None at = tt
there_fits size bound apart fits (Some e) at = let inside = apart.inside e.0 e.1 at in omega arith

-- ---- the two next to an offset answer for all

some_not_none : {A : Type 0} (o : Option BoundResource) (x : BoundResource) → o ≡ Some x → o ≡ None → A
some_not_none o x e f = absurd cc

same_at : (bound : List (ℕ × BoundResource)) (a b : ℕ) (x y : BoundResource) → a ≡ b → bound_at bound a ≡ Some x → bound_at bound b ≡ Some y → x ≡ y
same_at bound a b x y same at_a at_b =
    let both : Some x ≡ Some y = sym at_a ∙ ap (λ (i : ℕ). bound_at bound i) same ∙ at_b in cc

module _ (size : ℕ) (bound : List (ℕ × BoundResource)) (apart : AreApart size bound) (o n : ℕ) (k : Kind) (n0 : 0 < n) where
  abbrev IsClearOf : ℕ → BoundResource → Type 0
  IsClearOf a x = IsClear k o n x.kind a x.size

  between : (a b : ℕ) (x y : BoundResource) → bound_at bound a ≡ Some x → bound_at bound b ≡ Some y → a < b → IsClear x.kind a x.size y.kind b y.size
  between a b x y at_a at_b less = clear_from x.kind a x.size y.kind b y.size (apart.some a x at_a) (apart.some b y at_b) (apart.apart a b x y at_a at_b less)

  clear_up : (before : Option (ℕ × BoundResource)) → IsLastUpTo bound o before → conflicts_there o n k before ≡ false → (a : ℕ) (x : BoundResource) → bound_at bound a ≡ Some x → a ≤ o → IsClearOf a x
  clear_up None last misses a x at le = some_not_none (bound_at bound a) x at (last a le)
  clear_up (Some e) last misses a x at le =
      let here : IsClearOf e.0 e.1 = clear_from k o n e.1.kind e.0 e.1.size n0 (apart.some e.0 e.1 last.1) misses in
      elim (cases_order a e.0) [
        | inl same ↦
            let is : e.1 ≡ x = same_at bound e.0 a e.1 x (sym same) last.1 at in
            let there : IsClearOf a e.1 = subst (λ (i : ℕ). IsClearOf i e.1) (sym same) here in
            subst (λ (y : BoundResource). IsClearOf a y) is there
        | inr (inl less) ↦ clear_before k o n x.kind a x.size e.1.kind e.0 e.1.size n0 (apart.some a x at) (apart.some e.0 e.1 last.1) less last.0 (between a e.0 x e.1 at last.1 less) here
        | inr (inr more) ↦ some_not_none (bound_at bound a) x at (last.2 a more le)
      ]

  clear_down : (after : Option (ℕ × BoundResource)) → IsFirstAfter bound o after → conflicts_there o n k after ≡ false → (a : ℕ) (x : BoundResource) → bound_at bound a ≡ Some x → o < a → IsClearOf a x
  clear_down None first misses a x at gt = some_not_none (bound_at bound a) x at (first a gt)
  clear_down (Some e) first misses a x at gt =
      let here : IsClearOf e.0 e.1 = clear_from k o n e.1.kind e.0 e.1.size n0 (apart.some e.0 e.1 first.1) misses in
      elim (cases_order a e.0) [
        | inl same ↦
            let is : e.1 ≡ x = same_at bound e.0 a e.1 x (sym same) first.1 at in
            let there : IsClearOf a e.1 = subst (λ (i : ℕ). IsClearOf i e.1) (sym same) here in
            subst (λ (y : BoundResource). IsClearOf a y) is there
        | inr (inl less) ↦ some_not_none (bound_at bound a) x at (first.2 a gt less)
        | inr (inr more) ↦ clear_after k o n x.kind a x.size e.1.kind e.0 e.1.size n0 (apart.some a x at) (apart.some e.0 e.1 first.1) first.0 more (between e.0 a e.1 x first.1 at more) here
      ]

module _ (size : ℕ) (m : Bound) (apart : AreApart size m.entries) (ordered : IsOrdered nat_cmp m) (o n : ℕ) (k : Kind) (before after : Option (ℕ × BoundResource)) where
  -- what conflicts with neither conflicts with none
  pub none_found : IsLastUpTo m.entries o before → IsFirstAfter m.entries o after → conflicts_there o n k before ≡ false → conflicts_there o n k after ≡ false → list_any (conflicts_with o n k) m.entries ≡ false
  none_found last first no_before no_after = none_passes_any (conflicts_with o n k) m.entries (λ e at. passed e ((btree_map_get_iff nat_cmp_total nat_cmp-IsAntisymmetric m ordered e.0 e.1).1 at))
    where
      empty : (e : ℕ × BoundResource) → n ≡ 0 → conflicts_with o n k e ≡ false
      empty e zero = ap (λ (i : ℕ). conflicts_with o i k e) zero ∙ none_clear k o e.1.kind e.0 e.1.size

      passed : (e : ℕ × BoundResource) → bound_at m.entries e.0 ≡ Some e.1 → conflicts_with o n k e ≡ false
      passed e at = elim (cases_eq n 0) [
        | inl zero ↦ empty e zero
        | inr some ↦
            let n0 : 0 < n = omega (arith, some) in
            elim (cases_lt o e.0) [
              | inl gt ↦ clear_is k o n e.1.kind e.0 e.1.size (clear_down size m.entries apart o n k n0 after first no_after e.0 e.1 at gt)
              | inr le ↦ clear_is k o n e.1.kind e.0 e.1.size (clear_up size m.entries apart o n k n0 before last no_before e.0 e.1 at le)
            ]
      ]

-- ---- one more

module _ (size : ℕ) (old new : List (ℕ × BoundResource)) (apart : AreApart size old) (o : ℕ) (r : BoundResource) (some : 0 < r.size) (inside : o + r.size ≤ size)
    (clear : (a : ℕ) (x : BoundResource) → bound_at old a ≡ Some x → conflicts_with o r.size r.kind (a, x) ≡ false)
    (here : bound_at new o ≡ Some r) (others : (q : ℕ) → is_at (nat_cmp o) q ≡ false → bound_at new q ≡ bound_at old q) where
  is_new : (a : ℕ) (x : BoundResource) → a ≡ o → bound_at new a ≡ Some x → r ≡ x
  is_new a x same at = same_at new o a r x (sym same) here at

  was : (a : ℕ) (x : BoundResource) → (a ≡ o → ⊥) → bound_at new a ≡ Some x → bound_at old a ≡ Some x
  was a x other at = sym (others a (other_key o a other)) ∙ at

  clear_of : (a : ℕ) (x : BoundResource) → bound_at old a ≡ Some x → IsClear r.kind o r.size x.kind a x.size
  clear_of a x at = clear_from r.kind o r.size x.kind a x.size some (apart.some a x at) (clear a x at)

  at_new : (P : ℕ → BoundResource → Type 0) (a : ℕ) (x : BoundResource) → a ≡ o → bound_at new a ≡ Some x → P o r → P a x
  at_new P a x same at h =
      let there : P a r = subst (λ (i : ℕ). P i r) (sym same) h in
      subst (λ (y : BoundResource). P a y) (is_new a x same at) there

  two_apart : (a b : ℕ) (x y : BoundResource) → bound_at new a ≡ Some x → bound_at new b ≡ Some y → a < b → conflict x.kind a x.size y.kind b y.size ≡ false
  two_apart a b x y at_a at_b less = elim (cases_eq a o) [
    | inl a_new ↦
        let old_b = was b y (λ e. omega arith) at_b in
        at_new (λ i z. conflict z.kind i z.size y.kind b y.size ≡ false) a x a_new at_a (clear b y old_b)
    | inr a_old ↦ elim (cases_eq b o) [
      | inl b_new ↦
          let old_a = was a x a_old at_a in
          at_new (λ i z. conflict x.kind a x.size z.kind i z.size ≡ false) b y b_new at_b (clear_is x.kind a x.size r.kind o r.size (clear_turned r.kind o r.size x.kind a x.size (clear_of a x old_a)))
      | inr b_old ↦ apart.apart a b x y (was a x a_old at_a) (was b y b_old at_b) less
    ]
  ]

  pub apart_more : AreApart size new
  apart_more = record {
    some = λ a x at. elim (cases_eq a o) [ inl same ↦ at_new (λ i z. 0 < z.size) a x same at some | inr other ↦ apart.some a x (was a x other at) ];
    inside = λ a x at. elim (cases_eq a o) [ inl same ↦ at_new (λ i z. i + z.size ≤ size) a x same at inside | inr other ↦ apart.inside a x (was a x other at) ];
    apart = two_apart;
  }
