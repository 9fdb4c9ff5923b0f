-- A chain of ranges stays one where one gets another state, and where only links of lists by size change.
use Rattle.std.proofs.Common.{◌≡◌, ℕ, ◌⊎◌, inl, inr, Option, Some, refl, ap, sym, ◌∙◌, arith}
use Rattle.std.proofs.lemmas.Bool.{cases_eq}
use Rattle.vk_nodes.specs.declared.node.RangeState.{RangeState}
use Rattle.vk_nodes.specs.declared.node.RangeState.TheVariants as state
use Rattle.vma_tlsf.specs.Inner.Chain.{Range, IsLinked, IsChain, AfterNotFree, BeforeNotFree}
use Rattle.vma_tlsf.specs.Inner.Steps.{IsPainted}
use Rattle.vma_tlsf.proofs.Splits.{some_same}

module _ (whole root : ℕ) (f g : ℕ → Option Range) (same : (i : ℕ) → g i ≡ f i) (chain : IsChain whole root f) where
  pub chain_alike : IsChain whole root g
  chain_alike = record {
    begin = chain.begin;
    begin_there = same root ∙ chain.begin_there;
    begin_start = chain.begin_start;
    linked = λ i r there.
        let was = chain.linked i r (sym (same i) ∙ there) in
        record {
          some = was.some;
          inside = was.inside;
          last = was.last;
          after = λ next e. let q = was.after next e in record { range = q.range; there = same next ∙ q.there; back = q.back; touches = q.touches; not_both = q.not_both };
          first = was.first;
          before = λ p e. let q = was.before p e in record { range = q.range; there = same p ∙ q.there; on = q.on };
        };
    apart = λ i j r q one two other. chain.apart i j r q (sym (same i) ∙ one) (sym (same j) ∙ two) other;
  }

module _ (whole root : ℕ) (f g : ℕ → Option Range) (chain : IsChain whole root f)
    (slot : ℕ) (r : Range) (here : f slot ≡ Some r) (kind : RangeState) (made : IsPainted f g slot r kind)
    (before_free : kind ≡ state.Free → BeforeNotFree f r)
    (after_free : kind ≡ state.Free → AfterNotFree f r) where
  abbrev P : Range
  P = record r { state = kind }

  record Moved (i : ℕ) (w : Range) : Type 0 where
    pub range : Range
    pub there : g i ≡ Some range
    pub start : range.start ≡ w.start
    pub long : range.size ≡ w.size
    pub after : range.after ≡ w.after
    pub before : range.before ≡ w.before
    pub which : ((i ≡ slot) × (w ≡ r) × (range.state ≡ kind)) ⊎ ((i ≡ slot → ⊥) × (range.state ≡ w.state))

  moved : (i : ℕ) (w : Range) → f i ≡ Some w → Moved i w
  moved i w there = elim (cases_eq i slot) [
    | inl e ↦
        let is_r : w ≡ r = some_same w r (sym there ∙ ap f e ∙ here) in
        record {
          range = P;
          there = ap g e ∙ made.there;
          start = sym (ap (λ v. v.start) is_r);
          long = sym (ap (λ v. v.size) is_r);
          after = sym (ap (λ v. v.after) is_r);
          before = sym (ap (λ v. v.before) is_r);
          which = inl (e, is_r, refl);
        }
    | inr other ↦ record {
      range = w;
      there = made.others i other ∙ there;
      start = refl;
      long = refl;
      after = refl;
      before = refl;
      which = inr (other, refl);
    }
  ]

  record Origin (i : ℕ) (x : Range) : Type 0 where
    pub range : Range
    pub there : f i ≡ Some range
    pub moved : Moved i range
    pub same : x ≡ moved.range

  origin : (i : ℕ) (x : Range) → g i ≡ Some x → Origin i x
  origin i x there = elim (cases_eq i slot) [
    | inl e ↦
        let was = ap f e ∙ here in
        let m = moved i r was in
        record { range = r; there = was; moved = m; same = some_same x m.range (sym there ∙ m.there) }
    | inr other ↦
        let was = sym (made.others i other) ∙ there in
        let m = moved i x was in
        record { range = x; there = was; moved = m; same = some_same x m.range (sym there ∙ m.there) }
  ]

  -- not both of two neighbours are free
  not_both : (i next : ℕ) (w q : Range) → f i ≡ Some w → f next ≡ Some q → w.after ≡ Some next → q.before ≡ Some i
      → (w.state ≡ state.Free → q.state ≡ state.Free → ⊥) → (i ≡ next → ⊥)
      → (m : Moved i w) (k : Moved next q) → m.range.state ≡ state.Free → k.range.state ≡ state.Free → ⊥
  not_both i next w q at_i at_next on back old other m k free_m free_k = elim m.which [
    | inl one ↦ elim k.which [
      | inl two ↦ other (one.0 ∙ sym two.0)
      | inr two ↦ after_free (sym one.2 ∙ free_m) next q (sym (ap (λ v. v.after) one.1) ∙ on) at_next (sym two.1 ∙ free_k)
    ]
    | inr one ↦ elim k.which [
      | inl two ↦ before_free (sym two.2 ∙ free_k) i w (sym (ap (λ v. v.before) two.1) ∙ back) at_i (sym one.1 ∙ free_m)
      | inr two ↦ old (sym one.1 ∙ free_m) (sym two.1 ∙ free_k)
    ]
  ]

  painted_linked : (i : ℕ) (w : Range) → f i ≡ Some w → (m : Moved i w) → IsLinked whole g i m.range
  painted_linked i w there m =
      let linked = chain.linked i w there in
      let starts = m.start in
      let sizes = m.long in
      let some_w = linked.some in
      record {
        some = omega arith;
        inside = let inside = linked.inside in omega arith;
        last = λ e. let end = linked.last (sym m.after ∙ e) in omega arith;
        after = λ next e.
            let q = linked.after next (sym m.after ∙ e) in
            let touches = q.touches in
            let k = moved next q.range q.there in
            let k_starts = k.start in
            let other : i ≡ next → ⊥ = λ d. (let starts_same : w.start ≡ q.range.start = ap (λ v. v.start) (some_same w q.range (sym there ∙ ap f d ∙ q.there)) in omega arith) in
            record {
              range = k.range;
              there = k.there;
              back = k.before ∙ q.back;
              touches = omega arith;
              not_both = not_both i next w q.range there q.there (sym m.after ∙ e) q.back q.not_both other m k;
            };
        first = λ e. let zero_start = linked.first (sym m.before ∙ e) in omega arith;
        before = λ p e.
            let led = linked.before p (sym m.before ∙ e) in
            let k = moved p led.range led.there in
            record { range = k.range; there = k.there; on = k.after ∙ led.on };
      }

  pub paint_keeps : IsChain whole root g
  paint_keeps =
      let m = moved root chain.begin chain.begin_there in
      record {
        begin = m.range;
        begin_there = m.there;
        begin_start = m.start ∙ chain.begin_start;
        linked = λ i x there. let o = origin i x there in rw o.same (painted_linked i o.range o.there o.moved);
        apart = λ i j x y at_i at_j other.
            let o = origin i x at_i in
            let p = origin j y at_j in
            let x_starts : x.start ≡ o.range.start = ap (λ v. v.start) o.same ∙ o.moved.start in
            let x_sizes : x.size ≡ o.range.size = ap (λ v. v.size) o.same ∙ o.moved.long in
            let y_starts : y.start ≡ p.range.start = ap (λ v. v.start) p.same ∙ p.moved.start in
            let y_sizes : y.size ≡ p.range.size = ap (λ v. v.size) p.same ∙ p.moved.long in
            elim (chain.apart i j o.range p.range o.there p.there other) [
              | inl le ↦ inl (omega arith)
              | inr le ↦ inr (omega arith)
            ];
      }
