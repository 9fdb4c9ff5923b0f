-- A chain of ranges of which two are joined stays one.
use Rattle.std.proofs.Common.{◌≡◌, ℕ, ◌+◌, ◌⊎◌, inl, inr, Option, Some, refl, ap, sym, ◌∙◌, arith}
use Rattle.std.proofs.lemmas.Bool.{cases_eq}
use Rattle.vk_nodes.specs.declared.node.RangeState.{RangeState}
use Rattle.vk_nodes.specs.declared.node.RangeState.TheVariants as state
use Rattle.vma_tlsf.specs.Inner.Chain.{Range, AreApart, IsLinked, IsChain, AfterNotFree, BeforeNotFree}
use Rattle.vma_tlsf.specs.Inner.Steps.{IsMerged}
use Rattle.vma_tlsf.proofs.Splits.{some_same, none_some, is_number}

module _ (whole root : ℕ) (f g : ℕ → Option Range) (chain : IsChain whole root f)
    (slot gone : ℕ) (r z : Range) (here : f slot ≡ Some r) (gone_there : f gone ≡ Some z) (follows : r.after ≡ Some gone)
    (kind : RangeState) (made : IsMerged f g slot gone r z kind)
    (before_free : kind ≡ state.Free → BeforeNotFree f r)
    (after_free : kind ≡ state.Free → AfterNotFree f z) where
  was : IsLinked whole f slot r
  was = chain.linked slot r here

  gone_was : IsLinked whole f gone z
  gone_was = chain.linked gone z gone_there

  abbrev M : Range
  M = record { start = r.start; size = r.size + z.size; before = r.before; after = z.after; state = kind }

  z_is : (was.after gone follows).range ≡ z
  z_is = some_same (was.after gone follows).range z (sym (was.after gone follows).there ∙ gone_there)

  z_before : z.before ≡ Some slot
  z_before = sym (ap (λ v. v.before) z_is) ∙ (was.after gone follows).back

  z_start : z.start ≡ r.start + r.size
  z_start = sym (ap (λ v. v.start) z_is) ∙ (was.after gone follows).touches

  not_gone : slot ≡ gone → ⊥
  not_gone e =
      let starts : r.start ≡ z.start = ap (λ v. v.start) (some_same r z (sym here ∙ ap f e ∙ gone_there)) in
      let more = z_start in
      let some = was.some in
      omega arith

  -- nothing that is joined comes after itself
  not_after_r : r.after ≡ Some slot → ⊥
  not_after_r e = not_gone (sym (some_same gone slot (sym follows ∙ e)))

  not_after_z : z.after ≡ Some slot → ⊥
  not_after_z e =
      let next = gone_was.after slot e in
      let starts : next.range.start ≡ r.start = ap (λ v. v.start) (some_same next.range r (sym next.there ∙ here)) in
      let touches = next.touches in
      let z_starts = z_start in
      let some = was.some in
      omega arith

  record Moved (i : ℕ) (w : Range) : Type 0 where
    pub range : Range
    pub there : g i ≡ Some range
    pub start : range.start ≡ w.start
    pub long : range.size ≡ w.size
    pub after : range.after ≡ w.after
    pub state : range.state ≡ w.state
    pub before : ((z.after ≡ Some i) × (range.before ≡ Some slot)) ⊎ ((z.after ≡ Some i → ⊥) × (range.before ≡ w.before))

  moved : (i : ℕ) (w : Range) → f i ≡ Some w → (i ≡ slot → ⊥) → (i ≡ gone → ⊥) → Moved i w
  moved i w there other not_g = elim (is_number z.after i) [
    | inl e ↦ record {
      range = record w { before = Some slot };
      there = made.next i e w there;
      start = refl;
      long = refl;
      after = refl;
      state = refl;
      before = inl (e, refl);
    }
    | inr not ↦ record {
      range = w;
      there = made.others i other not_g not ∙ there;
      start = refl;
      long = refl;
      after = refl;
      state = refl;
      before = inr (not, refl);
    }
  ]

  record Origin (i : ℕ) (x : Range) : Type 0 where
    pub range : Range
    pub there : f i ≡ Some range
    pub not_g : i ≡ gone → ⊥
    pub moved : Moved i range
    pub same : x ≡ moved.range

  origin : (i : ℕ) (x : Range) → g i ≡ Some x → (i ≡ slot → ⊥) → Origin i x
  origin i x there other =
      let not_g : i ≡ gone → ⊥ = λ e. none_some x (g i) (ap g e ∙ made.none) there in
      elim (is_number z.after i) [
        | inl e ↦
            let next = gone_was.after i e in
            let m = moved i next.range next.there other not_g in
            record { range = next.range; there = next.there; not_g = not_g; moved = m; same = some_same x m.range (sym there ∙ m.there) }
        | inr not ↦
            let was_there = sym (made.others i other not_g not) ∙ there in
            let m = moved i x was_there other not_g in
            record { range = x; there = was_there; not_g = not_g; moved = m; same = some_same x m.range (sym there ∙ m.there) }
      ]

  merged_here : IsLinked whole g slot M
  merged_here =
      let starts = z_start in
      record {
        some = let some = was.some in omega arith;
        inside = let inside = gone_was.inside in omega arith;
        last = λ e. let end = gone_was.last e in omega arith;
        after = λ next e.
            let q = gone_was.after next e in
            record {
              range = record q.range { before = Some slot };
              there = made.next next e q.range q.there;
              back = refl;
              touches = let touches = q.touches in omega arith;
              not_both = λ free_m free_next. after_free free_m next q.range e q.there free_next;
            };
        first = was.first;
        before = λ p e.
            let led = was.before p e in
            let other : p ≡ slot → ⊥ = λ same. not_after_r (sym (ap (λ v. v.after) (some_same led.range r (sym led.there ∙ ap f same ∙ here))) ∙ led.on) in
            let not_g : p ≡ gone → ⊥ = λ same. not_after_z (sym (ap (λ v. v.after) (some_same led.range z (sym led.there ∙ ap f same ∙ gone_there))) ∙ led.on) in
            let m = moved p led.range led.there other not_g in
            record { range = m.range; there = m.there; on = m.after ∙ led.on };
      }

  merged_other : (i : ℕ) (w : Range) → f i ≡ Some w → (i ≡ slot → ⊥) → (i ≡ gone → ⊥) → (m : Moved i w) → IsLinked whole g i m.range
  merged_other i w there other not_g m =
      let linked = chain.linked i w there in
      let starts = m.start in
      let sizes = m.long in
      record {
        some = let some_w = linked.some in omega arith;
        inside = let inside = linked.inside in omega arith;
        last = λ e. let end = linked.last (sym m.after ∙ e) in omega arith;
        after = λ next e.
            let q = linked.after next (sym m.after ∙ e) in
            let touches = q.touches in
            elim (cases_eq next slot) [
              | inl same ↦
                  let is_r : q.range ≡ r = some_same q.range r (sym q.there ∙ ap f same ∙ here) in
                  let r_before : r.before ≡ Some i = sym (ap (λ v. v.before) is_r) ∙ q.back in
                  let r_starts : q.range.start ≡ r.start = ap (λ v. v.start) is_r in
                  record {
                    range = M;
                    there = ap g same ∙ made.there;
                    back = r_before;
                    touches = omega arith;
                    not_both = λ free_w free_m. before_free free_m i w r_before there (sym m.state ∙ free_w);
                  }
              | inr not ↦
                  let next_not_gone : next ≡ gone → ⊥ = λ same. other (some_same i slot (sym q.back ∙ ap (λ v. v.before) (some_same q.range z (sym q.there ∙ ap f same ∙ gone_there)) ∙ z_before)) in
                  let k = moved next q.range q.there not next_not_gone in
                  let k_starts = k.start in
                  record {
                    range = k.range;
                    there = k.there;
                    back = elim k.before [
                      | inl two ↦ absurd (not_g (some_same i gone (sym q.back ∙ ap (λ v. v.before) (some_same q.range (gone_was.after next two.0).range (sym q.there ∙ (gone_was.after next two.0).there)) ∙ (gone_was.after next two.0).back)))
                      | inr two ↦ two.1 ∙ q.back
                    ];
                    touches = omega arith;
                    not_both = λ free_w free_k. q.not_both (sym m.state ∙ free_w) (sym k.state ∙ free_k);
                  }
            ];
        first = λ e. elim m.before [
          | inl two ↦ absurd (none_some slot m.range.before e two.1)
          | inr two ↦ let zero_start = linked.first (sym two.1 ∙ e) in omega arith
        ];
        before = λ p e. elim m.before [
          | inl two ↦
              let same : p ≡ slot = some_same p slot (sym e ∙ two.1) in
              record { range = M; there = ap g same ∙ made.there; on = two.0 }
          | inr two ↦
              let led = linked.before p (sym two.1 ∙ e) in
              let not_slot : p ≡ slot → ⊥ = λ same. not_g (some_same i gone (sym led.on ∙ ap (λ v. v.after) (some_same led.range r (sym led.there ∙ ap f same ∙ here)) ∙ follows)) in
              let p_not_gone : p ≡ gone → ⊥ = λ same. two.0 (sym (ap (λ v. v.after) (some_same led.range z (sym led.there ∙ ap f same ∙ gone_there))) ∙ led.on) in
              let k = moved p led.range led.there not_slot p_not_gone in
              record { range = k.range; there = k.there; on = k.after ∙ led.on }
        ];
      }

  merged_linked : (i : ℕ) (x : Range) → g i ≡ Some x → IsLinked whole g i x
  merged_linked i x there = elim (cases_eq i slot) [
    | inl e ↦ rw (e, some_same x M (sym there ∙ ap g e ∙ made.there)) merged_here
    | inr other ↦ let o = origin i x there other in rw o.same (merged_other i o.range o.there other o.not_g o.moved)
  ]

  here_apart : (i j : ℕ) (x y : Range) → g i ≡ Some x → g j ≡ Some y → i ≡ slot → (j ≡ slot → ⊥) → AreApart x y
  here_apart i j x y at_i at_j e other =
      let o = origin j y at_j other in
      let m = o.moved in
      let same : x ≡ M = some_same x M (sym at_i ∙ ap g e ∙ made.there) in
      let x_starts : x.start ≡ r.start = ap (λ v. v.start) same in
      let x_sizes : x.size ≡ r.size + z.size = ap (λ v. v.size) same in
      let y_starts : y.start ≡ o.range.start = ap (λ v. v.start) o.same ∙ m.start in
      let y_sizes : y.size ≡ o.range.size = ap (λ v. v.size) o.same ∙ m.long in
      let starts = z_start in
      let some = (chain.linked j o.range o.there).some in
      elim (chain.apart slot j r o.range here o.there (λ d. other (sym d))) [
        | inl le ↦ elim (chain.apart gone j z o.range gone_there o.there (λ d. o.not_g (sym d))) [
          | inl more ↦ inl (omega arith)
          | inr more ↦ absurd (omega arith)
        ]
        | inr le ↦ inr (omega arith)
      ]

  turned : (x y : Range) → AreApart x y → AreApart y x
  turned x y apart = elim apart [ inl le ↦ inr le | inr le ↦ inl le ]

  merged_apart : (i j : ℕ) (x y : Range) → g i ≡ Some x → g j ≡ Some y → (i ≡ j → ⊥) → AreApart x y
  merged_apart i j x y at_i at_j other = elim (cases_eq i slot) [
    | inl e ↦ here_apart i j x y at_i at_j e (λ d. other (e ∙ sym d))
    | inr not_i ↦ elim (cases_eq j slot) [
      | inl d ↦ turned y x (here_apart j i y x at_j at_i d not_i)
      | inr not_j ↦
          let o = origin i x at_i not_i in
          let p = origin j y at_j not_j in
          let x_starts : x.start ≡ o.range.start = ap (λ v. v.start) o.same ∙ o.moved.start in
          let x_sizes : x.size ≡ o.range.size = ap (λ v. v.size) o.same ∙ o.moved.long in
          let y_starts : y.start ≡ p.range.start = ap (λ v. v.start) p.same ∙ p.moved.start in
          let y_sizes : y.size ≡ p.range.size = ap (λ v. v.size) p.same ∙ p.moved.long in
          elim (chain.apart i j o.range p.range o.there p.there other) [
            | inl le ↦ inl (omega arith)
            | inr le ↦ inr (omega arith)
          ]
    ]
  ]

  root_not_gone : root ≡ gone → ⊥
  root_not_gone e =
      let starts : chain.begin.start ≡ z.start = ap (λ v. v.start) (some_same chain.begin z (sym chain.begin_there ∙ ap f e ∙ gone_there)) in
      let zero_start = chain.begin_start in
      let z_starts = z_start in
      let some = was.some in
      omega arith

  pub merge_keeps : IsChain whole root g
  merge_keeps = elim (cases_eq root slot) [
    | inl e ↦
        let same : chain.begin ≡ r = some_same chain.begin r (sym chain.begin_there ∙ ap f e ∙ here) in
        record {
          begin = M;
          begin_there = ap g e ∙ made.there;
          begin_start = sym (ap (λ v. v.start) same) ∙ chain.begin_start;
          linked = merged_linked;
          apart = merged_apart;
        }
    | inr other ↦
        let m = moved root chain.begin chain.begin_there other root_not_gone in
        record {
          begin = m.range;
          begin_there = m.there;
          begin_start = m.start ∙ chain.begin_start;
          linked = merged_linked;
          apart = merged_apart;
        }
  ]
