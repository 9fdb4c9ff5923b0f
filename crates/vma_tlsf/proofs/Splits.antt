-- A chain of ranges of which one is split stays one.
use Rattle.std.proofs.Common.{◌≡◌, ℕ, ◌+◌, ◌-◌, ◌<◌, ◌≤◌, ◌⊎◌, inl, inr, Option, Some, None, refl, ap, sym, ◌∙◌, arith}
use Rattle.std.proofs.lemmas.Bool.{cases_eq}
use Rattle.vk_nodes.specs.declared.node.RangeState.{RangeState}
use Rattle.vk_nodes.specs.declared.node.RangeState.TheVariants as state
use Rattle.vma_tlsf.specs.Inner.Chain.{Range, AreApart, IsLinked, IsChain, AfterNotFree, BeforeNotFree}
use Rattle.vma_tlsf.specs.Inner.Steps.{IsSplit}

pub some_same : {A : Type 0} (x y : A) → Some x ≡ Some y → x ≡ y
some_same x y e = cc

pub none_some : {A : Type 0} (x : A) (o : Option A) → o ≡ None → o ≡ Some x → ⊥
none_some x o e h = cc

-- an option is a number or not
pub is_number : (o : Option ℕ) (j : ℕ) → (o ≡ Some j) ⊎ (o ≡ Some j → ⊥)
is_number None j = inr (λ e. cc)
is_number (Some i) j = elim (cases_eq i j) [ inl e ↦ inl (ap Some e) | inr other ↦ inr (λ e. other (some_same i j e)) ]

module _ (whole root : ℕ) (f g : ℕ → Option Range) (chain : IsChain whole root f)
    (slot fresh : ℕ) (r : Range) (here : f slot ≡ Some r) (free : f fresh ≡ None)
    (n : ℕ) (some : 0 < n) (less : n < r.size) (front back : RangeState)
    (made : IsSplit f g slot fresh r n front back)
    (before_front : front ≡ state.Free → BeforeNotFree f r)
    (after_back : back ≡ state.Free → AfterNotFree f r)
    (not_both : front ≡ state.Free → back ≡ state.Free → ⊥) where
  was : IsLinked whole f slot r
  was = chain.linked slot r here

  abbrev A : Range
  A = record { start = r.start; size = n; before = r.before; after = Some fresh; state = front }

  abbrev B : Range
  B = record { start = r.start + n; size = r.size - n; before = Some slot; after = r.after; state = back }

  not_fresh : (i : ℕ) (w : Range) → f i ≡ Some w → i ≡ fresh → ⊥
  not_fresh i w there e = none_some w (f i) (ap f e ∙ free) there

  -- another range, after the split
  record Moved (i : ℕ) (w : Range) : Type 0 where
    pub range : Range
    pub there : g i ≡ Some range
    pub start : range.start ≡ w.start
    pub long : range.size ≡ w.size
    pub after : range.after ≡ w.after
    pub state : range.state ≡ w.state
    pub before : ((r.after ≡ Some i) × (range.before ≡ Some fresh)) ⊎ ((r.after ≡ Some i → ⊥) × (range.before ≡ w.before))

  moved : (i : ℕ) (w : Range) → f i ≡ Some w → (i ≡ slot → ⊥) → Moved i w
  moved i w there other = elim (is_number r.after i) [
    | inl e ↦ record {
      range = record w { before = Some fresh };
      there = made.next i e w there;
      start = refl;
      long = refl;
      after = refl;
      state = refl;
      before = inl (e, refl);
    }
    | inr not ↦ record {
      range = w;
      there = made.others i other (not_fresh i w there) not ∙ there;
      start = refl;
      long = refl;
      after = refl;
      state = refl;
      before = inr (not, refl);
    }
  ]

  -- where a range of the split chain comes from
  record Origin (i : ℕ) (x : Range) : Type 0 where
    pub range : Range
    pub there : f i ≡ Some range
    pub moved : Moved i range
    pub same : x ≡ moved.range

  origin : (i : ℕ) (x : Range) → g i ≡ Some x → (i ≡ slot → ⊥) → (i ≡ fresh → ⊥) → Origin i x
  origin i x there other_slot other_fresh = elim (is_number r.after i) [
    | inl e ↦
        let next = was.after i e in
        let m = moved i next.range next.there other_slot in
        record { range = next.range; there = next.there; moved = m; same = some_same x m.range (sym there ∙ m.there) }
    | inr not ↦
        let was_there = sym (made.others i other_slot other_fresh not) ∙ there in
        let m = moved i x was_there other_slot in
        record { range = x; there = was_there; moved = m; same = some_same x m.range (sym there ∙ m.there) }
  ]

  -- no range follows or leads itself
  not_self_after : r.after ≡ Some slot → ⊥
  not_self_after e =
      let next = was.after slot e in
      let same : next.range ≡ r = some_same next.range r (sym next.there ∙ here) in
      let starts : next.range.start ≡ r.start = ap (λ v. v.start) same in
      let touches = next.touches in
      let some = was.some in
      omega arith

  split_front : IsLinked whole g slot A
  split_front = record {
    some = some;
    inside = let inside = was.inside in omega arith;
    last = λ e. absurd (none_some fresh (Some fresh) e refl);
    after = λ next e.
        let same : next ≡ fresh = some_same next fresh (sym e) in
        record {
          range = B;
          there = ap g same ∙ made.back_there;
          back = refl;
          touches = refl;
          not_both = not_both;
        };
    first = was.first;
    before = λ p e.
        let led = was.before p e in
        let other : p ≡ slot → ⊥ = λ same. not_self_after (sym (ap (λ v. v.after) (some_same led.range r (sym led.there ∙ ap f same ∙ here))) ∙ led.on) in
        let m = moved p led.range led.there other in
        record { range = m.range; there = m.there; on = m.after ∙ led.on };
  }

  split_back : IsLinked whole g fresh B
  split_back = record {
    some = omega arith;
    inside = let inside = was.inside in omega arith;
    last = λ e. let end = was.last e in omega arith;
    after = λ next e.
        let q = was.after next e in
        record {
          range = record q.range { before = Some fresh };
          there = made.next next e q.range q.there;
          back = refl;
          touches = let touches = q.touches in omega arith;
          not_both = λ free_back free_next. after_back free_back next q.range e q.there free_next;
        };
    first = λ e. absurd (none_some slot (Some slot) e refl);
    before = λ p e.
        let same : p ≡ slot = some_same p slot (sym e) in
        record { range = A; there = ap g same ∙ made.front_there; on = refl };
  }

  split_other : (i : ℕ) (w : Range) → f i ≡ Some w → (i ≡ slot → ⊥) → (m : Moved i w) → IsLinked whole g i m.range
  split_other i w there other m =
      let linked = chain.linked i w there in
      let starts = m.start in
      let sizes = m.long in
      record {
        some = let some_w = linked.some in omega arith;
        inside = let inside = linked.inside in omega arith;
        last = λ e. let end = linked.last (sym m.after ∙ e) in omega arith;
        after = λ next e.
            let q = linked.after next (sym m.after ∙ e) in
            let touches = q.touches in
            elim (cases_eq next slot) [
              | inl same ↦
                  let is_r : q.range ≡ r = some_same q.range r (sym q.there ∙ ap f same ∙ here) in
                  let r_before : r.before ≡ Some i = sym (ap (λ v. v.before) is_r) ∙ q.back in
                  let r_starts : q.range.start ≡ r.start = ap (λ v. v.start) is_r in
                  record {
                    range = A;
                    there = ap g same ∙ made.front_there;
                    back = r_before;
                    touches = omega arith;
                    not_both = λ free_w free_a. before_front free_a i w r_before there (sym m.state ∙ free_w);
                  }
              | inr not ↦
                  let k = moved next q.range q.there not in
                  let k_starts = k.start in
                  record {
                    range = k.range;
                    there = k.there;
                    back = elim k.before [
                      | inl two ↦ absurd (other (some_same i slot (sym q.back ∙ ap (λ v. v.before) (some_same q.range (was.after next two.0).range (sym q.there ∙ (was.after next two.0).there)) ∙ (was.after next two.0).back)))
                      | inr two ↦ two.1 ∙ q.back
                    ];
                    touches = omega arith;
                    not_both = λ free_w free_k. q.not_both (sym m.state ∙ free_w) (sym k.state ∙ free_k);
                  }
            ];
        first = λ e. elim m.before [
          | inl two ↦ absurd (none_some fresh m.range.before e two.1)
          | inr two ↦ let zero_start = linked.first (sym two.1 ∙ e) in omega arith
        ];
        before = λ p e. elim m.before [
          | inl two ↦
              let same : p ≡ fresh = some_same p fresh (sym e ∙ two.1) in
              record { range = B; there = ap g same ∙ made.back_there; on = two.0 }
          | inr two ↦
              let led = linked.before p (sym two.1 ∙ e) in
              let not_slot : p ≡ slot → ⊥ = λ same. two.0 (sym (ap (λ v. v.after) (some_same led.range r (sym led.there ∙ ap f same ∙ here))) ∙ led.on) in
              let k = moved p led.range led.there not_slot in
              record { range = k.range; there = k.there; on = k.after ∙ led.on }
        ];
      }

  split_linked : (i : ℕ) (x : Range) → g i ≡ Some x → IsLinked whole g i x
  split_linked i x there = elim (cases_eq i slot) [
    | inl e ↦ rw (e, some_same x A (sym there ∙ ap g e ∙ made.front_there)) split_front
    | inr other ↦ elim (cases_eq i fresh) [
      | inl e ↦ rw (e, some_same x B (sym there ∙ ap g e ∙ made.back_there)) split_back
      | inr not ↦ let o = origin i x there other not in rw o.same (split_other i o.range o.there other o.moved)
    ]
  ]

  -- the range that a range was part of
  record Part (i : ℕ) (x : Range) : Type 0 where
    pub place : ℕ
    pub range : Range
    pub there : f place ≡ Some range
    pub from : range.start ≤ x.start
    pub to : x.start + x.size ≤ range.start + range.size
    pub which : (place ≡ i) ⊎ ((i ≡ fresh) × (place ≡ slot))

  part : (i : ℕ) (x : Range) → g i ≡ Some x → Part i x
  part i x there = elim (cases_eq i slot) [
    | inl e ↦
        let same : x ≡ A = some_same x A (sym there ∙ ap g e ∙ made.front_there) in
        let starts : x.start ≡ r.start = ap (λ v. v.start) same in
        let sizes : x.size ≡ n = ap (λ v. v.size) same in
        record { place = slot; range = r; there = here; from = omega arith; to = omega arith; which = inl (sym e) }
    | inr other ↦ elim (cases_eq i fresh) [
      | inl e ↦
          let same : x ≡ B = some_same x B (sym there ∙ ap g e ∙ made.back_there) in
          let starts : x.start ≡ r.start + n = ap (λ v. v.start) same in
          let sizes : x.size ≡ r.size - n = ap (λ v. v.size) same in
          record { place = slot; range = r; there = here; from = omega arith; to = omega arith; which = inr (e, refl) }
      | inr not ↦
          let o = origin i x there other not in
          let m = o.moved in
          let starts : x.start ≡ o.range.start = ap (λ v. v.start) o.same ∙ m.start in
          let sizes : x.size ≡ o.range.size = ap (λ v. v.size) o.same ∙ m.long in
          record { place = i; range = o.range; there = o.there; from = omega arith; to = omega arith; which = inl refl }
    ]
  ]

  parts_apart : (i j : ℕ) (x y : Range) → g i ≡ Some x → g j ≡ Some y → i ≡ slot → j ≡ fresh → x.start + x.size ≤ y.start
  parts_apart i j x y at_i at_j e d =
      let one : x ≡ A = some_same x A (sym at_i ∙ ap g e ∙ made.front_there) in
      let two : y ≡ B = some_same y B (sym at_j ∙ ap g d ∙ made.back_there) in
      let starts : x.start ≡ r.start = ap (λ v. v.start) one in
      let sizes : x.size ≡ n = ap (λ v. v.size) one in
      let ends : y.start ≡ r.start + n = ap (λ v. v.start) two in
      omega arith

  split_apart : (i j : ℕ) (x y : Range) → g i ≡ Some x → g j ≡ Some y → (i ≡ j → ⊥) → AreApart x y
  split_apart i j x y at_i at_j other =
      let p = part i x at_i in
      let q = part j y at_j in
      let p_from = p.from in
      let p_to = p.to in
      let q_from = q.from in
      let q_to = q.to in
      elim (cases_eq p.place q.place) [
        | inl same ↦ elim p.which [
          | inl e ↦ elim q.which [
            | inl d ↦ absurd (other (sym e ∙ same ∙ d))
            | inr d ↦ inl (parts_apart i j x y at_i at_j (sym e ∙ same ∙ d.1) d.0)
          ]
          | inr e ↦ elim q.which [
            | inl d ↦ inr (parts_apart j i y x at_j at_i (sym d ∙ sym same ∙ e.1) e.0)
            | inr d ↦ absurd (other (e.0 ∙ sym d.0))
          ]
        ]
        | inr not ↦ elim (chain.apart p.place q.place p.range q.range p.there q.there not) [
          | inl le ↦ inl (omega arith)
          | inr le ↦ inr (omega arith)
        ]
      ]

  pub split_keeps : IsChain whole root g
  split_keeps = elim (cases_eq root slot) [
    | inl e ↦
        let same : chain.begin ≡ r = some_same chain.begin r (sym chain.begin_there ∙ ap f e ∙ here) in
        record {
          begin = A;
          begin_there = ap g e ∙ made.front_there;
          begin_start = sym (ap (λ v. v.start) same) ∙ chain.begin_start;
          linked = split_linked;
          apart = split_apart;
        }
    | inr other ↦
        let m = moved root chain.begin chain.begin_there other in
        record {
          begin = m.range;
          begin_there = m.there;
          begin_start = m.start ∙ chain.begin_start;
          linked = split_linked;
          apart = split_apart;
        }
  ]
