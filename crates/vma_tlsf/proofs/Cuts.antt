-- Taking a place of a free range, and giving a range back, as their steps make it.
use Rattle.std.proofs.Common.{◌≡◌, ℕ, ◌+◌, ◌-◌, ◌<◌, ◌^◌, inl, inr, List, [], Option, Some, None, get_or, set, refl, ap, sym, ◌∙◌, arith}
use Rattle.std.specs.Prelude.{MatchOption}
use Rattle.std.proofs.lemmas.Bool.{cases_eq}
use Rattle.vk_nodes.specs.declared.node.Node.{Node}
use Rattle.vk_nodes.specs.declared.node.RangeState.{RangeState}
use Rattle.vk_nodes.specs.declared.node.RangeState.TheVariants as state
use Rattle.vma_tlsf.specs.Inner.Chain.{Range, range, range_in, seen, IsChain, AfterNotFree, BeforeNotFree, taken_here, taken_by}
use Rattle.vma_tlsf.specs.Inner.Steps.{IsHeld, IsAfterHeld, IsSplit, IsPainted, KeepsHeld}
use Rattle.vma_tlsf.specs.Inner.Changes.{HasChain, IsFresh, IsFrontCut, IsBackCut}
use Rattle.vma_tlsf.proofs.Slots.{held_here, set_there, set_elsewhere, range_there, node_of}
use Rattle.vma_tlsf.proofs.Splits.{some_same, none_some, is_number, split_keeps}
use Rattle.vma_tlsf.proofs.Paints.{chain_alike, paint_keeps}

-- ---- neighbours

module _ (whole root : ℕ) (f : ℕ → Option Range) (chain : IsChain whole root f) where
  pub next_apart : (slot j : ℕ) (r : Range) → f slot ≡ Some r → r.after ≡ Some j → j ≡ slot → ⊥
  next_apart slot j r here on e =
      let linked = chain.linked slot r here in
      let q = linked.after j on in
      let starts : q.range.start ≡ r.start = ap (λ v. v.start) (some_same q.range r (sym q.there ∙ ap f e ∙ here)) in
      let touches = q.touches in
      let some = linked.some in
      omega arith

  pub next_two_apart : (slot gone : ℕ) (r z : Range) → f slot ≡ Some r → f gone ≡ Some z → r.after ≡ Some gone → z.after ≡ Some slot → ⊥
  next_two_apart slot gone r z here there on back =
      let linked = chain.linked slot r here in
      let q = linked.after gone on in
      let z_starts : q.range.start ≡ z.start = ap (λ v. v.start) (some_same q.range z (sym q.there ∙ there)) in
      let p = (chain.linked gone z there).after slot back in
      let r_starts : p.range.start ≡ r.start = ap (λ v. v.start) (some_same p.range r (sym p.there ∙ here)) in
      let touches = q.touches in
      let touches_back = p.touches in
      let some = linked.some in
      omega arith

  pub before_not_free : (slot : ℕ) (r : Range) → f slot ≡ Some r → r.state ≡ state.Free → BeforeNotFree f r
  before_not_free slot r here free j q on there free_q =
      let led = (chain.linked slot r here).before j on in
      let is_q : led.range ≡ q = some_same led.range q (sym led.there ∙ there) in
      let next = (chain.linked j q there).after slot (sym (ap (λ v. v.after) is_q) ∙ led.on) in
      let is_r : next.range ≡ r = some_same next.range r (sym next.there ∙ here) in
      next.not_both free_q (ap (λ v. v.state) is_r ∙ free)

  pub after_not_free : (slot : ℕ) (r : Range) → f slot ≡ Some r → r.state ≡ state.Free → AfterNotFree f r
  after_not_free slot r here free j q on there free_q =
      let next = (chain.linked slot r here).after j on in
      let is_q : next.range ≡ q = some_same next.range q (sym next.there ∙ there) in
      next.not_both free (ap (λ v. v.state) is_q ∙ free_q)

pub node_seen : (a : List (Option Node)) (slot : ℕ) (node : Node) → get_or a slot None ≡ Some node → 0 < node.size → seen a slot ≡ Some (range node)
node_seen a slot node here some = ap range_in here ∙ range_there node some

pub seen_held : (a : List (Option Node)) (slot : ℕ) (r : Range) → seen a slot ≡ Some r → IsHeld a slot
seen_held a slot r here = let m = node_of (get_or a slot None) r here in held_here a slot m.node m.there

-- the node of a slot of which the range is known
pub node_range : (a : List (Option Node)) (slot : ℕ) (node : Node) (r : Range) → get_or a slot None ≡ Some node → seen a slot ≡ Some r → range node ≡ r
node_range a slot node r here there =
    let m = node_of (get_or a slot None) r there in
    ap range (some_same node m.node (sym here ∙ m.there)) ∙ m.same

pub after_from : (a : List (Option Node)) (node : Node) (slot other : ℕ) → ((j : ℕ) → node.after ≡ Some j → (IsHeld a j × (j ≡ slot → ⊥) × (j ≡ other → ⊥))) → IsAfterHeld a node slot other
after_from a node slot other h = cases node.after refl
  where
    cases : (o : Option ℕ) → node.after ≡ o → MatchOption o (Unit {0}) (λ j. IsHeld a j × (j ≡ slot → ⊥) × (j ≡ other → ⊥))
    cases None e = tt
    cases (Some j) e = h j e

-- the range after one that is split is held, and another than a fresh slot
pub split_after : (a : List (Option Node)) (slot fresh : ℕ) (node : Node) → HasChain a → get_or a slot None ≡ Some node → 0 < node.size → IsFresh a fresh → IsAfterHeld a node slot fresh
split_after a slot fresh node has here some free =
    let chain = has.3 in
    let there = node_seen a slot node here some in
    after_from a node slot fresh (λ j e.
    let q = (chain.linked slot (range node) there).after j e in
    (seen_held a j q.range q.there, next_apart has.0 has.1 (seen a) chain slot j (range node) there e, λ same. none_some q.range (seen a j) (ap (seen a) same ∙ free.1) q.there))

pub node_bound : (a : List (Option Node)) (slot : ℕ) (node : Node) → HasChain a → get_or a slot None ≡ Some node → 0 < node.size → node.start + node.size < 2 ^ 62
node_bound a slot node has here some =
    let inside = (has.3.linked slot (range node) (node_seen a slot node here some)).inside in
    let bound = has.2 in
    omega arith

-- nothing is taken by a free range
pub free_takes_none : (r : Range) → r.state ≡ state.Free → taken_here (Some r) ≡ []
free_takes_none r free = ap (taken_by r.start r.size) free

-- ---- a slot that is given back

module _ (a : List (Option Node)) (fresh : ℕ) (free : IsFresh a fresh) where
  pub seen_given : (i : ℕ) → seen (set a fresh None) i ≡ seen a i
  seen_given i = elim (cases_eq i fresh) [
    | inl e ↦ rw e (ap range_in (set_there a fresh free.0 None) ∙ sym free.1)
    | inr other ↦ ap range_in (set_elsewhere a fresh free.0 None i other)
  ]

  pub held_given : KeepsHeld a (set a fresh None) fresh
  held_given i other held = rw (set_elsewhere a fresh free.0 None i other) held

-- ---- the front

module _ (a b : List (Option Node)) (slot fresh : ℕ) (node : Node) (kind : RangeState)
    (has : HasChain a) (here : get_or a slot None ≡ Some node) (some : 0 < node.size) (is_free : node.state ≡ state.Free)
    (free : IsFresh a fresh) (kind_taken : kind ≡ state.Free → ⊥) where
  there : seen a slot ≡ Some (range node)
  there = node_seen a slot node here some

  taken_none : taken_here (seen a slot) ≡ []
  taken_none = ap taken_here there ∙ free_takes_none (range node) is_free

  not_slot : (i : ℕ) → seen a i ≡ None → i ≡ slot → ⊥
  not_slot i none e = none_some (range node) (seen a i) none (ap (seen a) e ∙ there)

  pub front_split : (start n : ℕ) → node.start + n ≡ start → 0 < n → n < node.size → IsSplit (seen a) (seen b) slot fresh (range node) n state.Free kind → ((i : ℕ) → IsHeld a i → IsHeld b i) → IsFrontCut a b node start fresh fresh kind
  front_split start n at more less made held =
      record {
        chain = λ whole root chain. split_keeps whole root (seen a) (seen b) chain slot fresh (range node) there free.1 n more less state.Free kind made (λ e. before_not_free whole root (seen a) chain slot (range node) there is_free) (λ e. absurd (kind_taken e)) (λ e d. kind_taken d);
        range = record { start = node.start + n; size = node.size - n; before = Some slot; after = node.after; state = kind };
        there = made.back_there;
        begins = at;
        ends = omega arith;
        state = refl;
        next = λ j q on at_j free_q.
            let follows = (has.3.linked slot (range node) there).after j on in
            let is_q : q ≡ record follows.range { before = Some fresh } = some_same q (record follows.range { before = Some fresh }) (sym at_j ∙ made.next j on follows.range follows.there) in
            follows.not_both is_free (sym (ap (λ v. v.state) is_q) ∙ free_q);
        others = λ i other. elim (cases_eq i slot) [
          | inl e ↦ ap (λ k. taken_here (seen b k)) e ∙ ap taken_here made.front_there ∙ sym taken_none ∙ ap (λ k. taken_here (seen a k)) (sym e)
          | inr not ↦ elim (is_number node.after i) [
            | inl on ↦
                let follows = (has.3.linked slot (range node) there).after i on in
                ap taken_here (made.next i on follows.range follows.there) ∙ sym (ap taken_here follows.there)
            | inr off ↦ ap taken_here (made.others i not other off)
          ]
        ];
        none = ap taken_here free.1;
        held = λ i other h. held i h;
        rest_held = λ less. refl;
        rest_fresh = λ i other f. (held i f.0, made.others i (not_slot i f.1) other (λ on. let follows = (has.3.linked slot (range node) there).after i on in none_some follows.range (seen a i) f.1 follows.there) ∙ f.1);
      }

module _ (a b : List (Option Node)) (slot : ℕ) (node : Node) (kind : RangeState)
    (has : HasChain a) (here : get_or a slot None ≡ Some node) (some : 0 < node.size) (is_free : node.state ≡ state.Free)
    (kind_taken : kind ≡ state.Free → ⊥) where
  pub front_painted : (start : ℕ) → node.start ≡ start → IsPainted (seen a) (seen b) slot (range node) kind → ((i : ℕ) → IsHeld a i → IsHeld b i) → IsFrontCut a b node start slot slot kind
  front_painted start same made held =
      let at = node_seen a slot node here some in
      record {
        chain = λ whole root chain. paint_keeps whole root (seen a) (seen b) chain slot (range node) at kind made (λ e. absurd (kind_taken e)) (λ e. absurd (kind_taken e));
        range = record { start = node.start; size = node.size; before = node.before; after = node.after; state = kind };
        there = made.there;
        begins = same;
        ends = refl;
        state = refl;
        next = λ j q on at_j free_q.
            let apart = next_apart has.0 has.1 (seen a) has.3 slot j (range node) at on in
            after_not_free has.0 has.1 (seen a) has.3 slot (range node) at is_free j q on (sym (made.others j apart) ∙ at_j) free_q;
        others = λ i other. ap taken_here (made.others i other);
        none = ap taken_here at ∙ free_takes_none (range node) is_free;
        held = λ i other h. held i h;
        rest_held = λ less. refl;
        rest_fresh = λ i other f. (held i f.0, made.others i other ∙ f.1);
      }

-- ---- the back

module _ (a b : List (Option Node)) (slot fresh : ℕ) (node : Node)
    (has : HasChain a) (here : get_or a slot None ≡ Some node) (some : 0 < node.size) (is_taken : node.state ≡ state.Free → ⊥)
    (free : IsFresh a fresh) (next_taken : AfterNotFree (seen a) (range node)) where
  there_b : seen a slot ≡ Some (range node)
  there_b = node_seen a slot node here some

  pub back_whole : (size : ℕ) → node.size ≡ size → b ≡ set a fresh None → IsBackCut a b node slot fresh size
  back_whole size same is = rw is (record {
    chain = λ whole root chain. chain_alike whole root (seen a) (seen (set a fresh None)) (seen_given a fresh free) chain;
    range = range node;
    there = seen_given a fresh free slot ∙ there_b;
    begins = refl;
    long = same;
    state = refl;
    others = λ i other. ap taken_here (seen_given a fresh free i);
    held = held_given a fresh free;
    rest_held = λ less. absurd (omega arith);
  })

  pub back_split : (size : ℕ) → 0 < size → size < node.size → IsSplit (seen a) (seen b) slot fresh (range node) size node.state state.Free → ((i : ℕ) → IsHeld a i → IsHeld b i) → IsBackCut a b node slot fresh size
  back_split size more less made held = record {
    chain = λ whole root chain. split_keeps whole root (seen a) (seen b) chain slot fresh (range node) there_b free.1 size more less node.state state.Free made (λ e. absurd (is_taken e)) (λ e. next_taken) (λ e d. is_taken e);
    range = record { start = node.start; size = size; before = node.before; after = Some fresh; state = node.state };
    there = made.front_there;
    begins = refl;
    long = refl;
    state = refl;
    others = λ i other. elim (cases_eq i fresh) [
      | inl e ↦ ap (λ k. taken_here (seen b k)) e ∙ ap taken_here made.back_there ∙ sym (ap taken_here free.1) ∙ ap (λ k. taken_here (seen a k)) (sym e)
      | inr not ↦ elim (is_number node.after i) [
        | inl on ↦
            let follows = (has.3.linked slot (range node) there_b).after i on in
            ap taken_here (made.next i on follows.range follows.there) ∙ sym (ap taken_here follows.there)
        | inr off ↦ ap taken_here (made.others i other not off)
      ]
    ];
    held = λ i other h. held i h;
    rest_held = λ _. held fresh free.0;
  }
