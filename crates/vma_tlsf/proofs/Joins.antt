-- Giving a taken range back, as its steps make it.
use Rattle.std.proofs.Common.{◌≡◌, ℕ, ◌+◌, ◌<◌, inl, inr, List, Option, Some, None, get_or, ap, sym, ◌∙◌, arith}
use Rattle.std.proofs.lemmas.Bool.{cases_eq}
use Rattle.vk_nodes.specs.declared.node.Node.{Node}
use Rattle.vk_nodes.specs.declared.node.RangeState.{RangeState}
use Rattle.vk_nodes.specs.declared.node.RangeState.TheVariants as state
use Rattle.vma_tlsf.specs.Inner.Chain.{Range, range, seen, AfterNotFree, BeforeNotFree, taken_here}
use Rattle.vma_tlsf.specs.Inner.Steps.{AreAlike, IsHeld, IsAfterHeld, IsMerged, IsPainted}
use Rattle.vma_tlsf.specs.Inner.Changes.{HasChain, IsTakenIn, IsNextTaken, IsJoinedAfter, IsFreed, IsReleased}
use Rattle.vma_tlsf.proofs.Slots.{node_of}
use Rattle.vma_tlsf.proofs.Splits.{some_same, is_number}
use Rattle.vma_tlsf.proofs.Merges.{merge_keeps}
use Rattle.vma_tlsf.proofs.Paints.{chain_alike, paint_keeps}
use Rattle.vma_tlsf.proofs.Takings.{more_taken}
use Rattle.vma_tlsf.proofs.Cuts.{next_apart, next_two_apart, before_not_free, seen_held, node_range, after_from, free_takes_none}

-- the slots have the ranges of a block also after a change of the lists by size
pub has_alike : (a b : List (Option Node)) → AreAlike a b → HasChain a → HasChain b
has_alike a b alike has = (has.0, has.1, has.2, chain_alike has.0 has.1 (seen a) (seen b) alike.ranges has.3)

-- the range after a taken one, and the one before
pub after_held_in : (a : List (Option Node)) (slot j : ℕ) (node : Node) → HasChain a → IsTakenIn a slot → get_or a slot None ≡ Some node → node.after ≡ Some j → IsHeld a j
after_held_in a slot j node has t here on =
    let same = node_range a slot node t.range here t.there in
    let q = (has.3.linked slot t.range t.there).after j (sym (ap (λ v. v.after) same) ∙ on) in
    seen_held a j q.range q.there

pub before_held_in : (a : List (Option Node)) (slot j : ℕ) (node : Node) → HasChain a → IsTakenIn a slot → get_or a slot None ≡ Some node → node.before ≡ Some j → IsHeld a j
before_held_in a slot j node has t here on =
    let same = node_range a slot node t.range here t.there in
    let q = (has.3.linked slot t.range t.there).before j (sym (ap (λ v. v.before) same) ∙ on) in
    seen_held a j q.range q.there

-- two nodes that follow one another
module _ (a : List (Option Node)) (has : HasChain a) (slot gone : ℕ) (r z : Range) (here : seen a slot ≡ Some r) (there : seen a gone ≡ Some z) (on : r.after ≡ Some gone)
    (node last : Node) (node_at : get_or a slot None ≡ Some node) (last_at : get_or a gone None ≡ Some last) where
  pub two_apart : slot ≡ gone → ⊥
  two_apart e = next_apart has.0 has.1 (seen a) has.3 slot gone r here on (sym e)

  pub merge_after : IsAfterHeld a last slot gone
  merge_after =
      let same = node_range a gone last z last_at there in
      after_from a last slot gone (λ j e.
      let z_on : z.after ≡ Some j = sym (ap (λ v. v.after) same) ∙ e in
      let q = (has.3.linked gone z there).after j z_on in (
        seen_held a j q.range q.there,
        λ d. next_two_apart has.0 has.1 (seen a) has.3 slot gone r z here there on (z_on ∙ ap Some d),
        next_apart has.0 has.1 (seen a) has.3 gone j z there z_on,
      ))

  pub merge_some : 0 < node.size
  merge_some =
      let some = (has.3.linked slot r here).some in
      let same : node.size ≡ r.size = ap (λ v. v.size) (node_range a slot node r node_at here) in
      omega arith

  -- what is taken beside two joined ranges
  pub merged_others : (b : List (Option Node)) (kind : RangeState) → IsMerged (seen a) (seen b) slot gone r z kind → (i : ℕ) → (i ≡ slot → ⊥) → (i ≡ gone → ⊥) → taken_here (seen b i) ≡ taken_here (seen a i)
  merged_others b kind made i not_s not_g = elim (is_number z.after i) [
    | inl e ↦
        let q = (has.3.linked gone z there).after i e in
        ap taken_here (made.next i e q.range q.there) ∙ sym (ap taken_here q.there)
    | inr off ↦ ap taken_here (made.others i not_s not_g off)
  ]

-- a taken range with the free one after it
module _ (a b : List (Option Node)) (has : HasChain a) (slot gone : ℕ) (r z : Range) (here : seen a slot ≡ Some r) (there : seen a gone ≡ Some z) (on : r.after ≡ Some gone)
    (taken : r.state ≡ state.Free → ⊥) (free : z.state ≡ state.Free)
    (made : IsMerged (seen a) (seen b) slot gone r z r.state) where
  pub joined_after : (node last : Node) → get_or a slot None ≡ Some node → get_or a gone None ≡ Some last → IsJoinedAfter a b slot
  joined_after node last node_at last_at = record {
    chain = λ whole root chain. merge_keeps whole root (seen a) (seen b) chain slot gone r z here there on r.state made (λ e. absurd (taken e)) (λ e. absurd (taken e));
    there = record { range = record { start = r.start; size = r.size + z.size; before = r.before; after = z.after; state = r.state }; there = made.there; taken = taken };
    next = λ x at_x j q x_on at_q free_q.
        let z_on : z.after ≡ Some j = sym (ap (λ v. v.after) (some_same x (record { start = r.start; size = r.size + z.size; before = r.before; after = z.after; state = r.state }) (sym at_x ∙ made.there))) ∙ x_on in
        let follows = (has.3.linked gone z there).after j z_on in
        let is_q : q ≡ record follows.range { before = Some slot } = some_same q (record follows.range { before = Some slot }) (sym at_q ∙ made.next j z_on follows.range follows.there) in
        follows.not_both free (sym (ap (λ v. v.state) is_q) ∙ free_q);
    others = λ i other. elim (cases_eq i gone) [
      | inl e ↦ ap (λ k. taken_here (seen b k)) e ∙ ap taken_here made.none ∙ sym (ap taken_here there ∙ free_takes_none z free) ∙ ap (λ k. taken_here (seen a k)) (sym e)
      | inr not ↦ merged_others a has slot gone r z here there on node last node_at last_at b r.state made i other not
    ];
  }

-- a range that is freed, with the free one before it
module _ (a b : List (Option Node)) (has : HasChain a) (before slot : ℕ) (p r : Range) (there : seen a before ≡ Some p) (here : seen a slot ≡ Some r) (on : p.after ≡ Some slot)
    (free : p.state ≡ state.Free) (next : AfterNotFree (seen a) r)
    (made : IsMerged (seen a) (seen b) before slot p r state.Free) where
  pub freed_joined : (first node : Node) → get_or a before None ≡ Some first → get_or a slot None ≡ Some node → IsFreed a b slot
  freed_joined first node first_at node_at = record {
    chain = λ whole root chain. merge_keeps whole root (seen a) (seen b) chain before slot p r there here on state.Free made (λ e. before_not_free whole root (seen a) chain before p there free) (λ e. next);
    others = λ i other. elim (cases_eq i before) [
      | inl e ↦ ap (λ k. taken_here (seen b k)) e ∙ ap taken_here made.there ∙ sym (ap taken_here there ∙ free_takes_none p free) ∙ ap (λ k. taken_here (seen a k)) (sym e)
      | inr not ↦ merged_others a has before slot p r there here on first node first_at node_at b state.Free made i not other
    ];
    none = ap taken_here made.none;
  }

-- a range that is freed alone
pub freed_painted : (a b : List (Option Node)) (slot : ℕ) (r : Range) → seen a slot ≡ Some r → BeforeNotFree (seen a) r → AfterNotFree (seen a) r → IsPainted (seen a) (seen b) slot r state.Free → IsFreed a b slot
freed_painted a b slot r here before after made = record {
  chain = λ whole root chain. paint_keeps whole root (seen a) (seen b) chain slot r here state.Free made (λ e. before) (λ e. after);
  others = λ i other. ap taken_here (made.others i other);
  none = ap taken_here made.there;
}

-- all of it
pub released : (a b c d : List (Option Node)) (slot : ℕ) → IsJoinedAfter a b slot → IsFreed b c slot → AreAlike c d → IsReleased a d slot
released a b c d slot joined freed alike = record {
  chain = λ whole root chain. chain_alike whole root (seen c) (seen d) alike.ranges (freed.chain whole root (joined.chain whole root chain));
  less = λ t one. more_taken t d a slot
      (λ i other. sym (ap taken_here (alike.ranges i) ∙ freed.others i other ∙ joined.others i other))
      (ap taken_here (alike.ranges slot) ∙ freed.none) one;
}

-- ---- as the code has them

-- the range of a node that is seen
at_node : (a b : List (Option Node)) (slot : ℕ) (node : Node) (r : Range) → AreAlike a b → seen a slot ≡ Some r → get_or b slot None ≡ Some node → seen b slot ≡ Some (range node)
at_node a b slot node r alike there here =
    let at : seen b slot ≡ Some r = alike.ranges slot ∙ there in
    at ∙ sym (ap Some (node_range b slot node r here at))

-- nodes of one range in two lists
same_range : (a b : List (Option Node)) (slot : ℕ) (one two : Node) (r : Range) → AreAlike a b → seen a slot ≡ Some r → get_or a slot None ≡ Some one → get_or b slot None ≡ Some two → range two ≡ range one
same_range a b slot one two r alike there here_a here_b = node_range b slot two r here_b (alike.ranges slot ∙ there) ∙ sym (node_range a slot one r here_a there)

module _ (a b : List (Option Node)) (slot gone : ℕ) (whole behind node next : Node) (has : HasChain a) (t : IsTakenIn a slot) (alike : AreAlike a b)
    (whole_at : get_or a slot None ≡ Some whole) (on : whole.after ≡ Some gone) (behind_at : get_or a gone None ≡ Some behind)
    (node_at : get_or b slot None ≡ Some node) (next_at : get_or b gone None ≡ Some next) where
  whole_is : range whole ≡ t.range
  whole_is = node_range a slot whole t.range whole_at t.there

  t_on : t.range.after ≡ Some gone
  t_on = sym (ap (λ v. v.after) whole_is) ∙ on

  second : seen a gone ≡ Some ((has.3.linked slot t.range t.there).after gone t_on).range
  second = ((has.3.linked slot t.range t.there).after gone t_on).there

  here_b : seen b slot ≡ Some (range node)
  here_b = at_node a b slot node t.range alike t.there node_at

  there_b : seen b gone ≡ Some (range next)
  there_b = at_node a b gone next _ alike second next_at

  on_b : node.after ≡ Some gone
  on_b = ap (λ v. v.after) (same_range a b slot whole node t.range alike t.there whole_at node_at) ∙ on

  has_b : HasChain b
  has_b = has_alike a b alike has

  pub join_after_held : IsAfterHeld b next slot gone
  join_after_held = merge_after b has_b slot gone (range node) (range next) here_b there_b on_b node next node_at next_at

  pub join_after_made : (c : List (Option Node)) → behind.state ≡ state.Free → IsMerged (seen b) (seen c) slot gone (range node) (range next) node.state → IsJoinedAfter a c slot
  join_after_made c free made =
      let next_free : next.state ≡ state.Free = ap (λ v. v.state) (same_range a b gone behind next _ alike second behind_at next_at) ∙ free in
      let node_taken : node.state ≡ state.Free → ⊥ = λ e. t.taken (sym (ap (λ v. v.state) (node_range b slot node t.range node_at (alike.ranges slot ∙ t.there))) ∙ e) in
      let joined = joined_after b c has_b slot gone (range node) (range next) here_b there_b on_b node_taken next_free made node next node_at next_at in
      record {
        chain = λ w root chain. joined.chain w root (chain_alike w root (seen a) (seen b) alike.ranges chain);
        there = joined.there;
        next = joined.next;
        others = λ i other. joined.others i other ∙ ap taken_here (alike.ranges i);
      }

module _ (a b : List (Option Node)) (before slot : ℕ) (whole front previous node : Node) (has : HasChain a) (t : IsTakenIn a slot) (next : IsNextTaken a slot) (alike : AreAlike a b)
    (whole_at : get_or a slot None ≡ Some whole) (back : whole.before ≡ Some before) (front_at : get_or a before None ≡ Some front)
    (previous_at : get_or b before None ≡ Some previous) (node_at : get_or b slot None ≡ Some node) where
  t_back : t.range.before ≡ Some before
  t_back = sym (ap (λ v. v.before) (node_range a slot whole t.range whole_at t.there)) ∙ back

  led : (p : Range) × (seen a before ≡ Some p) × (p.after ≡ Some slot)
  led = let l = (has.3.linked slot t.range t.there).before before t_back in (l.range, l.there, l.on)

  here_p : seen b before ≡ Some (range previous)
  here_p = at_node a b before previous led.0 alike led.1 previous_at

  here_n : seen b slot ≡ Some (range node)
  here_n = at_node a b slot node t.range alike t.there node_at

  on_p : previous.after ≡ Some slot
  on_p = ap (λ v. v.after) (node_range b before previous led.0 previous_at (alike.ranges before ∙ led.1)) ∙ led.2

  has_p : HasChain b
  has_p = has_alike a b alike has

  pub join_before_held : IsAfterHeld b node before slot
  join_before_held = merge_after b has_p before slot (range previous) (range node) here_p here_n on_p previous node previous_at node_at

  pub join_before_some : 0 < previous.size
  join_before_some = merge_some b has_p before slot (range previous) (range node) here_p here_n on_p previous node previous_at node_at

  pub join_before_made : (c : List (Option Node)) → front.state ≡ state.Free → IsMerged (seen b) (seen c) before slot (range previous) (range node) state.Free → IsFreed a c slot
  join_before_made c free made =
      let previous_free : previous.state ≡ state.Free = ap (λ v. v.state) (same_range a b before front previous led.0 alike led.1 front_at previous_at) ∙ free in
      let same = node_range b slot node t.range node_at (alike.ranges slot ∙ t.there) in
      let after : AfterNotFree (seen b) (range node) = λ j q on at free_q. next t.range t.there j q (sym (ap (λ v. v.after) same) ∙ on) (sym (alike.ranges j) ∙ at) free_q in
      let freed = freed_joined b c has_p before slot (range previous) (range node) here_p here_n on_p previous_free after made previous node previous_at node_at in
      record {
        chain = λ w root chain. freed.chain w root (chain_alike w root (seen a) (seen b) alike.ranges chain);
        others = λ i other. freed.others i other ∙ ap taken_here (alike.ranges i);
        none = freed.none;
      }

-- freed alone, as no free range is before it
pub freed_alone : (a c : List (Option Node)) (slot : ℕ) (whole : Node) → HasChain a → (t : IsTakenIn a slot) → IsNextTaken a slot → get_or a slot None ≡ Some whole
    → ((j : ℕ) (n : Node) → whole.before ≡ Some j → get_or a j None ≡ Some n → n.state ≡ state.Free → ⊥)
    → IsPainted (seen a) (seen c) slot (range whole) state.Free → IsFreed a c slot
freed_alone a c slot whole has t next whole_at alone made =
    let same = node_range a slot whole t.range whole_at t.there in
    let here : seen a slot ≡ Some (range whole) = t.there ∙ sym (ap Some same) in
    freed_painted a c slot (range whole) here
    (λ j q on at free_q. let m = node_of (get_or a j None) q at in alone j m.node on m.there (ap (λ v. v.state) m.same ∙ free_q))
    (λ j q on at free_q. next (range whole) here j q on at free_q)
    made
