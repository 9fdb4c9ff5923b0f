-- Taking a place, as its two cuts make it.
use Rattle.std.proofs.Common.{◌≡◌, ℕ, ◌<◌, ◌≤◌, List, [], ◌∷◌, Option, Some, None, get_or, refl, ap, sym, ◌∙◌, arith}
use Rattle.vk_nodes.specs.declared.node.Node.{Node}
use Rattle.vk_nodes.specs.declared.node.RangeState.{RangeState}
use Rattle.vk_model.specs.Memory.Suballocation.{Taken}
use Rattle.vk_model.specs.declared.resource.Kind.{Kind}
use Rattle.vk_model.specs.declared.resource.Kind.TheVariants as kind
use Rattle.vma_tlsf.specs.declared.places.Want.{Want}
use Rattle.vma_tlsf.specs.Inner.Chain.{Range, range, seen, AfterNotFree, taken_here, taken_by}
use Rattle.vma_tlsf.specs.Inner.Steps.{AreAlike}
use Rattle.vma_tlsf.specs.Inner.Changes.{HasChain, IsFresh, IsPlaceIn, IsFrontCut, IsBackCut, TakesMore}
use Rattle.vma_tlsf.specs.Inner.Fits.{IsSlotAt, StartsBelow}
use Rattle.vma_tlsf.specs.Inner.Wants.{taken_of_want, state_of}
use Rattle.vma_tlsf.proofs.Paints.{chain_alike}
use Rattle.vma_tlsf.proofs.Takings.{more_taken, same_taken}
use Rattle.vma_tlsf.proofs.Cuts.{node_range}
use Rattle.vma_tlsf.proofs.Splits.{none_some}
use Rattle.vma_tlsf.proofs.Joins.{has_alike}

taken_by_kind : (start size : ℕ) (k : Kind) → taken_by start size (state_of k) ≡ record { start = start; size = size; kind = k } ∷ []
taken_by_kind start size kind.Linear = refl
taken_by_kind start size kind.Optimal = refl

module _ (a b c : List (Option Node)) (place start : ℕ) (want : Want) (one two slot : ℕ) (node taken : Node) (has : HasChain a) (alike : AreAlike a b)
    (kind_of : RangeState) (kind_is : kind_of ≡ state_of want.kind)
    (front : IsFrontCut b c node start slot one kind_of) (taken_at : get_or c slot None ≡ Some taken) where
  pub has_front : HasChain c
  has_front = let h = has_alike a b alike has in (h.0, h.1, h.2, front.chain h.0 h.1 h.3)

  pub taken_is : range taken ≡ front.range
  taken_is = node_range c slot taken front.range taken_at front.there

  pub next_taken : AfterNotFree (seen c) (range taken)
  next_taken j q on at free = front.next j q (sym (ap (λ v. v.after) taken_is) ∙ on) at free

  pub carved : (d e : List (Option Node)) → IsBackCut c d taken slot two want.size → AreAlike d e → TakesMore a e (taken_of_want start want)
  carved d e back rest = record {
    chain = λ whole root chain. chain_alike whole root (seen d) (seen e) rest.ranges (back.chain whole root (front.chain whole root (chain_alike whole root (seen a) (seen b) alike.ranges chain)));
    more = more_taken (taken_of_want start want) a e slot
        (λ i other. ap taken_here (rest.ranges i) ∙ back.others i other ∙ front.others i other ∙ ap taken_here (alike.ranges i))
        (sym (ap taken_here (alike.ranges slot)) ∙ front.none)
        (let begins : back.range.start ≡ start = back.begins ∙ ap (λ v. v.start) taken_is ∙ front.begins in
        let state : back.range.state ≡ state_of want.kind = back.state ∙ ap (λ v. v.state) taken_is ∙ front.state ∙ kind_is in
        ap taken_here (rest.ranges slot ∙ back.there)
        ∙ ap (λ n. taken_by n back.range.size back.range.state) begins
        ∙ ap (λ n. taken_by start n back.range.state) back.long
        ∙ ap (λ k. taken_by start want.size k) state
        ∙ taken_by_kind start want.size want.kind);
  }

-- where the range of a place starts, before and after a change of the lists by size
module _ (a b : List (Option Node)) (slot start : ℕ) (node : Node) (alike : AreAlike a b) where
  pub starts_here : IsSlotAt a slot start → get_or b slot None ≡ Some node → node.start ≡ start
  starts_here at here = ap (λ (r : Range). r.start) (node_range b slot node at.0 here (alike.ranges slot ∙ at.1)) ∙ at.2

  pub starts_below : StartsBelow a slot start → get_or b slot None ≡ Some node → node.start < start
  starts_below at here =
      let same : node.start ≡ at.0.start = ap (λ (r : Range). r.start) (node_range b slot node at.0 here (alike.ranges slot ∙ at.1)) in
      let less = at.2 in
      omega arith

  module _ (size : ℕ) (place : IsPlaceIn a slot start size) (here : get_or a slot None ≡ Some node) where
    same_start : node.start ≡ place.range.start
    same_start = ap (λ (r : Range). r.start) (node_range a slot node place.range here place.there)

    pub place_from : node.start ≤ start
    place_from = let same = same_start in let from = place.from in omega arith

    pub slot_at : node.start ≡ start → IsSlotAt b slot start
    slot_at same = (place.range, alike.ranges slot ∙ place.there, sym same_start ∙ same)

    pub slot_below : node.start < start → StartsBelow b slot start
    slot_below less = (place.range, alike.ranges slot ∙ place.there, let same = same_start in omega arith)

-- a slot that is fresh isn't that of a range
pub fresh_apart : (a : List (Option Node)) (slot fresh start size : ℕ) → IsPlaceIn a slot start size → IsFresh a fresh → fresh ≡ slot → ⊥
fresh_apart a slot fresh start size place free e = none_some place.range (seen a fresh) free.1 (ap (seen a) e ∙ place.there)

-- a range has bytes
pub node_some : (a b : List (Option Node)) (slot start size : ℕ) (node : Node) → HasChain a → AreAlike a b → IsPlaceIn a slot start size → get_or b slot None ≡ Some node → 0 < node.size
node_some a b slot start size node has alike place here =
    let same : node.size ≡ place.range.size = ap (λ (r : Range). r.size) (node_range b slot node place.range here (alike.ranges slot ∙ place.there)) in
    let some = (has.3.linked slot place.range place.there).some in
    omega arith

-- one more is taken, after a change of the lists by size
pub takes_alike : (a b c : List (Option Node)) (t : Taken) → AreAlike a b → TakesMore b c t → TakesMore a c t
takes_alike a b c t alike more = record {
  chain = λ whole root chain. more.chain whole root (chain_alike whole root (seen a) (seen b) alike.ranges chain);
  more = rw (sym (same_taken b a (λ i. ap taken_here (alike.ranges i)))) more.more;
}
