-- A range that is given back is that of a slot, and the block stays sound without it.
use Rattle.std.proofs.Common.{◌≡◌, ℕ, zero, suc, ◌+◌, ◌<◌, ◌≤◌, inl, inr, List, [], ◌∷◌, ◌++◌, length, get_or, Option, Some, ap, sym, subst, ◌∙◌, arith}
use Rattle.std.proofs.lemmas.Bool.{cases_eq}
use Rattle.vk_nodes.specs.declared.node.Node.{Node}
use Rattle.vk_nodes.specs.declared.node.RangeState.TheVariants as state
use Rattle.vk_model.specs.declared.resource.Kind.{Kind}
use Rattle.vk_model.specs.declared.resource.Kind.TheVariants as kind
use Rattle.vk_model.specs.Memory.Suballocation.{Taken, IsTakenAt, TakesAway}
use Rattle.vk_model.proofs.Memory.Taken.{taking_away_is_sound}
use Rattle.vma_tlsf.specs.Block.{Block, taken}
use Rattle.vma_tlsf.specs.Inner.Chain.{Range, range_in, seen, IsChain, taken_in, taken_here}
use Rattle.vma_tlsf.specs.Inner.Changes.{IsReleased, IsTakenIn}
use Rattle.vma_tlsf.specs.Inner.Fits.{IsBlock, HasByte, IsSlotOf}
use Rattle.vma_tlsf.specs.Inner.Wants.{state_of}
use Rattle.vma_tlsf.proofs.Cuts.{free_takes_none}
use Rattle.vma_tlsf.proofs.Conflicts.{takes, state_cases}
use Rattle.vma_tlsf.proofs.Fitting.{seen_cases}
use Rattle.vma_tlsf.proofs.Sounding.{taken_all, free_sound}

-- a slot whose range is taken from a start on
pub record IsTakenSlot (nodes : List (Option Node)) (start : ℕ) : Type 0 where
  pub slot : ℕ
  pub range : Range
  pub kind : Kind
  pub there : seen nodes slot ≡ Some range
  pub state : range.state ≡ state_of kind
  pub starts : range.start ≡ start

later : (x : Option Node) (xs : List (Option Node)) (start : ℕ) → IsTakenSlot xs start → IsTakenSlot (x ∷ xs) start
later x xs start s = record { slot = suc s.slot; range = s.range; kind = s.kind; there = s.there; state = s.state; starts = s.starts }

none_here : (x : Option Node) (xs : List (Option Node)) (start k : ℕ) (t : Taken) → ((j : ℕ) → j < length (taken_in xs) → get_or (taken_in xs) j t ≡ t → IsTakenSlot xs start)
    → k < length (taken_in (x ∷ xs)) → get_or (taken_in (x ∷ xs)) k t ≡ t → taken_in (x ∷ xs) ≡ taken_in xs → IsTakenSlot (x ∷ xs) start
none_here x xs start k t rest less is e = later x xs start (rest k (subst (λ ts. k < length ts) e less) (subst (λ ts. get_or ts k t ≡ t) e is))

one_here : (x : Option Node) (xs : List (Option Node)) (start : ℕ) (t : Taken) (q : Range) (l : Kind) → range_in x ≡ Some q → q.state ≡ state_of l → t.start ≡ start
    → ((j : ℕ) → j < length (taken_in xs) → get_or (taken_in xs) j t ≡ t → IsTakenSlot xs start)
    → (k : ℕ) → k < length (taken_in (x ∷ xs)) → get_or (taken_in (x ∷ xs)) k t ≡ t → taken_in (x ∷ xs) ≡ record { start = q.start; size = q.size; kind = l } ∷ taken_in xs → IsTakenSlot (x ∷ xs) start
one_here x xs start t q l there of at rest zero less is e =
    let same : record { start = q.start; size = q.size; kind = l } ≡ t = subst (λ ts. get_or ts 0 t ≡ t) e is in
    record { slot = 0; range = q; kind = l; there = there; state = of; starts = ap (λ (u : Taken). u.start) same ∙ at }
one_here x xs start t q l there of at rest (suc j) less is e =
    let less_next : suc j < suc (length (taken_in xs)) = subst (λ ts. suc j < length ts) e less in
    later x xs start (rest j (omega (arith, less_next)) (subst (λ ts. get_or ts (suc j) t ≡ t) e is))

pub taken_slot : (nodes : List (Option Node)) (start k : ℕ) (t : Taken) → k < length (taken_in nodes) → get_or (taken_in nodes) k t ≡ t → t.start ≡ start → IsTakenSlot nodes start
taken_slot [] start k t less is at = absurd (omega (arith, less))
taken_slot (x ∷ xs) start k t less is at = elim (seen_cases (range_in x)) [
  | inl none ↦ none_here x xs start k t (λ j few same. taken_slot xs start j t few same at) less is (ap (λ v. taken_here v ++ taken_in xs) none)
  | inr q ↦ elim (state_cases q.0.state) [
    | inl free ↦ none_here x xs start k t (λ j few same. taken_slot xs start j t few same at) less is (ap (λ v. taken_here v ++ taken_in xs) q.1 ∙ ap (λ ts. ts ++ taken_in xs) (free_takes_none q.0 free))
    | inr l ↦ one_here x xs start t q.0 l.0 q.1 l.1 at (λ j few same. taken_slot xs start j t few same at) k less is (ap (λ v. taken_here v ++ taken_in xs) q.1 ∙ ap (λ ts. ts ++ taken_in xs) (takes q.0 l.0 l.1))
  ]
]

pub slot_of : (nodes : List (Option Node)) (start : ℕ) → IsTakenAt start (taken_in nodes) → IsTakenSlot nodes start
slot_of nodes start any = taken_slot nodes start any.0 any.1 any.2 any.3 any.4

pub byte_there : (whole root : ℕ) (nodes : List (Option Node)) (start : ℕ) → IsBlock whole root nodes → IsTakenAt start (taken_in nodes) → HasByte nodes start
byte_there whole root nodes start block any =
    let s = slot_of nodes start any in
    let linked = block.chain.linked s.slot s.range s.there in
    (whole, root, block.bound, block.chain, omega (arith, linked.some, linked.inside, s.starts))

pub not_free : (l : Kind) → state_of l ≡ state.Free → ⊥
not_free kind.Linear e = cc
not_free kind.Optimal e = cc

-- a range that has the start of another is that one
one_slot : (whole root : ℕ) (f : ℕ → Option Range) → IsChain whole root f → (i j : ℕ) (r q : Range) → f i ≡ Some r → f j ≡ Some q → r.start ≤ q.start → q.start < r.start + r.size → i ≡ j
one_slot whole root f chain i j r q at_i at_j from to = elim (cases_eq i j) [
  | inl e ↦ e
  | inr other ↦
      let some_q = (chain.linked j q at_j).some in
      absurd (elim (chain.apart i j r q at_i at_j other) [
        | inl le ↦ omega (arith, le, to)
        | inr le ↦ omega (arith, le, some_q, from)
      ])
]

module _ (whole root : ℕ) (old : List (Option Node)) (slot start : ℕ) (block : IsBlock whole root old) (any : IsTakenAt start (taken_in old)) (found : IsSlotOf old slot start) where
  abbrev S : IsTakenSlot old start
  S = slot_of old start any

  there : seen old slot ≡ Some S.range
  there = ap (seen old) (one_slot whole root (seen old) block.chain slot S.slot found.0 S.range found.1 S.there (omega (arith, found.2, S.starts)) (omega (arith, found.3, S.starts))) ∙ S.there

  pub found_taken : IsTakenIn old slot
  found_taken = record { range = S.range; there = there; taken = λ e. not_free S.kind (sym S.state ∙ e) }

  abbrev T : Taken
  T = record { start = S.range.start; size = S.range.size; kind = S.kind }

  one : taken_here (seen old slot) ≡ T ∷ []
  one = ap taken_here there ∙ takes S.range S.kind S.state

  pub freed_block : (new : List (Option Node)) → IsReleased old new slot → IsBlock whole root new
  freed_block new released = free_sound taking_away_is_sound whole root old new slot start T block released one S.starts

  pub freed : (new : List (Option Node)) → IsReleased old new slot → TakesAway (taken_in old) (taken_in new) start
  freed new released = (T, S.starts, released.less T one)

-- what contracts see of a block
pub seen_all : (whole root : ℕ) (nodes : List (Option Node)) → IsBlock whole root nodes → taken (record { size = whole; taken = taken_in nodes }) ≡ taken_in nodes
seen_all whole root nodes block = taken_all (record { size = whole; taken = taken_in nodes }) block.sound

-- the same of the value of a block
pub now_taken : (whole root : ℕ) (nodes : List (Option Node)) (now : Block) → IsBlock whole root nodes → record { size = whole; taken = taken_in nodes } ≡ now → taken now ≡ taken_in nodes
now_taken whole root nodes now block view = ap taken (sym view) ∙ seen_all whole root nodes block

pub freed_seen : (whole root : ℕ) (old new : List (Option Node)) (now : Block) (slot start : ℕ) (block : IsBlock whole root old) (any : IsTakenAt start (taken_in old)) (found : IsSlotOf old slot start)
    → record { size = whole; taken = taken_in old } ≡ now → IsReleased old new slot → TakesAway (taken now) (taken (record { size = whole; taken = taken_in new })) start
freed_seen whole root old new now slot start block any found view released =
    subst (λ ts. TakesAway ts (taken (record { size = whole; taken = taken_in new })) start) (sym (now_taken whole root old now block view))
    (subst (λ ts. TakesAway (taken_in old) ts start) (sym (seen_all whole root new (freed_block whole root old slot start block any found new released)))
    (freed whole root old slot start block any found new released))
