-- The lowest place in a free range.
use Rattle.std.proofs.Common.{◌≡◌, ℕ, ◌+◌, ◌-◌, ◌*◌, ◌/◌, ◌%◌, ◌<◌, ◌≤◌, ◌^◌, ◌⊎◌, inl, inr, true, false, List, Option, Some, None, get_or, refl, ap, sym, ◌∙◌, arith}
use Rattle.std.specs.Prelude.{IsTrue, nat_le}
use Rattle.std.proofs.lemmas.Bool.{and_parts, leb-true}
use Rattle.vk_nodes.specs.declared.node.Node.{Node}
use Rattle.vk_model.specs.declared.resource.Kind.{Kind}
use Rattle.vk_model.specs.Memory.Suballocation.{IsRequest}
use Rattle.vk_model.specs.Memory.Room.{fits}
use Rattle.vma_tlsf.specs.declared.places.Want.{Want}
use Rattle.vma_tlsf.specs.Inner.Chain.{Range, range, seen, taken_in}
use Rattle.vma_tlsf.specs.Inner.Steps.{IsHeld}
use Rattle.vma_tlsf.specs.Inner.Changes.{HasChain}
use Rattle.vma_tlsf.specs.Inner.Wants.{request_of_want}
use Rattle.vma_tlsf.specs.Inner.Fits.{is_other, other_at, low_of, high_of, HasBlock, IsFreeNode, IsLowestIn}
use Rattle.vma_tlsf.proofs.Splits.{some_same, none_some}
use Rattle.vma_tlsf.proofs.Cuts.{node_seen, node_bound, node_range, seen_held}
use Rattle.vma_tlsf.proofs.Fitting.{bool_cases, cond_true, cond_false, other_is, fits_between, fits_only_between, low_from, high_to}

-- ---- neighbours of a free node

pub free_bound : (a : List (Option Node)) (node : Node) → HasChain a → IsFreeNode a node → node.start + node.size < 2 ^ 62
free_bound a node has free = node_bound a free.0 node has free.1 free.2

pub before_free_held : (a : List (Option Node)) (node : Node) (j : ℕ) → HasChain a → IsFreeNode a node → node.before ≡ Some j → IsHeld a j
before_free_held a node j has free on =
    let q = (has.3.linked free.0 (range node) (node_seen a free.0 node free.1 free.2)).before j on in
    seen_held a j q.range q.there

pub after_free_held : (a : List (Option Node)) (node : Node) (j : ℕ) → HasChain a → IsFreeNode a node → node.after ≡ Some j → IsHeld a j
after_free_held a node j has free on =
    let q = (has.3.linked free.0 (range node) (node_seen a free.0 node free.1 free.2)).after j on in
    seen_held a j q.range q.there

pub before_other : (a : List (Option Node)) (node n : Node) (j : ℕ) (k : Kind) → HasChain a → IsFreeNode a node → node.before ≡ Some j → get_or a j None ≡ Some n → other_at (seen a) node.before k ≡ is_other n.state k
before_other a node n j k has free on at =
    let q = (has.3.linked free.0 (range node) (node_seen a free.0 node free.1 free.2)).before j on in
    other_is (seen a) node.before j q.range k on q.there ∙ ap (λ r. is_other r.state k) (sym (node_range a j n q.range at q.there))

pub after_other : (a : List (Option Node)) (node n : Node) (j : ℕ) (k : Kind) → HasChain a → IsFreeNode a node → node.after ≡ Some j → get_or a j None ≡ Some n → other_at (seen a) node.after k ≡ is_other n.state k
after_other a node n j k has free on at =
    let q = (has.3.linked free.0 (range node) (node_seen a free.0 node free.1 free.2)).after j on in
    other_is (seen a) node.after j q.range k on q.there ∙ ap (λ r. is_other r.state k) (sym (node_range a j n q.range at q.there))

pub low_if : (f : ℕ → Option Range) (r : Range) (k : Kind) → other_at f r.before k ≡ true → (r.start + 1023) / 1024 * 1024 ≡ low_of f r k
low_if f r k e = sym (cond_true (other_at f r.before k) ((r.start + 1023) / 1024 * 1024) r.start e)

pub low_else : (f : ℕ → Option Range) (r : Range) (k : Kind) → other_at f r.before k ≡ false → r.start ≡ low_of f r k
low_else f r k e = sym (cond_false (other_at f r.before k) ((r.start + 1023) / 1024 * 1024) r.start e)

pub high_if : (f : ℕ → Option Range) (r : Range) (k : Kind) → other_at f r.after k ≡ true → (r.start + r.size) / 1024 * 1024 ≡ high_of f r k
high_if f r k e = sym (cond_true (other_at f r.after k) ((r.start + r.size) / 1024 * 1024) (r.start + r.size) e)

pub low_bound : (f : ℕ → Option Range) (r : Range) (k : Kind) → low_of f r k ≤ r.start + 1023
low_bound f r k = elim (bool_cases (other_at f r.before k)) [
  | inl e ↦ rw (sym (low_if f r k e)) (omega arith)
  | inr e ↦ rw (sym (low_else f r k e)) (omega arith)
]

-- ---- the next multiple

pub record IsUp (low align up : ℕ) : Type 0 where
  pub multiple : up % align ≡ 0
  pub above : low ≤ up
  pub near : up ≤ low + (align - 1)
  pub least : (s : ℕ) → s % align ≡ 0 → low ≤ s → up ≤ s

pub is_up : (low align : ℕ) → (align ≡ 16) ⊎ (align ≡ 64) ⊎ (align ≡ 256) → IsUp low align ((low + (align - 1)) / align * align)
is_up low align one = elim one [
  | inl e ↦ rw e (record { multiple = omega arith; above = omega arith; near = omega arith; least = λ s m le. omega arith })
  | inr two ↦ elim two [
    | inl e ↦ rw e (record { multiple = omega arith; above = omega arith; near = omega arith; least = λ s m le. omega arith })
    | inr e ↦ rw e (record { multiple = omega arith; above = omega arith; near = omega arith; least = λ s m le. omega arith })
  ]
]

-- ---- the place

ends_at_limit : (nodes : List (Option Node)) (want : Want) (limit s : ℕ) → fits (taken_in nodes) (request_of_want want) 0 limit s ≡ true → s + want.size ≤ limit
ends_at_limit nodes want limit s h = leb-true (s + want.size) limit (and_parts _ (nat_le (s + want.size) limit) (and_parts _ _ h).0).1

module _ (nodes : List (Option Node)) (node : Node) (want : Want) (limit : ℕ) (has : HasBlock nodes limit) (free : IsFreeNode nodes node) (request : IsRequest want.size want.align)
    (low high start : ℕ) (low_is : low ≡ low_of (seen nodes) (range node) want.kind) (high_is : high ≡ high_of (seen nodes) (range node) want.kind)
    (start_is : start ≡ (low + (want.align - 1)) / want.align * want.align) where
  here : seen nodes free.0 ≡ Some (range node)
  here = node_seen nodes free.0 node free.1 free.2

  up : IsUp low want.align start
  up = rw start_is (is_up low want.align request.aligned)

  from_low : node.start ≤ low
  from_low = rw low_is (low_from has.0 has.1 nodes has.2 free.0 (range node) here free.3 want.kind want.size request.some)

  to_high : high ≤ node.start + node.size
  to_high = rw high_is (high_to has.0 has.1 nodes has.2 free.0 (range node) here free.3 want.kind want.size request.some)

  only : (s : ℕ) → node.start ≤ s → s < node.start + node.size → IsTrue (fits (taken_in nodes) (request_of_want want) 0 limit s) → (start ≤ s) × (s + want.size ≤ high)
  only s from to h =
      let b = fits_only_between has.0 has.1 nodes has.2 free.0 (range node) here free.3 want.kind want.size request.some want.align limit s has.3 from to h in
      let low_le : low ≤ s = rw low_is b.low in
      (up.least s b.aligned low_le, rw high_is b.high)

  pub lowest_some : start + want.size ≤ high → start + want.size ≤ limit → IsLowestIn nodes node (request_of_want want) limit (Some start)
  lowest_some within ends =
      let above = up.above in
      let from = from_low in
      let to = to_high in
      record {
        fitting = λ s e.
            let same : start ≡ s = some_same start s e in
            let low_le : low_of (seen nodes) (range node) want.kind ≤ s = rw (sym low_is) (omega arith) in
            let high_le : s + want.size ≤ high_of (seen nodes) (range node) want.kind = rw (sym high_is) (omega arith) in
            fits_between has.0 has.1 nodes has.2 free.0 (range node) here free.3 want.kind want.size request.some want.align limit s (rw (sym same) up.multiple) low_le high_le (omega arith);
        from = λ s e. let same = some_same start s e in omega arith;
        to = λ s e. let same = some_same start s e in omega arith;
        lowest = λ s other e from_other less h.
            let same = some_same start s e in
            let o = only other from_other (omega arith) h in
            let le = o.0 in
            omega arith;
        none = λ e. absurd (none_some start (Some start) e refl);
      }

  pub lowest_none : (start + want.size ≤ high → start + want.size ≤ limit → ⊥) → IsLowestIn nodes node (request_of_want want) limit None
  lowest_none over = record {
    fitting = λ s e. absurd (none_some s None refl e);
    from = λ s e. absurd (none_some s None refl e);
    to = λ s e. absurd (none_some s None refl e);
    lowest = λ s other e. absurd (none_some s None refl e);
    none = λ _ other from to h.
        let o = only other from to h in
        let le = o.0 in
        let within = o.1 in
        over (omega arith) (omega (arith, ends_at_limit nodes want limit other h));
  }

-- the numbers stay small
pub record AreSmall (low align up : ℕ) : Type 0 where
  pub more : low + (align - 1) < 2 ^ 63
  pub up_small : up < 2 ^ 63

pub are_small : (nodes : List (Option Node)) (node : Node) (want : Want) (low : ℕ) → HasChain nodes → IsFreeNode nodes node → IsRequest want.size want.align → low ≡ low_of (seen nodes) (range node) want.kind → AreSmall low want.align ((low + (want.align - 1)) / want.align * want.align)
are_small nodes node want low has free request low_is =
    let bound = free_bound nodes node has free in
    let le = low_bound (seen nodes) (range node) want.kind in
    let aligned : want.align ≤ 256 = elim request.aligned [ inl e ↦ omega arith | inr two ↦ elim two [ inl e ↦ omega arith | inr e ↦ omega arith ] ] in
    let near = (is_up low want.align request.aligned).near in
    record { more = omega arith; up_small = omega arith }

pub block_chain : (nodes : List (Option Node)) (limit : ℕ) → HasBlock nodes limit → HasChain nodes
block_chain nodes limit has = (has.0, has.1, has.2.bound, has.2.chain)
