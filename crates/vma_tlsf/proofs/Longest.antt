-- The longest free range of a block.
use Rattle.std.proofs.Common.{◌≡◌, ℕ, zero, suc, ◌+◌, ◌<◌, ◌≤◌, inl, inr, Bool, true, false, not, get_or, List, Option, Some, None, refl, ap, sym, subst, ◌∙◌, arith}
use Rattle.std.specs.Prelude.{IsTrue, nat_le, max}
use Rattle.std.specs.List.{list_any}
use Rattle.std.proofs.lemmas.Bool.{and_parts, and_from, not-true, leb-true, le-leb, lt-ltb}
use Rattle.std.proofs.lemmas.Bool.Decides.{leb_tells}
use Rattle.vk_nodes.specs.declared.node.Node.{Node}
use Rattle.vk_nodes.specs.declared.node.RangeState.TheVariants as state
use Rattle.vk_model.specs.declared.resource.Kind.{Kind}
use Rattle.vk_model.specs.declared.resource.Kind.TheVariants as kind
use Rattle.vk_model.specs.Memory.Suballocation.{Taken, IsLargestFree, is_free, ranges_meet}
use Rattle.vma_tlsf.specs.Block.{Block, taken}
use Rattle.vma_tlsf.specs.Inner.Chain.{Range, range, seen, taken_in, taken_here}
use Rattle.vma_tlsf.specs.Inner.Fits.{IsBlock, free_part, free_size}
use Rattle.vma_tlsf.specs.Inner.Wants.{state_of}
use Rattle.vma_tlsf.proofs.Splits.{some_same}
use Rattle.vma_tlsf.proofs.Cuts.{node_seen, free_takes_none}
use Rattle.vma_tlsf.proofs.Conflicts.{any_none, any_each, one_any, state_cases, meet_none}
use Rattle.vma_tlsf.proofs.Fitting.{option_cases, seen_cases}
use Rattle.vma_tlsf.proofs.Walking.{IsAt, begin_at}
use Rattle.vma_tlsf.specs.Inner.Changes.{HasChain}
use Rattle.vma_tlsf.proofs.Freed.{not_free, now_taken}

-- the longest free range that starts below a bound
pub record IsLongestTo (whole : ℕ) (nodes : List (Option Node)) (to longest : ℕ) : Type 0 where
  pub start : ℕ
  pub free : IsTrue (is_free whole (taken_in nodes) start longest)
  pub most : (other n : ℕ) → other < to → IsTrue (is_free whole (taken_in nodes) other n) → n ≤ longest

-- ---- what is free

abbrev Meets : ℕ → ℕ → Taken → Bool
Meets start n r = ranges_meet r.start r.size start n

free_of : (whole : ℕ) (nodes : List (Option Node)) (start n : ℕ) → start + n ≤ whole → ((j : ℕ) → list_any (Meets start n) (taken_here (seen nodes j)) ≡ false) → IsTrue (is_free whole (taken_in nodes) start n)
free_of whole nodes start n inside each = and_from (nat_le (start + n) whole) (not (list_any (Meets start n) (taken_in nodes))) (le-leb (start + n) whole inside) (ap not (any_none (Meets start n) nodes each))

free_inside : (whole : ℕ) (nodes : List (Option Node)) (start n : ℕ) → IsTrue (is_free whole (taken_in nodes) start n) → start + n ≤ whole
free_inside whole nodes start n h = leb-true (start + n) whole (and_parts (nat_le (start + n) whole) (not (list_any (Meets start n) (taken_in nodes))) h).0

meets_none : (whole : ℕ) (nodes : List (Option Node)) (start n : ℕ) → IsTrue (is_free whole (taken_in nodes) start n) → list_any (Meets start n) (taken_in nodes) ≡ false
meets_none whole nodes start n h = not-true (list_any (Meets start n) (taken_in nodes)) (and_parts (nat_le (start + n) whole) (not (list_any (Meets start n) (taken_in nodes))) h).1

pub clear_here : (p : Taken → Bool) (v : Option Range) → ((q : Range) (l : Kind) → v ≡ Some q → q.state ≡ state_of l → p (record { start = q.start; size = q.size; kind = l }) ≡ false) → list_any p (taken_here v) ≡ false
clear_here p v h = elim (seen_cases v) [
  | inl none ↦ ap (λ o. list_any p (taken_here o)) none
  | inr q ↦ elim (state_cases q.0.state) [
    | inl free ↦ ap (λ o. list_any p (taken_here o)) q.1 ∙ ap (list_any p) (free_takes_none q.0 free)
    | inr l ↦ ap (λ o. list_any p (taken_here o)) q.1 ∙ one_any p q.0 l.0 l.1 ∙ h q.0 l.0 q.1 l.1
  ]
]

-- a taken range isn't met
unmet : (whole : ℕ) (nodes : List (Option Node)) (start n j : ℕ) (q : Range) (l : Kind) → IsTrue (is_free whole (taken_in nodes) start n) → seen nodes j ≡ Some q → q.state ≡ state_of l
    → 0 < n → 0 < q.size → q.start < start + n → start < q.start + q.size → ⊥
unmet whole nodes start n j q l h there of some_n some_q one two =
    let none : ranges_meet q.start q.size start n ≡ false = sym (ap (λ v. list_any (Meets start n) (taken_here v)) there ∙ one_any (Meets start n) q l of) ∙ any_each (Meets start n) nodes (meets_none whole nodes start n h) j in
    let yes : ranges_meet q.start q.size start n ≡ true = rw (lt-ltb 0 q.size some_q, lt-ltb 0 n some_n, lt-ltb q.start (start + n) one, lt-ltb start (q.start + q.size) two) refl in
    let no_yes : true ≡ false = sym yes ∙ none in
    cc

pub longest_at_first : (whole : ℕ) (nodes : List (Option Node)) → IsLongestTo whole nodes 0 0
longest_at_first whole nodes = record {
  start = 0;
  free = free_of whole nodes 0 0 (omega arith) (λ j. clear_here (Meets 0 0) (seen nodes j) (λ q l there of. meet_none q.start q.size 0 0 (inr (omega arith))));
  most = λ other n less. absurd (omega (arith, less));
}

-- ---- one range further

module _ (whole root : ℕ) (nodes : List (Option Node)) (block : IsBlock whole root nodes) (slot : ℕ) (node : Node) (at : IsAt nodes slot node) where
  here : seen nodes slot ≡ Some (range node)
  here = node_seen nodes slot node at.here at.some

  node_free : node.state ≡ state.Free → IsTrue (is_free whole (taken_in nodes) node.start node.size)
  node_free free =
      free_of whole nodes node.start node.size (block.chain.linked slot (range node) here).inside
      (λ j. clear_here (Meets node.start node.size) (seen nodes j) (λ q l there of.
      meet_none q.start q.size node.start node.size
      (block.chain.apart j slot q (range node) there here
      (λ e. not_free l (sym of ∙ ap (λ r. r.state) (some_same q (range node) (sym there ∙ ap (seen nodes) e ∙ here)) ∙ free)))))

  most_here : (other n : ℕ) → node.start ≤ other → other < node.start + node.size → IsTrue (is_free whole (taken_in nodes) other n) → n ≤ free_size (range node)
  most_here other zero from to h = omega arith
  most_here other (suc n) from to h = elim (state_cases node.state) [
    | inl free ↦
        let all : free_size (range node) ≡ node.size = ap (λ s. free_part s node.size) free in
        elim (option_cases node.after) [
          | inl none ↦
              let ends = (block.chain.linked slot (range node) here).last none in
              let inside = free_inside whole nodes other (suc n) h in
              omega (arith, ends, inside, all, from)
          | inr j ↦
              let next = (block.chain.linked slot (range node) here).after j.0 j.1 in
              let touches = next.touches in
              let some = (block.chain.linked j.0 next.range next.there).some in
              elim (leb_tells (other + suc n) (node.start + node.size)) [
                | inl within ↦ omega (arith, within.1, all, from)
                | inr over ↦ elim (state_cases next.range.state) [
                  | inl free_next ↦ absurd (next.not_both free free_next)
                  | inr l ↦ absurd (unmet whole nodes other (suc n) j.0 next.range l.0 h next.there l.1 (omega arith) some (omega (arith, touches, over.1)) (omega (arith, touches, to)))
                ]
              ]
        ]
    | inr l ↦ absurd (unmet whole nodes other (suc n) slot (range node) l.0 h here l.1 (omega arith) at.some (omega (arith, from)) to)
  ]

  pub longest_further : (longest next : ℕ) → IsLongestTo whole nodes node.start longest → next ≡ max longest (free_size (range node)) → IsLongestTo whole nodes (node.start + node.size) next
  longest_further longest next before is = elim (leb_tells (free_size (range node)) longest) [
    | inl le ↦
        let same : longest ≡ next = omega (arith, le.1, is) in
        record { start = before.start; free = subst (λ n. IsTrue (is_free whole (taken_in nodes) before.start n)) same before.free; most = most_next }
    | inr more ↦ elim (state_cases node.state) [
      | inl free ↦
          let all : free_size (range node) ≡ node.size = ap (λ s. free_part s node.size) free in
          let same : node.size ≡ next = omega (arith, more.1, is, all) in
          record { start = node.start; free = subst (λ n. IsTrue (is_free whole (taken_in nodes) node.start n)) same (node_free free); most = most_next }
      | inr l ↦ absurd (let nothing = none_taken l.0 l.1 in omega (arith, more.1, nothing))
    ]
  ]
    where
      none_taken : (l : Kind) → node.state ≡ state_of l → free_size (range node) ≡ 0
      none_taken l e = ap (λ s. free_part s node.size) e ∙ zero_of l
        where
          zero_of : (k : Kind) → free_part (state_of k) node.size ≡ 0
          zero_of kind.Linear = refl
          zero_of kind.Optimal = refl

      most_next : (other n : ℕ) → other < node.start + node.size → IsTrue (is_free whole (taken_in nodes) other n) → n ≤ next
      most_next other n less h = elim (leb_tells node.start other) [
        | inl from ↦ let le = most_here other n from.1 less h in omega (arith, le, is)
        | inr under ↦ let le = before.most other n under.1 h in omega (arith, le, is)
      ]

  pub longest_at_last : (longest : ℕ) → node.after ≡ None → IsLongestTo whole nodes (node.start + node.size) longest → IsLargestFree whole (taken_in nodes) longest
  longest_at_last longest last all =
      let ends : node.start + node.size ≡ whole = (block.chain.linked slot (range node) here).last last in
      record {
        start = all.start;
        free = all.free;
        most = λ other n h. elim (leb_tells whole other) [
          | inl over ↦ let inside = free_inside whole nodes other n h in omega (arith, over.1, inside)
          | inr less ↦ all.most other n (omega (arith, less.1, ends)) h
        ];
      }

-- the same of the value of a block
pub largest_seen : (whole root : ℕ) (nodes : List (Option Node)) (now : Block) (longest : ℕ) → IsBlock whole root nodes → record { size = whole; taken = taken_in nodes } ≡ now → IsLargestFree whole (taken_in nodes) longest → IsLargestFree now.size (taken now) longest
largest_seen whole root nodes now longest block view largest =
    subst (λ n. IsLargestFree n (taken now) longest) (ap (λ (b : Block). b.size) view) (subst (λ ts. IsLargestFree whole ts longest) (sym (now_taken whole root nodes now block view)) largest)

-- ---- the walk's begin

pub block_chain_of : (whole root : ℕ) (nodes : List (Option Node)) → IsBlock whole root nodes → HasChain nodes
block_chain_of whole root nodes block = (whole, root, block.bound, block.chain)

pub begins_here : (whole root : ℕ) (nodes : List (Option Node)) (node : Node) → IsBlock whole root nodes → get_or nodes root None ≡ Some node → IsAt nodes root node × (node.start ≡ 0)
begins_here whole root nodes node block is = begin_at nodes root 0 node (whole, block, omega arith) is
