-- Whether nothing is taken of a block.
use Rattle.std.proofs.Common.{◌≡◌, ℕ, suc, ◌+◌, ◌≤◌, ◌==◌, inl, inr, List, [], ◌∷◌, length, Bool, true, false, not, get_or, Option, Some, None, refl, ap, sym, ◌∙◌, arith}
use Rattle.std.specs.List.{list_any}
use Rattle.std.proofs.lemmas.Bool.{cases_eq, eq-eqb, eqb-true, false_from_ne_true}
use Rattle.vk_nodes.specs.declared.node.Node.{Node}
use Rattle.vk_nodes.specs.declared.node.RangeState.TheVariants as state
use Rattle.vk_model.specs.declared.resource.Kind.{Kind}
use Rattle.vk_model.specs.declared.resource.Kind.TheVariants as kind
use Rattle.vk_model.specs.Memory.Suballocation.{Taken}
use Rattle.vk_model.specs.Memory.Room.{is_none_left}
use Rattle.vma_tlsf.specs.Block.{Block, taken}
use Rattle.vma_tlsf.specs.Inner.Chain.{Range, range, seen, taken_in, taken_here}
use Rattle.vma_tlsf.specs.Inner.Fits.{IsBlock, free_part, free_size}
use Rattle.vma_tlsf.specs.Inner.Wants.{state_of}
use Rattle.vma_tlsf.proofs.Splits.{some_same}
use Rattle.vma_tlsf.proofs.Cuts.{node_seen}
use Rattle.vma_tlsf.proofs.Conflicts.{any_none, any_each, one_any, state_cases}
use Rattle.vma_tlsf.proofs.Fitting.{option_cases}
use Rattle.vma_tlsf.proofs.Freed.{not_free, now_taken}
use Rattle.vma_tlsf.proofs.Walking.{IsAt}
use Rattle.vma_tlsf.proofs.Longest.{begins_here, clear_here}

abbrev each_one : Taken → Bool
each_one t = true

none_left_of : (ts : List Taken) → is_none_left ts ≡ not (list_any each_one ts)
none_left_of [] = refl
none_left_of (t ∷ ts) = false_from_ne_true (suc (length ts) == 0) (λ e. let zero_length = eqb-true (suc (length ts)) 0 e in absurd (omega (arith, zero_length)))

none_of_kind : (l : Kind) (n : ℕ) → free_part (state_of l) n ≡ 0
none_of_kind kind.Linear n = refl
none_of_kind kind.Optimal n = refl

module _ (whole root : ℕ) (nodes : List (Option Node)) (block : IsBlock whole root nodes) (node : Node) (is : get_or nodes root None ≡ Some node) where
  begins : IsAt nodes root node × (node.start ≡ 0)
  begins = begins_here whole root nodes node block is

  here : seen nodes root ≡ Some (range node)
  here = node_seen nodes root node begins.0.here begins.0.some

  inside : node.start + node.size ≤ whole
  inside = (block.chain.linked root (range node) here).inside

  -- a taken range of a slot leaves no free range of the whole block
  none_else : node.state ≡ state.Free → node.size ≡ whole → (j : ℕ) (q : Range) (l : Kind) → seen nodes j ≡ Some q → q.state ≡ state_of l → ⊥
  none_else free all j q l there of = elim (cases_eq j root) [
    | inl e ↦ not_free l (sym of ∙ ap (λ r. r.state) (some_same q (range node) (sym there ∙ ap (seen nodes) e ∙ here)) ∙ free)
    | inr other ↦
        let linked = block.chain.linked j q there in
        let some = linked.some in
        let ends = linked.inside in
        let first = begins.1 in
        elim (block.chain.apart j root q (range node) there here other) [
          | inl le ↦ omega (arith, le, some, first)
          | inr le ↦ omega (arith, le, some, ends, all, first)
        ]
  ]

  all_free : free_size (range node) ≡ whole → list_any each_one (taken_in nodes) ≡ false
  all_free e = elim (state_cases node.state) [
    | inl free ↦
        let all : node.size ≡ whole = sym (ap (λ s. free_part s node.size) free) ∙ e in
        any_none each_one nodes (λ j. clear_here each_one (seen nodes j) (λ q l there of. absurd (none_else free all j q l there of)))
    | inr l ↦
        let none : free_size (range node) ≡ 0 = ap (λ s. free_part s node.size) l.1 ∙ none_of_kind l.0 node.size in
        let some = begins.0.some in
        let within = inside in
        absurd (omega (arith, none, e, some, within))
  ]

  some_taken : (j : ℕ) (q : Range) (l : Kind) → seen nodes j ≡ Some q → q.state ≡ state_of l → list_any each_one (taken_in nodes) ≡ false → ⊥
  some_taken j q l there of none =
      let no : true ≡ false = sym (ap (λ v. list_any each_one (taken_here v)) there ∙ one_any each_one q l of) ∙ any_each each_one nodes none j in
      cc

  not_all : (free_size (range node) ≡ whole → ⊥) → list_any each_one (taken_in nodes) ≡ false → ⊥
  not_all other none = elim (state_cases node.state) [
    | inl free ↦
        let all : free_size (range node) ≡ node.size = ap (λ s. free_part s node.size) free in
        let first = begins.1 in
        elim (option_cases node.after) [
          | inl last ↦
              let ends = (block.chain.linked root (range node) here).last last in
              other (omega (arith, all, ends, first))
          | inr j ↦
              let next = (block.chain.linked root (range node) here).after j.0 j.1 in
              elim (state_cases next.range.state) [
                | inl free_next ↦ next.not_both free free_next
                | inr l ↦ some_taken j.0 next.range l.0 next.there l.1 none
              ]
        ]
    | inr l ↦ some_taken root (range node) l.0 here l.1 none
  ]

  pub nothing_taken : (free_size (range node) == whole) ≡ is_none_left (taken_in nodes)
  nothing_taken = elim (cases_eq (free_size (range node)) whole) [
    | inl e ↦ eq-eqb (free_size (range node)) whole e ∙ sym (none_left_of (taken_in nodes) ∙ ap not (all_free e))
    | inr other ↦
        false_from_ne_true (free_size (range node) == whole) (λ e. other (eqb-true (free_size (range node)) whole e))
        ∙ sym (none_left_of (taken_in nodes) ∙ ap not (some_there (list_any each_one (taken_in nodes)) refl other))
  ]
    where
      some_there : (b : Bool) → list_any each_one (taken_in nodes) ≡ b → (free_size (range node) ≡ whole → ⊥) → list_any each_one (taken_in nodes) ≡ true
      some_there true e other = e
      some_there false e other = absurd (not_all other e)

-- the same of the value of a block
pub empty_seen : (whole root : ℕ) (nodes : List (Option Node)) (now : Block) (answer : Bool) → IsBlock whole root nodes → record { size = whole; taken = taken_in nodes } ≡ now → answer ≡ is_none_left (taken_in nodes) → answer ≡ is_none_left (taken now)
empty_seen whole root nodes now answer block view is = is ∙ ap is_none_left (sym (now_taken whole root nodes now block view))
