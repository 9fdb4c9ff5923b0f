-- A pass without limits has no moves exactly where no allocation of its pool has a move target.
use Rattle.std.proofs.Common.{◌≡◌, ℕ, List, [], Option, None, sym, ap, subst, ◌∙◌}
use Rattle.std.specs.Prelude.{All, ◌↔◌, IsSomeAnd}
use Rattle.std.proofs.lemmas.List.Sorted.{All-permutation, IsPermutation-sym}
use Rattle.vk_model.specs.Memory.MoveTargets.{Numbered, Resident, Moved, move_target, pass_moves}
use Rattle.vk_model.specs.Memory.Pools.{numbered_blocks}
use Rattle.vk_model.proofs.Memory.PassMoves.{no_moves_left}
use Rattle.vma_pools.specs.Pools.{Kept}
use Rattle.vma_pools.specs.Listing.{residents_of}
use Rattle.vma_pools.specs.State.{PoolsState}
use Rattle.vma_defrag.specs.State.{DefragState}
use Rattle.vma_defrag.specs.declared.open.Planned.{Planned}
use Rattle.vma_defrag.specs.Passes.{IsEmptyWhereLowest}
use Rattle.vma_defrag.specs.Inner.Choosing.{HasChosen}
use Rattle.vma_defrag.specs.Inner.Planned.{moves_of}

module _ (d : DefragState) (s after : PoolsState) (planned : List Planned) (h : HasChosen s after d.pool d.max_bytes d.max_moves planned) (moves : List Moved) (are : moves ≡ moves_of planned) where
  abbrev Says : Kept → Type 0
  Says k = (moves ≡ []) ↔ All (λ a. move_target (numbered_blocks k.pool.blocks) a ≡ None) (residents_of s d.pool)

  abbrev blocks : List Numbered
  blocks = numbered_blocks h.kept.pool.blocks

  abbrev HasNone : Resident → Type 0
  HasNone a = move_target blocks a ≡ None

  pub empty_where : IsEmptyWhereLowest d s moves
  empty_where no_bytes no_moves =
      let left = no_moves_left blocks h.listed in
      let all_of : moves ≡ pass_moves 0 0 blocks h.listed = are ∙ h.moves ∙ ap (λ (n : ℕ). pass_moves n d.max_moves blocks h.listed) no_bytes ∙ ap (λ (n : ℕ). pass_moves 0 n blocks h.listed) no_moves in
      subst (λ (o : Option Kept). IsSomeAnd o Says) (sym h.there) (
        λ none. All-permutation HasNone h.listed (residents_of s d.pool) (IsPermutation-sym (residents_of s d.pool) h.listed h.by_place.same) (left.0 (sym all_of ∙ none)),
        λ all. all_of ∙ left.1 (All-permutation HasNone (residents_of s d.pool) h.listed h.by_place.same all),
      )
