-- A walk over the blocks of a pool for a move target that begins where nothing lower has room, and ends with its own block.
use Rattle.std.proofs.Common.{◌≡◌, ℕ, ◌<◌, ◌≤◌, List, [], ◌∷◌, length, get_or, ap, subst, arith, inl, inr}
use Rattle.std.specs.Prelude.{All, AllPairs}
use Rattle.std.proofs.lemmas.Bool.{cases_lt}
use Rattle.std.proofs.lemmas.List.{length-map}
use Rattle.vk_model.specs.Memory.Suballocation.{Request}
use Rattle.vk_model.specs.Memory.Room.{Block}
use Rattle.vk_model.specs.Memory.MoveTargets.{BlockStart}
use Rattle.vk_model.specs.Memory.Pools.{PoolBlock, block_bytes}
use Rattle.vma_blocks.specs.Alike.{IsGeneral}
use Rattle.vma_pools.specs.Exhausted.{HasNoneBelow}
use Rattle.vma_pools.specs.declared.blocks.Held.{Held}
use Rattle.vma_pools.specs.Inner.Lower.{NoneLower}
use Rattle.vma_pools.specs.Inner.Walk.{numbered, seen, no_block}
use Rattle.vma_pools.proofs.LowerLemmas.{later-lower}
use Rattle.vma_pools.proofs.WalkLemmas.{at_index, get_or-map-in}
use Rattle.vma_pools.proofs.Exhausted.{none-earlier}

some-of : {A : Type 0} (xs : List A) (k : ℕ) → k < length xs → A
some-of [] k lt = absurd (omega (arith, lt))
some-of (x ∷ xs) k lt = x

module _ {B : Type 0} (block : B → Block) (first : List (Held B)) (from : BlockStart) (r : Request) where
  -- the blocks before the place where the search begins are passed over
  pub none-skipped : (low : BlockStart) (size i : ℕ) → All (λ b. IsGeneral b.block × (block_bytes b.block ≡ size)) (seen block first) → from.start ≤ size → All (HasNoneBelow low r) (seen block first)
      → i ≤ length first → ((k : ℕ) (d : Held B) → k < i → (get_or first k d).number < low.block) → NoneLower (seen block first) from r i
  none-skipped low size i general inside none le before k less =
      let lt : k < length first = omega (arith, less, le) in
      let held : k < length (seen block first) = omega (arith, lt, length-map first (numbered block)) in
      let d : Held B = some-of first k lt in
      let is = ap (λ (b : PoolBlock). b.number) (get_or-map-in (numbered block) first k d no_block lt) in
      none-earlier low r (get_or (seen block first) k no_block) (none k no_block held) from (omega (arith, inside, (general k no_block held).1)) (omega (arith, is, before k d less))

  module _ (now : List (Held B)) (i : ℕ) (x : Held B) (same : seen block now ≡ seen block first) (lt : i < length first) where
    -- the blocks from one on that is behind its own are passed over
    pub none-behind : AllPairs (λ b c. b.number < c.number) (seen block first) → NoneLower (seen block first) from r i → from.block < (get_or now i x).number → NoneLower (seen block first) from r (length first)
    none-behind rising none behind k less =
        let here = ap (λ (b : PoolBlock). b.number) (at_index block first now i x x.block same lt) in
        let b : PoolBlock = get_or (seen block first) k no_block in
        elim (cases_lt k i) [
          | inl l ↦ none k l
          | inr g ↦ later-lower from r b.number b.block (elim (cases_lt i k) [
            | inl l ↦ omega (arith, rising i k no_block l (omega (arith, less, length-map first (numbered block))), here, behind)
            | inr h ↦
                let at : k ≡ i = omega (arith, g, h) in
                omega (arith, ap (λ (j : ℕ). (get_or (seen block first) j no_block).number) at, here, behind)
          ])
        ]

-- what is known of the pool is known of the block that is asked
pub none-asked : {B : Type 0} (block : B → Block) (first now : List (Held B)) (i : ℕ) (x : Held B) → seen block now ≡ seen block first → i < length first → (low : BlockStart) (r : Request) → All (HasNoneBelow low r) (seen block first)
    → HasNoneBelow low r (numbered block (get_or now i x))
none-asked block first now i x same lt low r none =
    subst (HasNoneBelow low r) (at_index block first now i x x.block same lt) (none i no_block (omega (arith, lt, length-map first (numbered block))))
