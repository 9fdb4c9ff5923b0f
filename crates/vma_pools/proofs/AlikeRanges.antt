-- Pools that are alike have the same ranges.
use Rattle.std.proofs.Common.{◌≡◌, ℕ, ◌∙◌, sym, subst}
use Rattle.std.specs.Prelude.{Contains}
use Rattle.std.proofs.lemmas.List.Sorted.{Contains-permutation}
use Rattle.vk_model.specs.Memory.Suballocation.{Taken}
use Rattle.vk_model.specs.Memory.Room.{Block, General, Stack, Linear, all_taken}
use Rattle.vk_model.specs.Memory.Pools.{PoolBlock, Pool, block_taken}
use Rattle.vma_blocks.specs.Alike.{IsAlike}
use Rattle.vma_pools.specs.Alike.{IsAlikeBlock, IsAlikePool}
use Rattle.vma_pools.specs.Ranges.{HasRange}
use Rattle.vma_pools.proofs.PoolAlike.{any-alike, pool-sym}

alike-taken : (b c : Block) (t : Taken) → IsAlike b c → Contains (block_taken b) t → Contains (block_taken c) t
alike-taken (General size ts) (General n us) t same at = Contains-permutation ts us t same.1 at
alike-taken (Stack b) (Stack c) t same at = subst (λ (k : Linear). Contains (all_taken k) t) (sym same) at
alike-taken (General size ts) (Stack c) t same at = absurd same
alike-taken (Stack b) (General n us) t same at = absurd same

pub alike-range : (p q : Pool) → IsAlikePool p q → (n : ℕ) (t : Taken) → HasRange p n t → HasRange q n t
alike-range p q same n t h =
    let P = λ (b : PoolBlock). (b.number ≡ n) × Contains (block_taken b.block) t in
    let to : (b c : PoolBlock) → IsAlikeBlock b c → P b → P c = λ b c alike has. (alike.0 ∙ has.0, alike-taken b.block c.block t alike.1 has.1) in
    let a = any-alike P P to p.blocks q.blocks same.blocks (h.there.0, h.block, h.there.1, h.there.2, (h.number, h.range)) in
    record { block = a.1; there = (a.0, a.2, a.3); number = a.4.0; range = a.4.1 }

pub range-alike : (p q : Pool) → IsAlikePool p q → (n : ℕ) (t : Taken) → HasRange q n t → HasRange p n t
range-alike p q same n t h = alike-range q p (pool-sym p q same) n t h
