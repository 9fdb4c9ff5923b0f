-- Places that pools give are aligned.
use Rattle.std.proofs.Common.{◌≡◌, ℕ, ◌%◌, List, [], ◌∷◌, Bool, true, false, ◌==◌, subst, arith, inl, inr, ◌⊎◌}
use Rattle.std.specs.Prelude.{max, All, ⊤}
use Rattle.std.proofs.lemmas.List.Elements.{All-head, All-tail}
use Rattle.vk_model.specs.declared.resource.PoolInfo.{PoolInfo}
use Rattle.vk_model.specs.declared.resource.PoolKind.{PoolKind}
use Rattle.vk_model.specs.declared.resource.PoolKind.TheVariants as algorithm
use Rattle.vk_model.specs.Memory.Suballocation.{Request, IsRequest}
use Rattle.vk_model.specs.Memory.Room.{Block, General, Stack, all_taken}
use Rattle.vk_model.specs.Memory.MoveTargets.{BlockStart}
use Rattle.vk_model.specs.Memory.LinearBlocks.{IsLinearBlock}
use Rattle.vk_model.specs.Memory.Pools.{Pool, PoolBlock, IsSoundBlock, IsPool, BlockGives, GivesFrom, Gives, new_block, empty_block}
use Rattle.vk_model.proofs.Memory.Taken.{fitting}
use Rattle.vk_model.proofs.Memory.LinearBlocks.{linear_takes, linear_stays}

-- a linear block is one
abbrev IsLinearIf : Block → Type 0
IsLinearIf (General size taken) = ⊤
IsLinearIf (Stack b) = IsLinearBlock b

start_aligned : (k : Block) → IsLinearIf k → (r : Request) (upper : Bool) (start : ℕ) → BlockGives k r upper start → start % r.align ≡ 0
start_aligned (General size taken) linear r upper start gives = (fitting taken r 0 size start gives).aligned
start_aligned (Stack b) linear r true start gives = (fitting (all_taken b) r 0 b.size start ((linear_takes.upper b r linear).fitting start gives)).aligned
start_aligned (Stack b) linear r false start gives = (fitting (all_taken b) r 0 b.size start ((linear_takes.lower b r linear).fitting start gives)).aligned

sound_linear : (k : Block) → IsSoundBlock k → IsLinearIf k
sound_linear (General size taken) sound = tt
sound_linear (Stack b) sound = sound

new_linear : (info : PoolInfo) → IsLinearIf (new_block info)
new_linear info = go info.kind
  where
    go : (k : PoolKind) → IsLinearIf (empty_block k info)
    go algorithm.Tlsf = tt
    go algorithm.Linear = linear_stays.first info.block_size (info.block_limit == 1)

from_aligned : (info : PoolInfo) (next : ℕ) (bs : List PoolBlock) (r : Request) (upper : Bool) (s : BlockStart) → All (λ b. IsSoundBlock b.block) bs → GivesFrom info next bs r upper s → s.start % r.align ≡ 0
from_aligned info next [] r upper s sound gives = start_aligned (new_block info) (new_linear info) r upper s.start gives.1
from_aligned info next (b ∷ bs) r upper s sound (inl here) = start_aligned b.block (sound_linear b.block (All-head (λ (c : PoolBlock). IsSoundBlock c.block) b bs sound)) r upper s.start here.1
from_aligned info next (b ∷ bs) r upper s sound (inr later) = from_aligned info next bs r upper s (All-tail (λ (c : PoolBlock). IsSoundBlock c.block) b bs sound) later.1

pub gives_aligned : (p : Pool) → IsPool p → (r : Request) (upper : Bool) (s : BlockStart) → Gives p r upper s → s.start % r.align ≡ 0
gives_aligned p h r upper s gives = from_aligned p.info p.next p.blocks r upper s h.sound gives

-- on cached memory they begin with an atom
pub atom_aligned : (start align size : ℕ) → IsRequest size align → start % max 64 align ≡ 0 → start % 64 ≡ 0
atom_aligned start align size asks e = go asks.aligned
  where
    go : (align ≡ 16) ⊎ (align ≡ 64) ⊎ (align ≡ 256) → start % 64 ≡ 0
    go (inl is) = subst (λ (n : ℕ). start % max 64 n ≡ 0) is e
    go (inr (inl is)) = subst (λ (n : ℕ). start % max 64 n ≡ 0) is e
    go (inr (inr is)) = let f : start % 256 ≡ 0 = subst (λ (n : ℕ). start % max 64 n ≡ 0) is e in omega (arith, f)
