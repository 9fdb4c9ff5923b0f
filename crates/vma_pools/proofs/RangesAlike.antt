-- Move targets and figures of alike blocks are the same.
use Rattle.std.proofs.Common.{◌≡◌, ℕ, List, [], ◌∷◌, refl, arith}
use Rattle.std.specs.List.{sum_by}
use Rattle.std.proofs.lemmas.List.Sums.{sum_by-cons}
use Rattle.vk_model.specs.Memory.MoveTargets.{Numbered}
use Rattle.vk_model.specs.Memory.Pools.{PoolBlock, numbered_blocks}
use Rattle.vma_pools.specs.Alike.{IsAlikeBlock, AreAlike}
use Rattle.vma_pools.specs.Inner.Lower.{ranges_of}

-- ---- figures

pub sums-alike : (f : Numbered → ℕ) → ((b c : PoolBlock) → IsAlikeBlock b c → f (ranges_of c) ≡ f (ranges_of b)) → (bs cs : List PoolBlock) → AreAlike bs cs
    → sum_by f (numbered_blocks cs) ≡ sum_by f (numbered_blocks bs)
sums-alike f same [] [] h = refl
sums-alike f same (b ∷ bs) (c ∷ cs) h =
    omega (arith, sum_by-cons f (ranges_of c) (numbered_blocks cs), sum_by-cons f (ranges_of b) (numbered_blocks bs), same b c h.0, sums-alike f same bs cs h.1)
sums-alike f same [] (c ∷ cs) h = absurd h
sums-alike f same (b ∷ bs) [] h = absurd h
