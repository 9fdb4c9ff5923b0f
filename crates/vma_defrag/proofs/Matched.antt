-- Each block stays one memory object when targets are reserved.
use Rattle.std.proofs.Common.{◌≡◌, ℕ, List, [], ◌∷◌, length, false, Option, Some, None, refl, sym, ap, subst, ◌∙◌}
use Rattle.vk_model.specs.Memory.MoveTargets.{Moved}
use Rattle.vk_model.specs.Memory.Pools.{pool_with}
use Rattle.vma_pools.specs.Pools.{Kept}
use Rattle.vma_pools.specs.State.{PoolsState, pool_at, request_in, start_of}
use Rattle.vma_pools.proofs.PoolAlike.{are-length}
use Rattle.vma_pools.proofs.CountedLemmas.{old-blocks}
use Rattle.vma_defrag.specs.Plans.{AreMatched}
use Rattle.vma_defrag.specs.Passes.{AreAlikeKept, AreAlikePools, Reserves}
use Rattle.vma_defrag.proofs.Settles.{changed_matched}

pub reserves_matched : (ms : List Moved) (s t : PoolsState) → Reserves s ms t → AreMatched s → AreMatched t
reserves_matched [] s t h matched = subst AreMatched (sym h) matched
reserves_matched (m ∷ ms) s t h matched =
    let r = h.3 in let asked = request_in r.allocation.asked in
    let same = are-length (pool_with r.was.pool asked false (start_of h.1)).blocks r.now.pool.blocks r.takes.pool.blocks in
    reserves_matched ms h.0 t h.4
    (changed_matched s h.0 r.pool r.was r.now matched r.there (ap (λ (x : PoolsState). x.pools) r.state)
    (λ long. ap (λ (l : List ℕ). length l) r.takes.memories ∙ long ∙ sym (same ∙ old-blocks r.was.pool asked false (start_of h.1) r.takes.has)))

pub alike_matched : (s t : PoolsState) → AreAlikePools s t → AreMatched s → AreMatched t
alike_matched s t h matched p k at = go (pool_at s p) refl (subst (λ (o : Option Kept). AreAlikeKept (pool_at s p) o) at (h.pools p))
  where
    go : (o : Option Kept) → pool_at s p ≡ o → AreAlikeKept o (Some k) → length k.memories ≡ length k.pool.blocks
    go None e alike = absurd alike
    go (Some l) e alike = ap (λ (x : List ℕ). length x) alike.1 ∙ matched p l e ∙ sym (are-length l.pool.blocks k.pool.blocks alike.0.blocks)
