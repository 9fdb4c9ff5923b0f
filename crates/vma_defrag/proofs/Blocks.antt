-- The blocks of a pool when a move target is taken there.
use Rattle.std.proofs.Common.{◌≡◌, ◌<◌, List, [], ◌∷◌, Bool, true, false, ◌==◌, refl, sym, ap, subst, ◌∙◌, arith}
use Rattle.std.specs.Prelude.{Contains, if◌then◌else◌}
use Rattle.std.proofs.lemmas.List.Elements.{All-contains}
use Rattle.vk_model.specs.declared.resource.PoolKind.{PoolKind}
use Rattle.vk_model.specs.declared.resource.PoolKind.TheVariants as algorithm
use Rattle.vk_model.specs.Memory.Suballocation.{Request, taken_at}
use Rattle.vk_model.specs.Memory.Room.{Block, General, Stack}
use Rattle.vk_model.specs.Memory.MoveTargets.{BlockStart, Numbered, reserved}
use Rattle.vk_model.specs.Memory.Pools.{PoolBlock, Pool, block_bytes, block_taken, block_with, in_block, numbered_blocks, pool_with, with_change}
use Rattle.vk_model.proofs.Lists.Members.{contains-head, contains-tail}
use Rattle.vma_blocks.specs.Alike.{IsGeneral}
use Rattle.vma_pools.specs.Alike.{AreAlike}
use Rattle.vma_pools.specs.Pools.{Kept, TakesTarget}
use Rattle.vma_pools.specs.Inner.Kinds.{IsKeptPool, IsOfKind, IsOfPool}
use Rattle.vma_pools.proofs.RangeLemmas.{old-is}
use Rattle.vma_pools.proofs.StateLemmas.{given-info}
use Rattle.vma_defrag.proofs.Likeness.{AllHaveSame, blocks-same}

abbrev pub ranges : PoolBlock → Numbered
ranges b = record { number = b.number; size = block_bytes b.block; taken = block_taken b.block }

-- a block of a pool that can be defragmented can be
pub general-block : (p : Pool) → IsKeptPool p → p.info.kind ≡ algorithm.Tlsf → (b : PoolBlock) → Contains p.blocks b → IsGeneral b.block
general-block p kept kind b at = subst (λ (k : PoolKind). IsOfKind k b.block) kind (All-contains (λ c. IsOfPool p.info c.block) p.blocks b kept.kinds at).kind

module _ (s : BlockStart) (r : Request) where
  abbrev pub put : Block → Block
  put k = block_with k r false s.start

  abbrev with_range : Bool → PoolBlock → Numbered
  with_range v b = if v then record (ranges b) { taken = taken_at s.start r ∷ block_taken b.block } else ranges b

  one-reserved : (b : PoolBlock) → IsGeneral b.block → with_range (b.number == s.block) b ≡ ranges (with_change put s.block b)
  one-reserved b general = go b.block general (b.number == s.block)
    where
      go : (k : Block) → IsGeneral k → (v : Bool) → with_range v (record { number = b.number; block = k }) ≡ ranges (if v then record { number = b.number; block = put k } else record { number = b.number; block = k })
      go (General size taken) g true = refl
      go (General size taken) g false = refl
      go (Stack c) g v = absurd g

  pub reserved-blocks : (bs : List PoolBlock) → ((b : PoolBlock) → Contains bs b → IsGeneral b.block) → reserved s r (numbered_blocks bs) ≡ numbered_blocks (in_block put s.block bs)
  reserved-blocks [] general = refl
  reserved-blocks (b ∷ bs) general =
      ap (λ (n : Numbered). n ∷ reserved s r (numbered_blocks bs)) (one-reserved b (general b (contains-head b bs)))
      ∙ ap (λ (l : List Numbered). ranges (with_change put s.block b) ∷ l) (reserved-blocks bs (λ c at. general c (contains-tail b bs c at)))

-- ---- a pool that has given a target

module _ (was now : Kept) (kept : IsKeptPool was.pool) (kind : was.pool.info.kind ≡ algorithm.Tlsf) (from : BlockStart) (r : Request) (some : 0 < r.size) (s : BlockStart) (takes : TakesTarget was now from r s) where
  pub in-old : pool_with was.pool r false s ≡ record was.pool { blocks = in_block (put s r) s.block was.pool.blocks }
  in-old = old-is was.pool kept.pool r some false s takes.given (λ e. let l = takes.has in omega (arith, l, e))

  pub after-target : AllHaveSame (reserved s r (numbered_blocks was.pool.blocks)) (numbered_blocks now.pool.blocks)
  after-target =
      subst (λ (l : List Numbered). AllHaveSame l (numbered_blocks now.pool.blocks)) (sym (reserved-blocks s r was.pool.blocks (general-block was.pool kept kind)))
      (blocks-same (in_block (put s r) s.block was.pool.blocks) now.pool.blocks (subst (λ (q : Pool). AreAlike q.blocks now.pool.blocks) in-old takes.pool.blocks))

  pub kind-stays : now.pool.info.kind ≡ algorithm.Tlsf
  kind-stays = ap (λ i. i.kind) (takes.pool.info ∙ given-info was.pool r false s) ∙ kind
