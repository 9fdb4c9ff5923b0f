-- A pool that has given a target is what it was when the target is given back.
use Rattle.std.proofs.Common.{◌≡◌, ℕ, ◌+◌, ◌<◌, List, [], ◌∷◌, length, take, drop, Bool, true, false, not, ◌==◌, refl, sym, ap, subst, ◌∙◌, arith, length-append, length-take, length-drop}
use Rattle.std.specs.Prelude.{All, Contains, Option, Some, None, IsTrue, if◌then◌else◌}
use Rattle.std.specs.List.{filter}
use Rattle.std.proofs.lemmas.Bool.{eqb-true, eq-eqb, ne_eqb, not_from_false}
use Rattle.std.proofs.lemmas.List.{length-map}
use Rattle.std.proofs.lemmas.List.Elements.{All-contains}
use Rattle.vk_model.specs.declared.resource.PoolKind.TheVariants as algorithm
use Rattle.vk_model.specs.Memory.Suballocation.{Taken, Request, IsApart, taken_at}
use Rattle.vk_model.specs.Memory.Room.{Block, General, Stack}
use Rattle.vk_model.specs.Memory.MoveTargets.{BlockStart}
use Rattle.vk_model.specs.Memory.LinearBlocks.{others}
use Rattle.vk_model.specs.Memory.Pools.{PoolBlock, Pool, BlockGives, IsSoundBlock, block_without, has_some_taken, in_block, pool_with, pool_without, with_change}
use Rattle.vk_model.proofs.Lists.Items.{filter_each}
use Rattle.vk_model.proofs.Lists.Members.{contains-head, contains-tail}
use Rattle.vk_model.proofs.Memory.Freeing.{not_together}
use Rattle.vk_model.proofs.Memory.Taken.{fitting}
use Rattle.vma_blocks.specs.Alike.{IsGeneral}
use Rattle.vma_pools.specs.Alike.{IsAlikePool}
use Rattle.vma_pools.specs.Pools.{Kept, KeepsBlocks, TakesTarget, block_numbers}
use Rattle.vma_pools.specs.Inner.Kinds.{IsKeptPool}
use Rattle.vma_pools.proofs.PoolAlike.{alike-pool_without, are-length, pool-trans}
use Rattle.vma_pools.proofs.RangeLemmas.{Place, NewBlock, OldBlock, given-place, same-block}
use Rattle.vma_defrag.proofs.Blocks.{general-block, in-old, put}

-- ---- one block

module _ (s : BlockStart) (r : Request) (some : 0 < r.size) where
  abbrev taken_out : Block → Block
  taken_out k = block_without k s.start

  others-again : (ts : List Taken) → All (λ t. 0 < t.size) ts → All (IsApart (taken_at s.start r)) ts → others s.start (taken_at s.start r ∷ ts) ≡ ts
  others-again ts sized apart =
      ap (λ (v : Bool). if not v then taken_at s.start r ∷ others s.start ts else others s.start ts) (eq-eqb s.start s.start refl)
      ∙ filter_each (λ t. not (t.start == s.start)) ts
      (λ t at. not_from_false (t.start == s.start)
      (ne_eqb t.start s.start (λ same. not_together (taken_at s.start r) t some (All-contains (λ u. 0 < u.size) ts t sized at) (All-contains (IsApart (taken_at s.start r)) ts t apart at) (sym same))))

  block-again : (k : Block) → IsGeneral k → IsSoundBlock k → BlockGives k r false s.start → taken_out (put s r k) ≡ k
  block-again (General size ts) general sound gives = ap (λ (us : List Taken). General size us) (others-again ts sound.0 (fitting ts r 0 size s.start gives).apart)
  block-again (Stack b) general sound gives = absurd general

  one-again : (b : PoolBlock) → (b.number ≡ s.block → taken_out (put s r b.block) ≡ b.block) → with_change taken_out s.block (with_change (put s r) s.block b) ≡ b
  one-again b same = go (b.number == s.block) refl
    where
      go : (v : Bool) → (b.number == s.block) ≡ v → with_change taken_out s.block (if v then record b { block = put s r b.block } else b) ≡ b
      go true e =
          ap (λ (v : Bool). if v then record b { block = taken_out (put s r b.block) } else record b { block = put s r b.block }) e
          ∙ ap (λ (k : Block). record b { block = k }) (same (eqb-true b.number s.block e))
      go false e = ap (λ (v : Bool). if v then record b { block = taken_out b.block } else b) e

  blocks-again : (bs : List PoolBlock) → ((b : PoolBlock) → Contains bs b → b.number ≡ s.block → taken_out (put s r b.block) ≡ b.block) → in_block taken_out s.block (in_block (put s r) s.block bs) ≡ bs
  blocks-again [] same = refl
  blocks-again (b ∷ bs) same =
      ap (λ (c : PoolBlock). c ∷ in_block taken_out s.block (in_block (put s r) s.block bs)) (one-again b (same b (contains-head b bs)))
      ∙ ap (λ (l : List PoolBlock). b ∷ l) (blocks-again bs (λ c at. same c (contains-tail b bs c at)))

-- ---- a pool

module _ (was now : Kept) (kept : IsKeptPool was.pool) (kind : was.pool.info.kind ≡ algorithm.Tlsf) (from : BlockStart) (r : Request) (some : 0 < r.size) (s : BlockStart) (takes : TakesTarget was now from r s) where
  gives-there : (b : PoolBlock) → Contains was.pool.blocks b → b.number ≡ s.block → BlockGives b.block r false s.start
  gives-there b at number = go (given-place was.pool r false s takes.given)
    where
      go : Place was.pool r false s → BlockGives b.block r false s.start
      go (NewBlock new g) = absurd (let l = takes.has in omega (arith, l, new))
      go (OldBlock c there same g) = subst (λ (d : PoolBlock). BlockGives d.block r false s.start) (same-block was.pool.blocks kept.pool.rising c b there at (same ∙ sym number)) g

  pub pool-again : pool_without (pool_with was.pool r false s) s ≡ was.pool
  pool-again =
      ap (λ (q : Pool). pool_without q s) (in-old was now kept kind from r some s takes)
      ∙ ap (λ (bs : List PoolBlock). record was.pool { blocks = filter has_some_taken bs })
      (blocks-again s r some was.pool.blocks (λ b at number. block-again s r some b.block (general-block was.pool kept kind b at) (All-contains (λ c. IsSoundBlock c.block) was.pool.blocks b kept.pool.sound at) (gives-there b at number)))
      ∙ ap (λ (bs : List PoolBlock). record was.pool { blocks = bs }) (filter_each has_some_taken was.pool.blocks (λ b at. All-contains (λ c. IsTrue (has_some_taken c)) was.pool.blocks b kept.pool.none_empty at))

  -- a pool that is alike to the one that gave it, where it is given back
  module _ (old new : Kept) (alike : IsAlikePool now.pool old.pool) (back : IsAlikePool (pool_without old.pool s) new.pool) where
    abbrev gave : Pool
    gave = pool_with was.pool r false s

    to-old : IsAlikePool gave old.pool
    to-old = pool-trans gave now.pool old.pool takes.pool alike

    pub alike-again : IsAlikePool was.pool new.pool
    alike-again =
        subst (λ (q : Pool). IsAlikePool q new.pool) pool-again
        (pool-trans (pool_without gave s) (pool_without old.pool s) new.pool (alike-pool_without gave old.pool to-old s) back)

    same-length : length new.pool.blocks ≡ length old.pool.blocks
    same-length =
        are-length was.pool.blocks new.pool.blocks alike-again.blocks
        ∙ sym (length-map was.pool.blocks (with_change (put s r) s.block))
        ∙ ap (λ (q : Pool). length q.blocks) (sym (in-old was now kept kind from r some s takes))
        ∙ sym (are-length gave.blocks old.pool.blocks to-old.blocks)

    -- no block has gone
    pub none-gone : (gone : Option ℕ) → KeepsBlocks gone s.block old new → gone ≡ None
    none-gone None keeps = refl
    none-gone (Some n) keeps = absurd
        (let before = length-map old.pool.blocks (λ b. b.number) in let after = length-map new.pool.blocks (λ b. b.number) in
        let numbers = block_numbers old.pool in
        let cut = ap (λ (l : List ℕ). length l) keeps.numbers ∙ length-append (take keeps.index numbers) (drop (keeps.index + 1) numbers) in
        let front = length-take keeps.index numbers in let rest = length-drop (keeps.index + 1) numbers in
        let there = keeps.block in
        omega (arith, before, after, cut, front, rest, there, same-length))
