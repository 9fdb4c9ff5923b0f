-- A pool that is kept stays one.
use Rattle.std.proofs.Common.{◌≡◌, ◌∙◌, refl, ℕ, ◌+◌, ◌<◌, List, [], ◌∷◌, ◌++◌, Bool, true, false, ◌==◌, sym, subst}
use Rattle.std.specs.Prelude.{All, Option, Some, None, if◌then◌else◌}
use Rattle.std.specs.List.{filter}
use Rattle.std.proofs.lemmas.List.Elements.{All-nil, All-cons, All-head, All-tail}
use Rattle.vk_model.specs.declared.resource.PoolInfo.{PoolInfo}
use Rattle.vk_model.specs.declared.resource.PoolKind.{PoolKind}
use Rattle.vk_model.specs.declared.resource.PoolKind.TheVariants as algorithm
use Rattle.vk_model.specs.Memory.Suballocation.{Request}
use Rattle.vk_model.specs.Memory.Room.{Block, General, Stack, Linear, is_none_left, upper_place, stack_place, ring_place}
use Rattle.vk_model.specs.Memory.LinearBlocks.{lower_from_wrapped, others, with_lower, with_upper}
use Rattle.vk_model.specs.Memory.MoveTargets.{BlockStart}
use Rattle.vk_model.specs.Memory.Pools.{PoolBlock, Pool, Gives, IsPool, block_bytes, block_with, block_without, empty_block, has_some_taken, in_block, new_block, pool_with, pool_without, with_change}
use Rattle.vk_model.proofs.Memory.Pools.{pool_stays}
use Rattle.vma_blocks.specs.Alike.{IsAlike}
use Rattle.vma_blocks.specs.PoolInfos.{IsPoolInfo}
use Rattle.vma_blocks.proofs.AlikeLemmas.{alike-bytes, alike-general, alike-sym}
use Rattle.vma_pools.specs.Alike.{IsAlikePool}
use Rattle.vma_pools.specs.Inner.Kinds.{IsOfKind, IsOfPool, IsKeptPool}
use Rattle.vma_pools.proofs.PoolAlike.{all-alike, alike-pool}

kind-alike : (kind : PoolKind) (k l : Block) → IsAlike k l → IsOfKind kind k → IsOfKind kind l
kind-alike algorithm.Tlsf k l h is = alike-general k l h is
kind-alike algorithm.Linear k l h is = λ general. is (alike-general l k (alike-sym k l h) general)

kind-with : (kind : PoolKind) (k : Block) (r : Request) (upper : Bool) (start : ℕ) → IsOfKind kind k → IsOfKind kind (block_with k r upper start)
kind-with algorithm.Tlsf (General size taken) r upper start is = is
kind-with algorithm.Tlsf (Stack b) r upper start is = is
kind-with algorithm.Linear (General size taken) r upper start is = is
kind-with algorithm.Linear (Stack b) r upper start is = is

kind-without : (kind : PoolKind) (k : Block) (start : ℕ) → IsOfKind kind k → IsOfKind kind (block_without k start)
kind-without algorithm.Tlsf (General size taken) start is = is
kind-without algorithm.Tlsf (Stack b) start is = is
kind-without algorithm.Linear (General size taken) start is = is
kind-without algorithm.Linear (Stack b) start is = is

kind-new : (kind : PoolKind) (info : PoolInfo) → IsOfKind kind (empty_block kind info)
kind-new algorithm.Tlsf info = tt
kind-new algorithm.Linear info = λ general. general

-- ---- the bytes of a block

lower-bytes : (b : Linear) (r : Request) (o w : Option ℕ) → (with_lower b r o w).size ≡ b.size
lower-bytes b r (Some start) w = refl
lower-bytes b r None (Some start) = refl
lower-bytes b r None None = refl

upper-bytes : (b : Linear) (r : Request) (o : Option ℕ) → (with_upper b r o).size ≡ b.size
upper-bytes b r (Some start) = refl
upper-bytes b r None = refl

bytes-with : (k : Block) (r : Request) (upper : Bool) (start : ℕ) → block_bytes (block_with k r upper start) ≡ block_bytes k
bytes-with (General size taken) r upper start = refl
bytes-with (Stack b) r true start = upper-bytes b r (upper_place b r)
bytes-with (Stack b) r false start = lower-bytes b r (stack_place b r) (ring_place b r)

freed-bytes : (b : Linear) → (lower_from_wrapped b).size ≡ b.size
freed-bytes b = elim (is_none_left b.lower) as (λ v. (if v then record b { lower = b.wrapped; wrapped = [] } else b).size ≡ b.size) [ true ↦ refl | false ↦ refl ]

bytes-without : (k : Block) (start : ℕ) → block_bytes (block_without k start) ≡ block_bytes k
bytes-without (General size taken) start = refl
bytes-without (Stack b) start = freed-bytes (record b { lower = others start b.lower; wrapped = others start b.wrapped; upper = others start b.upper })

bytes-new : (kind : PoolKind) (info : PoolInfo) → block_bytes (empty_block kind info) ≡ info.block_size
bytes-new algorithm.Tlsf info = refl
bytes-new algorithm.Linear info = refl

-- ---- blocks of a pool

of-alike : (info : PoolInfo) (k l : Block) → IsAlike k l → IsOfPool info k → IsOfPool info l
of-alike info k l h is = record { kind = kind-alike info.kind k l h is.kind; bytes = alike-bytes k l h ∙ is.bytes }

of-with : (info : PoolInfo) (k : Block) (r : Request) (upper : Bool) (start : ℕ) → IsOfPool info k → IsOfPool info (block_with k r upper start)
of-with info k r upper start is = record { kind = kind-with info.kind k r upper start is.kind; bytes = bytes-with k r upper start ∙ is.bytes }

of-without : (info : PoolInfo) (k : Block) (start : ℕ) → IsOfPool info k → IsOfPool info (block_without k start)
of-without info k start is = record { kind = kind-without info.kind k start is.kind; bytes = bytes-without k start ∙ is.bytes }

of-new : (info : PoolInfo) → IsOfPool info (new_block info)
of-new info = record { kind = kind-new info.kind info; bytes = bytes-new info.kind info }

module _ (info : PoolInfo) where
  abbrev AreOfPool : List PoolBlock → Type 0
  AreOfPool bs = All (λ b. IsOfPool info b.block) bs

  kinds-changed : (f : Block → Block) (n : ℕ) → ((k : Block) → IsOfPool info k → IsOfPool info (f k)) → (bs : List PoolBlock) → AreOfPool bs → AreOfPool (in_block f n bs)
  kinds-changed f n keeps [] all = All-nil (λ b. IsOfPool info b.block)
  kinds-changed f n keeps (b ∷ bs) all =
      let here : IsOfPool info b.block = All-head (λ c. IsOfPool info c.block) b bs all in
      All-cons (λ c. IsOfPool info c.block) (with_change f n b) (in_block f n bs)
      (elim (b.number == n) as (λ v. IsOfPool info (if v then record b { block = f b.block } else b).block) [ true ↦ keeps b.block here | false ↦ here ])
      (kinds-changed f n keeps bs (All-tail (λ c. IsOfPool info c.block) b bs all))

  kinds-added : (bs : List PoolBlock) (b : PoolBlock) → AreOfPool bs → IsOfPool info b.block → AreOfPool (bs ++ b ∷ [])
  kinds-added [] b all is = All-cons (λ c. IsOfPool info c.block) b [] is (All-nil (λ c. IsOfPool info c.block))
  kinds-added (x ∷ bs) b all is =
      All-cons (λ c. IsOfPool info c.block) x (bs ++ b ∷ []) (All-head (λ c. IsOfPool info c.block) x bs all) (kinds-added bs b (All-tail (λ c. IsOfPool info c.block) x bs all) is)

  kinds-filtered : (p : PoolBlock → Bool) (bs : List PoolBlock) → AreOfPool bs → AreOfPool (filter p bs)
  kinds-filtered p [] all = All-nil (λ b. IsOfPool info b.block)
  kinds-filtered p (b ∷ bs) all =
      let rest : AreOfPool (filter p bs) = kinds-filtered p bs (All-tail (λ c. IsOfPool info c.block) b bs all) in
      elim (p b) as (λ v. AreOfPool (if v then b ∷ filter p bs else filter p bs))
      [ true ↦ All-cons (λ c. IsOfPool info c.block) b (filter p bs) (All-head (λ c. IsOfPool info c.block) b bs all) rest | false ↦ rest ]

pub stays-first : (info : PoolInfo) → IsPoolInfo info → IsKeptPool (record { info = info; blocks = []; next = 0 })
stays-first info is = record { pool = pool_stays.first info; info = is; kinds = All-nil (λ b. IsOfPool info b.block) }

stays-alike : (p q : Pool) → IsAlikePool p q → IsKeptPool p → IsKeptPool q
stays-alike p q h is =
    record {
      pool = alike-pool p q h is.pool;
      info = subst IsPoolInfo (sym h.info) is.info;
      kinds = subst (λ (info : PoolInfo). All (λ b. IsOfPool info b.block) q.blocks) (sym h.info)
          (all-alike (λ b. IsOfPool p.info b.block) (λ b. IsOfPool p.info b.block) (λ b c i t. of-alike p.info b.block c.block i.1 t) p.blocks q.blocks h.blocks is.kinds);
    }

abbrev after : Pool → Request → Bool → BlockStart → Bool → Pool
after p r upper s v =
    if v
    then record p { blocks = p.blocks ++ record { number = p.next; block = block_with (new_block p.info) r upper s.start } ∷ []; next = p.next + 1 }
    else record p { blocks = in_block (λ k. block_with k r upper s.start) s.block p.blocks }

-- a range was taken
pub stays-taken : (p q : Pool) (r : Request) (upper : Bool) (s : BlockStart) → 0 < r.size → IsKeptPool p → Gives p r upper s → IsAlikePool (pool_with p r upper s) q → IsKeptPool q
stays-taken p q r upper s some is given alike = stays-alike (pool_with p r upper s) q alike (go (s.block == p.next) (pool_stays.taken p r upper s some is.pool given))
  where
    go : (v : Bool) → IsPool (after p r upper s v) → IsKeptPool (after p r upper s v)
    go true pool =
        record {
          pool = pool;
          info = is.info;
          kinds = kinds-added p.info p.blocks (record { number = p.next; block = block_with (new_block p.info) r upper s.start }) is.kinds
              (of-with p.info (new_block p.info) r upper s.start (of-new p.info));
        }
    go false pool =
        record { pool = pool; info = is.info; kinds = kinds-changed p.info (λ k. block_with k r upper s.start) s.block (λ k t. of-with p.info k r upper s.start t) p.blocks is.kinds }

-- a range was given back
pub stays-freed : (p q : Pool) (s : BlockStart) → IsKeptPool p → IsAlikePool (pool_without p s) q → IsKeptPool q
stays-freed p q s is alike =
    stays-alike (pool_without p s) q alike (record {
      pool = pool_stays.given_back p s is.pool;
      info = is.info;
      kinds = kinds-filtered p.info has_some_taken (in_block (λ k. block_without k s.start) s.block p.blocks)
          (kinds-changed p.info (λ k. block_without k s.start) s.block (λ k t. of-without p.info k s.start t) p.blocks is.kinds);
    })
