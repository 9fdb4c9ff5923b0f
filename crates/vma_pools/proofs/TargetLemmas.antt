-- A pool when what is to move has got its target.
use Rattle.std.proofs.Common.{◌≡◌, ℕ, ◌+◌, ◌<◌, ◌≤◌, List, length, get_or, set, false, refl, sym, ap, subst, ◌∙◌, arith, inl, inr}
use Rattle.std.specs.Prelude.{Some, None, All, AllPairs}
use Rattle.std.proofs.lemmas.List.{length-map}
use Rattle.vk_model.specs.declared.resource.PoolInfo.{PoolInfo}
use Rattle.vk_model.specs.declared.resource.PoolKind.{PoolKind}
use Rattle.vk_model.specs.declared.resource.PoolKind.TheVariants as algorithm
use Rattle.vk_model.specs.Memory.Suballocation.{Request}
use Rattle.vk_model.specs.Memory.Room.{Block}
use Rattle.vk_model.specs.Memory.MoveTargets.{BlockStart, move_target}
use Rattle.vk_model.specs.Memory.Pools.{PoolBlock, Pool, block_bytes, block_with, numbered_blocks}
use Rattle.vma_blocks.specs.Alike.{IsAlike, IsGeneral}
use Rattle.vma_pools.specs.Pools.{Kept, HasNoTarget, HasTarget, TakesOld, TakesTarget}
use Rattle.vma_pools.specs.declared.blocks.Held.{Held}
use Rattle.vma_pools.specs.Inner.Kinds.{IsOfKind, IsKeptPool}
use Rattle.vma_pools.specs.Inner.Lower.{lower_in, IsLowerTaken, IsLowest, NoneLower}
use Rattle.vma_pools.specs.Inner.Walk.{numbered, seen, objects, kept_of, no_block, IsTaken}
use Rattle.vma_pools.proofs.LowerLemmas.{lower-gives, refused-lower, target-found, target-none}
use Rattle.vma_pools.proofs.PoolLemmas.{fit-takes, number-is}
use Rattle.vma_pools.proofs.WalkLemmas.{at_index, below_next, changed-at}

-- ---- a step of the walk

module _ {B : Type 0} (block : B → Block) (first now : List (Held B)) (i : ℕ) (d : Held B) (same : seen block now ≡ seen block first) (lt : i < length first) (from : BlockStart) (r : Request) (none : NoneLower (seen block first) from r i) where
  pub asked-general : (size : ℕ) → All (λ b. IsGeneral b.block × (block_bytes b.block ≡ size)) (seen block first) → IsGeneral (block (get_or now i d).block) × (block_bytes (block (get_or now i d).block) ≡ size)
  asked-general size all =
      subst (λ (b : PoolBlock). IsGeneral b.block × (block_bytes b.block ≡ size)) (at_index block first now i d d.block same lt) (all i no_block (omega (arith, lt, length-map first (numbered block))))

  pub none-lower-next : lower_in from r (numbered block (get_or now i d)) ≡ None → NoneLower (seen block first) from r (i + 1)
  none-lower-next refused k less =
      elim (below_next k i less) [
        | inl l ↦ none k l
        | inr e ↦ ap (λ (b : PoolBlock). lower_in from r b) (ap (λ (j : ℕ). get_or (seen block first) j no_block) e ∙ at_index block first now i d d.block same lt) ∙ refused
      ]

  pub is-lower-taken : (v : B) (start : ℕ) → lower_in from r (numbered block (get_or now i d)) ≡ Some (record { block = (get_or now i d).number; start = start })
      → IsAlike (block_with (block (get_or now i d).block) r false start) (block v)
      → IsLowerTaken (seen block first) (seen block (set now i (record { number = (get_or now i d).number; memory = (get_or now i d).memory; block = v }))) from r i start
  is-lower-taken v start some with =
      record {
        there = omega (arith, lt, length-map first (numbered block));
        before = none;
        target = subst (λ (b : PoolBlock). lower_in from r b ≡ Some (record { block = b.number; start = start })) (sym (at_index block first now i d d.block same lt)) some;
        changed = changed-at block first now i d v same lt r false start with;
      }

-- ---- a step of a walk that changes nothing

module _ {B : Type 0} (block : B → Block) (blocks : List (Held B)) (i : ℕ) (x : Held B) (is : x ≡ get_or blocks i x) (lt : i < length blocks) (from : BlockStart) (r : Request) (none : NoneLower (seen block blocks) from r i) where
  pub read-general : (size : ℕ) → All (λ b. IsGeneral b.block × (block_bytes b.block ≡ size)) (seen block blocks) → IsGeneral (block x.block) × (block_bytes (block x.block) ≡ size)
  read-general size all =
      subst (λ (h : Held B). IsGeneral (block h.block) × (block_bytes (block h.block) ≡ size)) (sym is) (asked-general block blocks blocks i x refl lt from r none size all)

  pub none-read-next : lower_in from r (numbered block x) ≡ None → NoneLower (seen block blocks) from r (i + 1)
  none-read-next refused =
      none-lower-next block blocks blocks i x refl lt from r none (subst (λ (h : Held B). lower_in from r (numbered block h) ≡ None) is refused)

  pub is-lowest : (start : ℕ) → lower_in from r (numbered block x) ≡ Some (record { block = x.number; start = start }) → IsLowest (seen block blocks) from r i start
  is-lowest start some =
      record {
        there = omega (arith, lt, length-map blocks (numbered block));
        before = none;
        target =
            subst (λ (b : PoolBlock). lower_in from r b ≡ Some (record { block = b.number; start = start })) (ap (numbered block) is ∙ sym (at_index block blocks blocks i x x.block refl lt)) some;
      }

-- where no block was changed
pub kept-same : {B : Type 0} (block : B → Block) (info : PoolInfo) (old new : List (Held B)) (next : ℕ) → seen block new ≡ seen block old → objects new ≡ objects old → kept_of block info new next ≡ kept_of block info old next
kept-same block info old new next e o =
    ap (λ (bs : List PoolBlock). record { pool = record { info = info; blocks = bs; next = next }; memories = objects new }) e
    ∙ ap (λ (ms : List ℕ). record { pool = record { info = info; blocks = seen block old; next = next }; memories = ms }) o

-- ---- blocks of the kind and the size of their pool

general-kind : (kind : PoolKind) (k : Block) → kind ≡ algorithm.Tlsf → IsOfKind kind k → IsGeneral k
general-kind kind k e is = subst (λ (o : PoolKind). IsOfKind o k) e is

pub all-general : (p : Pool) → IsKeptPool p → p.info.kind ≡ algorithm.Tlsf → All (λ b. IsGeneral b.block × (block_bytes b.block ≡ p.info.block_size)) p.blocks
all-general p is kind k d lt = (general-kind p.info.kind (get_or p.blocks k d).block kind (is.kinds k d lt).kind, (is.kinds k d lt).bytes)

-- ---- what was taken is what the pool gives

pub as-taken : (bs new : List PoolBlock) (size : ℕ) (from : BlockStart) (r : Request) (i start : ℕ) → AllPairs (λ b c. b.number < c.number) bs → All (λ b. IsGeneral b.block × (block_bytes b.block ≡ size)) bs → from.start ≤ size
    → IsLowerTaken bs new from r i start → IsTaken bs new r false i start
as-taken bs new size from r i start rising general inside t =
    let own = general i no_block t.there in
    let gives = lower-gives from r (get_or bs i no_block) start own.0 (omega (arith, inside, own.1)) t.target in
    record {
      there = t.there;
      before = λ k less holds. refused-lower from r (get_or bs k no_block) (general k no_block (omega (arith, less, t.there))).0 (omega (arith, rising k i no_block less t.there, gives.1)) (t.before k less) holds;
      gives = gives.0;
      changed = t.changed;
    }

-- ---- the target of a walk that changes nothing

module _ {B : Type 0} (block : B → Block) (info : PoolInfo) (blocks : List (Held B)) (next : ℕ) (from : BlockStart) (r : Request) where
  pub none-seen : NoneLower (seen block blocks) from r (length blocks) → HasNoTarget (kept_of block info blocks next).pool from r
  none-seen none id =
      target-none (record { id = id; from = from; request = r }) (seen block blocks) (λ k less. none k (omega (arith, less, length-map blocks (numbered block))))

  pub target-seen : (i start : ℕ) → IsLowest (seen block blocks) from r i start → (x : Held B) → x ≡ get_or blocks i x → HasTarget (kept_of block info blocks next).pool from r (record { block = x.number; start = start })
  target-seen i start t x is id =
      target-found (record { id = id; from = from; request = r }) (seen block blocks) i (record { block = (get_or (seen block blocks) i no_block).number; start = start }) t.there t.before t.target
      ∙ ap (λ (b : PoolBlock). Some (record { block = b.number; start = start }))
      (at_index block blocks blocks i x x.block refl (omega (arith, t.there, length-map blocks (numbered block))) ∙ ap (numbered block) (sym is))

-- ---- what was taken is what the pool gives, in a pool

module _ {B : Type 0} (block : B → Block) (info : PoolInfo) (old new fit : List (Held B)) (next : ℕ) (h : IsKeptPool (kept_of block info old next).pool) (kind : info.kind ≡ algorithm.Tlsf)
    (from : BlockStart) (r : Request) (inside : from.start ≤ info.block_size) where
  pub no-target : NoneLower (seen block old) from r (length old) → HasNoTarget (kept_of block info old next).pool from r
  no-target none = none-seen block info old next from r none

  module _ (i start : ℕ) (t : IsLowerTaken (seen block old) (seen block new) from r i start) (fits : fit ≡ new) where
    taken : IsTaken (seen block old) (seen block new) r false i start
    taken = as-taken (seen block old) (seen block new) info.block_size from r i start h.pool.rising (all-general (kept_of block info old next).pool h kind) inside t

    pub lower-takes : objects new ≡ objects old → (now : Kept) → kept_of block info old next ≡ now → (x : Held B) → x ≡ get_or fit i x → TakesOld now (kept_of block info fit next) r false (record { block = x.number; start = start })
    lower-takes objs now view x e = fit-takes block info old new fit next h.pool r false i start taken fits objs now view x e

    pub takes-target : objects new ≡ objects old → (now : Kept) → kept_of block info old next ≡ now → (x : Held B) → x ≡ get_or fit i x → TakesTarget now (kept_of block info fit next) from r (record { block = x.number; start = start })
    takes-target objs now view x e =
        let takes = lower-takes objs now view x e in
        let number : x.number ≡ (get_or (seen block old) i no_block).number = number-is block info old new fit next h.pool r false i start taken fits x e in
        record {
          given = takes.given;
          has = takes.has;
          target = λ id.
              subst (λ (k : Kept). move_target (numbered_blocks k.pool.blocks) (record { id = id; from = from; request = r }) ≡ Some (record { block = x.number; start = start })) view
              (target-found (record { id = id; from = from; request = r }) (seen block old) i (record { block = (get_or (seen block old) i no_block).number; start = start }) t.there t.before t.target
              ∙ ap (λ (n : ℕ). Some (record { block = n; start = start })) (sym number));
          pool = takes.pool;
          memories = takes.memories;
        }
