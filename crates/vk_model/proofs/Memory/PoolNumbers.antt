-- What taking and giving back leave of the numbers and the sizes of a pool's blocks.
use Rattle.std.proofs.Common.{◌≡◌, ℕ, ◌+◌, ◌<◌, List, [], ◌∷◌, ◌++◌, Bool, true, false, ◌==◌, refl, ap, sym, ◌∙◌, subst, arith}
use Rattle.std.specs.Prelude.{All, Contains, Option, Some, None, if◌then◌else◌}
use Rattle.std.specs.List.{fold}
use Rattle.std.proofs.lemmas.Bool.{ne_eqb}
use Rattle.std.proofs.lemmas.List.Elements.{All-weaker, All-contains, All-contains_itself, Contains-append_left}
use Rattle.vk_model.specs.Memory.Suballocation.{Request}
use Rattle.vk_model.specs.Memory.Room.{Block, General, Stack, Linear, is_none_left, stack_place, ring_place, upper_place}
use Rattle.vk_model.specs.Memory.LinearBlocks.{with_lower, with_upper, lower_from_wrapped, others}
use Rattle.vk_model.specs.Memory.MoveTargets.{Numbered, BlockStart, Resident}
use Rattle.vk_model.specs.Memory.Pools.{Pool, PoolBlock, block_bytes, block_taken, numbered_blocks, block_with, new_block, with_change, in_block, pool_with, pool_without, block_without, has_some_taken}
use Rattle.vk_model.proofs.Lists.Members.{filtered, map_has, mapped_from}
use Rattle.vk_model.proofs.Memory.PassRanks.{below_of, changed_below}
use Rattle.vk_model.proofs.Memory.Pools.{same_number}
use Rattle.vk_model.proofs.Memory.PassMoves.{HasNumber}

-- ---- the size of a block

lower_size : (b : Linear) (r : Request) (place round : Option ℕ) → (with_lower b r place round).size ≡ b.size
lower_size b r (Some start) round = refl
lower_size b r None (Some start) = refl
lower_size b r None None = refl

upper_size : (b : Linear) (r : Request) (place : Option ℕ) → (with_upper b r place).size ≡ b.size
upper_size b r (Some start) = refl
upper_size b r None = refl

freed_size : (b : Linear) → (lower_from_wrapped b).size ≡ b.size
freed_size b = go (is_none_left b.lower)
  where
    go : (t : Bool) → (if t then record b { lower = b.wrapped; wrapped = [] } else b).size ≡ b.size
    go true = refl
    go false = refl

with_size : (k : Block) (r : Request) (upper : Bool) (start : ℕ) → block_bytes (block_with k r upper start) ≡ block_bytes k
with_size (General size taken) r upper start = refl
with_size (Stack b) r true start = upper_size b r (upper_place b r)
with_size (Stack b) r false start = lower_size b r (stack_place b r) (ring_place b r)

without_size : (k : Block) (start : ℕ) → block_bytes (block_without k start) ≡ block_bytes k
without_size (General size taken) start = refl
without_size (Stack b) start = freed_size (record b { lower = others start b.lower; wrapped = others start b.wrapped; upper = others start b.upper })

changed_size : (change : Block → Block) → ((k : Block) → block_bytes (change k) ≡ block_bytes k) → (n : ℕ) (b : PoolBlock) → block_bytes (with_change change n b).block ≡ block_bytes b.block
changed_size change same n b = go (b.number == n)
  where
    go : (t : Bool) → block_bytes (if t then record b { block = change b.block } else b).block ≡ block_bytes b.block
    go true = same b.block
    go false = refl

-- ---- each block of a pool was one before, of the same number and size

pub record ComesFrom (p e : Pool) : Type 0 where
  pub next : e.next ≡ p.next
  pub from : (c : PoolBlock) → Contains e.blocks c → (b : PoolBlock) × Contains p.blocks b × (c.number ≡ b.number) × (block_bytes c.block ≡ block_bytes b.block)

pub itself : (p : Pool) → ComesFrom p p
itself p = record { next = refl; from = λ c there. (c, there, refl, refl) }

pub from_both : (p q e : Pool) → ComesFrom p q → ComesFrom q e → ComesFrom p e
from_both p q e one two = record {
  next = two.next ∙ one.next;
  from = λ c there.
      let later = two.from c there in
      let first = one.from later.0 later.1 in
      (first.0, first.1, later.2 ∙ first.2, later.3 ∙ first.3);
}

changed_from : (change : Block → Block) → ((k : Block) → block_bytes (change k) ≡ block_bytes k) → (n : ℕ) (blocks : List PoolBlock) (c : PoolBlock) → Contains (in_block change n blocks) c
    → (b : PoolBlock) × Contains blocks b × (c.number ≡ b.number) × (block_bytes c.block ≡ block_bytes b.block)
changed_from change same n blocks c there =
    let r = mapped_from (with_change change n) blocks c there in
    (r.0, r.1, ap (λ (b : PoolBlock). b.number) (sym r.2) ∙ same_number change n r.0, ap (λ (b : PoolBlock). block_bytes b.block) (sym r.2) ∙ changed_size change same n r.0)

pub freed_from : (p : Pool) (s : BlockStart) → ComesFrom p (pool_without p s)
freed_from p s = record {
  next = refl;
  from = λ c there. changed_from (λ k. block_without k s.start) (λ k. without_size k s.start) s.block p.blocks c (filtered has_some_taken (in_block (λ k. block_without k s.start) s.block p.blocks) c there).0;
}

pub all_freed_from : (rs : List Resident) (p : Pool) → ComesFrom p (fold (λ o a. pool_without o a.from) p rs)
all_freed_from [] p = itself p
all_freed_from (a ∷ rs) p = from_both p (pool_without p a.from) (fold (λ o b. pool_without o b.from) (pool_without p a.from) rs) (freed_from p a.from) (all_freed_from rs (pool_without p a.from))

-- the sizes and the numbers of blocks, carried over
pub sizes_stay : (size : ℕ) (p e : Pool) → ComesFrom p e → All (λ b. block_bytes b.block ≡ size) p.blocks → All (λ b. block_bytes b.block ≡ size) e.blocks
sizes_stay size p e h all = All-weaker (Contains e.blocks) (λ c. block_bytes c.block ≡ size)
    (λ c there. let b = h.from c there in b.3 ∙ All-contains (λ d. block_bytes d.block ≡ size) p.blocks b.0 all b.1) e.blocks (All-contains_itself e.blocks)

pub numbers_stay : (p e : Pool) → ComesFrom p e → All (λ b. b.number < p.next) p.blocks → All (λ b. b.number < e.next) e.blocks
numbers_stay p e h all = All-weaker (Contains e.blocks) (λ c. c.number < e.next)
    (λ c there. let b = h.from c there in let less = All-contains (λ d. d.number < p.next) p.blocks b.0 all b.1 in omega (arith, less, b.2, h.next)) e.blocks (All-contains_itself e.blocks)

-- ---- taking in a block that stands

abbrev pub numbered : PoolBlock → Numbered
numbered b = record { number = b.number; size = block_bytes b.block; taken = block_taken b.block }

changed_has : (change : Block → Block) (k : ℕ) (blocks : List PoolBlock) (n : ℕ) → HasNumber (numbered_blocks blocks) n → HasNumber (numbered_blocks (in_block change k blocks)) n
changed_has change k blocks n h =
    let b = mapped_from numbered blocks h.0 h.1 in
    let c = with_change change k b.0 in (
      numbered c,
      map_has numbered (in_block change k blocks) c (map_has (with_change change k) blocks b.0 b.1),
      same_number change k b.0 ∙ ap (λ (d : Numbered). d.number) b.2 ∙ h.2,
    )

-- a pool in which something is taken, in a new block or in one that stands
taken_cases : (p : Pool) (r : Request) (upper : Bool) (s : BlockStart) (P : Pool → Type 0)
    → P (record p { blocks = p.blocks ++ record { number = p.next; block = block_with (new_block p.info) r upper s.start } ∷ []; next = p.next + 1 })
    → P (record p { blocks = in_block (λ b. block_with b r upper s.start) s.block p.blocks })
    → P (pool_with p r upper s)
taken_cases p r upper s P new old = go (s.block == p.next)
  where
    go : (t : Bool) → P (if t then record p { blocks = p.blocks ++ record { number = p.next; block = block_with (new_block p.info) r upper s.start } ∷ []; next = p.next + 1 }
        else record p { blocks = in_block (λ b. block_with b r upper s.start) s.block p.blocks })
    go true = new
    go false = old

pub taken_has : (p : Pool) (r : Request) (upper : Bool) (s : BlockStart) (n : ℕ) → HasNumber (numbered_blocks p.blocks) n → HasNumber (numbered_blocks (pool_with p r upper s).blocks) n
taken_has p r upper s n h =
    let b = mapped_from numbered p.blocks h.0 h.1 in
    let new : PoolBlock = record { number = p.next; block = block_with (new_block p.info) r upper s.start } in
    taken_cases p r upper s (λ e. HasNumber (numbered_blocks e.blocks) n)
    (h.0, subst (λ (d : Numbered). Contains (numbered_blocks (p.blocks ++ new ∷ [])) d) b.2 (map_has numbered (p.blocks ++ new ∷ []) b.0 (Contains-append_left p.blocks (new ∷ []) b.0 b.1)), h.2)
    (changed_has (λ k. block_with k r upper s.start) s.block p.blocks n h)

-- what is taken in a block that stands leaves all blocks and their numbers
pub record Stands (p e : Pool) : Type 0 where
  pub comes : ComesFrom p e
  pub below : (n : ℕ) → below_of e.blocks n ≡ below_of p.blocks n

taken_stands : (p : Pool) (r : Request) (upper : Bool) (s : BlockStart) → s.block < p.next → Stands p (pool_with p r upper s)
taken_stands p r upper s less = rw (ne_eqb s.block p.next (λ e. omega arith)) (record {
  comes = record { next = refl; from = changed_from (λ k. block_with k r upper s.start) (λ k. with_size k r upper s.start) s.block p.blocks };
  below = changed_below (λ k. block_with k r upper s.start) s.block p.blocks;
})

pub all_taken_stand : (rs : List Resident) (s : BlockStart) (p : Pool) → s.block < p.next → Stands p (fold (λ o a. pool_with o a.request false s) p rs)
all_taken_stand [] s p less = record { comes = itself p; below = λ n. refl }
all_taken_stand (a ∷ rs) s p less =
    let first = taken_stands p a.request false s less in
    let one = pool_with p a.request false s in
    let rest = all_taken_stand rs s one (omega (arith, first.comes.next)) in
    record {
      comes = from_both p one (fold (λ o b. pool_with o b.request false s) one rs) first.comes rest.comes;
      below = λ n. rest.below n ∙ first.below n;
    }
