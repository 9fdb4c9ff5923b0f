-- When a pool has no room.
use Rattle.std.proofs.Common.{◌≡◌, ℕ, ◌+◌, ◌<◌, ◌≤◌, List, [], ◌∷◌, length, map, Bool, true, false, ◌==◌, ◌||◌, nat_lt, nat_le, refl, sym, ap, ◌∙◌, arith, ◌⊎◌, inl, inr}
use Rattle.std.specs.Prelude.{All, if◌then◌else◌}
use Rattle.std.proofs.lemmas.List.Elements.{All-nil, All-cons, All-head, All-tail, All-map}
use Rattle.std.proofs.lemmas.List.{length-map}
use Rattle.std.proofs.lemmas.Bool.{cases_lt, or_left, or_right}
use Rattle.vk_model.specs.declared.resource.PoolInfo.{PoolInfo}
use Rattle.vk_model.specs.Memory.Suballocation.{Request}
use Rattle.vk_model.specs.Memory.Room.{BlockHolds, NoRoomInPool, no_object}
use Rattle.vk_model.specs.Memory.MoveTargets.{BlockStart}
use Rattle.vk_model.specs.Memory.Pools.{PoolBlock, Pool, GivesFrom, Gives, state_of}
use Rattle.vk_model.specs.Memory.PlaceLaws.{BlocksGive}
use Rattle.vk_memory.specs.MemoryState.{MemoryState, IsFull, on_first, heap_size, sizes_on, live_count}
use Rattle.vma_pools.specs.Pools.{heaps}

-- a heap would be passed, or the most objects are live
or-true : (a b c : ℕ) → (4096 ≤ c) ⊎ (a < b) → (nat_lt a b || nat_le 4096 c) ≡ true
or-true a b c (inl h) = grind arith
or-true a b c (inr h) = grind arith

true-or : (a b c : ℕ) → (nat_lt a b || nat_le 4096 c) ≡ true → (4096 ≤ c) ⊎ (a < b)
true-or a b c e = elim (cases_lt a b) [ inl l ↦ inr l | inr g ↦ elim (cases_lt c 4096) [ inl l ↦ absurd (grind arith) | inr k ↦ inl k ] ]

-- the definitions' word and that of memory objects
module _ (m : MemoryState) (t size : ℕ) where
  first : (b : Bool) → ((if b then 0 else 1) == 0) ≡ b
  first true = refl
  first false = refl

  same : no_object (heaps m) t size ≡ (nat_lt (heap_size m t) (sizes_on (on_first t) m.objects + size) || nat_le 4096 (live_count m.objects))
  same = ap (λ (b : Bool). nat_lt (if b then m.sizes.heap0 else m.sizes.heap1) (sizes_on b m.objects + size) || nat_le 4096 (live_count m.objects)) (first (t == 0))

  pub full-object : IsFull m t size → no_object (heaps m) t size ≡ true
  full-object full = same ∙ or-true (heap_size m t) (sizes_on (on_first t) m.objects + size) (live_count m.objects) full

  pub object-full : no_object (heaps m) t size ≡ true → IsFull m t size
  object-full e = true-or (heap_size m t) (sizes_on (on_first t) m.objects + size) (live_count m.objects) (sym same ∙ e)

pub unmapped : {A B : Type 0} (P : B → Type 0) (f : A → B) (xs : List A) → All P (map f xs) → All (λ x. P (f x)) xs
unmapped P f [] all = All-nil (λ x. P (f x))
unmapped P f (x ∷ xs) all = All-cons (λ y. P (f y)) x xs (All-head P (f x) (map f xs) all) (unmapped P f xs (All-tail P (f x) (map f xs) all))

-- a place in a block that a pool has is held by it
gives-holds : (law : BlocksGive) (info : PoolInfo) (next : ℕ) (bs : List PoolBlock) (r : Request) (upper : Bool) (s : BlockStart) → GivesFrom info next bs r upper s → s.block < next → All (λ b. BlockHolds b.block r upper → ⊥) bs → ⊥
gives-holds law info next [] r upper s given less none = absurd (omega (arith, given.0, less))
gives-holds law info next (b ∷ bs) r upper s (inl here) less none = All-head (λ c. BlockHolds c.block r upper → ⊥) b bs none ((law.held b.block r upper).1 (s.start, here.1))
gives-holds law info next (b ∷ bs) r upper s (inr later) less none = gives-holds law info next bs r upper s later.1 less (All-tail (λ c. BlockHolds c.block r upper → ⊥) b bs none)

module _ (p : Pool) (m : MemoryState) (r : Request) (upper : Bool) where
  abbrev NoneHolds : Type 0
  NoneHolds = All (λ b. BlockHolds b.block r upper → ⊥) p.blocks

  none-in : NoneHolds → All (λ k. BlockHolds k r upper → ⊥) (state_of p).blocks
  none-in none = All-map (λ k. BlockHolds k r upper → ⊥) (λ b. b.block) p.blocks none

  long : length (state_of p).blocks ≡ length p.blocks
  long = length-map p.blocks (λ b. b.block)

  -- as many blocks as there may be
  pub at-limit : NoneHolds → nat_le p.info.block_limit (length p.blocks) ≡ true → NoRoomInPool (heaps m) (state_of p) r upper
  at-limit none e =
      record {
        none_holds = none-in none;
        no_new = or_left (nat_le p.info.block_limit (length (state_of p).blocks)) (no_object (heaps m) p.info.memory_type p.info.block_size) (ap (λ (n : ℕ). nat_le p.info.block_limit n) long ∙ e);
      }

  -- no memory object can be made
  pub heap-full : NoneHolds → IsFull m p.info.memory_type p.info.block_size → NoRoomInPool (heaps m) (state_of p) r upper
  heap-full none full =
      record {
        none_holds = none-in none;
        no_new = or_right (nat_le p.info.block_limit (length (state_of p).blocks)) (no_object (heaps m) p.info.memory_type p.info.block_size) (full-object m p.info.memory_type p.info.block_size full);
      }

  -- a block that the pool has gave a place
  pub has-room : (law : BlocksGive) (s : BlockStart) → Gives p r upper s → s.block < p.next → NoRoomInPool (heaps m) (state_of p) r upper → ⊥
  has-room law s given less none = gives-holds law p.info p.next p.blocks r upper s given less (unmapped (λ k. BlockHolds k r upper → ⊥) (λ b. b.block) p.blocks none.none_holds)
