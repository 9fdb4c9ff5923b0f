-- Pools through allocations and frees.
use Rattle.std.proofs.Common.{◌≡◌, ℕ, ◌+◌, ◌<◌, ◌≤◌, List, [], ◌∷◌, ◌++◌, length, Bool, true, false, ◌==◌, not, refl, arith, inl, inr, ◌⊎◌}
use Rattle.std.specs.Prelude.{All, AllPairs, IsTrue, if◌then◌else◌}
use Rattle.std.proofs.lemmas.List.Elements.{All-nil, All-cons, All-head, All-tail, All-filter, All-map, All-weaker, All-push, All-get_or, filter_passes}
use Rattle.std.proofs.lemmas.List.Kept.{AllPairs-filter, AllPairs-cons}
use Rattle.std.proofs.lemmas.List.Quantifiers.{all_pairs_push}
use Rattle.std.proofs.lemmas.List.Sorted.{IsPermutation-refl, length_permutation}
use Rattle.std.proofs.lemmas.Bool.{both_ways, not_from_false, eqb-true, eq-eqb, ne_eqb}
use Rattle.vk_model.specs.declared.resource.PoolInfo.{PoolInfo}
use Rattle.vk_model.specs.declared.resource.PoolKind.{PoolKind}
use Rattle.vk_model.specs.declared.resource.PoolKind.TheVariants as algorithm
use Rattle.vk_model.specs.Memory.Suballocation.{Taken, Request, IsApart, Puts, taken_at}
use Rattle.vk_model.specs.Memory.Room.{Block, General, Stack, all_taken, is_none_left}
use Rattle.vk_model.specs.Memory.MoveTargets.{BlockStart}
use Rattle.vk_model.specs.Memory.LinearBlocks.{after_lower, after_upper}
use Rattle.vk_model.specs.Memory.Pools.{PoolBlock, Pool, block_taken, empty_pool, empty_block, new_block, BlockGives, GivesFrom, Gives, block_with, with_change, in_block, pool_with, block_without, has_some_taken, pool_without, IsSoundBlock, IsPool}
use Rattle.vk_model.specs.Memory.PlaceLaws.{PoolStays}
use Rattle.vk_model.proofs.Memory.AllPairs.{pairs_first, pairs_rest}
use Rattle.vk_model.proofs.Memory.Taken.{fitting, putting_is_sound}
use Rattle.vk_model.proofs.Memory.LinearBlocks.{linear_takes, linear_stays}

-- ---- blocks

holds_one : (ts : List Taken) → 0 < length ts → not (is_none_left ts) ≡ true
holds_one ts some = not_from_false (is_none_left ts) (ne_eqb (length ts) 0 (λ none. omega arith))

put_some : (old new : List Taken) (r : Request) (start : ℕ) → Puts old new r start → not (is_none_left new) ≡ true
put_some old new r start puts = holds_one new (omega (arith, length_permutation new (taken_at start r ∷ old) puts.added))

given_some : (k : Block) (r : Request) (upper : Bool) (start : ℕ) → IsSoundBlock k → BlockGives k r upper start → not (is_none_left (block_taken (block_with k r upper start))) ≡ true
given_some (General size taken) r upper start sound gives = holds_one (taken_at start r ∷ taken) (omega arith)
given_some (Stack b) r true start sound gives = put_some (all_taken b) (all_taken (after_upper b r)) r start ((linear_takes.upper b r sound).taken start gives)
given_some (Stack b) r false start sound gives = put_some (all_taken b) (all_taken (after_lower b r)) r start ((linear_takes.lower b r sound).taken start gives)

given_sound : (k : Block) (r : Request) (upper : Bool) (start : ℕ) → 0 < r.size → IsSoundBlock k → BlockGives k r upper start → IsSoundBlock (block_with k r upper start)
given_sound (General size taken) r upper start some sound gives =
    let aligned = (fitting taken r 0 size start gives).aligned in (
      All-cons (λ t. 0 < t.size) (taken_at start r) taken some sound.0,
      putting_is_sound size taken (taken_at start r ∷ taken) r start sound.1 gives (record { aligned = aligned; added = IsPermutation-refl (taken_at start r ∷ taken) }),
    )
given_sound (Stack b) r true start some sound gives = linear_stays.upper b r some sound
given_sound (Stack b) r false start some sound gives = linear_stays.lower b r some sound

without_sound : (k : Block) (start : ℕ) → IsSoundBlock k → IsSoundBlock (block_without k start)
without_sound (General size taken) start sound =
    let p = λ (t : Taken). not (t.start == start) in (
      All-filter p (λ t. 0 < t.size) taken sound.0,
      record { inside = All-filter p (λ t. t.start + t.size ≤ size) taken sound.1.inside; apart = AllPairs-filter IsApart p taken sound.1.apart },
    )
without_sound (Stack b) start sound = linear_stays.freed b start sound

new_sound : (k : PoolKind) (info : PoolInfo) → IsSoundBlock (empty_block k info)
new_sound algorithm.Tlsf info = (All-nil (λ t. 0 < t.size), record { inside = All-nil (λ t. t.start + t.size ≤ info.block_size); apart = none })
  where
    none : AllPairs IsApart []
    none = λ i j d less there. absurd (omega arith)
new_sound algorithm.Linear info = linear_stays.first info.block_size (info.block_limit == 1)

-- ---- the blocks of a pool, one of them changed

abbrev Rises : PoolBlock → PoolBlock → Type 0
Rises b c = b.number < c.number

module _ (change : Block → Block) (n : ℕ) where
  pub same_number : (b : PoolBlock) → (with_change change n b).number ≡ b.number
  same_number b = go (b.number == n)
    where
      go : (v : Bool) → (if v then record b { block = change b.block } else b).number ≡ b.number
      go true = refl
      go false = refl

  changed_rise : (bs : List PoolBlock) → AllPairs Rises bs → AllPairs Rises (in_block change n bs)
  changed_rise [] pairs = pairs
  changed_rise (b ∷ bs) pairs =
      AllPairs-cons Rises (with_change change n b) (in_block change n bs)
      (All-map (Rises (with_change change n b)) (with_change change n) bs (All-weaker (Rises b) (λ c. Rises (with_change change n b) (with_change change n c))
      (λ c less. omega (arith, same_number b, same_number c)) bs (pairs_first Rises b bs pairs)))
      (changed_rise bs (pairs_rest Rises b bs pairs))

  changed_below : (m : ℕ) (bs : List PoolBlock) → All (λ b. b.number < m) bs → All (λ b. b.number < m) (in_block change n bs)
  changed_below m bs low = All-map (λ b. b.number < m) (with_change change n) bs (All-weaker (λ b. b.number < m) (λ b. (with_change change n b).number < m) (λ b less. omega (arith, same_number b)) bs low)

  changed_holds : (P : Block → Type 0) (bs : List PoolBlock) → All (λ b. P b.block) bs → All (λ b. b.number ≡ n → P (change b.block)) bs → All (λ b. P b.block) (in_block change n bs)
  changed_holds P [] old new = All-nil (λ b. P b.block)
  changed_holds P (b ∷ bs) old new =
      All-cons (λ c. P c.block) (with_change change n b) (in_block change n bs) (go (b.number == n) refl)
      (changed_holds P bs (All-tail (λ c. P c.block) b bs old) (All-tail (λ c. c.number ≡ n → P (change c.block)) b bs new))
    where
      go : (v : Bool) → (b.number == n) ≡ v → P (if v then record b { block = change b.block } else b).block
      go true e = All-head (λ c. c.number ≡ n → P (change c.block)) b bs new (eqb-true b.number n e)
      go false e = All-head (λ c. P c.block) b bs old

-- ---- the place that a pool gives

record InBlocks (next : ℕ) (blocks : List PoolBlock) (r : Request) (upper : Bool) (s : BlockStart) : Type 0 where
  below_next : s.block < next
  above : (m : ℕ) → All (λ b. m < b.number) blocks → m < s.block
  gives : All (λ b. b.number ≡ s.block → BlockGives b.block r upper s.start) blocks

given : (info : PoolInfo) (next : ℕ) (blocks : List PoolBlock) (r : Request) (upper : Bool) (s : BlockStart) → AllPairs Rises blocks → All (λ b. b.number < next) blocks → GivesFrom info next blocks r upper s
    → ((s.block ≡ next) × BlockGives (new_block info) r upper s.start) ⊎ InBlocks next blocks r upper s
given info next [] r upper s pairs low gives = inl gives
given info next (b ∷ bs) r upper s pairs low (inl here) = inr (record {
  below_next = omega (arith, here.0, All-head (λ c. c.number < next) b bs low);
  above = λ m all. omega (arith, here.0, All-head (λ c. m < c.number) b bs all);
  gives = All-cons (λ c. c.number ≡ s.block → BlockGives c.block r upper s.start) b bs (λ same. here.1)
      (All-weaker (Rises b) (λ c. c.number ≡ s.block → BlockGives c.block r upper s.start) (λ c less same. absurd (omega (arith, here.0))) bs (pairs_first Rises b bs pairs));
})
given info next (b ∷ bs) r upper s pairs low (inr later) =
    deeper (given info next bs r upper s (pairs_rest Rises b bs pairs) (All-tail (λ c. c.number < next) b bs low) later.1)
  where
    deeper : ((s.block ≡ next) × BlockGives (new_block info) r upper s.start) ⊎ InBlocks next bs r upper s
        → ((s.block ≡ next) × BlockGives (new_block info) r upper s.start) ⊎ InBlocks next (b ∷ bs) r upper s
    deeper (inl new) = inl new
    deeper (inr old) = inr (record {
      below_next = old.below_next;
      above = λ m all. old.above m (All-tail (λ c. m < c.number) b bs all);
      gives = All-cons (λ c. c.number ≡ s.block → BlockGives c.block r upper s.start) b bs (λ same. absurd (omega (arith, old.above b.number (pairs_first Rises b bs pairs)))) old.gives;
    })

-- ---- a pool stays one

with_new : (p : Pool) (r : Request) (upper : Bool) (start : ℕ) → 0 < r.size → IsPool p → BlockGives (new_block p.info) r upper start
    → IsPool (record p { blocks = p.blocks ++ record { number = p.next; block = block_with (new_block p.info) r upper start } ∷ []; next = p.next + 1 })
with_new p r upper start some h gives =
    let sound = new_sound p.info.kind p.info in
    let b : PoolBlock = record { number = p.next; block = block_with (new_block p.info) r upper start } in
    record {
      rising = all_pairs_push Rises p.blocks b h.rising (λ k d there. All-get_or (λ c. c.number < p.next) p.blocks k d there h.before_next);
      before_next = All-push (λ c. c.number < p.next + 1) p.blocks b (All-weaker (λ c. c.number < p.next) (λ c. c.number < p.next + 1) (λ c less. omega arith) p.blocks h.before_next) (omega arith);
      none_empty = All-push (λ c. IsTrue (has_some_taken c)) p.blocks b h.none_empty (given_some (new_block p.info) r upper start sound gives);
      sound = All-push (λ c. IsSoundBlock c.block) p.blocks b h.sound (given_sound (new_block p.info) r upper start some sound gives);
    }

-- what two facts of each block say together
both_hold : {A : Type 0} (P Q R : A → Type 0) (f : (x : A) → P x → Q x → R x) (xs : List A) → All P xs → All Q xs → All R xs
both_hold P Q R f [] p q = All-nil R
both_hold P Q R f (x ∷ xs) p q = All-cons R x xs (f x (All-head P x xs p) (All-head Q x xs q)) (both_hold P Q R f xs (All-tail P x xs p) (All-tail Q x xs q))

with_old : (p : Pool) (r : Request) (upper : Bool) (s : BlockStart) → 0 < r.size → IsPool p → InBlocks p.next p.blocks r upper s
    → IsPool (record p { blocks = in_block (λ k. block_with k r upper s.start) s.block p.blocks })
with_old p r upper s some h old =
    let change = λ (k : Block). block_with k r upper s.start in
    record {
      rising = changed_rise change s.block p.blocks h.rising;
      before_next = changed_below change s.block p.next p.blocks h.before_next;
      none_empty = changed_holds change s.block (λ k. not (is_none_left (block_taken k)) ≡ true) p.blocks h.none_empty
          (both_hold (λ c. IsSoundBlock c.block) (λ c. c.number ≡ s.block → BlockGives c.block r upper s.start) (λ c. c.number ≡ s.block → not (is_none_left (block_taken (change c.block))) ≡ true)
          (λ c sound gives same. given_some c.block r upper s.start sound (gives same)) p.blocks h.sound old.gives);
      sound = changed_holds change s.block IsSoundBlock p.blocks h.sound
          (both_hold (λ c. IsSoundBlock c.block) (λ c. c.number ≡ s.block → BlockGives c.block r upper s.start) (λ c. c.number ≡ s.block → IsSoundBlock (change c.block))
          (λ c sound gives same. given_sound c.block r upper s.start some sound (gives same)) p.blocks h.sound old.gives);
    }

allocated_stays : (p : Pool) (r : Request) (upper : Bool) (s : BlockStart) → 0 < r.size → IsPool p → Gives p r upper s → IsPool (pool_with p r upper s)
allocated_stays p r upper s some h gives = go (s.block == p.next) refl (given p.info p.next p.blocks r upper s h.rising h.before_next gives)
  where
    go : (v : Bool) → (s.block == p.next) ≡ v → ((s.block ≡ p.next) × BlockGives (new_block p.info) r upper s.start) ⊎ InBlocks p.next p.blocks r upper s
        → IsPool (if v then record p { blocks = p.blocks ++ record { number = p.next; block = block_with (new_block p.info) r upper s.start } ∷ []; next = p.next + 1 }
        else record p { blocks = in_block (λ k. block_with k r upper s.start) s.block p.blocks })
    go true e (inl new) = with_new p r upper s.start some h new.1
    go true e (inr old) = absurd (let same = eqb-true s.block p.next e in omega (arith, old.below_next))
    go false e (inl new) = absurd (both_ways (s.block == p.next) e (eq-eqb s.block p.next new.0))
    go false e (inr old) = with_old p r upper s some h old

freed_stays : (p : Pool) (s : BlockStart) → IsPool p → IsPool (pool_without p s)
freed_stays p s h =
    let change = λ (k : Block). block_without k s.start in
    let blocks = in_block change s.block p.blocks in
    record {
      rising = AllPairs-filter Rises has_some_taken blocks (changed_rise change s.block p.blocks h.rising);
      before_next = All-filter has_some_taken (λ b. b.number < p.next) blocks (changed_below change s.block p.next p.blocks h.before_next);
      none_empty = filter_passes has_some_taken blocks;
      sound = All-filter has_some_taken (λ b. IsSoundBlock b.block) blocks
          (changed_holds change s.block IsSoundBlock p.blocks h.sound
          (All-weaker (λ c. IsSoundBlock c.block) (λ c. c.number ≡ s.block → IsSoundBlock (change c.block)) (λ c sound same. without_sound c.block s.start sound) p.blocks h.sound));
    }

next_rises : (p : Pool) (r : Request) (upper : Bool) (s : BlockStart) → p.next ≤ (pool_with p r upper s).next
next_rises p r upper s = go (s.block == p.next)
  where
    go : (v : Bool) → p.next ≤ (if v then record p { blocks = p.blocks ++ record { number = p.next; block = block_with (new_block p.info) r upper s.start } ∷ []; next = p.next + 1 }
        else record p { blocks = in_block (λ k. block_with k r upper s.start) s.block p.blocks }).next
    go true = omega arith
    go false = omega arith

first_pool : (info : PoolInfo) → IsPool (empty_pool info)
first_pool info = record {
  rising = λ i j d less there. absurd (omega arith);
  before_next = All-nil (λ b. b.number < 0);
  none_empty = All-nil (λ b. IsTrue (has_some_taken b));
  sound = All-nil (λ b. IsSoundBlock b.block);
}

pub pool_stays : PoolStays
pool_stays = record { first = first_pool; taken = allocated_stays; given_back = freed_stays; numbers_rise = next_rises }
