-- A pool when the first of its blocks that holds a request has given it a place.
use Rattle.std.proofs.Common.{◌≡◌, ℕ, zero, suc, ◌+◌, ◌<◌, List, [], ◌∷◌, ◌++◌, length, get_or, set, Bool, true, false, ◌==◌, refl, sym, ap, subst, ◌∙◌, arith, inl, inr}
use Rattle.std.specs.Prelude.{Some, All, AllPairs, if◌then◌else◌}
use Rattle.std.proofs.lemmas.List.Elements.{All-head, All-tail}
use Rattle.std.proofs.lemmas.List.{map-append, length-map, length-set, get_or-set_same}
use Rattle.std.proofs.lemmas.Bool.{ne_eqb, eq-eqb}
use Rattle.vk_model.specs.declared.resource.PoolInfo.{PoolInfo}
use Rattle.vk_model.specs.Memory.Suballocation.{Request}
use Rattle.vk_model.specs.Memory.Room.{Block, BlockHolds}
use Rattle.vk_model.specs.Memory.MoveTargets.{BlockStart}
use Rattle.vk_model.specs.Memory.Pools.{PoolBlock, Pool, BlockGives, GivesFrom, Gives, IsPool, block_with, with_change, in_block, pool_with, new_block}
use Rattle.vk_model.proofs.Memory.AllPairs.{pairs_first, pairs_rest}
use Rattle.vma_blocks.specs.Alike.{IsAlike}
use Rattle.vma_pools.specs.Alike.{AreAlike, IsAlikePool}
use Rattle.vma_pools.proofs.PoolAlike.{are-refl, are-length, are-at, are-appended}
use Rattle.vma_pools.specs.Pools.{Kept, TakesOld, TakesNew}
use Rattle.vma_pools.specs.declared.blocks.Held.{Held}
use Rattle.vma_pools.specs.Inner.Walk.{numbered, seen, objects, kept_of, no_block, block_at, NoneBefore, IsTaken}
use Rattle.vk_memory.specs.MemoryState.{MemoryState, fresh}
use Rattle.vma_pools.proofs.WalkLemmas.{get_or-map-in}

abbrev Rises : PoolBlock → PoolBlock → Type 0
Rises b c = b.number < c.number

gives-from : (info : PoolInfo) (next : ℕ) (bs : List PoolBlock) (r : Request) (upper : Bool) (i start : ℕ) → i < length bs → NoneBefore bs r upper i → BlockGives (block_at bs i) r upper start
    → GivesFrom info next bs r upper (record { block = (get_or bs i no_block).number; start = start })
gives-from info next [] r upper i start lt none gives = absurd (omega (arith, lt))
gives-from info next (b ∷ bs) r upper zero start lt none gives = inl (refl, gives)
gives-from info next (b ∷ bs) r upper (suc i) start lt none gives =
    inr (none 0 (omega arith), gives-from info next bs r upper i start (omega (arith, lt)) (λ k less. none (suc k) (omega (arith, less))) gives)

module _ (change : Block → Block) where
  kept : (n : ℕ) (b : PoolBlock) → (b.number == n) ≡ false → with_change change n b ≡ b
  kept n b e = ap (λ (v : Bool). if v then record b { block = change b.block } else b) e

  changed : (n : ℕ) (b : PoolBlock) → (b.number == n) ≡ true → with_change change n b ≡ record b { block = change b.block }
  changed n b e = ap (λ (v : Bool). if v then record b { block = change b.block } else b) e

  all-kept : (n : ℕ) (bs : List PoolBlock) → All (λ b. n < b.number) bs → in_block change n bs ≡ bs
  all-kept n [] all = refl
  all-kept n (b ∷ bs) all =
      let differ : (b.number == n) ≡ false = ne_eqb b.number n (λ e. omega (arith, e, All-head (λ c. n < c.number) b bs all)) in
      ap (λ c. c ∷ in_block change n bs) (kept n b differ) ∙ ap (λ l. b ∷ l) (all-kept n bs (All-tail (λ c. n < c.number) b bs all))

  at-number : (bs : List PoolBlock) (i : ℕ) → i < length bs → (m : ℕ) → All (λ b. m < b.number) bs → m < (get_or bs i no_block).number
  at-number [] i lt m all = absurd (omega (arith, lt))
  at-number (b ∷ bs) zero lt m all = All-head (λ c. m < c.number) b bs all
  at-number (b ∷ bs) (suc i) lt m all = at-number bs i (omega (arith, lt)) m (All-tail (λ c. m < c.number) b bs all)

  pub in_block-set : (bs : List PoolBlock) (i : ℕ) → AllPairs Rises bs → i < length bs
      → in_block change (get_or bs i no_block).number bs ≡ set bs i (record (get_or bs i no_block) { block = change (block_at bs i) })
  in_block-set [] i rises lt = absurd (omega (arith, lt))
  in_block-set (b ∷ bs) zero rises lt =
      ap (λ c. c ∷ in_block change b.number bs) (changed b.number b (eq-eqb b.number b.number refl))
      ∙ ap (λ l. record b { block = change b.block } ∷ l) (all-kept b.number bs (pairs_first Rises b bs rises))
  in_block-set (b ∷ bs) (suc i) rises lt =
      let n = (get_or bs i no_block).number in
      let less : b.number < n = at-number bs i (omega (arith, lt)) b.number (pairs_first Rises b bs rises) in
      let differ : (b.number == n) ≡ false = ne_eqb b.number n (λ e. omega (arith, e, less)) in
      ap (λ c. c ∷ in_block change n bs) (kept n b differ) ∙ ap (λ l. b ∷ l) (in_block-set bs i (pairs_rest Rises b bs rises) (omega (arith, lt)))

number-below : (bs : List PoolBlock) (i next : ℕ) → i < length bs → All (λ b. b.number < next) bs → (get_or bs i no_block).number < next
number-below [] i next lt all = absurd (omega (arith, lt))
number-below (b ∷ bs) zero next lt all = All-head (λ c. c.number < next) b bs all
number-below (b ∷ bs) (suc i) next lt all = number-below bs i next (omega (arith, lt)) (All-tail (λ c. c.number < next) b bs all)

module _ (p : Pool) (h : IsPool p) (new : List PoolBlock) (r : Request) (upper : Bool) (i start : ℕ) (t : IsTaken p.blocks new r upper i start) where
  abbrev place : BlockStart
  place = record { block = (get_or p.blocks i no_block).number; start = start }

  given : Gives p r upper place
  given = gives-from p.info p.next p.blocks r upper i start t.there t.before t.gives

  has : (get_or p.blocks i no_block).number < p.next
  has = number-below p.blocks i p.next t.there h.before_next

  changed-is : record p { blocks = set p.blocks i (record (get_or p.blocks i no_block) { block = block_with (block_at p.blocks i) r upper start }) } ≡ pool_with p r upper place
  changed-is =
      let differ : (place.block == p.next) ≡ false = ne_eqb place.block p.next (λ e. omega (arith, e, has)) in
      ap (λ (bs : List PoolBlock). record p { blocks = bs }) (sym (in_block-set (λ b. block_with b r upper start) p.blocks i h.rising t.there))
      ∙ sym (ap (λ (v : Bool). if v then record p { blocks = p.blocks ++ record { number = p.next; block = block_with (new_block p.info) r upper start } ∷ []; next = p.next + 1 } else record p { blocks = in_block (λ b. block_with b r upper start) place.block p.blocks }) differ)

  pool-is : IsAlikePool (pool_with p r upper place) (record p { blocks = new })
  pool-is = subst (λ (q : Pool). IsAlikePool q (record p { blocks = new })) changed-is (record { info = refl; blocks = t.changed; next = refl })

  pub takes-old : (old memories : List ℕ) → memories ≡ old → (s : BlockStart) → s ≡ place → TakesOld (record { pool = p; memories = old }) (record { pool = record p { blocks = new }; memories = memories }) r upper s
  takes-old old memories e s is =
      record {
        given = subst (λ (x : BlockStart). Gives p r upper x) (sym is) given;
        has = subst (λ (x : BlockStart). x.block < p.next) (sym is) has;
        pool = subst (λ (x : BlockStart). IsAlikePool (pool_with p r upper x) (record p { blocks = new })) (sym is) pool-is;
        memories = e;
      }

-- ---- the same of the blocks that are held

module _ {B : Type 0} (block : B → Block) (info : PoolInfo) (old new fit : List (Held B)) (next : ℕ) (h : IsPool (kept_of block info old next).pool) (r : Request) (upper : Bool) (i start : ℕ) (t : IsTaken (seen block old) (seen block new) r upper i start) (fits : fit ≡ new) where
  abbrev put : PoolBlock
  put = record (get_or (seen block old) i no_block) { block = block_with (block_at (seen block old) i) r upper start }

  long : length new ≡ length old
  long =
      sym (length-map new (numbered block)) ∙ are-length (set (seen block old) i put) (seen block new) t.changed
      ∙ length-set (seen block old) i put ∙ length-map old (numbered block)

  within : i < length new
  within = omega (arith, t.there, long, length-map old (numbered block))

  pub number-is : (x : Held B) → x ≡ get_or fit i x → x.number ≡ (get_or (seen block old) i no_block).number
  number-is x e =
      ap (λ (y : Held B). y.number) (e ∙ ap (λ (l : List (Held B)). get_or l i x) fits)
      ∙ ap (λ (b : PoolBlock). b.number) (sym (get_or-map-in (numbered block) new i x no_block within))
      ∙ (are-at (set (seen block old) i put) (seen block new) t.changed i no_block).0
      ∙ ap (λ (b : PoolBlock). b.number) (get_or-set_same (seen block old) i put no_block t.there)

  pub fit-takes : objects new ≡ objects old → (now : Kept) → kept_of block info old next ≡ now → (x : Held B) → x ≡ get_or fit i x → TakesOld now (kept_of block info fit next) r upper (record { block = x.number; start = start })
  fit-takes objs now view x e =
      let s : BlockStart = record { block = x.number; start = start } in
      let is : s ≡ place (kept_of block info old next).pool h (seen block new) r upper i start t = ap (λ (n : ℕ). record { block = n; start = start }) (number-is x e) in
      subst (λ (k : Kept). TakesOld k (kept_of block info fit next) r upper s) view
      (subst (λ (l : List (Held B)). TakesOld (kept_of block info old next) (kept_of block info l next) r upper s) (sym fits)
      (takes-old (kept_of block info old next).pool h (seen block new) r upper i start t (objects old) (objects new) objs s is))

-- ---- a new block

gives-new : (info : PoolInfo) (next : ℕ) (bs : List PoolBlock) (r : Request) (upper : Bool) (start : ℕ) → All (λ b. BlockHolds b.block r upper → ⊥) bs → BlockGives (new_block info) r upper start
    → GivesFrom info next bs r upper (record { block = next; start = start })
gives-new info next [] r upper start none gives = (refl, gives)
gives-new info next (b ∷ bs) r upper start none gives =
    inr (All-head (λ c. BlockHolds c.block r upper → ⊥) b bs none, gives-new info next bs r upper start (All-tail (λ c. BlockHolds c.block r upper → ⊥) b bs none) gives)

module _ {B : Type 0} (block : B → Block) (info : PoolInfo) (old new : List (Held B)) (next memory : ℕ) (b : B) (r : Request) (upper : Bool) (start : ℕ) (none : All (λ b. BlockHolds b.block r upper → ⊥) (seen block old)) (gives : BlockGives (new_block info) r upper start) (taken : IsAlike (block_with (new_block info) r upper start) (block b))
    (is : new ≡ old ++ record { number = next; memory = memory; block = b } ∷ []) where
  abbrev p : Pool
  p = (kept_of block info old next).pool

  abbrev there : BlockStart
  there = record { block = next; start = start }

  pub gives-there : Gives p r upper there
  gives-there = gives-new info next (seen block old) r upper start none gives

  abbrev asked : PoolBlock
  asked = record { number = next; block = block_with (new_block info) r upper start }

  blocks-are : AreAlike (seen block old ++ asked ∷ []) (seen block new)
  blocks-are =
      subst (λ (l : List PoolBlock). AreAlike (seen block old ++ asked ∷ []) l) (sym (ap (λ (l : List (Held B)). seen block l) is ∙ map-append (numbered block) old (record { number = next; memory = memory; block = b } ∷ [])))
      (are-appended (seen block old) (seen block old) (asked ∷ []) (record { number = next; block = block b } ∷ []) (are-refl (seen block old)) ((refl, taken), tt))

  pub new-is : IsAlikePool (pool_with p r upper there) (kept_of block info new (next + 1)).pool
  new-is =
      subst (λ (v : Bool). IsAlikePool (if v then record p { blocks = p.blocks ++ record { number = p.next; block = block_with (new_block p.info) r upper start } ∷ []; next = p.next + 1 } else record p { blocks = in_block (λ k. block_with k r upper start) next p.blocks }) (kept_of block info new (next + 1)).pool)
      (sym (eq-eqb next next refl)) (record { info = refl; blocks = blocks-are; next = refl })

  pub takes-new : (now : Kept) → kept_of block info old next ≡ now → (before after : MemoryState) → memory ≡ length before.objects
      → after ≡ record before { objects = before.objects ++ Some (fresh info.memory_type info.block_size) ∷ [] }
      → TakesNew now (kept_of block info new (next + 1)) before after r upper there
  takes-new now view before after number object =
      subst (λ (k : Kept). TakesNew k (kept_of block info new (next + 1)) before after r upper there) view (record {
        given = gives-there;
        is_new = refl;
        pool = new-is;
        memories = ap (λ (l : List (Held B)). objects l) is ∙ map-append (λ (x : Held B). x.memory) old (record { number = next; memory = memory; block = b } ∷ []) ∙ ap (λ (n : ℕ). objects old ++ n ∷ []) number;
        object = object;
      })
