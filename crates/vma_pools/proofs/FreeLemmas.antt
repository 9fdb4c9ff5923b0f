-- A pool when a range of one of its blocks is given back.
use Rattle.std.proofs.Common.{◌≡◌, ℕ, zero, suc, ◌+◌, ◌<◌, ◌≤◌, List, [], ◌∷◌, ◌++◌, length, get_or, set, map, take, drop, Bool, true, false, not, Some, None, refl, sym, ap, subst, ◌∙◌, arith, inl, inr}
use Rattle.std.proofs.lemmas.Bool.{cases_lt}
use Rattle.std.specs.Prelude.{All, AllPairs, Any, if◌then◌else◌, IsTrue}
use Rattle.std.specs.List.{filter}
use Rattle.std.proofs.lemmas.List.Elements.{All-head, All-tail}
use Rattle.std.proofs.lemmas.List.{length-map, map-set, get_or-set_same, get_or_default}
use Rattle.std.proofs.Math.Seq.{map-set_same}
use Rattle.vk_model.specs.declared.resource.PoolInfo.{PoolInfo}
use Rattle.vma_pools.specs.Pools.{Kept, Loses, LosesOne, KeepsBlocks, block_numbers}
use Rattle.vma_blocks.specs.Alike.{IsAlike}
use Rattle.vma_pools.specs.Alike.{AreAlike, IsAlikePool}
use Rattle.vma_pools.proofs.PoolAlike.{are-set, are-filtered}
use Rattle.vma_pools.proofs.PoolLemmas.{in_block-set}
use Rattle.vk_model.specs.Memory.Suballocation.{IsTakenAt}
use Rattle.vk_model.specs.Memory.Room.{Block, is_none_left}
use Rattle.vk_model.specs.Memory.MoveTargets.{BlockStart}
use Rattle.vk_model.specs.Memory.Pools.{PoolBlock, Pool, IsPool, block_taken, block_without, has_some_taken, in_block, pool_without}
use Rattle.vma_pools.specs.Inner.Walk.{numbered, seen, objects, kept_of, no_block}
use Rattle.vma_pools.proofs.WalkLemmas.{get_or-map-in}
use Rattle.vma_pools.specs.declared.blocks.Held.{Held}

kept-one : (b : PoolBlock) (bs : List PoolBlock) → has_some_taken b ≡ true → filter has_some_taken (b ∷ bs) ≡ b ∷ filter has_some_taken bs
kept-one b bs e = ap (λ (v : Bool). if v then b ∷ filter has_some_taken bs else filter has_some_taken bs) e

gone-one : (b : PoolBlock) (bs : List PoolBlock) → has_some_taken b ≡ false → filter has_some_taken (b ∷ bs) ≡ filter has_some_taken bs
gone-one b bs e = ap (λ (v : Bool). if v then b ∷ filter has_some_taken bs else filter has_some_taken bs) e

all-kept : (bs : List PoolBlock) → All (λ b. IsTrue (has_some_taken b)) bs → filter has_some_taken bs ≡ bs
all-kept [] all = refl
all-kept (b ∷ bs) all = kept-one b bs (All-head (λ c. IsTrue (has_some_taken c)) b bs all) ∙ ap (λ l. b ∷ l) (all-kept bs (All-tail (λ c. IsTrue (has_some_taken c)) b bs all))

-- the block that was changed has something left
pub left-kept : (bs : List PoolBlock) (i : ℕ) (n : PoolBlock) → i < length bs → All (λ b. IsTrue (has_some_taken b)) bs → has_some_taken n ≡ true → filter has_some_taken (set bs i n) ≡ set bs i n
left-kept [] i n lt all e = absurd (omega (arith, lt))
left-kept (b ∷ bs) zero n lt all e = kept-one n bs e ∙ ap (λ l. n ∷ l) (all-kept bs (All-tail (λ c. IsTrue (has_some_taken c)) b bs all))
left-kept (b ∷ bs) (suc i) n lt all e =
    kept-one b (set bs i n) (All-head (λ c. IsTrue (has_some_taken c)) b bs all)
    ∙ ap (λ l. b ∷ l) (left-kept bs i n (omega (arith, lt)) (All-tail (λ c. IsTrue (has_some_taken c)) b bs all) e)

-- nothing is left of it
pub none-kept : (bs : List PoolBlock) (i : ℕ) (n : PoolBlock) → i < length bs → All (λ b. IsTrue (has_some_taken b)) bs → has_some_taken n ≡ false → filter has_some_taken (set bs i n) ≡ take i bs ++ drop (suc i) bs
none-kept [] i n lt all e = absurd (omega (arith, lt))
none-kept (b ∷ bs) zero n lt all e = gone-one n bs e ∙ all-kept bs (All-tail (λ c. IsTrue (has_some_taken c)) b bs all)
none-kept (b ∷ bs) (suc i) n lt all e =
    kept-one b (set bs i n) (All-head (λ c. IsTrue (has_some_taken c)) b bs all)
    ∙ ap (λ l. b ∷ l) (none-kept bs i n (omega (arith, lt)) (All-tail (λ c. IsTrue (has_some_taken c)) b bs all) e)

-- ---- where the block of a number is

module _ {B : Type 0} (xs : List (Held B)) (n : ℕ) (rising : AllPairs (λ a b. a.number < b.number) xs) (m : ℕ) (x : Held B) (within : m < length xs) where
  rises : (k : ℕ) (d : Held B) → k < m → (get_or xs k d).number < (get_or xs m x).number
  rises k d less =
      let same : (get_or xs k d).number ≡ (get_or xs k x).number = ap (λ (h : Held B). h.number) (get_or_default xs k d x (omega (arith, less, within))) in
      omega (arith, rising k m x less within, same)

  -- up to one with a lower number all have a lower one
  pub lower-before : (get_or xs m x).number < n → (k : ℕ) (d : Held B) → k < m + 1 → (get_or xs k d).number < n
  lower-before low k d less = elim (cases_lt k m) [
    | inl l ↦ omega (arith, rises k d l, low)
    | inr h ↦
        let here : k ≡ m = omega (arith, h, less) in
        omega (arith, ap (λ (j : ℕ). (get_or xs j d).number) here, ap (λ (h : Held B). h.number) (get_or_default xs m d x within), low)
  ]

  -- from one with a number that isn't lower on none has a lower one
  pub none_lower-from : n ≤ (get_or xs m x).number → (k : ℕ) (d : Held B) → m ≤ k → k < length xs → n ≤ (get_or xs k d).number
  none_lower-from high k d le lt =
      let same : (get_or xs k d).number ≡ (get_or xs k x).number = ap (λ (h : Held B). h.number) (get_or_default xs k d x lt) in
      elim (cases_lt m k) [
        | inl l ↦ omega (arith, rising m k x l lt, high, same)
        | inr h ↦
            let here : k ≡ m = omega (arith, h, le) in
            omega (arith, ap (λ (j : ℕ). (get_or xs j x).number) here, high, same)
      ]

-- the first whose number isn't lower is that of the number
pub first-of-number : {B : Type 0} (xs : List (Held B)) (n i : ℕ) → AllPairs (λ a b. a.number < b.number) xs → Any (λ held. held.number ≡ n) xs → i ≤ length xs
    → ((k : ℕ) (d : Held B) → k < i → (get_or xs k d).number < n) → ((k : ℕ) (d : Held B) → i ≤ k → k < length xs → n ≤ (get_or xs k d).number) → (i < length xs) × ((d : Held B) → (get_or xs i d).number ≡ n)
first-of-number {B = B} xs n i rising any within before from =
    let j = any.0 in
    let is : (d : Held B) → (get_or xs j d).number ≡ n = λ d. ap (λ (h : Held B). h.number) (get_or_default xs j d any.1 any.2 ∙ any.3) ∙ any.4 in
    let le : i ≤ j = elim (cases_lt j i) [ inl l ↦ absurd (omega (arith, before j any.1 l, is any.1)) | inr g ↦ g ] in
    let lt : i < length xs = omega (arith, le, any.2) in (
      lt,
      λ d. elim (cases_lt i j) [
        | inl l ↦ absurd (omega (arith, rising i j d l any.2, from i d (omega arith) lt, is d))
        | inr g ↦ let here : i ≡ j = omega (arith, g, le) in ap (λ (k : ℕ). (get_or xs k d).number) here ∙ is d
      ],
    )

-- ---- what is seen of the blocks that are held

module _ {B : Type 0} (block : B → Block) (xs : List (Held B)) where
  -- the numbers of the blocks rise
  pub held-rise : AllPairs (λ b c. b.number < c.number) (seen block xs) → AllPairs (λ a b. a.number < b.number) xs
  held-rise rises i j d less lt =
      let l : j < length (seen block xs) = omega (arith, lt, length-map xs (numbered block)) in
      let m : i < length xs = omega (arith, less, lt) in
      omega (arith, rises i j (numbered block d) less l, ap (λ (b : PoolBlock). b.number) (get_or-map-in (numbered block) xs i d (numbered block d) m), ap (λ (b : PoolBlock). b.number) (get_or-map-in (numbered block) xs j d (numbered block d) lt))

pub any-held : {A C : Type 0} (P : C → Type 0) (f : A → C) (xs : List A) → Any P (map f xs) → Any (λ x. P (f x)) xs
any-held P f [] a = absurd (omega (arith, a.2))
any-held {A = A} {C = C} P f (x ∷ xs) a = at a.0 a.1 a.2 a.3 a.4 (λ b. any-held P f xs b)
  where
    at : (k : ℕ) (y : C) → k < length (f x ∷ map f xs) → get_or (f x ∷ map f xs) k y ≡ y → P y → (Any P (map f xs) → Any (λ z. P (f z)) xs) → Any (λ z. P (f z)) (x ∷ xs)
    at zero y lt is p rest = (0, x, omega arith, refl, subst P (sym is) p)
    at (suc k) y lt is p rest = let r = rest (k, y, omega (arith, lt), is, p) in (suc r.0, r.1, omega (arith, r.2), r.3, r.4)

-- two blocks of one number are the same
same-index : {B : Type 0} (xs : List (Held B)) (n i k : ℕ) (d : Held B) → AllPairs (λ a b. a.number < b.number) xs → i < length xs → k < length xs → (get_or xs i d).number ≡ n → (get_or xs k d).number ≡ n → i ≡ k
same-index xs n i k d rising li lk ei ek =
    elim (cases_lt i k) [
      | inl l ↦ absurd (omega (arith, rising i k d l lk, ei, ek))
      | inr g ↦ elim (cases_lt k i) [ inl l ↦ absurd (omega (arith, rising k i d l li, ei, ek)) | inr h ↦ omega (arith, g, h) ]
    ]

-- the range is taken in the block of the number
pub taken-there : {B : Type 0} (block : B → Block) (xs : List (Held B)) (s : BlockStart) (i : ℕ) (d : Held B) → AllPairs (λ a b. a.number < b.number) xs → i < length xs → (get_or xs i d).number ≡ s.block
    → Any (λ b. (b.number ≡ s.block) × IsTakenAt s.start (block_taken b.block)) (seen block xs) → IsTakenAt s.start (block_taken (block (get_or xs i d).block))
taken-there block xs s i d rising lt e any =
    let a = any-held (λ b. (b.number ≡ s.block) × IsTakenAt s.start (block_taken b.block)) (numbered block) xs any in
    let there : get_or xs a.0 d ≡ a.1 = get_or_default xs a.0 d a.1 a.2 ∙ a.3 in
    let k : a.0 ≡ i = same-index xs s.block a.0 i d rising a.2 lt (ap (λ (h : Held _). h.number) there ∙ a.4.0) e in
    subst (λ (h : Held _). IsTakenAt s.start (block_taken (block h.block))) (sym there ∙ ap (λ (j : ℕ). get_or xs j d) k) a.4.1

pub any-number : {B : Type 0} (block : B → Block) (xs : List (Held B)) (s : BlockStart) → Any (λ b. (b.number ≡ s.block) × IsTakenAt s.start (block_taken b.block)) (seen block xs) → Any (λ h. h.number ≡ s.block) xs
any-number block xs s any =
    let a = any-held (λ b. (b.number ≡ s.block) × IsTakenAt s.start (block_taken b.block)) (numbered block) xs any in (a.0, a.1, a.2, a.3, a.4.0)

-- ---- the pool after it

cut-set : {A : Type 0} (xs : List A) (i : ℕ) (a : A) → take i (set xs i a) ++ drop (suc i) (set xs i a) ≡ take i xs ++ drop (suc i) xs
cut-set [] zero a = refl
cut-set [] (suc i) a = refl
cut-set (x ∷ xs) zero a = refl
cut-set (x ∷ xs) (suc i) a = ap (λ l. x ∷ l) (cut-set xs i a)

map-cut : {A C : Type 0} (f : A → C) (xs : List A) (i : ℕ) → map f (take i xs ++ drop (suc i) xs) ≡ take i (map f xs) ++ drop (suc i) (map f xs)
map-cut f [] zero = refl
map-cut f [] (suc i) = refl
map-cut f (x ∷ xs) zero = refl
map-cut f (x ∷ xs) (suc i) = ap (λ l. f x ∷ l) (map-cut f xs i)

-- the numbers of the blocks that are held
seen-numbers : {B : Type 0} (block : B → Block) (xs : List (Held B)) → map (λ b. b.number) (seen block xs) ≡ map (λ y. y.number) xs
seen-numbers block [] = refl
seen-numbers block (x ∷ xs) = ap (λ l. x.number ∷ l) (seen-numbers block xs)

module _ {B : Type 0} (block : B → Block) (info : PoolInfo) (xs : List (Held B)) (next : ℕ) (h : IsPool (kept_of block info xs next).pool) (now : Kept) (view : kept_of block info xs next ≡ now) (i : ℕ) (x : Held B) (is : x ≡ get_or xs i x) (lt : i < length xs) (s : BlockStart) (number : (get_or xs i x).number ≡ s.block) (v : B) (freed : IsAlike (block_without (block x.block) s.start) (block v)) where
  abbrev after : Held B
  after = record { number = x.number; memory = x.memory; block = v }

  abbrev blocks : List PoolBlock
  blocks = seen block xs

  abbrev p : Pool
  p = (kept_of block info xs next).pool

  within : i < length blocks
  within = omega (arith, lt, length-map xs (numbered block))

  at_index : get_or blocks i no_block ≡ numbered block x
  at_index = get_or-map-in (numbered block) xs i x no_block lt ∙ ap (λ (y : Held B). numbered block y) (sym is)

  seen-set : seen block (set xs i after) ≡ set blocks i (numbered block after)
  seen-set = map-set (numbered block) xs i after

  number-is : (get_or blocks i no_block).number ≡ s.block
  number-is = ap (λ (b : PoolBlock). b.number) (get_or-map-in (numbered block) xs i x no_block lt) ∙ number

  in-set : in_block (λ k. block_without k s.start) s.block blocks ≡ set blocks i (record { number = x.number; block = block_without (block x.block) s.start })
  in-set =
      ap (λ (n : ℕ). in_block (λ k. block_without k s.start) n blocks) (sym number-is)
      ∙ in_block-set (λ k. block_without k s.start) blocks i h.rising within
      ∙ ap (λ (b : PoolBlock). set blocks i (record b { block = block_without b.block s.start })) at_index

  changed : AreAlike (filter has_some_taken (in_block (λ k. block_without k s.start) s.block blocks)) (filter has_some_taken (set blocks i (numbered block after)))
  changed =
      are-filtered (in_block (λ k. block_without k s.start) s.block blocks) (set blocks i (numbered block after))
      (subst (λ (l : List PoolBlock). AreAlike l (set blocks i (numbered block after))) (sym in-set)
      (are-set blocks i (record { number = x.number; block = block_without (block x.block) s.start }) (numbered block after) (refl, freed)))

  -- something is left of the block
  module _ (left : false ≡ is_none_left (block_taken (block v))) where
    pub kept-freed : IsAlikePool (pool_without now.pool s) (kept_of block info (set xs i after) next).pool
    kept-freed =
        subst (λ (k : Kept). IsAlikePool (pool_without k.pool s) (kept_of block info (set xs i after) next).pool) view (record {
          info = refl;
          blocks = subst (λ (l : List PoolBlock). AreAlike (filter has_some_taken (in_block (λ k. block_without k s.start) s.block blocks)) l)
              (left-kept blocks i (numbered block after) within h.none_empty (ap (λ (b : Bool). not b) (sym left)) ∙ sym seen-set) changed;
          next = refl;
        })

    pub kept-objects : objects (set xs i after) ≡ now.memories
    kept-objects = map-set_same (λ (y : Held B). y.memory) xs i after x (ap (λ (y : Held B). y.memory) is) ∙ ap (λ (k : Kept). k.memories) view

    pub kept-blocks : KeepsBlocks None s.block now (kept_of block info (set xs i after) next)
    kept-blocks = (
      kept-objects,
      seen-numbers block (set xs i after) ∙ map-set_same (λ (y : Held B). y.number) xs i after x (ap (λ (y : Held B). y.number) is) ∙ sym (seen-numbers block xs) ∙ ap (λ (k : Kept). block_numbers k.pool) view,
    )

  -- nothing is left of it
  module _ (left : true ≡ is_none_left (block_taken (block v))) (new : List (Held B)) (cut : new ≡ take i (set xs i after) ++ drop (i + 1) (set xs i after)) where
    next-index : i + 1 ≡ suc i
    next-index = omega arith

    new-is : new ≡ take i xs ++ drop (suc i) xs
    new-is = cut ∙ ap (λ (n : ℕ). take i (set xs i after) ++ drop n (set xs i after)) next-index ∙ cut-set xs i after

    pub gone-freed : IsAlikePool (pool_without now.pool s) (kept_of block info new next).pool
    gone-freed =
        subst (λ (k : Kept). IsAlikePool (pool_without k.pool s) (kept_of block info new next).pool) view (record {
          info = refl;
          blocks = subst (λ (l : List PoolBlock). AreAlike (filter has_some_taken (in_block (λ k. block_without k s.start) s.block blocks)) l)
              (none-kept blocks i (numbered block after) within h.none_empty (ap (λ (b : Bool). not b) (sym left))
              ∙ sym (map-cut (numbered block) xs i) ∙ sym (ap (λ (l : List (Held B)). seen block l) new-is)) changed;
          next = refl;
        })

    pub gone-loses : (gone : Held B) → gone ≡ get_or (set xs i after) i gone → Loses now.memories (objects new) gone.memory
    gone-loses gone e =
        subst (λ (ms : List ℕ). Loses ms (objects new) gone.memory) (ap (λ (k : Kept). k.memories) view) (record {
          index = i;
          there = omega (arith, lt, length-map xs (λ (y : Held B). y.memory));
          is = get_or-map-in (λ (y : Held B). y.memory) xs i x 0 lt ∙ ap (λ (y : Held B). y.memory) (sym is) ∙ ap (λ (y : Held B). y.memory) (sym (e ∙ get_or-set_same xs i after gone lt));
          left = ap (λ (l : List (Held B)). objects l) new-is ∙ map-cut (λ (y : Held B). y.memory) xs i ∙ ap (λ (n : ℕ). take i (objects xs) ++ drop n (objects xs)) (sym next-index);
        })

    pub gone-blocks : (gone : Held B) → gone ≡ get_or (set xs i after) i gone → KeepsBlocks (Some gone.memory) s.block now (kept_of block info new next)
    gone-blocks gone e =
        subst (λ (k : Kept). LosesOne k (kept_of block info new next) s.block gone.memory) view (record {
          index = i;
          there = omega (arith, lt, length-map xs (λ (y : Held B). y.memory));
          block = omega (arith, lt, length-map xs (numbered block));
          is = get_or-map-in (λ (y : Held B). y.memory) xs i x 0 lt ∙ ap (λ (y : Held B). y.memory) (sym is) ∙ ap (λ (y : Held B). y.memory) (sym (e ∙ get_or-set_same xs i after gone lt));
          numbered = ap (λ (ns : List ℕ). get_or ns i 0) (seen-numbers block xs) ∙ get_or-map-in (λ (y : Held B). y.number) xs i x 0 lt ∙ number;
          memories = ap (λ (l : List (Held B)). objects l) new-is ∙ map-cut (λ (y : Held B). y.memory) xs i ∙ ap (λ (n : ℕ). take i (objects xs) ++ drop n (objects xs)) (sym next-index);
          numbers = seen-numbers block new ∙ ap (λ (l : List (Held B)). map (λ y. y.number) l) new-is ∙ map-cut (λ (y : Held B). y.number) xs i
              ∙ ap (λ (l : List ℕ). take i l ++ drop (suc i) l) (sym (seen-numbers block xs)) ∙ ap (λ (n : ℕ). take i (map (λ b. b.number) blocks) ++ drop n (map (λ b. b.number) blocks)) (sym next-index);
        })
