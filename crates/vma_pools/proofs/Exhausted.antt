-- A place of a pool below which it has no room for a request: where a search may begin, what stays and what follows. Other crates cite it.
use Rattle.std.proofs.Common.{◌≡◌, ℕ, zero, suc, ◌+◌, ◌-◌, ◌/◌, ◌%◌, ◌<◌, ◌≤◌, List, ◌∷◌, ◌++◌, length, get_or, [], Bool, true, false, not, ◌&&◌, ◌||◌, ◌==◌, nat_lt, nat_le, refl, sym, ap, subst, ◌∙◌, arith, inl, inr, ◌⊎◌}
use Rattle.std.specs.Prelude.{Option, Some, None, All, AllPairs, Contains, option_map, if◌then◌else◌}
use Rattle.std.specs.List.{list_any}
use Rattle.std.specs.Option.{option_or}
use Rattle.std.proofs.lemmas.Bool.{and_from, and_parts, both_ways, cases_lt, eq-eqb, false_from_ne_true, le-leb, leb-true, lt-ltb, ltb-true, ne_eqb, or_parts}
use Rattle.std.proofs.lemmas.List.{get_or_default}
use Rattle.std.proofs.lemmas.List.Elements.{All-contains, All-map}
use Rattle.std.proofs.lemmas.List.Folds.{list_any_none}
use Rattle.std.proofs.lemmas.Option.{none-some}
use Rattle.vk_model.specs.Basics.{below}
use Rattle.vk_model.specs.declared.resource.Kind.{Kind}
use Rattle.vk_model.specs.declared.resource.PoolKind.TheVariants as algorithm
use Rattle.vk_model.specs.Memory.Suballocation.{Taken, Request, IsApart, conflict, ranges_meet, same_kind, share_page, taken_at}
use Rattle.vk_model.specs.Memory.Room.{Block, General, Stack, fits, lowest}
use Rattle.vk_model.specs.Memory.MoveTargets.{BlockStart, Resident, move_target, place_in}
use Rattle.vk_model.specs.Memory.Pools.{PoolBlock, Pool, IsHigher, block_bytes, block_taken, block_with, in_block, new_block, numbered_blocks, pool_with, with_change}
use Rattle.vk_model.proofs.Memory.LinearBlocks.{find_passes}
use Rattle.vk_model.proofs.Memory.Ranges.{beside}
use Rattle.vk_model.proofs.Memory.Taken.{Fitting, fitting, widened}
use Rattle.vma_blocks.specs.Alike.{IsGeneral}
use Rattle.vma_blocks.proofs.AlikeLemmas.{alike-bytes, alike-taken, fits_alike}
use Rattle.vma_pools.specs.Alike.{IsAlikeBlock, IsAlikePool}
use Rattle.vma_pools.specs.Exhausted.{HasNoneBelow, IsAsLarge, IsExhausted}
use Rattle.vma_pools.specs.Inner.Kinds.{IsKeptPool}
use Rattle.vma_pools.specs.Inner.Lower.{at_start, lower_in, ranges_of}
use Rattle.vma_pools.specs.Inner.Walk.{no_block}
use Rattle.vma_pools.specs.Pools.{Kept, HasNoTarget, HasTarget, TakesTarget}
use Rattle.vma_pools.specs.Ranges.{HasRange}
use Rattle.vma_pools.proofs.LowerLemmas.{earlier-lower, later-lower, none-before, none-fits, none-lowest, own-lower, target-none}
use Rattle.vma_pools.proofs.PoolAlike.{all-alike}
use Rattle.vma_pools.proofs.RangeLemmas.{same-block}
use Rattle.vma_pools.proofs.TargetLemmas.{all-general}

-- ---- what fits at a start

pub fits-from : (taken : List Taken) (r : Request) (low high start : ℕ) → Fitting taken r low high start → fits taken r low high start ≡ true
fits-from taken r low high start f =
    and_from _ _ (and_from _ _ (and_from _ _ (eq-eqb (start % r.align) 0 f.aligned) (le-leb low start f.above)) (le-leb (start + r.size) high f.below))
    (ap not (list_any_none (λ t. conflict r.kind start r.size t.kind t.start t.size) taken f.apart))

-- what ends at or below a limit fits below it
pub fits-up_to : (taken : List Taken) (r : Request) (low high limit start : ℕ) → fits taken r low high start ≡ true → start + r.size ≤ limit → fits taken r low limit start ≡ true
fits-up_to taken r low high limit start fit within =
    let f = fitting taken r low high start fit in
    fits-from taken r low limit start (record { aligned = f.aligned; above = f.above; below = within; apart = f.apart })

-- what doesn't fit doesn't do so below a limit
pub fails-narrowed : (taken : List Taken) (r : Request) (high size start : ℕ) → high ≤ size → fits taken r 0 size start ≡ false → fits taken r 0 high start ≡ false
fails-narrowed taken r high size start le fails =
    false_from_ne_true (fits taken r 0 high start) (λ fit. both_ways (fits taken r 0 size start) fails (widened taken r 0 high size start le fit))

-- nor where one range more is taken
fails-more : (taken : List Taken) (r : Request) (size start : ℕ) (t : Taken) → fits taken r 0 size start ≡ false → fits (t ∷ taken) r 0 size start ≡ false
fails-more taken r size start t fails =
    go (start % r.align == 0 && nat_le 0 start && nat_le (start + r.size) size) (conflict r.kind start r.size t.kind t.start t.size) (list_any (λ t. conflict r.kind start r.size t.kind t.start t.size) taken) fails
  where
    go : (x c l : Bool) → (x && not l) ≡ false → (x && not (c || l)) ≡ false
    go true true l e = refl
    go true false l e = e
    go false c l e = refl

-- ---- a longer request

meets-longer : (a n m b k : ℕ) → n ≤ m → ranges_meet a n b k ≡ true → ranges_meet a m b k ≡ true
meets-longer a n m b k le h =
    let three = and_parts (nat_lt 0 n && nat_lt 0 k && nat_lt a (b + k)) (nat_lt b (a + n)) h in
    let two = and_parts (nat_lt 0 n && nat_lt 0 k) (nat_lt a (b + k)) three.0 in
    let one = and_parts (nat_lt 0 n) (nat_lt 0 k) two.0 in
    and_from _ _ (and_from _ _ (and_from _ _ (lt-ltb 0 m (omega (arith, le, ltb-true 0 n one.0))) one.1) two.1) (lt-ltb b (a + m) (omega (arith, le, ltb-true b (a + n) three.1)))

pages-longer : (a n m b k : ℕ) → n ≤ m → share_page a n b k ≡ true → share_page a m b k ≡ true
pages-longer a n m b k le h =
    let three = and_parts (nat_lt 0 n && nat_lt 0 k && nat_le (a / 1024) ((b + k - 1) / 1024)) (nat_le (b / 1024) ((a + n - 1) / 1024)) h in
    let two = and_parts (nat_lt 0 n && nat_lt 0 k) (nat_le (a / 1024) ((b + k - 1) / 1024)) three.0 in
    let one = and_parts (nat_lt 0 n) (nat_lt 0 k) two.0 in
    let last : b / 1024 ≤ (a + n - 1) / 1024 = leb-true (b / 1024) ((a + n - 1) / 1024) three.1 in
    and_from _ _ (and_from _ _ (and_from _ _ (lt-ltb 0 m (omega (arith, le, ltb-true 0 n one.0))) one.1) two.1) (le-leb (b / 1024) ((a + m - 1) / 1024) (omega (arith, le, last)))

apart-shorter : (k : Kind) (a n m : ℕ) (l : Kind) (b o : ℕ) → n ≤ m → conflict k a m l b o ≡ false → conflict k a n l b o ≡ false
apart-shorter k a n m l b o le fails =
    let two = or_parts (ranges_meet a m b o) (not (same_kind k l) && share_page a m b o) fails in
    let meet : ranges_meet a n b o ≡ false = false_from_ne_true (ranges_meet a n b o) (λ fit. both_ways (ranges_meet a m b o) two.0 (meets-longer a n m b o le fit)) in
    ap (λ v. v || not (same_kind k l) && share_page a n b o) meet ∙ pages (not (same_kind k l)) two.1
  where
    pages : (v : Bool) → (v && share_page a m b o) ≡ false → (v && share_page a n b o) ≡ false
    pages true e = false_from_ne_true (share_page a n b o) (λ fit. both_ways (share_page a m b o) e (pages-longer a n m b o le fit))
    pages false e = refl

pub fails-longer : (taken : List Taken) (r q : Request) (size start : ℕ) → IsAsLarge r q → fits taken r 0 size start ≡ false → fits taken q 0 size start ≡ false
fails-longer taken r q size start large fails =
    false_from_ne_true (fits taken q 0 size start) (λ fit.
    let f = fitting taken q 0 size start fit in
    both_ways (fits taken r 0 size start) fails
    (fits-from taken r 0 size start (record {
      aligned = subst (λ (n : ℕ). start % n ≡ 0) (sym large.align) f.aligned;
      above = f.above;
      below = omega (arith, f.below, large.size);
      apart = λ i d lt.
          apart-shorter r.kind start r.size q.size (get_or taken i d).kind (get_or taken i d).start (get_or taken i d).size large.size
          (subst (λ (k : Kind). conflict k start q.size (get_or taken i d).kind (get_or taken i d).start (get_or taken i d).size ≡ false) (sym large.kind) (f.apart i d lt));
    })))

-- ---- one block

-- a place is at or below another
abbrev pub IsUpTo : BlockStart → BlockStart → Type 0
IsUpTo s t = (s.block < t.block) ⊎ ((s.block ≡ t.block) × (s.start ≤ t.start))

module _ (low : BlockStart) (r : Request) (b : PoolBlock) (none : HasNoneBelow low r b) where
  -- in an earlier block than the place there is no target
  pub none-earlier : (from : BlockStart) → from.start ≤ block_bytes b.block → b.number < low.block → lower_in from r b ≡ None
  none-earlier from inside less =
      elim (cases_lt b.number from.block) [
        | inl lt ↦
            earlier-lower from r b.number b.block lt
            ∙ ap (option_map (at_start b.number)) (none-lowest (block_taken b.block) r (block_bytes b.block) (λ start. none start (inl less)))
        | inr ge ↦ elim (cases_lt from.block b.number) [
          | inl later ↦ later-lower from r b.number b.block later
          | inr le ↦
              own-lower from r b.number b.block (omega (arith, ge, le))
              ∙ ap (option_map (at_start b.number))
              (none-lowest (block_taken b.block) r from.start (λ start. fails-narrowed (block_taken b.block) r from.start (block_bytes b.block) start inside (none start (inl less))))
        ]
      ]

  -- nor is there in any block for what is at or below it
  pub none-up_to : (from : BlockStart) → 0 < r.size → from.start ≤ block_bytes b.block → IsUpTo from low → lower_in from r b ≡ None
  none-up_to from some inside up =
      elim (cases_lt b.number low.block) [
        | inl less ↦ none-earlier from inside less
        | inr ge ↦ elim (cases_lt from.block b.number) [
          | inl later ↦ later-lower from r b.number b.block later
          | inr le ↦ elim up [
            | inl below ↦ absurd (omega (arith, ge, le, below))
            | inr here ↦
                own-lower from r b.number b.block (omega (arith, ge, le, here.0))
                ∙ ap (option_map (at_start b.number))
                (none-lowest (block_taken b.block) r from.start (λ start. false_from_ne_true (fits (block_taken b.block) r 0 from.start start) (λ fit.
                let f = fitting (block_taken b.block) r 0 from.start start fit in
                both_ways (fits (block_taken b.block) r 0 (block_bytes b.block) start)
                (none start (inr (omega (arith, ge, le, here.0), omega (arith, f.below, some, here.1))))
                (widened (block_taken b.block) r 0 from.start (block_bytes b.block) start inside fit))))
          ]
        ]
      ]

-- ---- a pool

-- nothing is lower than the start of the first block
pub exhausted-start : (p : Pool) (r : Request) → IsExhausted p (record { block = 0; start = 0 }) r
exhausted-start p r k d lt start (inl less) = absurd (omega (arith, less))
exhausted-start p r k d lt start (inr here) = absurd (omega (arith, here.1))

-- for a request that isn't smaller there is no more room
pub exhausted-longer : (p : Pool) (low : BlockStart) (r q : Request) → IsAsLarge r q → IsExhausted p low r → IsExhausted p low q
exhausted-longer p low r q large all k d lt start lower =
    let b : PoolBlock = get_or p.blocks k d in fails-longer (block_taken b.block) r q (block_bytes b.block) start large (all k d lt start lower)

-- a place at or below one is such a place too
pub exhausted-up_to : (p : Pool) (low least : BlockStart) (r : Request) → IsUpTo least low → IsExhausted p low r → IsExhausted p least r
exhausted-up_to p low least r up all k d lt start lower = all k d lt start (higher up lower)
  where
    b : PoolBlock
    b = get_or p.blocks k d

    higher : IsUpTo least low → IsHigher least (record { block = b.number; start = start }) → IsHigher low (record { block = b.number; start = start })
    higher (inl less) (inl before) = inl (omega (arith, less, before))
    higher (inl less) (inr here) = inl (omega (arith, less, here.0))
    higher (inr same) (inl before) = inl (omega (arith, same.0, before))
    higher (inr same) (inr here) = inr (omega (arith, same.0, here.0), omega (arith, same.1, here.1))

pub exhausted-alike : (p q : Pool) (low : BlockStart) (r : Request) → IsAlikePool p q → IsExhausted p low r → IsExhausted q low r
exhausted-alike p q low r same all = all-alike (HasNoneBelow low r) (HasNoneBelow low r) one p.blocks q.blocks same.blocks all
  where
    one : (b c : PoolBlock) → IsAlikeBlock b c → HasNoneBelow low r b → HasNoneBelow low r c
    one b c alike none start lower =
        ap (λ n. fits (block_taken c.block) r 0 n start) (alike-bytes b.block c.block alike.1)
        ∙ fits_alike (block_taken b.block) (block_taken c.block) (alike-taken b.block c.block alike.1) r 0 (block_bytes b.block) start
        ∙ none start (subst (λ (n : ℕ). IsHigher low (record { block = n; start = start })) alike.0 lower)

-- where more is taken of a block that stands there is no more room
module _ (p : Pool) (low : BlockStart) (r : Request) (general : All (λ b. IsGeneral b.block) p.blocks) (q : Request) (upper : Bool) (s : BlockStart) (has : s.block < p.next) (all : IsExhausted p low r) where
  abbrev change : Block → Block
  change k = block_with k q upper s.start

  stands : pool_with p q upper s ≡ record p { blocks = in_block change s.block p.blocks }
  stands =
      ap (λ (v : Bool). if v then record p { blocks = p.blocks ++ record { number = p.next; block = change (new_block p.info) } ∷ []; next = p.next + 1 } else record p { blocks = in_block change s.block p.blocks })
      (ne_eqb s.block p.next (λ e. omega (arith, has, e)))

  taken-more : (number : ℕ) (k : Block) → IsGeneral k → HasNoneBelow low r (record { number = number; block = k }) → HasNoneBelow low r (record { number = number; block = change k })
  taken-more number (General size taken) g none start lower = fails-more taken r size start (taken_at s.start q) (none start lower)
  taken-more number (Stack b) g none start lower = absurd g

  one : (b : PoolBlock) → IsGeneral b.block → HasNoneBelow low r b → HasNoneBelow low r (with_change change s.block b)
  one b g none = elim (b.number == s.block) as (λ v. HasNoneBelow low r (if v then record b { block = change b.block } else b)) [ true ↦ taken-more b.number b.block g none | false ↦ none ]

  pub exhausted-with : IsExhausted (pool_with p q upper s) low r
  exhausted-with =
      subst (λ (o : Pool). IsExhausted o low r) (sym stands)
      (All-map (HasNoneBelow low r) (with_change change s.block) p.blocks (λ k d lt. one (get_or p.blocks k d) (general k d lt) (all k d lt)))

-- nor is there where a move target is taken
pub exhausted-taken : (was now : Kept) (low from s : BlockStart) (r q : Request) → IsKeptPool was.pool → was.pool.info.kind ≡ algorithm.Tlsf → TakesTarget was now from q s → IsExhausted was.pool low r → IsExhausted now.pool low r
exhausted-taken was now low from s r q h kind takes all =
    exhausted-alike (pool_with was.pool q false s) now.pool low r takes.pool
    (exhausted-with was.pool low r (λ k d lt. (all-general was.pool h kind k d lt).0) q false s takes.has all)

-- what lies at or below such a place has no target
pub exhausted-no_target : (p : Pool) (low from : BlockStart) (r : Request) → 0 < r.size → All (λ b. from.start ≤ block_bytes b.block) p.blocks → IsUpTo from low → IsExhausted p low r → HasNoTarget p from r
exhausted-no_target p low from r some inside up all id =
    target-none (record { id = id; from = from; request = r }) p.blocks
    (λ k less. none-up_to low r (get_or p.blocks k no_block) (all k no_block less) from some (inside k no_block less) up)

-- ---- where the next search may begin

-- the first block that has a target, and the target
pub record IsFound (a : Resident) (bs : List PoolBlock) (s : BlockStart) : Type 0 where
  pub index : ℕ
  pub there : index < length bs
  pub before : (k : ℕ) → k < index → place_in a (ranges_of (get_or bs k no_block)) ≡ None
  pub target : place_in a (ranges_of (get_or bs index no_block)) ≡ Some s

first-found : (a : Resident) (bs : List PoolBlock) (s : BlockStart) → move_target (numbered_blocks bs) a ≡ Some s → IsFound a bs s
first-found a [] s e = absurd cc
first-found a (b ∷ bs) s e = go (place_in a (ranges_of b)) refl e (first-found a bs s)
  where
    later : place_in a (ranges_of b) ≡ None → (f : IsFound a bs s) → (k : ℕ) → k < suc f.index → place_in a (ranges_of (get_or (b ∷ bs) k no_block)) ≡ None
    later is f zero less = is
    later is f (suc k) less = f.before k (omega (arith, less))

    go : (o : Option BlockStart) → place_in a (ranges_of b) ≡ o → option_or o (move_target (numbered_blocks bs) a) ≡ Some s → (move_target (numbered_blocks bs) a ≡ Some s → IsFound a bs s) → IsFound a (b ∷ bs) s
    go None is found rest = let f = rest found in record { index = suc f.index; there = omega (arith, f.there); before = later is f; target = f.target }
    go (Some x) is found rest = record { index = 0; there = omega arith; before = λ k less. absurd (omega (arith, less)); target = is ∙ found }

none-has : (a : Resident) (bs : List PoolBlock) → move_target (numbered_blocks bs) a ≡ None → (k : ℕ) → k < length bs → place_in a (ranges_of (get_or bs k no_block)) ≡ None
none-has a [] e k lt = absurd (omega (arith, lt))
none-has a (b ∷ bs) e k lt = go (place_in a (ranges_of b)) refl e (none-has a bs) k lt
  where
    go : (o : Option BlockStart) → place_in a (ranges_of b) ≡ o → option_or o (move_target (numbered_blocks bs) a) ≡ None
        → (move_target (numbered_blocks bs) a ≡ None → (j : ℕ) → j < length bs → place_in a (ranges_of (get_or bs j no_block)) ≡ None) → (j : ℕ) → j < suc (length bs) → place_in a (ranges_of (get_or (b ∷ bs) j no_block)) ≡ None
    go None is none rest zero less = is
    go None is none rest (suc j) less = rest none j (omega (arith, less))
    go (Some x) is none rest j less = absurd cc

-- the start of a place in a block
start-of : (number : ℕ) (o : Option ℕ) (s : BlockStart) → option_map (at_start number) o ≡ Some s → (s.block ≡ number) × (o ≡ Some s.start)
start-of number None s e = absurd cc
start-of number (Some x) s e =
    let same : at_start number x ≡ s = cc in (sym (ap (λ (t : BlockStart). t.block) same), ap (λ (t : BlockStart). Some t.start) same)

no-start : (number : ℕ) (o : Option ℕ) → option_map (at_start number) o ≡ None → o ≡ None
no-start number None e = refl
no-start number (Some x) e = absurd cc

fails-where_none : (taken : List Taken) (r : Request) (high start : ℕ) → lowest taken r 0 high ≡ None → fits taken r 0 high start ≡ false
fails-where_none taken r high start none = false_from_ne_true (fits taken r 0 high start) (λ fit. none-fits taken r high start none fit)

module _ (from : BlockStart) (r : Request) (b : PoolBlock) where
  -- an earlier block that has no target has no room at all
  earlier-full : b.number < from.block → lower_in from r b ≡ None → (start : ℕ) → fits (block_taken b.block) r 0 (block_bytes b.block) start ≡ false
  earlier-full less none start =
      fails-where_none (block_taken b.block) r (block_bytes b.block) start (no-start b.number (lowest (block_taken b.block) r 0 (block_bytes b.block)) (sym (earlier-lower from r b.number b.block less) ∙ none))

  -- a block that has one has no room below it
  full-below : (s : BlockStart) → from.start ≤ block_bytes b.block → lower_in from r b ≡ Some s → (start : ℕ) → start < s.start → fits (block_taken b.block) r 0 (block_bytes b.block) start ≡ false
  full-below s inside some start less =
      elim (cases_lt b.number from.block) [
        | inl lt ↦
            none-before (block_taken b.block) r (block_bytes b.block) s.start start
            (start-of b.number (lowest (block_taken b.block) r 0 (block_bytes b.block)) s (sym (earlier-lower from r b.number b.block lt) ∙ some)).1 less
        | inr ge ↦ elim (cases_lt from.block b.number) [
          | inl later ↦ absurd (none-some s (sym (later-lower from r b.number b.block later) ∙ some))
          | inr le ↦
              let found = (start-of b.number (lowest (block_taken b.block) r 0 from.start) s (sym (own-lower from r b.number b.block (omega (arith, ge, le))) ∙ some)).1 in
              let high = (fitting (block_taken b.block) r 0 from.start s.start (find_passes (fits (block_taken b.block) r 0 from.start) (below (suc from.start)) s.start found)).below in
              false_from_ne_true (fits (block_taken b.block) r 0 (block_bytes b.block) start) (λ fit.
              both_ways (fits (block_taken b.block) r 0 from.start start) (none-before (block_taken b.block) r from.start s.start start found less)
              (fits-up_to (block_taken b.block) r 0 (block_bytes b.block) from.start start fit (omega (arith, high, less))))
        ]
      ]

  -- its own block, where its range is taken, has no room below it if there is no target
  own-full : 0 < r.size → b.number ≡ from.block → Contains (block_taken b.block) (taken_at from.start r) → lower_in from r b ≡ None → (start : ℕ) → start < from.start → fits (block_taken b.block) r 0 (block_bytes b.block) start ≡ false
  own-full some own held none start less =
      let nowhere = no-start b.number (lowest (block_taken b.block) r 0 from.start) (sym (own-lower from r b.number b.block own) ∙ none) in
      false_from_ne_true (fits (block_taken b.block) r 0 (block_bytes b.block) start) (λ fit.
      elim (cases_lt from.start (start + r.size)) [
        | inl over ↦
            let apart = All-contains (IsApart (taken_at start r)) (block_taken b.block) (taken_at from.start r) (fitting (block_taken b.block) r 0 (block_bytes b.block) start fit).apart held in
            let meet = (or_parts (ranges_meet start r.size from.start r.size) (not (same_kind r.kind r.kind) && share_page start r.size from.start r.size) apart).0 in
            elim (beside start r.size from.start r.size some some meet) [ inl low ↦ omega (arith, low, over) | inr high ↦ omega (arith, high, less) ]
        | inr within ↦ none-fits (block_taken b.block) r from.start start nowhere (fits-up_to (block_taken b.block) r 0 (block_bytes b.block) from.start start fit within)
      ])

  not-later : (s : BlockStart) → lower_in from r b ≡ Some s → (s.block ≡ b.number) × (b.number ≤ from.block)
  not-later s some =
      elim (cases_lt from.block b.number) [
        | inl later ↦ absurd (none-some s (sym (later-lower from r b.number b.block later) ∙ some))
        | inr le ↦ (
          elim (cases_lt b.number from.block) [
            | inl lt ↦ (start-of b.number (lowest (block_taken b.block) r 0 (block_bytes b.block)) s (sym (earlier-lower from r b.number b.block lt) ∙ some)).0
            | inr ge ↦ (start-of b.number (lowest (block_taken b.block) r 0 from.start) s (sym (own-lower from r b.number b.block (omega (arith, ge, le))) ∙ some)).0
          ],
          le,
        )
      ]

module _ (p : Pool) (rising : AllPairs (λ b c. b.number < c.number) p.blocks) (from : BlockStart) (r : Request) where
  -- each block by its index
  each-block : (s : BlockStart) → ((k : ℕ) → k < length p.blocks → HasNoneBelow s r (get_or p.blocks k no_block)) → IsExhausted p s r
  each-block s one k d lt = subst (HasNoneBelow s r) (get_or_default p.blocks k no_block d lt) (one k lt)

  -- below the target that was found there is no room
  pub exhausted-target : (s : BlockStart) → All (λ b. from.start ≤ block_bytes b.block) p.blocks → HasTarget p from r s → IsExhausted p s r
  exhausted-target s inside has = each-block s one
    where
      f : IsFound (record { id = 0; from = from; request = r }) p.blocks s
      f = first-found (record { id = 0; from = from; request = r }) p.blocks s (has 0)

      t : PoolBlock
      t = get_or p.blocks f.index no_block

      at : (s.block ≡ t.number) × (t.number ≤ from.block)
      at = not-later from r t s f.target

      one : (k : ℕ) → k < length p.blocks → HasNoneBelow s r (get_or p.blocks k no_block)
      one k lt start (inl earlier) =
          elim (cases_lt k f.index) [
            | inl less ↦ earlier-full from r (get_or p.blocks k no_block) (omega (arith, earlier, at.0, at.1)) (f.before k less) start
            | inr ge ↦ absurd (elim (cases_lt f.index k) [
              | inl less ↦ omega (arith, rising f.index k no_block less lt, earlier, at.0)
              | inr le ↦
                  let here : k ≡ f.index = omega (arith, ge, le) in
                  omega (arith, ap (λ (j : ℕ). (get_or p.blocks j no_block).number) here, earlier, at.0)
            ])
          ]
      one k lt start (inr own) =
          elim (cases_lt k f.index) [
            | inl less ↦ absurd (omega (arith, rising k f.index no_block less f.there, own.0, at.0))
            | inr ge ↦ elim (cases_lt f.index k) [
              | inl less ↦ absurd (omega (arith, rising f.index k no_block less lt, own.0, at.0))
              | inr le ↦
                  let here : f.index ≡ k = omega (arith, ge, le) in
                  subst (λ (j : ℕ). fits (block_taken (get_or p.blocks j no_block).block) r 0 (block_bytes (get_or p.blocks j no_block).block) start ≡ false) here
                  (full-below from r t s (inside f.index no_block f.there) f.target start own.1)
            ]
          ]

  -- below what lies in a pool and has no target there is no room
  pub exhausted-own : 0 < r.size → HasRange p from.block (taken_at from.start r) → HasNoTarget p from r → IsExhausted p from r
  exhausted-own some held none = each-block from one
    where
      nothing : (k : ℕ) → k < length p.blocks → lower_in from r (get_or p.blocks k no_block) ≡ None
      nothing = none-has (record { id = 0; from = from; request = r }) p.blocks (none 0)

      one : (k : ℕ) → k < length p.blocks → HasNoneBelow from r (get_or p.blocks k no_block)
      one k lt start (inl earlier) = earlier-full from r (get_or p.blocks k no_block) earlier (nothing k lt) start
      one k lt start (inr own) =
          let b : PoolBlock = get_or p.blocks k no_block in
          let same : held.block ≡ b = same-block p.blocks rising held.block b held.there (k, lt, get_or_default p.blocks k b no_block lt) (held.number ∙ own.0) in
          own-full from r b some (sym own.0) (subst (λ (c : PoolBlock). Contains (block_taken c.block) (taken_at from.start r)) same held.range) (nothing k lt) start own.1
