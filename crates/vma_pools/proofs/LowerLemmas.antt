-- The lowest place of a block for what is to move.
use Rattle.std.proofs.Common.{◌≡◌, ℕ, zero, suc, ◌+◌, ◌<◌, ◌≤◌, List, [], ◌∷◌, length, get_or, Bool, true, false, cond, ◌==◌, nat_lt, refl, sym, ap, ◌∙◌, arith, inl, inr}
use Rattle.std.specs.Prelude.{Option, Some, None, option_map, IsTrue, if◌then◌else◌}
use Rattle.std.specs.List.{find, range_with_len}
use Rattle.std.specs.Option.{option_or}
use Rattle.std.proofs.lemmas.Bool.{cases_lt, eq-eqb, ne_eqb}
use Rattle.std.proofs.lemmas.Bool.Decides.{nat_tests}
use Rattle.std.proofs.lemmas.Option.{none-some}
use Rattle.vk_model.specs.Basics.{below}
use Rattle.vk_model.specs.Memory.Suballocation.{Taken, Request}
use Rattle.vk_model.specs.Memory.Room.{Block, General, Stack, BlockHolds, fits, lowest}
use Rattle.vk_model.specs.Memory.MoveTargets.{BlockStart, Resident, move_target, place_in}
use Rattle.vk_model.specs.Memory.Pools.{PoolBlock, BlockGives, block_bytes, block_taken, numbered_blocks}
use Rattle.vk_model.proofs.Memory.Taken.{fitting, widened}
use Rattle.vk_model.proofs.Memory.LinearBlocks.{find_passes}
use Rattle.vma_blocks.specs.Alike.{IsGeneral}
use Rattle.vma_pools.specs.Inner.Walk.{no_block}
use Rattle.vma_pools.specs.Inner.Lower.{ranges_of, lower_in}

-- what is not found fails the test
passed_over : (p : ℕ → Bool) (a n k : ℕ) → find p (range_with_len a n) ≡ None → a ≤ k → k < a + n → p k ≡ false
passed_over p a zero k e le lt = absurd (omega (arith, le, lt))
passed_over p a (suc n) k e le lt = go (p a) refl e (λ found later. passed_over p (a + 1) n k found (omega (arith, later)) (omega (arith, lt)))
  where
    go : (v : Bool) → p a ≡ v → cond v (Some a) (find p (range_with_len (a + 1) n)) ≡ None → (find p (range_with_len (a + 1) n) ≡ None → a < k → p k ≡ false) → p k ≡ false
    go true is found rest = absurd cc
    go false is found rest =
        elim (cases_lt a k) [ inl later ↦ rest found later | inr here ↦ let same : k ≡ a = omega (arith, here, le) in ap p same ∙ is ]

-- what comes before the one that is found fails the test
passed_before : (p : ℕ → Bool) (a n s k : ℕ) → find p (range_with_len a n) ≡ Some s → a ≤ k → k < s → p k ≡ false
passed_before p a zero s k e le lt = absurd cc
passed_before p a (suc n) s k e le lt = go (p a) refl e (λ found later. passed_before p (a + 1) n s k found (omega (arith, later)) lt)
  where
    go : (v : Bool) → p a ≡ v → cond v (Some a) (find p (range_with_len (a + 1) n)) ≡ Some s → (find p (range_with_len (a + 1) n) ≡ Some s → a < k → p k ≡ false) → p k ≡ false
    go true is found rest =
        let same : a ≡ s = cc in absurd (omega (arith, same, le, lt))
    go false is found rest =
        elim (cases_lt a k) [ inl later ↦ rest found later | inr here ↦ let same : k ≡ a = omega (arith, here, le) in ap p same ∙ is ]

-- where all fail the test none is found
none_found : (p : ℕ → Bool) (xs : List ℕ) → ((x : ℕ) → p x ≡ false) → find p xs ≡ None
none_found p [] fails = refl
none_found p (x ∷ xs) fails = ap (λ (v : Bool). cond v (Some x) (find p xs)) (fails x) ∙ none_found p xs fails

pub none-lowest : (taken : List Taken) (r : Request) (high : ℕ) → ((start : ℕ) → fits taken r 0 high start ≡ false) → lowest taken r 0 high ≡ None
none-lowest taken r high fails = none_found (fits taken r 0 high) (below (suc high)) fails

pub none-before : (taken : List Taken) (r : Request) (high found start : ℕ) → lowest taken r 0 high ≡ Some found → start < found → fits taken r 0 high start ≡ false
none-before taken r high found start e less = passed_before (fits taken r 0 high) 0 (suc high) found start e (omega arith) less

pub none-fits : (taken : List Taken) (r : Request) (high start : ℕ) → lowest taken r 0 high ≡ None → IsTrue (fits taken r 0 high start) → ⊥
none-fits taken r high start none fit =
    let inside : start + r.size ≤ high = (fitting taken r 0 high start fit).below in
    let fails : fits taken r 0 high start ≡ false = passed_over (fits taken r 0 high) 0 (suc high) start none (omega arith) (omega (arith, inside)) in
    let both : true ≡ false = sym fit ∙ fails in
    cc

-- ---- a block

module _ (from : BlockStart) (r : Request) (number : ℕ) (k : Block) where
  abbrev here : PoolBlock
  here = record { number = number; block = k }

  abbrev at_start : ℕ → BlockStart
  at_start start = record { block = number; start = start }

  abbrev by_tests : Bool → Bool → Option BlockStart
  by_tests before own =
      option_map at_start (if before then lowest (block_taken k) r 0 (block_bytes k) else if own then lowest (block_taken k) r 0 from.start else None)

  pub later-lower : from.block < number → lower_in from r here ≡ None
  later-lower lt =
      let no : nat_lt number from.block ≡ false = grind (arith, nat_tests) in
      ap (λ (v : Bool). by_tests v (number == from.block)) no ∙ ap (λ (v : Bool). by_tests false v) (ne_eqb number from.block (λ e. omega (arith, e, lt)))

  pub own-lower : number ≡ from.block → lower_in from r here ≡ option_map at_start (lowest (block_taken k) r 0 from.start)
  own-lower e =
      let no : nat_lt number from.block ≡ false = grind (arith, nat_tests) in
      ap (λ (v : Bool). by_tests v (number == from.block)) no ∙ ap (λ (v : Bool). by_tests false v) (eq-eqb number from.block e)

  pub earlier-lower : number < from.block → lower_in from r here ≡ option_map at_start (lowest (block_taken k) r 0 (block_bytes k))
  earlier-lower lt =
      let yes : nat_lt number from.block ≡ true = grind (arith, nat_tests) in ap (λ (v : Bool). by_tests v (number == from.block)) yes

  some-start : (o : Option ℕ) (start : ℕ) → option_map at_start o ≡ Some (at_start start) → o ≡ Some start
  some-start None start e = absurd cc
  some-start (Some x) start e =
      let same : at_start x ≡ at_start start = cc in ap (λ (s : BlockStart). Some s.start) same

  no-start : (o : Option ℕ) → option_map at_start o ≡ None → o ≡ None
  no-start None e = refl
  no-start (Some x) e = absurd cc

-- an earlier block without a place doesn't hold it
pub refused-lower : (from : BlockStart) (r : Request) (b : PoolBlock) → IsGeneral b.block → b.number < from.block → lower_in from r b ≡ None → BlockHolds b.block r false → ⊥
refused-lower from r b general lt none holds = go b.block general none holds
  where
    go : (k : Block) → IsGeneral k → lower_in from r (record { number = b.number; block = k }) ≡ None → BlockHolds k r false → ⊥
    go (General size taken) g e h =
        none-fits taken r size h.0 (no-start from r b.number (General size taken) (lowest taken r 0 size) (sym (earlier-lower from r b.number (General size taken) lt) ∙ e)) h.1
    go (Stack c) g e h = absurd g

-- a place is one that the block gives, in its own block or an earlier one
pub lower-gives : (from : BlockStart) (r : Request) (b : PoolBlock) (start : ℕ) → IsGeneral b.block → from.start ≤ block_bytes b.block → lower_in from r b ≡ Some (record { block = b.number; start = start })
    → BlockGives b.block r false start × (b.number ≤ from.block)
lower-gives from r b start general inside some = go b.block general inside some
  where
    go : (k : Block) → IsGeneral k → from.start ≤ block_bytes k → lower_in from r (record { number = b.number; block = k }) ≡ Some (record { block = b.number; start = start }) → BlockGives k r false start × (b.number ≤ from.block)
    go (General size taken) g le e =
        elim (cases_lt b.number from.block) [
          | inl lt ↦ (
            find_passes (fits taken r 0 size) (below (suc size)) start
                (some-start from r b.number (General size taken) (lowest taken r 0 size) start (sym (earlier-lower from r b.number (General size taken) lt) ∙ e)),
            omega (arith, lt),
          )
          | inr ge ↦ elim (cases_lt from.block b.number) [
            | inl later ↦ absurd (none-some (record { block = b.number; start = start }) (sym (later-lower from r b.number (General size taken) later) ∙ e))
            | inr le_block ↦
                let same : b.number ≡ from.block = omega (arith, ge, le_block) in (
                  widened taken r 0 from.start size start le
                      (find_passes (fits taken r 0 from.start) (below (suc from.start)) start
                      (some-start from r b.number (General size taken) (lowest taken r 0 from.start) start (sym (own-lower from r b.number (General size taken) same) ∙ e))),
                  le_block,
                )
          ]
        ]
    go (Stack c) g le e = absurd g

-- ---- the move target

module _ (a : Resident) where
  abbrev None_below : List PoolBlock → ℕ → Type 0
  None_below bs i = (k : ℕ) → k < i → place_in a (ranges_of (get_or bs k no_block)) ≡ None

  pub target-found : (bs : List PoolBlock) (i : ℕ) (s : BlockStart) → i < length bs → None_below bs i → place_in a (ranges_of (get_or bs i no_block)) ≡ Some s → move_target (numbered_blocks bs) a ≡ Some s
  target-found [] i s lt none e = absurd (omega (arith, lt))
  target-found (b ∷ bs) zero s lt none e = ap (λ o. option_or o (move_target (numbered_blocks bs) a)) e
  target-found (b ∷ bs) (suc i) s lt none e =
      ap (λ o. option_or o (move_target (numbered_blocks bs) a)) (none 0 (omega arith)) ∙ target-found bs i s (omega (arith, lt)) (λ k less. none (suc k) (omega (arith, less))) e

  pub target-none : (bs : List PoolBlock) → None_below bs (length bs) → move_target (numbered_blocks bs) a ≡ None
  target-none [] none = refl
  target-none (b ∷ bs) none =
      ap (λ o. option_or o (move_target (numbered_blocks bs) a)) (none 0 (omega arith)) ∙ target-none bs (λ k less. none (suc k) (omega (arith, less)))
