-- How much of a pool's blocks is taken when a range more is, and when one is given back.
use Rattle.std.proofs.Common.{◌≡◌, ℕ, ◌+◌, ◌<◌, List, [], ◌∷◌, ◌++◌, length, get_or, set, Bool, true, false, not, refl, sym, ap, subst, ◌∙◌, arith, inl, inr}
use Rattle.std.specs.Prelude.{All, AllPairs, Contains, IsPermutation, if◌then◌else◌}
use Rattle.std.specs.List.{filter, sum_by}
use Rattle.std.proofs.lemmas.Bool.{cases_eq, eq-eqb, ne_eqb}
use Rattle.std.proofs.lemmas.List.{get_or_default}
use Rattle.std.proofs.lemmas.List.Elements.{All-head, All-tail, All-contains}
use Rattle.std.proofs.lemmas.List.Sorted.{length_permutation, sum_by-IsPermutation}
use Rattle.std.proofs.lemmas.List.Sums.{sum_by-cons, sum_by_push, sum_by-set}
use Rattle.vk_model.specs.Memory.Suballocation.{Taken, Request, IsApart, taken_at}
use Rattle.vk_model.specs.Memory.Room.{Block, General, Stack, is_none_left}
use Rattle.vk_model.specs.Memory.MoveTargets.{BlockStart, Numbered}
use Rattle.vk_model.specs.Memory.LinearBlocks.{others}
use Rattle.vk_model.specs.Memory.Pools.{PoolBlock, Pool, Gives, block_taken, block_with, block_without, in_block, pool_with, pool_without, has_some_taken, numbered_blocks, new_block, IsSoundBlock, IsPool}
use Rattle.vk_model.proofs.Lists.Members.{contains-cons}
use Rattle.vk_model.proofs.Memory.AllPairs.{pairs_first, pairs_rest}
use Rattle.vk_model.proofs.Memory.Freeing.{not_together}
use Rattle.vk_model.proofs.Memory.Ranges.{none_left}
use Rattle.vma_pools.specs.Alike.{IsAlikePool}
use Rattle.vma_pools.specs.Ranges.{HasRange}
use Rattle.vma_pools.specs.Inner.Walk.{no_block}
use Rattle.vma_pools.specs.Inner.Lower.{ranges_of}
use Rattle.vma_pools.proofs.PoolLemmas.{in_block-set}
use Rattle.vma_pools.proofs.RangesAlike.{sums-alike}
use Rattle.vma_blocks.proofs.AlikeLemmas.{alike-taken}
use Rattle.vma_pools.proofs.RangeLemmas.{Place, NewBlock, OldBlock, given-place, given-permuted, freed-taken, new-is, old-is, old-number, none-new, new-sound, fresh}

-- ---- what is counted of ranges

-- a sum of what each range counts for
pub record IsCount (f : Taken → ℕ) (g : List Taken → ℕ) : Type 0 where
  pub none : g [] ≡ 0
  pub one : (t : Taken) (ts : List Taken) → g (t ∷ ts) ≡ f t + g ts
  pub permuted : (ts us : List Taken) → IsPermutation ts us → g us ≡ g ts

pub count-ranges : IsCount (λ t. 1) (λ ts. length ts)
count-ranges = record { none = refl; one = λ t ts. omega arith; permuted = λ ts us same. length_permutation ts us same }

pub count-bytes : IsCount (λ t. t.size) (λ ts. sum_by (λ t. t.size) ts)
count-bytes = record { none = refl; one = λ t ts. sum_by-cons (λ t. t.size) t ts; permuted = λ ts us same. sum_by-IsPermutation (λ t. t.size) ts us same }

-- ---- one block without the range at a start

abbrev Sized : List Taken → Type 0
Sized ts = All (λ t. 0 < t.size) ts

-- nothing else starts where the first does
module _ (start : ℕ) where
  kept-one : (t : Taken) (ts : List Taken) → (t.start ≡ start → ⊥) → others start (t ∷ ts) ≡ t ∷ others start ts
  kept-one t ts other = ap (λ (b : Bool). if not b then t ∷ others start ts else others start ts) (ne_eqb t.start start other)

  left-one : (t : Taken) (ts : List Taken) → t.start ≡ start → others start (t ∷ ts) ≡ others start ts
  left-one t ts same = ap (λ (b : Bool). if not b then t ∷ others start ts else others start ts) (eq-eqb t.start start same)

  all-kept : (t : Taken) → t.start ≡ start → 0 < t.size → (ts : List Taken) → Sized ts → All (IsApart t) ts → others start ts ≡ ts
  all-kept t here some [] sized apart = refl
  all-kept t here some (u ∷ us) sized apart =
      kept-one u us (λ same. not_together t u some (All-head (λ v. 0 < v.size) u us sized) (All-head (IsApart t) u us apart) (here ∙ sym same))
      ∙ ap (λ l. u ∷ l) (all-kept t here some us (All-tail (λ v. 0 < v.size) u us sized) (All-tail (IsApart t) u us apart))

  in-none : (t u : Taken) → u.start ≡ start → 0 < u.size → (ts : List Taken) → Sized ts → All (IsApart u) ts → Contains ts t → t.start ≡ start → ⊥
  in-none t u here some ts sized apart c same =
      not_together u t some (subst (λ (v : Taken). 0 < v.size) c.2 (sized c.0 t c.1)) (subst (λ (v : Taken). IsApart u v) c.2 (apart c.0 t c.1)) (here ∙ sym same)

  module _ (f : Taken → ℕ) (g : List Taken → ℕ) (counts : IsCount f g) where
    others-count : (ts : List Taken) → Sized ts → AllPairs IsApart ts → (t : Taken) → Contains ts t → t.start ≡ start → g (others start ts) + f t ≡ g ts
    others-count [] sized pairs t c same = absurd (omega (arith, c.1))
    others-count (u ∷ us) sized pairs t c same =
        let some = All-head (λ v. 0 < v.size) u us sized in let few = All-tail (λ v. 0 < v.size) u us sized in
        elim (cases_eq u.start start) [
          | inl here ↦ elim (contains-cons u us t c) [
            | inl is ↦ (let e = ap g (left-one u us here ∙ all-kept u here some us few (pairs_first IsApart u us pairs)) in let o = counts.one u us in let w = ap f is in omega (arith, e, o, w))
            | inr rest ↦ absurd (in-none t u here some us few (pairs_first IsApart u us pairs) rest same)
          ]
          | inr other ↦ elim (contains-cons u us t c) [
            | inl is ↦ absurd (other (ap (λ (v : Taken). v.start) is ∙ same))
            | inr rest ↦ (let e = ap g (kept-one u us other) in let a = counts.one u (others start us) in let b = counts.one u us in let i = others-count us few (pairs_rest IsApart u us pairs) t rest same in omega (arith, e, a, b, i))
          ]
        ]

-- ---- a pool

block-apart : (k : Block) → IsSoundBlock k → Sized (block_taken k) × AllPairs IsApart (block_taken k)
block-apart (General size taken) sound = (sound.0, sound.1.apart)
block-apart (Stack b) sound = (sound.sized, sound.sound.apart)

module _ (f : Taken → ℕ) (g : List Taken → ℕ) (counts : IsCount f g) where
  abbrev of_block : PoolBlock → ℕ
  of_block b = g (block_taken b.block)

  abbrev pub pool_count : Pool → ℕ
  pool_count p = sum_by (λ b. g b.taken) (numbered_blocks p.blocks)

  unnumbered : (bs : List PoolBlock) → sum_by (λ b. g b.taken) (numbered_blocks bs) ≡ sum_by of_block bs
  unnumbered [] = refl
  unnumbered (b ∷ bs) = omega (arith, sum_by-cons (λ (n : Numbered). g n.taken) (ranges_of b) (numbered_blocks bs), sum_by-cons of_block b bs, unnumbered bs)

  -- alike pools count the same
  pub alike-count : (p q : Pool) → IsAlikePool p q → pool_count q ≡ pool_count p
  alike-count p q same = sums-alike (λ b. g b.taken) (λ b c i. counts.permuted (block_taken b.block) (block_taken c.block) (alike-taken b.block c.block i.1)) p.blocks q.blocks same.blocks

  -- one block is changed
  one-changed : (bs : List PoolBlock) → AllPairs (λ b c. b.number < c.number) bs → (change : Block → Block) (b : PoolBlock) → Contains bs b
      → sum_by of_block (in_block change b.number bs) + of_block b ≡ sum_by of_block bs + g (block_taken (change b.block))
  one-changed bs rising change b c =
      let here : get_or bs c.0 no_block ≡ b = get_or_default bs c.0 no_block b c.1 ∙ c.2 in
      let is : in_block change b.number bs ≡ set bs c.0 (record b { block = change b.block }) =
      ap (λ (n : ℕ). in_block change n bs) (ap (λ (d : PoolBlock). d.number) (sym here)) ∙ in_block-set change bs c.0 rising c.1 ∙ ap (λ (d : PoolBlock). set bs c.0 (record d { block = change d.block })) here in
      ap (λ l. sum_by of_block l + of_block b) is ∙ ap (λ (d : PoolBlock). sum_by of_block (set bs c.0 (record b { block = change b.block })) + of_block d) (sym here)
      ∙ sum_by-set of_block bs c.0 (record b { block = change b.block }) no_block c.1

  -- blocks of which nothing is taken count nothing
  filtered-count : (bs : List PoolBlock) → sum_by of_block (filter has_some_taken bs) ≡ sum_by of_block bs
  filtered-count [] = refl
  filtered-count (b ∷ bs) = go (is_none_left (block_taken b.block)) refl (filtered-count bs)
    where
      go : (v : Bool) → is_none_left (block_taken b.block) ≡ v → sum_by of_block (filter has_some_taken bs) ≡ sum_by of_block bs → sum_by of_block (if not v then b ∷ filter has_some_taken bs else filter has_some_taken bs) ≡ sum_by of_block (b ∷ bs)
      go true e rest = let none = ap g (none_left (block_taken b.block) e) ∙ counts.none in omega (arith, none, sum_by-cons of_block b bs, rest)
      go false e rest = omega (arith, sum_by-cons of_block b (filter has_some_taken bs), sum_by-cons of_block b bs, rest)

  -- one range more is taken
  module _ (p : Pool) (h : IsPool p) (r : Request) (some : 0 < r.size) (upper : Bool) (s : BlockStart) (gives : Gives p r upper s) where
    abbrev change : Block → Block
    change k = block_with k r upper s.start

    with-one : (k : Block) → IsPermutation (block_taken (change k)) (taken_at s.start r ∷ block_taken k) → g (block_taken (change k)) ≡ f (taken_at s.start r) + g (block_taken k)
    with-one k same = sym (counts.permuted (block_taken (change k)) (taken_at s.start r ∷ block_taken k) same) ∙ counts.one (taken_at s.start r) (block_taken k)

    pub given-count : pool_count (pool_with p r upper s) ≡ pool_count p + f (taken_at s.start r)
    given-count = go (given-place p r upper s gives)
      where
        go : Place p r upper s → pool_count (pool_with p r upper s) ≡ pool_count p + f (taken_at s.start r)
        go (NewBlock new gave) =
            let n = fresh p h r some upper s gives in
            let e = ap pool_count (new-is p h r some upper s gives new) ∙ unnumbered (p.blocks ++ n ∷ []) ∙ sum_by_push of_block p.blocks n in
            let k = new_block p.info in
            let w = with-one k (given-permuted k r upper s.start (new-sound p h r some upper s gives) gave) in
            let none = ap g (none-new p h r some upper s gives k refl) ∙ counts.none in
            omega (arith, e, w, none, unnumbered p.blocks)
        go (OldBlock b at number gave) =
            let e = ap pool_count (old-is p h r some upper s gives (old-number p h r some upper s gives b at number)) ∙ unnumbered (in_block change s.block p.blocks) ∙ ap (λ (n : ℕ). sum_by of_block (in_block change n p.blocks)) (sym number) in
            let w = with-one b.block (given-permuted b.block r upper s.start (All-contains (λ b. IsSoundBlock b.block) p.blocks b h.sound at) gave) in
            let o = one-changed p.blocks h.rising change b at in
            omega (arith, e, w, o, unnumbered p.blocks)

  -- a range was given back
  module _ (p : Pool) (h : IsPool p) (s : BlockStart) (t : Taken) (starts : t.start ≡ s.start) (has : HasRange p s.block t) where
    pub freed-count : pool_count (pool_without p s) + f t ≡ pool_count p
    freed-count =
        let without = λ (k : Block). block_without k s.start in
        let b = has.block in
        let e = unnumbered (filter has_some_taken (in_block without s.block p.blocks)) ∙ filtered-count (in_block without s.block p.blocks) ∙ ap (λ (n : ℕ). sum_by of_block (in_block without n p.blocks)) (sym has.number) in
        let o = one-changed p.blocks h.rising without b has.there in
        let apart = block-apart b.block (All-contains (λ b. IsSoundBlock b.block) p.blocks b h.sound has.there) in
        let w = ap g (freed-taken b.block s.start) in
        let l = others-count s.start f g counts (block_taken b.block) apart.0 apart.1 t has.range starts in
        omega (arith, e, o, w, l, unnumbered p.blocks)
