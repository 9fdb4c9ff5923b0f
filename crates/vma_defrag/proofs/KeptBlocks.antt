-- Which memory objects the blocks of a pool are, and stay.
use Rattle.std.proofs.Common.{◌≡◌, ℕ, zero, suc, ◌+◌, ◌<◌, List, [], ◌∷◌, ◌++◌, length, take, drop, get_or, Option, Some, None, refl, sym, ap, subst, ◌∙◌, arith, inl, inr}
use Rattle.std.specs.Prelude.{AllPairs}
use Rattle.std.proofs.lemmas.Bool.{cases_lt}
use Rattle.std.proofs.lemmas.List.{length-map, get_or-map}
use Rattle.vk_model.specs.Memory.Room.{General}
use Rattle.vk_model.specs.Memory.Pools.{Pool, PoolBlock}
use Rattle.vma_pools.specs.Pools.{Kept, KeepsBlocks, IsMemoryOf, block_numbers}

pub no_block : PoolBlock
no_block = record { number = 0; block = General 0 [] }

-- a block of a number is one memory object
pub one_memory : (k : Kept) → AllPairs (λ b c. b.number < c.number) k.pool.blocks → (n x y : ℕ) → IsMemoryOf k n x → IsMemoryOf k n y → x ≡ y
one_memory k rising n x y a b = elim (cases_lt a.index b.index) [
  | inl lt ↦ absurd (omega (arith, rising a.index b.index no_block lt b.there, a.numbered no_block, b.numbered no_block))
  | inr ge ↦ elim (cases_lt b.index a.index) [
    | inl lt ↦ absurd (omega (arith, rising b.index a.index no_block lt a.there, a.numbered no_block, b.numbered no_block))
    | inr le ↦ (let same : a.index ≡ b.index = omega (arith, ge, le) in sym a.is ∙ ap (λ (i : ℕ). get_or k.memories i 0) same ∙ b.is)
  ]
]

-- where an item of what is left was
was_at : (xs ys : List ℕ) (i j : ℕ) → length ys ≡ length xs → j < length (take i xs ++ drop (suc i) xs) → (k : ℕ) × (k < length xs) × (get_or xs k 0 ≡ get_or (take i xs ++ drop (suc i) xs) j 0) × (get_or ys k 0 ≡ get_or (take i ys ++ drop (suc i) ys) j 0)
was_at [] ys zero j e lt = absurd (omega (arith, lt))
was_at [] ys (suc i) j e lt = absurd (omega (arith, lt))
was_at (x ∷ xs) [] i j e lt = absurd (omega (arith, e))
was_at (x ∷ xs) (y ∷ ys) zero j e lt = (suc j, omega (arith, lt), refl, refl)
was_at (x ∷ xs) (y ∷ ys) (suc i) zero e lt = (0, omega arith, refl, refl)
was_at (x ∷ xs) (y ∷ ys) (suc i) (suc j) e lt = let r = was_at xs ys i j (omega (arith, e)) (omega (arith, lt)) in (suc r.0, omega (arith, r.1), r.2, r.3)

-- the number at an index, whatever stands past the end
pub number_at : (p : Pool) (i : ℕ) (d : PoolBlock) → i < length p.blocks → get_or (block_numbers p) i 0 ≡ (get_or p.blocks i d).number
number_at p i d lt = get_or-map (λ (b : PoolBlock). b.number) p.blocks i d 0 lt

-- a block that is left was that memory object
pub memory_left : (was now : Kept) → length was.memories ≡ length was.pool.blocks → length now.memories ≡ length now.pool.blocks → (gone : Option ℕ) (number : ℕ) → KeepsBlocks gone number was now → (n x : ℕ) → IsMemoryOf now n x → IsMemoryOf was n x
memory_left was now matched now-matched None number k n x of =
    let long = ap (λ (l : List ℕ). length l) k.0 in
    let there : of.index < length was.pool.blocks = omega (arith, of.there, matched, now-matched, long) in
    record {
      index = of.index;
      there = there;
      numbered = λ d. sym (number_at was.pool of.index d there) ∙ ap (λ (l : List ℕ). get_or l of.index 0) (sym k.1) ∙ number_at now.pool of.index d of.there ∙ of.numbered d;
      is = ap (λ (l : List ℕ). get_or l of.index 0) (sym k.0) ∙ of.is;
    }
memory_left was now matched now-matched (Some gone) number k n x of =
    let next : k.index + 1 ≡ suc k.index = omega arith in
    let ms = k.memories ∙ ap (λ (j : ℕ). take k.index was.memories ++ drop j was.memories) next in
    let ns = k.numbers ∙ ap (λ (j : ℕ). take k.index (block_numbers was.pool) ++ drop j (block_numbers was.pool)) next in
    let long = length-map was.pool.blocks (λ (b : PoolBlock). b.number) in
    let low = subst (λ (l : List ℕ). of.index < length l) ms (omega (arith, of.there, now-matched)) in
    let w = was_at was.memories (block_numbers was.pool) k.index of.index (omega (arith, long, matched)) low in
    let there : w.0 < length was.pool.blocks = omega (arith, w.1, matched) in
    record {
      index = w.0;
      there = there;
      numbered = λ d. sym (number_at was.pool w.0 d there) ∙ w.3 ∙ ap (λ (l : List ℕ). get_or l of.index 0) (sym ns) ∙ number_at now.pool of.index d of.there ∙ of.numbered d;
      is = w.2 ∙ ap (λ (l : List ℕ). get_or l of.index 0) (sym ms) ∙ of.is;
    }
