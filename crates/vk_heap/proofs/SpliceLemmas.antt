-- Lemmas on a region with a part of it written anew, and on a piece of it.
use Rattle.std.proofs.Common.{◌≡◌, ◌⊎◌, inl, inr, ℕ, ◌+◌, ◌-◌, ◌<◌, ◌≤◌, List, length, get_or, arith}
use Rattle.std.proofs.lemmas.Grind.{common_steps, elements}
use Rattle.vk_heap.specs.Region.{splice, piece}

module _ (xs ys : List ℕ) (at : ℕ) (fits : at + length ys ≤ length xs) where
  pub length-splice : length (splice xs at ys) ≡ length xs
  length-splice = grind (arith, common_steps)

  pub splice-in : (k : ℕ) → at ≤ k → k < at + length ys → get_or (splice xs at ys) k 0 ≡ get_or ys (k - at) 0
  splice-in k low high = grind (arith, elements)

  pub splice-before : (k : ℕ) → k < at → get_or (splice xs at ys) k 0 ≡ get_or xs k 0
  splice-before k lt = grind (arith, elements)

  pub splice-after : (k : ℕ) → at + length ys ≤ k → get_or (splice xs at ys) k 0 ≡ get_or xs k 0
  splice-after k le = grind (arith, elements)

  pub splice-out : (k : ℕ) → (k < at) ⊎ (at + length ys ≤ k) → get_or (splice xs at ys) k 0 ≡ get_or xs k 0
  splice-out k (inl lt) = splice-before k lt
  splice-out k (inr le) = splice-after k le

pub length-piece : (xs : List ℕ) (at n : ℕ) → at + n ≤ length xs → length (piece xs at n) ≡ n
length-piece xs at n le = grind (arith, common_steps)

-- byte k of a piece
pub get_or-piece : (xs : List ℕ) (at n k : ℕ) → at ≤ k → k < at + n → get_or (piece xs at n) (k - at) 0 ≡ get_or xs k 0
get_or-piece xs at n k low high = grind (arith, elements)
