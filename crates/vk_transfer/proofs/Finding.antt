-- What is looked for among what a function gives for numbers, and the bytes of a word that is repeated.
use Rattle.std.proofs.Common.{◌≡◌, ℕ, zero, suc, ◌+◌, ◌*◌, ◌%◌, ◌<◌, ◌≤◌, map, Bool, true, false, refl, ap, ◌∙◌, arith, cond, get_or, Some, None}
use Rattle.std.proofs.Math.Nat.{add-mod_left}
use Rattle.std.specs.List.{find, range_with_len}
use Rattle.std.specs.Int.{to_le_bytes, w32}
use Rattle.vk_heap.specs.Region.{repeated}
use Rattle.vk_model.specs.Basics.{byte_of}

-- what is looked for is at one number of the range
pub find_one : {X : Type 0} (test : X → Bool) (f : ℕ → X) (j a n : ℕ) → a ≤ j → j < a + n → test (f j) ≡ true → ((k : ℕ) → test (f k) ≡ true → k ≡ j) → find test (map f (range_with_len a n)) ≡ Some (f j)
find_one test f j a zero low high hit only = absurd (omega arith)
find_one {X} test f j a (suc n) low high hit only = go (test (f a)) refl (λ next. find_one test f j (a + 1) n next (omega arith) hit only)
  where
    go : (t : Bool) → test (f a) ≡ t → (a + 1 ≤ j → find test (map f (range_with_len (a + 1) n)) ≡ Some (f j)) → cond t (Some (f a)) (find test (map f (range_with_len (a + 1) n))) ≡ Some (f j)
    go true e rest = ap (λ (k : ℕ). Some (f k)) (only a e)
    go false e rest = rest (later a low e)
      where
        later : (k : ℕ) → k ≤ j → test (f k) ≡ false → k + 1 ≤ j
        later k le not_it = omega (arith, λ (same : k ≡ j). other k not_it same)
          where
            other : (k : ℕ) → test (f k) ≡ false → k ≡ j → ⊥
            other k not_it same = let is_it : test (f k) ≡ true = ap (λ (i : ℕ). test (f i)) same ∙ hit in absurd cc

pub find_none : {X : Type 0} (test : X → Bool) (f : ℕ → X) (a n : ℕ) → ((k : ℕ) → a ≤ k → k < a + n → test (f k) ≡ false) → find test (map f (range_with_len a n)) ≡ None
find_none test f a zero not_it = refl
find_none test f a (suc n) not_it = rw (not_it a (omega arith) (omega arith)) (find_none test f (a + 1) n (λ k low high. not_it k (omega arith) (omega arith)))

-- byte j of a word that is repeated
pub word_at : (n w j : ℕ) → j < 4 * n → get_or (repeated n (to_le_bytes w32 w)) j 0 ≡ byte_of w (j % 4)
unfolding repeated
word_at zero w j lt = absurd (omega arith)
word_at (suc n) w zero lt = omega arith
word_at (suc n) w (suc zero) lt = refl
word_at (suc n) w (suc (suc zero)) lt = refl
word_at (suc n) w (suc (suc (suc zero))) lt = refl
word_at (suc n) w (suc (suc (suc (suc j)))) lt =
    let four : suc (suc (suc (suc j))) ≡ 4 + j = omega arith in
    let same : suc (suc (suc (suc j))) % 4 ≡ j % 4 = ap (λ (i : ℕ). i % 4) four ∙ add-mod_left 4 j in
    rw same (word_at n w j (omega arith))
