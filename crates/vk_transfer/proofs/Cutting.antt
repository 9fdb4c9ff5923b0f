-- A list cut into chunks: how many there are, and which is which.
use Rattle.std.proofs.Common.{◌≡◌, ℕ, zero, suc, ◌+◌, ◌-◌, ◌*◌, ◌<◌, ◌≤◌, List, [], ◌∷◌, map, length, take, drop, refl, ap, ◌∙◌, arith, min, Some}
use Rattle.std.proofs.lemmas.List.{length-drop, drop-drop, drop-map, take-map}
use Rattle.std.specs.Prelude.{slice_get}
use Rattle.std.specs.List.{range_with_len}
use Rattle.vk_model.specs.Run.Pieces.{chunks, cut}

-- chunk i has the items from n * i on
chunk_at : {A : Type 0} (n k i : ℕ) (xs : List A) → 0 < n → length xs ≤ k → n * i < length xs → slice_get (chunks k n xs) i ≡ Some (take n (drop (n * i) xs))
chunk_at n k i [] some le lt = absurd (omega arith)
chunk_at n zero i (x ∷ xs) some le lt = absurd (omega arith)
chunk_at n (suc k) zero (x ∷ xs) some le lt = let none : n * 0 ≡ 0 = omega arith in rw none refl
chunk_at {A} n (suc k) (suc i) (x ∷ xs) some le lt =
    let shorter : length (drop n (x ∷ xs)) ≡ length (x ∷ xs) - n = length-drop n (x ∷ xs) in
    let more : n * suc i ≡ n + n * i = omega arith in
    let here : n * i < length (drop n (x ∷ xs)) = omega arith in
    chunk_at n k i (drop n (x ∷ xs)) some (omega arith) here ∙ ap (λ (ys : List A). Some (take n ys)) (drop-drop (n * i) n (x ∷ xs) ∙ ap (λ (j : ℕ). drop j (x ∷ xs)) (omega arith))

pub cut_at : {A : Type 0} (n i : ℕ) (xs : List A) → 0 < n → n * i < length xs → slice_get (cut n xs) i ≡ Some (take n (drop (n * i) xs))
cut_at n i xs some lt = chunk_at n (length xs) i xs some (omega arith) lt

-- how many chunks there are, by whole ones and a rest
chunk_count : {A : Type 0} (n k m rest : ℕ) (xs : List A) → 0 < n → length xs ≤ k → length xs ≡ n * m + rest → rest < n → length (chunks k n xs) ≡ m + min rest 1
chunk_count n zero m rest [] some le parts small = let none : m ≡ 0 = no_more n m rest some parts in let nothing : rest ≡ 0 = omega (arith, none) in rw (none, nothing) refl
  where
    no_more : (n m rest : ℕ) → 0 < n → 0 ≡ n * m + rest → m ≡ 0
    no_more n zero rest some parts = refl
    no_more n (suc m) rest some parts = let more : n * suc m ≡ n + n * m = omega arith in absurd (omega arith)
chunk_count n (suc k) m rest [] some le parts small = let none : m ≡ 0 = no_more n m rest some parts in let nothing : rest ≡ 0 = omega (arith, none) in rw (none, nothing) refl
  where
    no_more : (n m rest : ℕ) → 0 < n → 0 ≡ n * m + rest → m ≡ 0
    no_more n zero rest some parts = refl
    no_more n (suc m) rest some parts = let more : n * suc m ≡ n + n * m = omega arith in absurd (omega arith)
chunk_count n zero m rest (x ∷ xs) some le parts small = absurd (omega arith)
chunk_count n (suc k) zero rest (x ∷ xs) some le parts small =
    let shorter : length (drop n (x ∷ xs)) ≡ length (x ∷ xs) - n = length-drop n (x ∷ xs) in
    let none : n * 0 ≡ 0 = omega arith in
    let last : length (chunks k n (drop n (x ∷ xs))) ≡ 0 + min 0 1 = chunk_count n k 0 0 (drop n (x ∷ xs)) some (omega arith) (omega arith) some in
    omega arith
chunk_count n (suc k) (suc m) rest (x ∷ xs) some le parts small =
    let shorter : length (drop n (x ∷ xs)) ≡ length (x ∷ xs) - n = length-drop n (x ∷ xs) in
    let more : n * suc m ≡ n + n * m = omega arith in
    let others : length (chunks k n (drop n (x ∷ xs))) ≡ m + min rest 1 = chunk_count n k m rest (drop n (x ∷ xs)) some (omega arith) (omega arith) small in
    omega arith

pub cut_count : {A : Type 0} (n m rest : ℕ) (xs : List A) → 0 < n → length xs ≡ n * m + rest → rest < n → length (cut n xs) ≡ m + min rest 1
cut_count n m rest xs some parts small = chunk_count n (length xs) m rest xs some (omega arith) parts small

-- ---- chunks of what a function gives for the numbers from one on

drop_range : (j a n : ℕ) → drop j (range_with_len a n) ≡ range_with_len (a + j) (n - j)
drop_range zero a n = let here : a ≡ a + 0 = omega arith in let all : n ≡ n - 0 = omega arith in ap (λ (i : ℕ). range_with_len i n) here ∙ ap (λ (m : ℕ). range_with_len (a + 0) m) all
drop_range (suc j) a zero = let none : 0 - suc j ≡ 0 = omega arith in rw none refl
drop_range (suc j) a (suc n) =
    let at : a + 1 + j ≡ a + suc j = omega arith in
    let left : n - j ≡ suc n - suc j = omega arith in
    drop_range j (a + 1) n ∙ ap (λ (i : ℕ). range_with_len i (n - j)) at ∙ ap (λ (m : ℕ). range_with_len (a + suc j) m) left

take_range : (j a n : ℕ) → take j (range_with_len a n) ≡ range_with_len a (min j n)
take_range zero a n = let none : min 0 n ≡ 0 = omega arith in rw none refl
take_range (suc j) a zero = let none : min (suc j) 0 ≡ 0 = omega arith in rw none refl
take_range (suc j) a (suc n) = let more : min (suc j) (suc n) ≡ suc (min j n) = omega arith in rw more (ap (λ (xs : List ℕ). a ∷ xs) (take_range j (a + 1) n))

pub cut_range : {X : Type 0} (f : ℕ → X) (n i a m : ℕ) → take n (drop (n * i) (map f (range_with_len a m))) ≡ map f (range_with_len (a + n * i) (min n (m - n * i)))
cut_range {X} f n i a m =
    ap (λ (xs : List X). take n xs) (drop-map f (n * i) (range_with_len a m)) ∙ take-map f n (drop (n * i) (range_with_len a m))
    ∙ ap (λ (xs : List ℕ). map f (take n xs)) (drop_range (n * i) a m) ∙ ap (λ (xs : List ℕ). map f xs) (take_range n (a + n * i) (m - n * i))
