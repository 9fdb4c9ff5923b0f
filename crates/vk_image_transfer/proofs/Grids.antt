-- A grid of rows that is cut into its rows.
use Rattle.std.proofs.Common.{◌≡◌, ℕ, zero, suc, ◌+◌, ◌*◌, ◌/◌, ◌%◌, ◌<◌, ◌≤◌, List, [], ◌∷◌, ◌++◌, map, length, take, drop, refl, ap, sym, ◌∙◌, arith, length-append, zero-add, add-zero, slice_get, Some}
use Rattle.std.proofs.Math.Seq.{take-append_seam}
use Rattle.std.proofs.lemmas.Nat.{mul-le}
use Rattle.std.proofs.lemmas.List.FromFn.{length-map-range_with_len}
use Rattle.std.specs.List.{flat_map, range_with_len}
use Rattle.vk_model.specs.Basics.{below, grid}
use Rattle.vk_model.specs.Run.Pieces.{cut}
use Rattle.vk_model.proofs.Lists.Rows.{flat_rows, flat_same, mapped_rows}
use Rattle.vk_transfer.proofs.Cutting.{cut_at, cut_count}

-- ---- parts of one length

module _ {X : Type 0} (f : ℕ → List X) (n : ℕ) (long : (k : ℕ) → length (f k) ≡ n) where
  length_parts : (a m : ℕ) → length (flat_map f (range_with_len a m)) ≡ n * m
  length_parts a zero = let none : n * zero ≡ 0 = omega arith in sym none
  length_parts a (suc m) = let more : n * suc m ≡ n + n * m = omega arith in omega (arith, length-append (f a) (flat_map f (range_with_len (a + 1) m)), long a, length_parts (a + 1) m, more)

  drop_part : (a : ℕ) (rest : List X) (j : ℕ) → drop (n + j) (f a ++ rest) ≡ drop j rest
  drop_part a rest j = ap (λ (k : ℕ). drop (k + j) (f a ++ rest)) (sym (long a)) ∙ past (f a) j
    where
      past : (xs : List X) (j : ℕ) → drop (length xs + j) (xs ++ rest) ≡ drop j rest
      past [] j = ap (λ (k : ℕ). drop k rest) (zero-add j)
      past (x ∷ xs) j = let more : suc (length xs) + j ≡ suc (length xs + j) = omega arith in ap (λ (k : ℕ). drop k (x ∷ (xs ++ rest))) more ∙ past xs j

  part_at : (i a m : ℕ) → i < m → take n (drop (n * i) (flat_map f (range_with_len a m))) ≡ f (a + i)
  part_at i a zero lt = absurd (omega arith)
  part_at zero a (suc m) lt =
      let none : n * 0 ≡ 0 = omega arith in
      let here : a ≡ a + 0 = omega arith in
      ap (λ (k : ℕ). take n (drop k (f a ++ flat_map f (range_with_len (a + 1) m)))) none
      ∙ ap (λ (k : ℕ). take k (f a ++ flat_map f (range_with_len (a + 1) m))) (sym (long a)) ∙ take-append_seam (f a) (flat_map f (range_with_len (a + 1) m)) ∙ ap f here
  part_at (suc i) a (suc m) lt =
      let more : n * suc i ≡ n + n * i = omega arith in
      let at : a + 1 + i ≡ a + suc i = omega arith in
      ap (λ (k : ℕ). take n (drop k (f a ++ flat_map f (range_with_len (a + 1) m)))) more
      ∙ ap (λ (l : List X). take n l) (drop_part a (flat_map f (range_with_len (a + 1) m)) (n * i)) ∙ part_at i (a + 1) m (omega arith) ∙ ap f at

  pub cut_part : (i m : ℕ) → 0 < n → i < m → slice_get (cut n (flat_map f (below m))) i ≡ Some (f i)
  cut_part i m some lt = cut_at n i (flat_map f (below m)) some (omega (arith, length_parts 0 m, less i m lt)) ∙ ap (λ (l : List X). Some l) (part_at i 0 m lt ∙ ap f (zero-add i))
    where
      less : (i m : ℕ) → i < m → n * i < n * m
      less i m lt = let le : n * suc i ≤ n * m = mul-le n (suc i) n m (omega arith) (omega arith) in let more : n * suc i ≡ n + n * i = omega arith in omega arith

  pub count_parts : (m : ℕ) → 0 < n → length (cut n (flat_map f (below m))) ≡ m
  count_parts m some = cut_count n m 0 (flat_map f (below m)) some (length_parts 0 m ∙ sym (add-zero (n * m))) some ∙ omega arith

-- ---- rows of a grid

module _ {X : Type 0} (a b c d : ℕ) (f : ℕ → ℕ → ℕ → ℕ → X) where
  -- the row of a number
  abbrev pub grid_row : ℕ → List X
  grid_row n = map (λ q. f (n / b) (n % b) (q / d) (q % d)) (below (c * d))

  rows_of : grid a b c d f ≡ flat_map grid_row (below (a * b))
  rows_of =
      let none : 0 * b ≡ 0 = omega arith in
      flat_rows (λ i j. flat_map (λ k. map (λ l. f i j k l) (below d)) (below c)) 0 a b
      ∙ ap (λ (k : ℕ). flat_map (λ n. flat_map (λ x. map (λ l. f (n / b) (n % b) x l) (below d)) (below c)) (range_with_len k (a * b))) none
      ∙ flat_same (λ n. flat_map (λ x. map (λ l. f (n / b) (n % b) x l) (below d)) (below c)) grid_row (below (a * b)) (λ n. mapped_rows (λ x l. f (n / b) (n % b) x l) c d)

  pub grid_piece : (n : ℕ) → 0 < c * d → n < a * b → slice_get (cut (c * d) (grid a b c d f)) n ≡ Some (grid_row n)
  grid_piece n some lt = ap (λ (l : List X). slice_get (cut (c * d) l) n) rows_of ∙ cut_part grid_row (c * d) (λ k. length-map-range_with_len _ 0 (c * d)) n (a * b) some lt

  pub grid_count : 0 < c * d → length (cut (c * d) (grid a b c d f)) ≡ a * b
  grid_count some = ap (λ (l : List X). length (cut (c * d) l)) rows_of ∙ count_parts grid_row (c * d) (λ k. length-map-range_with_len _ 0 (c * d)) (a * b) some

  -- with no texels in a row there is nothing
  pub grid_none : c ≡ 0 → length (cut (c * d) (grid a b c d f)) ≡ 0
  grid_none none =
      let no_bytes : c * d ≡ 0 = ap (λ (k : ℕ). k * d) none ∙ omega arith in
      let nothing : (c * d) * (a * b) ≡ 0 = ap (λ (k : ℕ). k * (a * b)) no_bytes ∙ omega arith in
      nothing_cut (grid a b c d f) (ap (λ (l : List X). length l) rows_of ∙ length_parts grid_row (c * d) (λ k. length-map-range_with_len _ 0 (c * d)) 0 (a * b) ∙ nothing)
    where
      nothing_cut : (xs : List X) → length xs ≡ 0 → length (cut (c * d) xs) ≡ 0
      nothing_cut [] long = refl
      nothing_cut (x ∷ xs) long = absurd (omega arith)
