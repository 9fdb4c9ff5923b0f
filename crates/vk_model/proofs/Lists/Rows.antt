-- Lists of rows, each of which has as many items, as one list. Other crates cite it.
use Rattle.std.proofs.Common.{◌≡◌, ℕ, zero, suc, ◌+◌, ◌*◌, ◌/◌, ◌%◌, ◌<◌, List, [], ◌∷◌, ◌++◌, map, refl, ap, sym, ◌∙◌, arith, add-zero, zero-add, append-nil}
use Rattle.std.proofs.lemmas.Grind.{flat_map-append}
use Rattle.std.proofs.lemmas.Nat.{div-mul-add, mod-mul-add}
use Rattle.std.specs.List.{flat_map, range_with_len}
use Rattle.vk_model.specs.Basics.{below}

-- the numbers from a on, in two parts
pub range_append : (a n m : ℕ) → range_with_len a (n + m) ≡ range_with_len a n ++ range_with_len (a + n) m
range_append a zero m = let none : 0 + m ≡ m = omega arith in let here : a ≡ a + 0 = omega arith in ap (λ (k : ℕ). range_with_len a k) none ∙ ap (λ (k : ℕ). range_with_len k m) here
range_append a (suc n) m =
    let more : suc n + m ≡ suc (n + m) = omega arith in
    let at : a + 1 + n ≡ a + suc n = omega arith in
    rw more (ap (λ (l : List ℕ). a ∷ l) (range_append (a + 1) n m ∙ ap (λ (k : ℕ). range_with_len (a + 1) n ++ range_with_len k m) at))

-- what two functions make of numbers from a and from b on
pub flat_shifted : {X : Type 0} (f g : ℕ → List X) (a b n : ℕ) → ((k : ℕ) → k < n → f (a + k) ≡ g (b + k)) → flat_map f (range_with_len a n) ≡ flat_map g (range_with_len b n)
flat_shifted f g a b zero same = refl
flat_shifted {X} f g a b (suc n) same =
    let here : f a ≡ g b = ap f (sym (add-zero a)) ∙ same 0 (omega arith) ∙ ap g (add-zero b) in
    let rest : flat_map f (range_with_len (a + 1) n) ≡ flat_map g (range_with_len (b + 1) n) = flat_shifted f g (a + 1) (b + 1) n (λ k lt. ap f (next a k) ∙ same (suc k) (omega arith) ∙ ap g (sym (next b k))) in
    ap (λ (y : List X). y ++ flat_map f (range_with_len (a + 1) n)) here ∙ ap (λ (ys : List X). g b ++ ys) rest
  where
    next : (i k : ℕ) → i + 1 + k ≡ i + suc k
    next i k = omega arith

-- rows of n, one after another, as one list
pub flat_rows : {X : Type 0} (g : ℕ → ℕ → List X) (a m n : ℕ) → flat_map (λ i. flat_map (λ j. g i j) (below n)) (range_with_len a m) ≡ flat_map (λ k. g (k / n) (k % n)) (range_with_len (a * n) (m * n))
flat_rows g a zero n = let none : zero * n ≡ 0 = omega arith in rw none refl
flat_rows {X} g a (suc m) n =
    let more : suc m * n ≡ n + m * n = omega arith in
    let at : a * n + n ≡ (a + 1) * n = omega arith in
    let h : ℕ → List X = λ k. g (k / n) (k % n) in
    let first : flat_map (λ j. g a j) (below n) ≡ flat_map h (range_with_len (a * n) n) =
    flat_shifted (λ j. g a j) h 0 (a * n) n (λ k lt. ap (λ (j : ℕ). g a j) (zero-add k) ∙ ap (λ (i : ℕ). g i k) (sym (div-mul-add a n k lt)) ∙ ap (λ (j : ℕ). g ((a * n + k) / n) j) (sym (mod-mul-add a n k lt))) in
    ap (λ (l : List X). l ++ flat_map (λ i. flat_map (λ j. g i j) (below n)) (range_with_len (a + 1) m)) first
    ∙ ap (λ (l : List X). flat_map h (range_with_len (a * n) n) ++ l) (flat_rows g (a + 1) m n)
    ∙ ap (λ (k : ℕ). flat_map h (range_with_len (a * n) n) ++ flat_map h (range_with_len k (m * n))) (sym at)
    ∙ sym (flat_map-append h (range_with_len (a * n) n) (range_with_len (a * n + n) (m * n)))
    ∙ ap (λ (l : List ℕ). flat_map h l) (sym (range_append (a * n) n (m * n)))
    ∙ ap (λ (k : ℕ). flat_map h (range_with_len (a * n) k)) (sym more)

-- a map makes lists of one item
single : {X : Type 0} (f : ℕ → X) (xs : List ℕ) → flat_map (λ x. f x ∷ []) xs ≡ map f xs
single f [] = refl
single {X} f (x ∷ xs) = ap (λ (l : List X). f x ∷ l) (single f xs)

pub flat_same : {A X : Type 0} (f g : A → List X) (xs : List A) → ((x : A) → f x ≡ g x) → flat_map f xs ≡ flat_map g xs
flat_same f g [] same = refl
flat_same {A} {X} f g (x ∷ xs) same = ap (λ (l : List X). l ++ flat_map f xs) (same x) ∙ ap (λ (l : List X). g x ++ l) (flat_same f g xs same)

pub mapped_rows : {X : Type 0} (g : ℕ → ℕ → X) (m n : ℕ) → flat_map (λ i. map (λ j. g i j) (below n)) (below m) ≡ map (λ k. g (k / n) (k % n)) (below (m * n))
mapped_rows g m n =
    let none : 0 * n ≡ 0 = omega arith in
    flat_same (λ i. map (λ j. g i j) (below n)) (λ i. flat_map (λ j. g i j ∷ []) (below n)) (below m) (λ i. sym (single (λ j. g i j) (below n)))
    ∙ flat_rows (λ i j. g i j ∷ []) 0 m n ∙ ap (λ (k : ℕ). flat_map (λ q. g (q / n) (q % n) ∷ []) (range_with_len k (m * n))) none ∙ single (λ k. g (k / n) (k % n)) (below (m * n))

-- the same of maps
pub map_shifted : {X : Type 0} (f g : ℕ → X) (a b n : ℕ) → ((k : ℕ) → k < n → f (a + k) ≡ g (b + k)) → map f (range_with_len a n) ≡ map g (range_with_len b n)
map_shifted f g a b zero same = refl
map_shifted {X} f g a b (suc n) same =
    let here : f a ≡ g b = ap f (sym (add-zero a)) ∙ same 0 (omega arith) ∙ ap g (add-zero b) in
    ap (λ (x : X). x ∷ map f (range_with_len (a + 1) n)) here
    ∙ ap (λ (xs : List X). g b ∷ xs) (map_shifted f g (a + 1) (b + 1) n (λ k lt. ap f (next a k) ∙ same (suc k) (omega arith) ∙ ap g (sym (next b k))))
  where
    next : (i k : ℕ) → i + 1 + k ≡ i + suc k
    next i k = omega arith

-- and of numbers below n
pub map_below : {X : Type 0} (f g : ℕ → X) (n : ℕ) → ((k : ℕ) → k < n → f k ≡ g k) → map f (below n) ≡ map g (below n)
map_below f g n same = map_shifted f g 0 0 n (λ k lt. let at : 0 + k ≡ k = omega arith in rw at (same k lt))

pub flat_below : {X : Type 0} (f g : ℕ → List X) (n : ℕ) → ((k : ℕ) → k < n → f k ≡ g k) → flat_map f (below n) ≡ flat_map g (below n)
flat_below f g n same = flat_shifted f g 0 0 n (λ k lt. let at : 0 + k ≡ k = omega arith in rw at (same k lt))

-- one number more
pub flat_more : {X : Type 0} (f : ℕ → List X) (n : ℕ) → flat_map f (below (n + 1)) ≡ flat_map f (below n) ++ f n
flat_more f n =
    let at : 0 + n ≡ n = omega arith in
    ap (λ (l : List ℕ). flat_map f l) (range_append 0 n 1) ∙ flat_map-append f (below n) (range_with_len (0 + n) 1) ∙ rw at (ap (λ l. flat_map f (below n) ++ l) (append-nil (f n)))

-- lists of lists
pub flat_flat : {A B X : Type 0} (g : B → List X) (f : A → List B) (xs : List A) → flat_map g (flat_map f xs) ≡ flat_map (λ x. flat_map g (f x)) xs
flat_flat g f [] = refl
flat_flat {A} {B} {X} g f (x ∷ xs) = flat_map-append g (f x) (flat_map f xs) ∙ ap (λ (l : List X). flat_map g (f x) ++ l) (flat_flat g f xs)

pub flat_mapped : {A B X : Type 0} (g : B → List X) (f : A → B) (xs : List A) → flat_map g (map f xs) ≡ flat_map (λ x. g (f x)) xs
flat_mapped g f [] = refl
flat_mapped {A} {B} {X} g f (x ∷ xs) = ap (λ (l : List X). g (f x) ++ l) (flat_mapped g f xs)
