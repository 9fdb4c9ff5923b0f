-- How many pieces come before each part of a command, and which part has a piece.
use Rattle.std.proofs.Common.{◌≡◌, inl, inr, ℕ, zero, suc, ◌+◌, ◌-◌, ◌*◌, ◌<◌, ◌≤◌, List, [], ◌∷◌, ◌++◌, length, take, get_or, slice_index, slice_get, refl, ap, sym, ◌∙◌, arith, length-append, Option, Some, None}
use Rattle.std.proofs.lemmas.Bool.{cases_lt}
use Rattle.std.proofs.lemmas.List.{get_or_append_left, get_or_default, take_all}
use Rattle.std.proofs.lemmas.List.Concat.{length-flat_map}
use Rattle.std.proofs.lemmas.List.Sums.{sum_by-cons, sum_by_more, sum_by_more_le}
use Rattle.std.proofs.Math.Seq.{get_or-append_seam}
use Rattle.std.specs.List.{Contains, flat_map, sum_by}
use Rattle.std.specs.Prelude.{Result, Ok, Err, IsErrOf}
use Rattle.std.specs.Result.{IsErrAnd}
use Rattle.vk_model.specs.declared.command.BufferCopy.{BufferCopy}
use Rattle.vk_model.specs.World.ByteWrites.{ByteWrite, copy_writes}
use Rattle.vk_model.specs.Run.Pieces.{cut}
use Rattle.vk_transfer.specs.Copies.{copy_pieces, copy_piece, region_piece, region_count}
use Rattle.vk_transfer.specs.Counted.{AreCounted, all_counted}
use Rattle.vk_transfer.proofs.CopiedBytes.{length_copy}
use Rattle.vk_transfer.proofs.Ranges.{piece_below, piece_counted}
use Rattle.vk_model.proofs.Lists.Items.{get_before}

-- ---- items of lists that are put together

get-right : {X : Type 0} (xs ys : List X) (i : ℕ) → slice_get (xs ++ ys) (length xs + i) ≡ slice_get ys i
get-right [] ys i = let none : 0 + i ≡ i = omega arith in ap (λ (k : ℕ). slice_get ys k) none
get-right (x ∷ xs) ys i = let more : suc (length xs) + i ≡ suc (length xs + i) = omega arith in ap (λ (k : ℕ). slice_get (x ∷ (xs ++ ys)) k) more ∙ get-right xs ys i

pub get-flat_map : {X A : Type 0} (f : X → List A) (gs : List X) (i j : ℕ) (d : X) → i < length gs → j < length (f (get_or gs i d)) → slice_get (flat_map f gs) (length (flat_map f (take i gs)) + j) ≡ slice_get (f (get_or gs i d)) j
get-flat_map f [] i j d lt small = absurd (omega arith)
get-flat_map f (g ∷ gs) zero j d lt small = let none : 0 + j ≡ j = omega arith in ap (λ (k : ℕ). slice_get (f g ++ flat_map f gs) k) none ∙ get_before (f g) (flat_map f gs) j small
get-flat_map f (g ∷ gs) (suc i) j d lt small =
    let rest = length (flat_map f (take i gs)) in
    let sum : length (f g ++ flat_map f (take i gs)) + j ≡ length (f g) + (rest + j) = omega (arith, length-append (f g) (flat_map f (take i gs))) in
    ap (λ (k : ℕ). slice_get (f g ++ flat_map f gs) k) sum ∙ get-right (f g) (flat_map f gs) (rest + j) ∙ get-flat_map f gs i j d (omega arith) small

-- ---- sums

pub sums_same : {X : Type 0} (f g : X → ℕ) (xs : List X) → ((x : X) → f x ≡ g x) → sum_by f xs ≡ sum_by g xs
sums_same f g [] same = refl
sums_same f g (x ∷ xs) same = omega (arith, sum_by-cons f x xs, sum_by-cons g x xs, same x, sums_same f g xs same)

-- ---- parts with so many pieces each

-- a part among all
pub part_among : {X : Type 0} (xs : List X) (i : ℕ) (e : X) → i < length xs → Contains xs (get_or xs i e)
part_among xs i e lt = (i, lt, sym (get_or_default xs i e (get_or xs i e) lt))

module _ {X A : Type 0} (f : X → ℕ) (g : X → List A) (long : (x : X) → f x ≡ length (g x)) where
  pub counted_length : (xs : List X) → sum_by f xs ≡ length (flat_map g xs)
  counted_length xs = sums_same f (λ x. length (g x)) xs long ∙ sym (length-flat_map g xs)

  pub found_at : (xs : List X) (i j n : ℕ) (e : X) → i < length xs → sum_by f (take i xs) + j ≡ n → j < f (get_or xs i e) → slice_get (flat_map g xs) n ≡ slice_get (g (get_or xs i e)) j
  found_at xs i j n e lt whole low =
      let sum : length (flat_map g (take i xs)) + j ≡ n = omega (arith, counted_length (take i xs), whole) in
      ap (λ (k : ℕ). slice_get (flat_map g xs) k) (sym sum) ∙ get-flat_map g xs i j e lt (omega (arith, low, long (get_or xs i e)))

-- ---- an error that is handed on

pub same_error : {A E : Type 0} (r : Result A E) (e x : E) → IsErrOf r x → IsErrAnd r (λ y. y ≡ e) → e ≡ x
same_error (Ok a) e x is handed = absurd handed
same_error {A} {E} (Err y) e x is handed = let same : y ≡ x = cc in sym handed ∙ same

-- ---- counts

module _ {X : Type 0} (f : X → ℕ) (xs : List X) where
  pub none_counted : AreCounted f xs 0 (0 ∷ [])
  none_counted = record { long = refl; sums = λ i le. first i le }
    where
      first : (i : ℕ) → i ≤ 0 → slice_index (0 ∷ []) i ≡ sum_by f (take i xs)
      first zero le = refl
      first (suc i) le = absurd (omega arith)

  pub all_sum : (count : ℕ) (before : List ℕ) → AreCounted f xs count before → all_counted before ≡ sum_by f (take count xs)
  all_sum count before counted = let last : length before - 1 ≡ count = omega (arith, counted.long) in ap (λ (k : ℕ). slice_index before k) last ∙ counted.sums count (omega arith)

  pub whole_sum : (before : List ℕ) → AreCounted f xs (length xs) before → all_counted before ≡ sum_by f xs
  whole_sum before counted = all_sum (length xs) before counted ∙ ap (λ (l : List X). sum_by f l) (take_all (length xs) xs (omega arith))

  pub first_none : (before : List ℕ) → AreCounted f xs (length xs) before → slice_index before 0 ≡ 0
  first_none before counted = counted.sums 0 (omega arith)

  -- one more part
  module _ (k n : ℕ) (e : X) (before : List ℕ) (lt : k < length xs) (counted : AreCounted f xs k before) (is : n ≡ f (get_or xs k e)) where
    more_is : all_counted before + n ≡ sum_by f (take (k + 1) xs)
    more_is = omega (arith, all_sum k before counted, is, sum_by_more f xs k e lt)

    pub more_counted : AreCounted f xs (k + 1) (before ++ (all_counted before + n) ∷ [])
    more_counted = record {
      long = omega (arith, length-append before ((all_counted before + n) ∷ []), counted.long);
      sums = λ i le. elim (cases_lt i (k + 1)) [
        | inl low ↦ get_or_append_left before ((all_counted before + n) ∷ []) 0 i (omega (arith, counted.long, low)) ∙ counted.sums i (omega (arith, low))
        | inr ge ↦
            let last : i ≡ length before = omega (arith, counted.long, le, ge) in
            let here : i ≡ k + 1 = omega (arith, le, ge) in
            ap (λ (j : ℕ). slice_index (before ++ (all_counted before + n) ∷ []) j) last ∙ get_or-append_seam before (all_counted before + n) [] 0 ∙ more_is ∙ ap (λ (j : ℕ). sum_by f (take j xs)) (sym here)
      ];
    }

    pub more_within : all_counted before + n ≤ sum_by f xs
    more_within = omega (arith, all_sum k before counted, is, sum_by_more_le f xs k e lt)

  -- ---- the part that has a piece

  module _ (before : List ℕ) (part number at : ℕ) (e : X) (counted : AreCounted f xs (length xs) before) (inside : part + 1 < length before) (low : slice_index before part + at ≡ number) (high : number < slice_index before (part + 1)) where
    pub part_there : part < length xs
    part_there = omega (arith, counted.long, inside)

    sum_before : slice_index before part ≡ sum_by f (take part xs)
    sum_before = counted.sums part (omega (arith, part_there))

    pub number_there : at < f (get_or xs part e)
    number_there = omega (arith, counted.sums (part + 1) (omega (arith, part_there)), sum_by_more f xs part e part_there, sum_before, low, high)

    -- of parts with so many pieces each
    pub piece_found : {A : Type 0} (g : X → List A) → ((x : X) → f x ≡ length (g x)) → slice_get (flat_map g xs) number ≡ slice_get (g (get_or xs part e)) at
    piece_found g long = found_at f g long xs part at number e part_there (omega (arith, sum_before, low)) number_there

-- ---- regions of a copy between buffers

-- a region has as many pieces for all buffers
pub region_counted : (s d : ℕ) (g : BufferCopy) → region_count g ≡ length (cut 4096 (copy_writes s d g))
region_counted s d g = piece_counted (copy_writes 0 0 g) g.size (length_copy 0 0 g) ∙ sym (piece_counted (copy_writes s d g) g.size (length_copy s d g))

-- as it was counted for any byte writes of that size
pub region_sized : (gs : List BufferCopy) (i : ℕ) (e : BufferCopy) (n : ℕ) → ((ms : List ByteWrite) → length ms ≡ (get_or gs i e).size → n ≡ length (cut 4096 ms)) → n ≡ region_count (get_or gs i e)
region_sized gs i e n counted = let g = get_or gs i e in counted (copy_writes 0 0 g) (length_copy 0 0 g)

pub copy_count : (s d : ℕ) (gs : List BufferCopy) → sum_by region_count gs ≡ length (copy_pieces s d gs)
copy_count s d gs = counted_length region_count (λ g. cut 4096 (copy_writes s d g)) (region_counted s d) gs

module _ (gs : List BufferCopy) (before : List ℕ) (part number at : ℕ) (e : BufferCopy) (counted : AreCounted region_count gs (length gs) before) (inside : part + 1 < length before) (low : slice_index before part + at ≡ number) (high : number < slice_index before (part + 1)) where
  pub copy_found : (s d : ℕ) → copy_piece s d gs number ≡ region_piece s d (get_or gs part e) at
  copy_found s d = ap (λ (p : Option (List ByteWrite)). elim p [ None ↦ [] | Some ms ↦ ms ]) (piece_found region_count gs before part number at e counted inside low high (λ g. cut 4096 (copy_writes s d g)) (region_counted s d))

  pub copy_there : 4096 * at < (get_or gs part e).size
  copy_there = let g = get_or gs part e in piece_below (copy_writes 0 0 g) g.size at (length_copy 0 0 g) (number_there region_count gs before part number at e counted inside low high)
