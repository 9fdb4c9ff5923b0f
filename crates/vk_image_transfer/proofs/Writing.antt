-- Texels that are written run by run.
use Rattle.std.proofs.Common.{◌≡◌, inl, inr, ℕ, subst, zero, suc, ◌+◌, ◌-◌, ◌*◌, ◌/◌, ◌%◌, ◌<◌, ◌≤◌, List, length, take, get_or, refl, ap, sym, ◌∙◌, arith, slice_index}
use Rattle.std.proofs.lemmas.Bool.{cases_lt}
use Rattle.std.proofs.Math.Nat.{div-mul-le_self}
use Rattle.std.proofs.lemmas.Grind.{common_steps, elements}
use Rattle.std.proofs.lemmas.Nat.{div-add-mod', div_below, mod_below, mul-add-lt, mul-le}
use Rattle.vk_heap.specs.Region.{splice, piece}
use Rattle.vk_heap.proofs.SpliceLemmas.{length-splice, splice-in, splice-out, length-piece, get_or-piece}
use Rattle.vk_image_tiles.specs.Rows.{ArePairs}
use Rattle.vk_image_transfer.specs.Rows.{AreWritten}
use Rattle.vk_image_transfer.specs.Inner.Lines.{pair_copied, pairs_copied}

pub none_written : (old : List ℕ) (t : ℕ) (place : ℕ → ℕ) (value : ℕ → ℕ → ℕ) → AreWritten old old 0 t place value
none_written old t place value = record { size = refl; there = λ x p lt. absurd (omega arith); kept = λ k out. refl }

-- a place among the bytes of texels that lie together is a byte of one of them
pub record ByteAt (t m : ℕ) (place : ℕ → ℕ) (n j : ℕ) : Type 0 where
  pub k : ℕ
  pub p : ℕ
  pub low_k : k < m
  pub low_p : p < t
  pub is : place (n + k) + p ≡ j

byte_at : (t m : ℕ) (place : ℕ → ℕ) (n j : ℕ) → 0 < t → ((k : ℕ) → k < m → place (n + k) ≡ place n + k * t) → place n ≤ j → j < place n + m * t → ByteAt t m place n j
byte_at t m place n j some together low high =
    let k : ℕ = (j - place n) / t in
    let whole : (j - place n) / t * t + (j - place n) % t ≡ j - place n = div-add-mod' (j - place n) t in
    let lt : (j - place n) / t < m = div_below (j - place n) t m some (omega arith) in
    record { k = (j - place n) / t; p = (j - place n) % t; low_k = lt; low_p = mod_below (j - place n) t some; is = omega (arith, together ((j - place n) / t) lt, whole, low) }

module _ (t w : ℕ) (place : ℕ → ℕ) (value : ℕ → ℕ → ℕ) (some : 0 < t)
    (apart : (x p u q : ℕ) → x < w → u < w → p < t → q < t → place x + p ≡ place u + q → x ≡ u) where
  module _ (old mid bytes : List ℕ) (n m : ℕ) (so_far : AreWritten old mid n t place value) (long : length bytes ≡ m * t) (room : place n + m * t ≤ length mid) (fits : n + m ≤ w)
      (together : (k : ℕ) → k < m → place (n + k) ≡ place n + k * t)
      (values : (k p : ℕ) → k < m → p < t → slice_index bytes (k * t + p) ≡ value (n + k) p) where
    abbrev new : List ℕ
    new = splice mid (place n) bytes

    -- texels before them are kept
    before : (x p : ℕ) → x < n → p < t → slice_index new (place x + p) ≡ slice_index mid (place x + p)
    before x p lt low = elim (cases_lt (place x + p) (place n)) [
      | inl less ↦ splice-out mid bytes (place n) (omega (arith, long, room)) (place x + p) (inl less)
      | inr more ↦ elim (cases_lt (place x + p) (place n + m * t)) [
        | inl less ↦ absurd (let b = byte_at t m place n (place x + p) some together more less in let same : x ≡ n + b.k = apart x p (n + b.k) b.p (omega arith) (omega (arith, b.low_k)) low b.low_p (sym b.is) in omega (arith, same))
        | inr beyond ↦ splice-out mid bytes (place n) (omega (arith, long, room)) (place x + p) (inr (omega (arith, long, beyond)))
      ]
    ]

    here : (k p : ℕ) → k < m → p < t → slice_index new (place (n + k) + p) ≡ value (n + k) p
    here k p lt low =
        let at : place (n + k) ≡ place n + k * t = together k lt in
        let inside : k * t + p < t * m = mul-add-lt k t p m lt low in
        let from : place (n + k) + p - place n ≡ k * t + p = omega (arith, at) in
        splice-in mid bytes (place n) (omega (arith, long, room)) (place (n + k) + p) (omega (arith, at)) (omega (arith, at, long, inside)) ∙ ap (λ (j : ℕ). slice_index bytes j) from ∙ values k p lt low

    pub more_written : AreWritten old new (n + m) t place value
    more_written = record {
      size = length-splice mid bytes (place n) (omega (arith, long, room)) ∙ so_far.size;
      there = λ x p lt low. elim (cases_lt x n) [
        | inl less ↦ before x p less low ∙ so_far.there x p less low
        | inr more ↦ (let at : n + (x - n) ≡ x = omega arith in ap (λ (u : ℕ). slice_index new (place u + p)) (sym at) ∙ here (x - n) p (omega arith) low ∙ ap (λ (u : ℕ). value u p) at)
      ];
      kept = λ k out. kept_at k out ∙ so_far.kept k (λ x p lt low is. out x p (omega arith) low is);
    }
      where
        kept_at : (k : ℕ) → ((x p : ℕ) → x < n + m → p < t → place x + p ≡ k → ⊥) → slice_index new k ≡ slice_index mid k
        kept_at k out = elim (cases_lt k (place n)) [
          | inl less ↦ splice-out mid bytes (place n) (omega (arith, long, room)) k (inl less)
          | inr more ↦ elim (cases_lt k (place n + m * t)) [
            | inl less ↦ absurd (let b = byte_at t m place n k some together more less in out (n + b.k) b.p (omega (arith, b.low_k)) b.low_p b.is)
            | inr beyond ↦ splice-out mid bytes (place n) (omega (arith, long, room)) k (inr (omega (arith, long, beyond)))
          ]
        ]

-- the bytes of texels that are read together
module _ (t : ℕ) (place : ℕ → ℕ) (xs : List ℕ) (n m : ℕ) (together : (k : ℕ) → k < m → place (n + k) ≡ place n + k * t) (room : place n + m * t ≤ length xs) where
  pub read_together : (k p : ℕ) → k < m → p < t → slice_index (piece xs (place n) (m * t)) (k * t + p) ≡ slice_index xs (place (n + k) + p)
  read_together k p lt low =
      let at : place (n + k) ≡ place n + k * t = together k lt in
      let inside : k * t + p < t * m = mul-add-lt k t p m lt low in
      let from : k * t + p ≡ place (n + k) + p - place n = omega (arith, at) in
      ap (λ (j : ℕ). slice_index (piece xs (place n) (m * t)) j) from ∙ get_or-piece xs (place n) (m * t) (place (n + k) + p) (omega (arith, at)) (omega (arith, at, inside))

  pub length_read : length (piece xs (place n) (m * t)) ≡ m * t
  length_read = length-piece xs (place n) (m * t) room

-- texels that lie together end in what holds the last of them
pub together_ends : (t : ℕ) (place : ℕ → ℕ) (n m w size : ℕ) → 0 < m → n + m ≤ w → ((k : ℕ) → k < m → place (n + k) ≡ place n + k * t) → ((x : ℕ) → x < w → place x + t ≤ size) → place n + m * t ≤ size
together_ends t place n m w size some le together inside =
    let last : place (n + (m - 1)) ≡ place n + (m - 1) * t = together (m - 1) (omega arith) in
    let fits : place (n + (m - 1)) + t ≤ size = inside (n + (m - 1)) (omega arith) in
    let one : (m - 1) * t + t ≡ m * t = whole m some in
    omega (arith, last, fits, one)
  where
    whole : (a : ℕ) → 0 < a → (a - 1) * t + t ≡ a * t
    whole zero none = absurd (omega arith)
    whole (suc a) more = let less : suc a - 1 ≡ a = omega arith in rw less (omega arith)

-- texels that lie together, by the place of the first
module _ (t : ℕ) (place : ℕ → ℕ) (n m at t' : ℕ) (bytes : t' ≡ t) (some : 0 < m) (together : (k : ℕ) → k < m → place (n + k) ≡ at + k * t') where
  pub first_at : at ≡ place n
  first_at = let here : n + 0 ≡ n = omega arith in let none : 0 * t' ≡ 0 = omega arith in omega (arith, together 0 some, ap place here, none)

  pub together_at : (k : ℕ) → k < m → place (n + k) ≡ place n + k * t
  together_at k lt = together k lt ∙ ap (λ (a : ℕ). a + k * t') first_at ∙ ap (λ (b : ℕ). place n + k * b) bytes

-- texels that are copied, from where the bytes read are still those of the source
pub moved : (t w : ℕ) (place from : ℕ → ℕ) (source old mid read new : List ℕ) (n m at read_at size : ℕ) → 0 < t → 0 < m → n + m ≤ w
    → ((x p u q : ℕ) → x < w → u < w → p < t → q < t → place x + p ≡ place u + q → x ≡ u)
    → AreWritten old mid n t place (λ x p. slice_index source (from x + p))
    → ((x : ℕ) → x < w → place x + t ≤ length old) → ((x : ℕ) → x < w → from x + t ≤ length read)
    → ((k : ℕ) → k < m → place (n + k) ≡ place n + k * t) → ((k : ℕ) → k < m → from (n + k) ≡ from n + k * t)
    → ((x p : ℕ) → x < w → p < t → slice_index read (from x + p) ≡ slice_index source (from x + p))
    → at ≡ place n → read_at ≡ from n → size ≡ m * t → new ≡ splice mid at (piece read read_at size)
    → AreWritten old new (n + m) t place (λ x p. slice_index source (from x + p))
moved t w place from source old mid read new n m at read_at size some more fits apart so_far room there to_together from_together same to_is from_is size_is is =
    let in_read : from n + m * t ≤ length read = together_ends t from n m w (length read) more fits from_together there in
    let in_old : place n + m * t ≤ length old = together_ends t place n m w (length old) more fits to_together room in
    let in_mid : place n + m * t ≤ length mid = omega (arith, in_old, so_far.size) in
    rw (is, to_is, from_is, size_is)
    (more_written t w place (λ x p. slice_index source (from x + p)) some apart old mid (piece read (from n) (m * t)) n m so_far (length_read t from read n m from_together in_read) in_mid fits to_together
    (λ k p lt low. read_together t from read n m from_together in_read k p lt low ∙ same (n + k) p (omega (arith, fits)) low))

-- the loop has come to its end
pub all_written : {old new : List ℕ} {t : ℕ} {place : ℕ → ℕ} {value : ℕ → ℕ → ℕ} (n w : ℕ) → n ≡ w → AreWritten old new n t place value → AreWritten old new w t place value
all_written {old} {new} {t} {place} {value} n w is written = subst (λ (k : ℕ). AreWritten old new k t place value) is written

-- a run of texels ends in what holds the line
pub run_ends : (t : ℕ) (place : ℕ → ℕ) (n m w size at t' : ℕ) → t' ≡ t → 0 < m → n + m ≤ w → ((k : ℕ) → k < m → place (n + k) ≡ at + k * t') → ((x : ℕ) → x < w → place x + t ≤ size) → at + m * t ≤ size
run_ends t place n m w size at t' bytes some fits together inside =
    omega (arith, first_at t place n m at t' bytes some together, together_ends t place n m w size some fits (together_at t place n m at t' bytes some together) inside)

-- ---- texels of one color

taken : (xs : List ℕ) (s k : ℕ) → k < s → s ≤ length xs → get_or (take s xs) k 0 ≡ get_or xs k 0
taken xs s k lt le = grind (arith, elements)

pub length_taken : (xs : List ℕ) (s : ℕ) → s ≤ length xs → length (take s xs) ≡ s
length_taken xs s le = grind (arith, common_steps)

pub few_bytes : (m t : ℕ) → m ≤ 64 / t → m * t ≤ 64
few_bytes m t le = let whole : m * t ≤ 64 / t * t = mul-le m t (64 / t) t le (omega arith) in omega (arith, whole, div-mul-le_self 64 t)

pub filled : (t w : ℕ) (place : ℕ → ℕ) (color old mid new : List ℕ) (n m at size : ℕ) → 0 < t → n + m ≤ w
    → ((x p u q : ℕ) → x < w → u < w → p < t → q < t → place x + p ≡ place u + q → x ≡ u)
    → AreWritten old mid n t place (λ x p. slice_index color p) → m * t ≤ length color → place n + m * t ≤ length old
    → ((k : ℕ) → k < m → place (n + k) ≡ place n + k * t)
    → ((x p : ℕ) → p < t → x * t + p < length color → slice_index color (x * t + p) ≡ slice_index color p)
    → at ≡ place n → size ≡ m * t → new ≡ splice mid at (take size color)
    → AreWritten old new (n + m) t place (λ x p. slice_index color p)
filled t w place color old mid new n m at size some fits apart so_far few in_old together repeats to_is size_is is =
    let in_mid : place n + m * t ≤ length mid = omega (arith, in_old, so_far.size) in
    rw (is, to_is, size_is)
    (more_written t w place (λ x p. slice_index color p) some apart old mid (take (m * t) color) n m so_far (length_taken color (m * t) few) in_mid fits together
    (λ k p lt low. let inside : k * t + p < t * m = mul-add-lt k t p m lt low in taken color (m * t) (k * t + p) (omega (arith, inside)) few ∙ repeats k p low (omega (arith, inside, few))))

-- ---- texels that are copied by pairs

module _ (t w : ℕ) (place from : ℕ → ℕ) (source old : List ℕ) (some : 0 < t) (apart : (x p u q : ℕ) → x < w → u < w → p < t → q < t → place x + p ≡ place u + q → x ≡ u)
    (room : (x : ℕ) → x < w → place x + t ≤ length old) (there : (x : ℕ) → x < w → from x + t ≤ length source) (n : ℕ) (fits : n + 8 ≤ w) (reads writes : List ℕ) where
  -- pair k of a line lies together
  pair_together : (f : ℕ → ℕ) (starts : List ℕ) → ArePairs f t n starts → (k : ℕ) → k < 4 → (j : ℕ) → j < 2 → f (n + 2 * k + j) ≡ f (n + 2 * k) + j * t
  pair_together f starts pairs k low zero few = let same : n + 2 * k + 0 ≡ n + 2 * k = omega arith in rw same (omega arith)
  pair_together f starts pairs k low (suc zero) few = let pair = pairs k low in omega (arith, pair.0, pair.1)
  pair_together f starts pairs k low (suc (suc j)) few = absurd (omega arith)

  pair_moved : ArePairs place t n writes → ArePairs from t n reads → (mid : List ℕ) (k : ℕ) → k < 4 → AreWritten old mid (n + 2 * k) t place (λ x p. slice_index source (from x + p))
      → AreWritten old (pair_copied source reads writes (2 * t) k mid) (n + 2 * k + 2) t place (λ x p. slice_index source (from x + p))
  pair_moved to of mid k low so_far =
      moved t w place from source old mid source (pair_copied source reads writes (2 * t) k mid) (n + 2 * k) 2 (slice_index writes k) (slice_index reads k) (2 * t) some (omega arith) (omega arith) apart so_far room there
      (pair_together place writes to k low) (pair_together from reads of k low) (λ x p lt less. refl) (sym (to k low).0) (sym (of k low).0) refl refl

  written_to : (a b : ℕ) (new : List ℕ) → a ≡ b → AreWritten old new a t place (λ x p. slice_index source (from x + p)) → AreWritten old new b t place (λ x p. slice_index source (from x + p))
  written_to a b new same = subst (λ (c : ℕ). AreWritten old new c t place (λ x p. slice_index source (from x + p))) same

  pub pairs_moved : (mid : List ℕ) → ArePairs place t n writes → ArePairs from t n reads → AreWritten old mid n t place (λ x p. slice_index source (from x + p))
      → AreWritten old (pairs_copied source reads writes (2 * t) mid) (n + 8) t place (λ x p. slice_index source (from x + p))
  pairs_moved mid to of so_far =
      let one = pair_moved to of mid 0 (omega arith) (written_to n (n + 2 * 0) mid (omega arith) so_far) in
      let two = pair_moved to of (pair_copied source reads writes (2 * t) 0 mid) 1 (omega arith) (written_to (n + 2 * 0 + 2) (n + 2 * 1) (pair_copied source reads writes (2 * t) 0 mid) (omega arith) one) in
      let three = pair_moved to of (pair_copied source reads writes (2 * t) 1 (pair_copied source reads writes (2 * t) 0 mid)) 2 (omega arith)
      (written_to (n + 2 * 1 + 2) (n + 2 * 2) (pair_copied source reads writes (2 * t) 1 (pair_copied source reads writes (2 * t) 0 mid)) (omega arith) two) in
      let four = pair_moved to of (pair_copied source reads writes (2 * t) 2 (pair_copied source reads writes (2 * t) 1 (pair_copied source reads writes (2 * t) 0 mid))) 3 (omega arith)
      (written_to (n + 2 * 2 + 2) (n + 2 * 3) (pair_copied source reads writes (2 * t) 2 (pair_copied source reads writes (2 * t) 1 (pair_copied source reads writes (2 * t) 0 mid))) (omega arith) three) in
      written_to (n + 2 * 3 + 2) (n + 8) (pairs_copied source reads writes (2 * t) mid) (omega arith) four
