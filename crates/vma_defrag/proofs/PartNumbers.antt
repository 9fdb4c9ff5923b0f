-- Which part has a byte of a move, and which moves are of one allocation.
use Rattle.std.proofs.Common.{◌≡◌, ℕ, zero, suc, ◌+◌, ◌/◌, ◌<◌, ◌≤◌, List, [], ◌∷◌, length, take, get_or, sum_by, refl, sym, ap, arith, inl, inr}
use Rattle.std.specs.Prelude.{Contains}
use Rattle.std.proofs.lemmas.Bool.{cases_lt}
use Rattle.std.proofs.lemmas.List.{get_or_default}
use Rattle.std.proofs.lemmas.List.Sums.{sum_by-cons, sum_by_more, sum_by_more_le}
use Rattle.vk_model.specs.Memory.MoveTargets.{Moved}
use Rattle.vk_model.specs.Memory.PassRanks.{AreOnce}
use Rattle.vma_defrag.specs.State.{part_count, parts_before, part_at}
use Rattle.vma_defrag.specs.Bytes.{no_move, IsPart}

-- ---- parts

sums_rise : (ms : List Moved) (i j : ℕ) → i ≤ j → parts_before ms i ≤ parts_before ms j
sums_rise [] zero zero le = omega arith
sums_rise [] zero (suc j) le = omega arith
sums_rise [] (suc i) zero le = omega arith
sums_rise [] (suc i) (suc j) le = omega arith
sums_rise (m ∷ ms) zero j le = omega arith
sums_rise (m ∷ ms) (suc i) zero le = absurd (omega (arith, le))
sums_rise (m ∷ ms) (suc i) (suc j) le = omega (arith, sum_by-cons part_count m (take i ms), sum_by-cons part_count m (take j ms), sums_rise ms i j (omega (arith, le)))

one_more : (ms : List Moved) (i : ℕ) → i < length ms → parts_before ms (i + 1) ≡ parts_before ms i + part_count (get_or ms i no_move)
one_more ms i lt = sum_by_more part_count ms i no_move lt

-- a byte of a move is in one of its parts
pub byte_part : (bytes at : ℕ) → at < bytes → at / 4096 < (bytes + 4095) / 4096
byte_part bytes at lt = omega (arith, lt)

-- the part that has a byte is its move's
pub same_part : (ms : List Moved) (part index number i at : ℕ) → IsPart ms part index number → i < length ms → at < (get_or ms i no_move).bytes → part_at ms i at ≡ part → (i ≡ index) × (at / 4096 ≡ number)
same_part ms part index number i at its lt within is =
    let few = byte_part (get_or ms i no_move).bytes at within in
    elim (cases_lt i index) [
      | inl low ↦ absurd (omega (arith, is, its.sum, few, one_more ms i lt, sums_rise ms (i + 1) index (omega (arith, low))))
      | inr ge ↦ elim (cases_lt index i) [
        | inl high ↦ absurd (omega (arith, is, its.sum, its.within, one_more ms index its.there, sums_rise ms (index + 1) i (omega (arith, high))))
        | inr le ↦ (let e : i ≡ index = omega (arith, ge, le) in (e, omega (arith, is, its.sum, ap (λ (k : ℕ). parts_before ms k) e)))
      ]
    ]

-- a part that has a byte is among all
pub part_below : (ms : List Moved) (i at : ℕ) → i < length ms → at < (get_or ms i no_move).bytes → part_at ms i at < sum_by part_count ms
part_below ms i at lt within = let few = byte_part (get_or ms i no_move).bytes at within in omega (arith, few, sum_by_more_le part_count ms i no_move lt)

-- ---- moves

pub move_among : (ms : List Moved) (i : ℕ) → i < length ms → Contains ms (get_or ms i no_move)
move_among ms i lt = (i, lt, sym (get_or_default ms i no_move (get_or ms i no_move) lt))

-- two moves of one allocation are one
pub once_index : (ms : List Moved) → AreOnce ms → (i j : ℕ) → i < length ms → j < length ms → (get_or ms i no_move).id ≡ (get_or ms j no_move).id → i ≡ j
once_index [] once i j a b e = absurd (omega (arith, a))
once_index (m ∷ ms) once zero zero a b e = refl
once_index (m ∷ ms) once zero (suc j) a b e = absurd (once.0 (get_or ms j no_move) (move_among ms j (omega (arith, b))) e)
once_index (m ∷ ms) once (suc i) zero a b e = absurd (once.0 (get_or ms i no_move) (move_among ms i (omega (arith, a))) (sym e))
once_index (m ∷ ms) once (suc i) (suc j) a b e = ap suc (once_index ms once.1 i j (omega (arith, a)) (omega (arith, b)) e)
