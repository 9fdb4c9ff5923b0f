-- The pieces left of a command, as flags and their sums.
use Rattle.std.proofs.Common.{zero, suc, ◌≡◌, ◌<◌, ◌≤◌, ◌+◌, ◌-◌, ◌*◌, ◌/◌, ◌%◌, ℕ, List, [], ◌∷◌, ◌++◌, length, refl, ap, ◌∙◌, sym, arith, get_or, set, Bool, true, false, Some, inl, inr}
use Rattle.std.specs.Prelude.{take, sum, min, slice_get, replicate, count_by, Contains, Option, None, Box, filter, not, ◌==◌}
use Rattle.std.specs.List.{range_with_len, sum_by}
use Rattle.std.proofs.lemmas.List.{length-replicate, length_push, set_at, get_or_at, take_all, take-append-le, take-replicate}
use Rattle.std.proofs.lemmas.List.Sums.{sum_by_push}
use Rattle.std.proofs.lemmas.List.Folds.{sum_by-replicate}
use Rattle.std.proofs.lemmas.Bool.{cases_lt}
use Rattle.std.proofs.Math.Seq.{take-length}
use Rattle.std.proofs.lemmas.Option.{slice_get-get_or}
use Rattle.vk_sync.specs.Inner.Places.{places, one_if, is_so}
use Rattle.std.specs.Global.{Global}
use Rattle.std.proofs.lemmas.List.FromFn.{length-range_with_len}
use Rattle.vk_sync.specs.Inner.Left.{all_left, IsCounted}
use Rattle.vk_sync.specs.Inner.Sums.{AreSumsOf}
use Rattle.vk_sync.proofs.SumLemmas.{sums_change, sum_of_sums, at_most_sum, not_all}
use Rattle.vk_sync.proofs.PlaceLemmas.{length-places, has_command, HasCommand, place_of}

-- So many pieces of all have been counted, by 64.
pub record IsCountedTo (count counted : ℕ) (groups : List ℕ) : Type 0 where
  pub upto : (n : ℕ) → sum (take n groups) ≡ min (64 * n) counted
  pub groups_are : length groups ≡ (counted + 63) / 64
  pub within : counted ≤ count
  pub whole : counted < count → counted % 64 ≡ 0

-- How far a search for a piece has come.
pub record IsSought (flags : List Bool) (place piece rest : ℕ) : Type 0 where
  pub ranked : count_by is_so (take piece flags) + rest ≡ place
  pub there : place < count_by is_so flags

-- There are as many pieces left as the sums say.
pub left_len : (flags : List Bool) (groups : List ℕ) → AreSumsOf one_if groups flags → length (places is_so 0 flags) ≡ sum groups
left_len flags groups s = length-places is_so 0 flags ∙ sym (sum_of_sums one_if groups flags s)

-- An element of a list is at some place.
pub get_of : {A : Type 0} (xs : List A) (x : A) → Contains xs x → (k : ℕ) × (slice_get xs k ≡ Some x)
get_of xs x (k, lt, e) = (k, slice_get-get_or xs k x lt ∙ ap Some e)

-- A piece that is left has its flag set.
pub flag_set : (flags : List Bool) (piece : ℕ) → Contains (places is_so 0 flags) piece → (piece < length flags) × (get_or flags piece false ≡ true)
flag_set flags piece has =
    let at = get_of (places is_so 0 flags) piece has in
    let s : HasCommand is_so 0 flags false at.0 piece = has_command is_so 0 flags false at.0 piece at.1 in
    let same : piece - 0 ≡ piece = omega arith in
    (omega (arith, s.within), rw same at s.passes)

-- A piece that has run: its flag and its sum.
pub sums_less : (flags : List Bool) (groups : List ℕ) (piece : ℕ) → AreSumsOf one_if groups flags → piece < length flags → get_or flags piece false ≡ true → (1 ≤ get_or groups (piece / 64) 0) × AreSumsOf one_if (set groups (piece / 64) (get_or groups (piece / 64) 0 - 1)) (set flags piece false)
sums_less flags groups piece s lt e =
    let one : one_if (get_or flags piece false) ≡ 1 = rw e refl in
    let most = at_most_sum one_if groups flags s piece false lt in
    let some : 1 ≤ get_or groups (piece / 64) 0 = omega arith in
    (some, sums_change one_if groups flags s piece (get_or groups (piece / 64) 0 - 1) false false 0 1 lt (omega arith) (omega arith))

-- What has been counted is the sum of the groups.
pub counted_sum : (count counted : ℕ) (groups : List ℕ) → IsCountedTo count counted groups → sum groups ≡ counted
counted_sum count counted groups m =
    let n = m.groups_are in
    omega (arith, ap sum (take-length groups), m.upto (length groups))

-- The pieces of one more group.
pub counted_more : (count counted more : ℕ) (groups groups' : List ℕ) → IsCountedTo count counted groups → counted < count → more ≡ min (count - counted) 64 → groups' ≡ set (groups ++ 0 ∷ []) (counted / 64) (get_or (groups ++ 0 ∷ []) (counted / 64) 0 + more) → IsCountedTo count (counted + more) groups'
counted_more count counted more groups groups' m lt e changed =
    let g = length groups in
    let n = m.groups_are in
    let w = m.whole lt in
    let at : counted / 64 ≡ g = omega arith in
    let was : get_or (groups ++ 0 ∷ []) (counted / 64) 0 ≡ 0 = get_or_at groups 0 [] 0 (counted / 64) (sym at) in
    let one : get_or (groups ++ 0 ∷ []) (counted / 64) 0 + more ≡ more = omega arith in
    let now : groups' ≡ groups ++ more ∷ [] = changed ∙ ap (set (groups ++ 0 ∷ []) (counted / 64)) one ∙ set_at groups 0 [] more (counted / 64) (sym at) in
    let len : length groups' ≡ g + 1 = ap length now ∙ length_push groups more in
    let all : sum groups' ≡ sum groups + more = ap sum now ∙ sum_by_push (λ (x : ℕ). x) groups more in
    record {
      upto = λ k. elim (cases_lt g k) [
        | inl h ↦ omega (arith, ap sum (take_all k groups' (omega (arith, h, len))), all, counted_sum count counted groups m, h)
        | inr h ↦ omega (arith, ap (λ (xs : List ℕ). sum (take k xs)) now, ap sum (take-append-le k groups (more ∷ []) h), m.upto k, h)
      ];
      groups_are = omega arith;
      within = omega arith;
      whole = λ rest. omega arith;
    }

-- The groups are the sums of the flags when all pieces have been counted.
pub counted_all : (count counted : ℕ) (groups : List ℕ) → IsCountedTo count counted groups → counted ≡ count → AreSumsOf one_if groups (replicate count true)
counted_all count counted groups m all =
    let n = m.groups_are in
    let len = length-replicate count true in
    record {
      upto = λ k. elim (cases_lt count (64 * k)) [
        | inl h ↦ omega (arith, m.upto k, ap (sum_by one_if) (take_all (64 * k) (replicate count true) (omega (arith, h, len))), sum_by-replicate one_if count true, h)
        | inr h ↦ omega (arith, m.upto k, ap (sum_by one_if) (take-replicate (64 * k) count true h), sum_by-replicate one_if (64 * k) true, h)
      ];
      covers = omega arith;
      tight = omega arith;
    }

-- The flags of pieces that are all left.
pub flags_made : (count len : ℕ) (was flags : List Bool) → was ≡ [] → len ≡ 0 → flags ≡ take count was ++ replicate (count - len) true → flags ≡ replicate count true
flags_made count len was flags none nought e =
    let front : take count was ≡ [] = ap (take count) none ∙ take_all count [] (omega arith) in
    let rest : count - len ≡ count = omega arith in
    e ∙ rw (front, rest) refl

-- The piece at which a search ends.
pub found_piece : (flags : List Bool) (place piece rest : ℕ) → IsSought flags place piece rest → rest ≡ 0 → (piece < length flags → get_or flags piece false ≡ true) → slice_get (places is_so 0 flags) place ≡ Some piece
found_piece flags place piece rest s none set =
    let r = s.ranked in
    let t = s.there in
    let lt : piece < length flags = not_all one_if flags piece (omega arith) in
    let e : count_by is_so (take piece flags) ≡ place = omega arith in
    let shift : 0 + piece ≡ piece = omega arith in
    rw (← e) (place_of is_so 0 piece flags false lt (set lt) ∙ ap Some shift)

-- The count is that of the pieces left.
pub counted_len : (count : ℕ) (many : Option (Box (List ℕ) Global)) → IsCounted count many → count ≡ length (all_left count many)
counted_len count None e = sym (length-range_with_len 0 count)
counted_len count (Some many) e = e

-- The only piece runs.
pub one_runs : (count piece : ℕ) → count ≤ 1 → Contains (range_with_len 0 count) piece → range_with_len 0 (count - 1) ≡ filter (λ k. not (k == piece)) (range_with_len 0 count)
one_runs zero piece le has = absurd (let lt = has.1 in omega arith)
one_runs (suc zero) piece le has =
    let at = get_of (0 ∷ []) piece has in
    let is : piece ≡ 0 = first at.0 at.1 in
    sym (ap (λ (p : ℕ). filter (λ k. not (k == p)) (0 ∷ [])) is)
  where
    first : (k : ℕ) → slice_get (0 ∷ []) k ≡ Some piece → piece ≡ 0
    first zero e = cc
    first (suc k) e = cc
one_runs (suc (suc n)) piece le has = absurd (omega arith)
