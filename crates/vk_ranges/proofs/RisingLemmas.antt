-- Runs whose ends rise, and what a change of one end does to them.
use Rattle.std.proofs.Common.{◌≡◌, ◌≢◌, ◌<◌, ◌≤◌, ◌+◌, ◌-◌, ℕ, zero, suc, List, [], ◌∷◌, ◌++◌, length, drop, set, get_or, refl, sym, ap, ◌∙◌, inl, inr, arith}
use Rattle.std.specs.Ordering.{nat_cmp}
use Rattle.std.specs.Map.{remove_entry, set_value}
use Rattle.std.specs.BTreeMap.{insert_entry, is_at}
use Rattle.std.specs.List.{insert, remove}
use Rattle.std.specs.List.Sorted.{IsNonDecreasingBy}
use Rattle.std.proofs.lemmas.Bool.{cases_order}
use Rattle.std.proofs.lemmas.List.{get_or_default}
use Rattle.vk_ranges.specs.Runs.{after}
use Rattle.vk_ranges.specs.Inner.Chunks.{AreRising, IsGapOf, IsPlaceOf}
use Rattle.vk_ranges.proofs.TilingLemmas.{after_here, after_later}
use Rattle.vk_ranges.proofs.OrderLemmas.{less, same, more}
use Rattle.vk_ranges.proofs.EdgeLemmas.{Below, below_weaker}

module _ {T : Type 0} where
  pub rising_le : (low high : ℕ) (runs : List (ℕ × T)) → AreRising low high runs → low ≤ high
  rising_le low high [] r = r
  rising_le low high (run ∷ runs) r = let from = r.0 in let to = rising_le (run.0 + 1) high runs r.1 in omega arith

  pub rising_from : (low low' high : ℕ) (runs : List (ℕ × T)) → low' ≤ low → AreRising low high runs → AreRising low' high runs
  rising_from low low' high [] le r = omega arith
  rising_from low low' high (run ∷ runs) le r = let from = r.0 in ((omega arith), r.1)

  pub rising_append : (low mid high : ℕ) (xs ys : List (ℕ × T)) → AreRising low mid xs → AreRising mid high ys → AreRising low high (xs ++ ys)
  rising_append low mid high [] ys r s = rising_from mid low high ys r s
  rising_append low mid high (x ∷ xs) ys r s = (r.0, rising_append (x.0 + 1) mid high xs ys r.1 s)

  pub rising_below : (low high at : ℕ) (runs : List (ℕ × T)) → AreRising low high runs → high ≤ at → Below at runs
  rising_below low high at [] r le = tt
  rising_below low high at (run ∷ runs) r le = let to = rising_le (run.0 + 1) high runs r.1 in ((omega arith), rising_below (run.0 + 1) high at runs r.1 le)

  rising_at : (low high : ℕ) (runs : List (ℕ × T)) → AreRising low high runs → (k : ℕ) (d : ℕ × T) → k < length runs → low ≤ (get_or runs k d).0
  rising_at low high [] r k d lt = absurd (omega arith)
  rising_at low high (run ∷ runs) r zero d lt = r.0
  rising_at low high (run ∷ runs) r (suc k) d lt = let from = r.0 in let next = rising_at (run.0 + 1) high runs r.1 k d (omega arith) in omega arith

  pub rising_sorted : (low high : ℕ) (runs : List (ℕ × T)) → AreRising low high runs → IsNonDecreasingBy (λ (run : ℕ × T). run.0) runs
  rising_sorted low high [] r i j d le lt = absurd (omega arith)
  rising_sorted low high (run ∷ runs) r zero zero d le lt = omega arith
  rising_sorted low high (run ∷ runs) r zero (suc j) d le lt = let next = rising_at (run.0 + 1) high runs r.1 j d (omega arith) in omega arith
  rising_sorted low high (run ∷ runs) r (suc i) zero d le lt = absurd (omega arith)
  rising_sorted low high (run ∷ runs) r (suc i) (suc j) d le lt = rising_sorted (run.0 + 1) high runs r.1 i j d (omega arith) (omega arith)

  -- ---- a change of the ends in a range

  -- What a change of the ends from one to another does: nothing to the runs below them, nothing to those above them, and the ends still rise.
  pub record IsLocal (first last : ℕ) (change : List (ℕ × T) → List (ℕ × T)) : Type 0 where
    pub front : (xs ys : List (ℕ × T)) → Below first xs → change (xs ++ ys) ≡ xs ++ change ys
    pub back : (high : ℕ) (xs ys : List (ℕ × T)) → AreRising (last + 1) high ys → change (xs ++ ys) ≡ change xs ++ ys
    pub rising : (low high : ℕ) (runs : List (ℕ × T)) → AreRising low high runs → low ≤ first → last < high → AreRising low high (change runs)

  -- one change after another
  local_then : (first last : ℕ) (f g : List (ℕ × T) → List (ℕ × T)) → first ≤ last → IsLocal first first f → IsLocal last last g → IsLocal first last (λ runs. f (g runs))
  local_then first last f g le before after =
      record {
        front = λ xs ys below. ap f (after.front xs ys (below_weaker first last xs le below)) ∙ before.front xs (g ys) below;
        back = λ high xs ys r. ap f (after.back high xs ys r) ∙ before.back high (g xs) ys (rising_from (last + 1) (first + 1) high ys (omega arith) r);
        rising = λ low high runs r from to. before.rising low high (g runs) (after.rising low high runs r (omega arith) to) from (omega arith);
      }

  module _ (end : ℕ) (value : T) where
    insert_front : (xs ys : List (ℕ × T)) → Below end xs → insert_entry nat_cmp (xs ++ ys) end value ≡ xs ++ insert_entry nat_cmp ys end value
    insert_front [] ys below = refl
    insert_front (x ∷ xs) ys below = rw (more end x.0 below.0) (ap (λ (rest : List (ℕ × T)). x ∷ rest) (insert_front xs ys below.1))

    insert_back : (high : ℕ) (xs ys : List (ℕ × T)) → AreRising (end + 1) high ys → insert_entry nat_cmp (xs ++ ys) end value ≡ insert_entry nat_cmp xs end value ++ ys
    insert_back high [] [] r = refl
    insert_back high [] (y ∷ ys) r = let from = r.0 in rw (less end y.0 (omega arith)) refl
    insert_back high (x ∷ xs) ys r =
        elim (cases_order end x.0) [
          | inl here ↦ rw (same end x.0 here) refl
          | inr (inl below) ↦ rw (less end x.0 below) refl
          | inr (inr above) ↦ rw (more end x.0 above) (ap (λ (rest : List (ℕ × T)). x ∷ rest) (insert_back high xs ys r))
        ]

    insert_rising : (low high : ℕ) (runs : List (ℕ × T)) → AreRising low high runs → low ≤ end → end < high → AreRising low high (insert_entry nat_cmp runs end value)
    insert_rising low high [] r from to = (from, omega arith)
    insert_rising low high (run ∷ runs) r from to =
        elim (cases_order end run.0) [
          | inl here ↦ rw (same end run.0 here) (r.0, r.1)
          | inr (inl below) ↦ rw (less end run.0 below) (from, ((omega arith), r.1))
          | inr (inr above) ↦ rw (more end run.0 above) (r.0, insert_rising (run.0 + 1) high runs r.1 (omega arith) to)
        ]

    pub local_insert : IsLocal end end (λ runs. insert_entry nat_cmp runs end value)
    local_insert = record { front = insert_front; back = insert_back; rising = insert_rising }

    set_none : (high : ℕ) (runs : List (ℕ × T)) → AreRising (end + 1) high runs → set_value (is_at (nat_cmp end)) runs value ≡ runs
    set_none high [] r = refl
    set_none high (run ∷ runs) r =
        let from = r.0 in
        rw (less end run.0 (omega arith)) (ap (λ (rest : List (ℕ × T)). run ∷ rest) (set_none high runs (rising_from (run.0 + 1) (end + 1) high runs (omega arith) r.1)))

    set_front : (xs ys : List (ℕ × T)) → Below end xs → set_value (is_at (nat_cmp end)) (xs ++ ys) value ≡ xs ++ set_value (is_at (nat_cmp end)) ys value
    set_front [] ys below = refl
    set_front (x ∷ xs) ys below = rw (more end x.0 below.0) (ap (λ (rest : List (ℕ × T)). x ∷ rest) (set_front xs ys below.1))

    set_back : (high : ℕ) (xs ys : List (ℕ × T)) → AreRising (end + 1) high ys → set_value (is_at (nat_cmp end)) (xs ++ ys) value ≡ set_value (is_at (nat_cmp end)) xs value ++ ys
    set_back high [] ys r = set_none high ys r
    set_back high (x ∷ xs) ys r =
        elim (cases_order end x.0) [
          | inl here ↦ rw (same end x.0 here) refl
          | inr (inl below) ↦ rw (less end x.0 below) (ap (λ (rest : List (ℕ × T)). x ∷ rest) (set_back high xs ys r))
          | inr (inr above) ↦ rw (more end x.0 above) (ap (λ (rest : List (ℕ × T)). x ∷ rest) (set_back high xs ys r))
        ]

    set_rising : (low high : ℕ) (runs : List (ℕ × T)) → AreRising low high runs → AreRising low high (set_value (is_at (nat_cmp end)) runs value)
    set_rising low high [] r = r
    set_rising low high (run ∷ runs) r =
        elim (cases_order end run.0) [
          | inl here ↦ rw (same end run.0 here) (r.0, r.1)
          | inr (inl below) ↦ rw (less end run.0 below) (r.0, set_rising (run.0 + 1) high runs r.1)
          | inr (inr above) ↦ rw (more end run.0 above) (r.0, set_rising (run.0 + 1) high runs r.1)
        ]

    pub local_set : IsLocal end end (λ runs. set_value (is_at (nat_cmp end)) runs value)
    local_set = record { front = set_front; back = set_back; rising = λ low high runs r from to. set_rising low high runs r }

  pub local_both : (low high : ℕ × T) → low.0 < high.0 → IsLocal low.0 high.0 (λ runs. insert_entry nat_cmp (insert_entry nat_cmp runs high.0 high.1) low.0 low.1)
  local_both low high lt =
      local_then low.0 high.0 (λ runs. insert_entry nat_cmp runs low.0 low.1) (λ runs. insert_entry nat_cmp runs high.0 high.1) (omega arith) (local_insert low.0 low.1) (local_insert high.0 high.1)

  module _ (end : ℕ) where
    remove_none : (high : ℕ) (runs : List (ℕ × T)) → AreRising (end + 1) high runs → remove_entry (is_at (nat_cmp end)) runs ≡ runs
    remove_none high [] r = refl
    remove_none high (run ∷ runs) r =
        let from = r.0 in
        rw (less end run.0 (omega arith)) (ap (λ (rest : List (ℕ × T)). run ∷ rest) (remove_none high runs (rising_from (run.0 + 1) (end + 1) high runs (omega arith) r.1)))

    remove_front : (xs ys : List (ℕ × T)) → Below end xs → remove_entry (is_at (nat_cmp end)) (xs ++ ys) ≡ xs ++ remove_entry (is_at (nat_cmp end)) ys
    remove_front [] ys below = refl
    remove_front (x ∷ xs) ys below = rw (more end x.0 below.0) (ap (λ (rest : List (ℕ × T)). x ∷ rest) (remove_front xs ys below.1))

    remove_back : (high : ℕ) (xs ys : List (ℕ × T)) → AreRising (end + 1) high ys → remove_entry (is_at (nat_cmp end)) (xs ++ ys) ≡ remove_entry (is_at (nat_cmp end)) xs ++ ys
    remove_back high [] ys r = remove_none high ys r
    remove_back high (x ∷ xs) ys r =
        elim (cases_order end x.0) [
          | inl here ↦ rw (same end x.0 here) refl
          | inr (inl below) ↦ rw (less end x.0 below) (ap (λ (rest : List (ℕ × T)). x ∷ rest) (remove_back high xs ys r))
          | inr (inr above) ↦ rw (more end x.0 above) (ap (λ (rest : List (ℕ × T)). x ∷ rest) (remove_back high xs ys r))
        ]

    remove_rising : (low high : ℕ) (runs : List (ℕ × T)) → AreRising low high runs → AreRising low high (remove_entry (is_at (nat_cmp end)) runs)
    remove_rising low high [] r = r
    remove_rising low high (run ∷ runs) r =
        let from = r.0 in
        elim (cases_order end run.0) [
          | inl here ↦ rw (same end run.0 here) (rising_from (run.0 + 1) low high runs (omega arith) r.1)
          | inr (inl below) ↦ rw (less end run.0 below) (r.0, remove_rising (run.0 + 1) high runs r.1)
          | inr (inr above) ↦ rw (more end run.0 above) (r.0, remove_rising (run.0 + 1) high runs r.1)
        ]

    pub local_remove : IsLocal end end (λ runs. remove_entry (is_at (nat_cmp end)) runs)
    local_remove = record { front = remove_front; back = remove_back; rising = λ low high runs r from to. remove_rising low high runs r }

  -- ---- a change at a place

  pub place_is : (end : ℕ) (runs : List (ℕ × T)) (place : ℕ) → place ≤ length runs → ((k : ℕ) (d : ℕ × T) → k < place → (get_or runs k d).0 < end)
      → ((k : ℕ) (d : ℕ × T) → place ≤ k → k < length runs → end ≤ (get_or runs k d).0) → IsPlaceOf end place runs
  place_is end [] zero le before rest = tt
  place_is end [] (suc place) le before rest = absurd (omega arith)
  place_is end (run ∷ runs) zero le before rest = rest zero run (omega arith) (omega arith)
  place_is end (run ∷ runs) (suc place) le before rest =
      (before zero run (omega arith), place_is end runs place (omega arith) (λ k d lt. before (suc k) d (omega arith)) (λ k d from to. rest (suc k) d (omega arith) (omega arith)))

  -- two reads of one place, by what stands there where there is nothing
  read_same : (place : ℕ) (runs : List (ℕ × T)) (x d : ℕ × T) → place < length runs → (get_or runs place x).0 ≡ (get_or runs place d).0
  read_same place runs x d lt = ap (λ (run : ℕ × T). run.0) (get_or_default runs place x d lt)

  pub reads_from : (end place : ℕ) (runs : List (ℕ × T)) (x : ℕ × T) → end ≤ (get_or runs place x).0 → (d : ℕ × T) → place < length runs → end ≤ (get_or runs place d).0
  reads_from end place runs x from d lt = let same = read_same place runs x d lt in omega arith

  pub reads_above : (index place : ℕ) (runs : List (ℕ × T)) (x : ℕ × T) → index < (get_or runs place x).0 → (d : ℕ × T) → place < length runs → index < (get_or runs place d).0
  reads_above index place runs x above d lt = let same = read_same place runs x d lt in omega arith

  pub reads_below : (end place : ℕ) (runs : List (ℕ × T)) (x : ℕ × T) → (get_or runs place x).0 < end → (d : ℕ × T) → place < length runs → (get_or runs place d).0 < end
  reads_below end place runs x below d lt = let same = read_same place runs x d lt in omega arith

  pub reads_up_to : (index place : ℕ) (runs : List (ℕ × T)) (x : ℕ × T) → (get_or runs place x).0 ≤ index → (d : ℕ × T) → place < length runs → (get_or runs place d).0 ≤ index
  reads_up_to index place runs x to d lt = let same = read_same place runs x d lt in omega arith

  -- the runs before a place end below the index where the last of them does, and the others don't where the first of them doesn't
  pub place_here : (low high end place : ℕ) (runs : List (ℕ × T)) → AreRising low high runs → place ≤ length runs → ((d : ℕ × T) → 0 < place → (get_or runs (place - 1) d).0 < end)
      → ((d : ℕ × T) → place < length runs → end ≤ (get_or runs place d).0) → IsPlaceOf end place runs
  place_here low high end place runs r le before rest =
      place_is end runs place le
      (λ k d lt. let up = rising_sorted low high runs r k (place - 1) d (omega arith) (omega arith) in let below = before d (omega arith) in omega arith)
      (λ k d from to. let up = rising_sorted low high runs r place k d from to in let above = rest d (omega arith) in omega arith)

  pub rest_is : (index : ℕ) (runs : List (ℕ × T)) (place : ℕ) → place ≤ length runs → ((k : ℕ) (d : ℕ × T) → k < place → (get_or runs k d).0 ≤ index)
      → ((k : ℕ) (d : ℕ × T) → place ≤ k → k < length runs → index < (get_or runs k d).0) → drop place runs ≡ after index runs
  rest_is index [] zero le before rest = refl
  rest_is index [] (suc place) le before rest = absurd (omega arith)
  rest_is index (run ∷ runs) zero le before rest = sym (after_here index run runs (rest zero run (omega arith) (omega arith)))
  rest_is index (run ∷ runs) (suc place) le before rest =
      rest_is index runs place (omega arith) (λ k d lt. before (suc k) d (omega arith)) (λ k d from to. rest (suc k) d (omega arith) (omega arith))
      ∙ sym (after_later index run runs (before zero run (omega arith)))

  -- the same where the last of the runs before a place ends up to the index, and the first of the others after it
  pub rest_from : (low high index place : ℕ) (runs : List (ℕ × T)) → AreRising low high runs → place ≤ length runs → ((d : ℕ × T) → 0 < place → (get_or runs (place - 1) d).0 ≤ index)
      → ((d : ℕ × T) → place < length runs → index < (get_or runs place d).0) → drop place runs ≡ after index runs
  rest_from low high index place runs r le before rest =
      rest_is index runs place le
      (λ k d lt. let up = rising_sorted low high runs r k (place - 1) d (omega arith) (omega arith) in let below = before d (omega arith) in omega arith)
      (λ k d from to. let up = rising_sorted low high runs r place k d from to in let above = rest d (omega arith) in omega arith)

  -- No run ends at an index that has this place.
  abbrev pub IsMissing : ℕ → ℕ → List (ℕ × T) → Type 0
  IsMissing end place runs = (d : ℕ × T) → place < length runs → (get_or runs place d).0 ≢ end

  -- two reads of one place
  pub same_read : (runs : List (ℕ × T)) (place : ℕ) (x y : ℕ × T) → place < length runs → x ≡ get_or runs place x → y ≡ get_or runs place y → x ≡ y
  same_read runs place x y lt a b = a ∙ get_or_default runs place x y lt ∙ sym b

  pub missing_read : (end place : ℕ) (runs : List (ℕ × T)) (x : ℕ × T) → x ≡ get_or runs place x → x.0 ≢ end → IsMissing end place runs
  missing_read end place runs x found ne d lt e = ne (ap (λ (run : ℕ × T). run.0) (found ∙ get_or_default runs place x d lt) ∙ e)

  pub missing_end : (end place : ℕ) (runs : List (ℕ × T)) → length runs ≤ place → IsMissing end place runs
  missing_end end place runs le d lt = absurd (omega arith)

  missing_next : (end place : ℕ) (run : ℕ × T) (runs : List (ℕ × T)) → IsMissing end (suc place) (run ∷ runs) → IsMissing end place runs
  missing_next end place run runs missing d lt = missing d (omega arith)

  pub place_within : (end place : ℕ) (runs : List (ℕ × T)) → IsPlaceOf end place runs → place ≤ length runs
  place_within end zero [] is = omega arith
  place_within end zero (run ∷ runs) is = omega arith
  place_within end (suc place) [] is = absurd is
  place_within end (suc place) (run ∷ runs) is = let le = place_within end place runs is.1 in omega arith

  pub set_found : (end place : ℕ) (runs : List (ℕ × T)) (value : T) (run : ℕ × T) → IsPlaceOf end place runs → place < length runs → run ≡ get_or runs place run → run.0 ≡ end
      → set runs place (run.0, value) ≡ insert_entry nat_cmp runs end value
  set_found end place [] value run is lt found e = absurd (omega arith)
  set_found end zero (x ∷ runs) value run is lt found e = rw (same end x.0 (sym e ∙ ap (λ (r : ℕ × T). r.0) found)) (ap (λ (r : ℕ × T). (r.0, value) ∷ runs) found)
  set_found end (suc place) (x ∷ runs) value run is lt found e =
      rw (more end x.0 is.0) (ap (λ (rest : List (ℕ × T)). x ∷ rest) (set_found end place runs value run is.1 (omega arith) found e))

  pub value_found : (end place : ℕ) (runs : List (ℕ × T)) (value : T) (run : ℕ × T) → IsPlaceOf end place runs → place < length runs → run ≡ get_or runs place run → run.0 ≡ end
      → set runs place (run.0, value) ≡ set_value (is_at (nat_cmp end)) runs value
  value_found end place [] value run is lt found e = absurd (omega arith)
  value_found end zero (x ∷ runs) value run is lt found e = rw (same end x.0 (sym e ∙ ap (λ (r : ℕ × T). r.0) found)) (ap (λ (r : ℕ × T). (r.0, value) ∷ runs) found)
  value_found end (suc place) (x ∷ runs) value run is lt found e =
      rw (more end x.0 is.0) (ap (λ (rest : List (ℕ × T)). x ∷ rest) (value_found end place runs value run is.1 (omega arith) found e))

  pub remove_found : (end place : ℕ) (runs : List (ℕ × T)) (run : ℕ × T) → IsPlaceOf end place runs → place < length runs → run ≡ get_or runs place run → run.0 ≡ end
      → remove runs place ≡ remove_entry (is_at (nat_cmp end)) runs
  remove_found end place [] run is lt found e = absurd (omega arith)
  remove_found end zero (x ∷ runs) run is lt found e = rw (same end x.0 (sym e ∙ ap (λ (r : ℕ × T). r.0) found)) refl
  remove_found end (suc place) (x ∷ runs) run is lt found e =
      rw (more end x.0 is.0) (ap (λ (rest : List (ℕ × T)). x ∷ rest) (remove_found end place runs run is.1 (omega arith) found e))

  pub insert_missing : (end place : ℕ) (runs : List (ℕ × T)) (value : T) → IsPlaceOf end place runs → IsMissing end place runs → insert runs place (end, value) ≡ insert_entry nat_cmp runs end value
  insert_missing end zero [] value is missing = refl
  insert_missing end (suc place) [] value is missing = absurd is
  insert_missing end zero (run ∷ runs) value is missing = let ne = missing run (omega arith) in rw (less end run.0 (omega arith)) refl
  insert_missing end (suc place) (run ∷ runs) value is missing =
      rw (more end run.0 is.0) (ap (λ (rest : List (ℕ × T)). run ∷ rest) (insert_missing end place runs value is.1 (missing_next end place run runs missing)))

  -- ---- a gap for two new runs

  pub gap_is : (low high place : ℕ) (runs : List (ℕ × T)) → IsPlaceOf low place runs → ((d : ℕ × T) → place < length runs → high < (get_or runs place d).0) → IsGapOf low high place runs
  gap_is low high zero [] is above = tt
  gap_is low high zero (run ∷ runs) is above = above run (omega arith)
  gap_is low high (suc place) [] is above = absurd is
  gap_is low high (suc place) (run ∷ runs) is above = (is.0, gap_is low high place runs is.1 (λ d lt. above d (omega arith)))

  pub above_read : (high place : ℕ) (runs : List (ℕ × T)) (x : ℕ × T) → x ≡ get_or runs place x → high < x.0 → (d : ℕ × T) → place < length runs → high < (get_or runs place d).0
  above_read high place runs x found above d lt = let same : x.0 ≡ (get_or runs place d).0 = ap (λ (run : ℕ × T). run.0) (found ∙ get_or_default runs place x d lt) in omega arith

  pub gap_within : (low high place : ℕ) (runs : List (ℕ × T)) → IsGapOf low high place runs → place ≤ length runs
  gap_within low high zero runs is = omega arith
  gap_within low high (suc place) [] is = absurd is
  gap_within low high (suc place) (run ∷ runs) is = let le = gap_within low high place runs is.1 in omega arith

  pub insert_both : (place : ℕ) (low high : ℕ × T) (runs : List (ℕ × T)) → low.0 < high.0 → IsGapOf low.0 high.0 place runs
      → insert (insert runs place high) place low ≡ insert_entry nat_cmp (insert_entry nat_cmp runs high.0 high.1) low.0 low.1
  insert_both zero low high [] lt is = rw (less low.0 high.0 lt) refl
  insert_both zero low high (run ∷ runs) lt is = rw (less high.0 run.0 is) (rw (less low.0 high.0 lt) refl)
  insert_both (suc place) low high [] lt is = absurd is
  insert_both (suc place) low high (run ∷ runs) lt is =
      let below = is.0 in
      rw (more high.0 run.0 (omega arith)) (rw (more low.0 run.0 below) (ap (λ (rest : List (ℕ × T)). run ∷ rest) (insert_both place low high runs lt is.1)))

  above_missing : (end low high : ℕ) (run : ℕ × T) (runs : List (ℕ × T)) → AreRising low high (run ∷ runs) → end ≤ run.0 → run.0 ≢ end → AreRising (end + 1) high (run ∷ runs)
  above_missing end low high run runs r le ne = ((omega arith), r.1)

  pub value_missing : (end place low high : ℕ) (runs : List (ℕ × T)) (value : T) → AreRising low high runs → IsPlaceOf end place runs → IsMissing end place runs → runs ≡ set_value (is_at (nat_cmp end)) runs value
  value_missing end place low high [] value r is missing = refl
  value_missing end zero low high (run ∷ runs) value r is missing = sym (set_none end value high (run ∷ runs) (above_missing end low high run runs r is (missing run (omega arith))))
  value_missing end (suc place) low high (run ∷ runs) value r is missing =
      rw (more end run.0 is.0) (ap (λ (rest : List (ℕ × T)). run ∷ rest) (value_missing end place (run.0 + 1) high runs value r.1 is.1 (missing_next end place run runs missing)))

  pub remove_missing : (end place low high : ℕ) (runs : List (ℕ × T)) → AreRising low high runs → IsPlaceOf end place runs → IsMissing end place runs → runs ≡ remove_entry (is_at (nat_cmp end)) runs
  remove_missing end place low high [] r is missing = refl
  remove_missing end zero low high (run ∷ runs) r is missing = sym (remove_none end high (run ∷ runs) (above_missing end low high run runs r is (missing run (omega arith))))
  remove_missing end (suc place) low high (run ∷ runs) r is missing =
      rw (more end run.0 is.0) (ap (λ (rest : List (ℕ × T)). run ∷ rest) (remove_missing end place (run.0 + 1) high runs r.1 is.1 (missing_next end place run runs missing)))

  -- ---- two halves

  pub rising_halves : (low high : ℕ) (xs ys : List (ℕ × T)) (last : ℕ × T) → AreRising low high (xs ++ ys) → (at : ℕ) → at + 1 ≡ length xs → last ≡ get_or xs at last
      → AreRising low (last.0 + 1) xs × AreRising (last.0 + 1) high ys
  rising_halves low high [] ys last r at e found = absurd (omega arith)
  rising_halves low high (x ∷ []) ys last r zero e found = let is : last.0 ≡ x.0 = ap (λ (run : ℕ × T). run.0) found in rw is ((r.0, omega arith), r.1)
  rising_halves low high (x ∷ []) ys last r (suc at) e found = absurd (omega arith)
  rising_halves low high (x ∷ y ∷ xs) ys last r zero e found = absurd (omega arith)
  rising_halves low high (x ∷ y ∷ xs) ys last r (suc at) e found =
      let rest = rising_halves (x.0 + 1) high (y ∷ xs) ys last r.1 at (omega arith) found in
      ((r.0, rest.0), rest.1)
