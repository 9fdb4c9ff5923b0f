-- Lemmas on what marks and values say is held.
use Rattle.std.proofs.Common.{◌≡◌, ◌⊎◌, inl, inr, ℕ, zero, suc, ◌+◌, ◌-◌, ◌<◌, ◌≤◌, List, [], ◌∷◌, ◌++◌, length, take, drop, get_or, refl, ap, sym, ◌∙◌, arith, Option, true, false, ◌&&◌, nat_lt, nat_le, replicate}
use Rattle.std.proofs.lemmas.Grind.{common_steps, elements}
use Rattle.std.proofs.lemmas.List.{with_items_is, length-take-le, length-drop, take_all, get_or-append_right, get_or_append_left, get_or_past}
use Rattle.std.proofs.lemmas.Bool.{cases_lt, and_from, and_left, and_right, lt-ltb, le-ltb, le-leb, lt-leb}
use Rattle.std.specs.Prelude.{Vec}
use Rattle.std.specs.Vec.{with_items}
use Rattle.vk_model.specs.Run.Caches.{Held}
use Rattle.vk_map_cache.specs.declared.mark.Mark.{Mark}
use Rattle.vk_map_cache.specs.declared.mark.Mark.TheVariants.{Absent}
use Rattle.vk_map_cache.specs.Holdings.{held_in}
use Rattle.vk_map_cache.specs.Inner.Marks.{holding_of, holdings_of, mark_at, with_absent}

-- there is room for as many bytes as there are marks
pub length-holdings_of : (marks : List Mark) (values : List ℕ) → length marks ≤ length values → length (holdings_of marks values) ≡ length marks
length-holdings_of [] values same = refl
length-holdings_of (m ∷ marks) [] same = absurd (omega (arith, same))
length-holdings_of (m ∷ marks) (v ∷ values) same = let rest : length marks ≤ length values = omega (arith, same) in omega (arith, length-holdings_of marks values rest)

-- what is held of a byte
pub held_in-holdings_of : (marks : List Mark) (values : List ℕ) (k : ℕ) → length marks ≤ length values → held_in (holdings_of marks values) k ≡ holding_of (mark_at marks k) (get_or values k 0)
held_in-holdings_of [] values k same = refl
held_in-holdings_of (m ∷ marks) [] k same = absurd (omega (arith, same))
held_in-holdings_of (m ∷ marks) (v ∷ values) zero same = refl
held_in-holdings_of (m ∷ marks) (v ∷ values) (suc k) same = held_in-holdings_of marks values k (omega (arith, same))

-- the same mark and value
pub same_holding : {m m' : Mark} {v v' : ℕ} → m ≡ m' → v ≡ v' → holding_of m v ≡ holding_of m' v'
same_holding {m' = m'} {v = v} mark value = ap (λ (m : Mark). holding_of m v) mark ∙ ap (λ (x : ℕ). holding_of m' x) value

-- the same of the view of an object's cache
module _ (marks : List Mark) (values : List ℕ) (held : List (Option Held)) (is : holdings_of marks values ≡ held) (same : length marks ≤ length values) where
  pub room_of : length held ≡ length marks
  room_of = sym (ap (λ (h : List (Option Held)). length h) is) ∙ length-holdings_of marks values same

  pub held_of : (k : ℕ) → held_in held k ≡ holding_of (mark_at marks k) (get_or values k 0)
  held_of k = sym (ap (λ (h : List (Option Held)). held_in h k) is) ∙ held_in-holdings_of marks values k same

-- ---- more room

-- more marks that are absent
get_or-alike : {X : Type 0} (n k : ℕ) (x : X) → get_or (replicate n x) k x ≡ x
get_or-alike zero k x = refl
get_or-alike (suc n) zero x = refl
get_or-alike (suc n) (suc k) x = get_or-alike n k x

pub absent_behind : (marks : List Mark) (n k : ℕ) → mark_at (marks ++ replicate n Absent) k ≡ mark_at marks k
absent_behind marks n k = elim (cases_lt k (length marks)) [
  | inl lt ↦ get_or_append_left marks (replicate n Absent) Absent k lt
  | inr ge ↦ get_or-append_right marks (replicate n Absent) (length marks) k Absent refl ge ∙ get_or-alike n (k - length marks) Absent ∙ sym (get_or_past marks k Absent ge)
]

pub length-with_absent : (marks : List Mark) (size : ℕ) → length marks ≤ size → length (with_absent marks size) ≡ size
length-with_absent marks size fits = grind (arith, common_steps)

pub more_marks : (marks : List Mark) (size n k : ℕ) → length marks ≤ size → mark_at (take size marks ++ replicate n Absent) k ≡ mark_at marks k
more_marks marks size n k fits = ap (λ (l : List Mark). mark_at (l ++ replicate n Absent) k) (take_all size marks fits) ∙ absent_behind marks n k

-- and more values, as far as there were any
more_values : (values : List ℕ) (size n k : ℕ) → k < size → k < length values → get_or (take size values ++ replicate n 0) k 0 ≡ get_or values k 0
more_values values size n k lt within = grind (arith, elements)

-- the same is held with more room
pub same_with_room : (marks marks' : List Mark) (values values' : List ℕ) (size n k : ℕ) → length marks ≤ length values → length marks' ≤ length values' → length marks ≤ size
    → values' ≡ take size values ++ replicate n 0 → ((j : ℕ) → mark_at marks' j ≡ mark_at marks j)
    → held_in (holdings_of marks' values') k ≡ holding_of (mark_at marks k) (get_or values k 0)
same_with_room marks marks' values values' size n k fits fits' room more alike = held_in-holdings_of marks' values' k fits' ∙ ap (λ (m : Mark). holding_of m (get_or values' k 0)) (alike k) ∙ elim (cases_lt k (length marks)) [
  | inl lt ↦ let in_size : k < size = omega (arith, lt, room) in let in_values : k < length values = omega (arith, lt, fits) in
      ap (λ (v : ℕ). holding_of (mark_at marks k) v) (ap (λ (l : List ℕ). get_or l k 0) more ∙ more_values values size n k in_size in_values)
  | inr ge ↦ let absent : mark_at marks k ≡ Absent = get_or_past marks k Absent ge in
      ap (λ (m : Mark). holding_of m (get_or values' k 0)) absent ∙ sym (ap (λ (m : Mark). holding_of m (get_or values k 0)) absent)
]

-- ---- a list with a part of it written anew

-- the list with these in the place of n items
abbrev pub patch : {X : Type 0} → List X → ℕ → ℕ → List X → List X
patch xs at n ys = take at xs ++ (ys ++ drop n (drop at xs))

module _ {X : Type 0} (d : X) (xs ys : List X) (at n : ℕ) (long : length ys ≡ n) (fits : at + n ≤ length xs) where
  pub length-patch : length (patch xs at n ys) ≡ length xs
  length-patch = grind (arith, common_steps)

  pub patch-in : (k : ℕ) → at ≤ k → k < at + n → get_or (patch xs at n ys) k d ≡ get_or ys (k - at) d
  patch-in k low high = grind (arith, elements)

  pub patch-before : (k : ℕ) → k < at → get_or (patch xs at n ys) k d ≡ get_or xs k d
  patch-before k lt = grind (arith, elements)

  pub patch-after : (k : ℕ) → at + n ≤ k → get_or (patch xs at n ys) k d ≡ get_or xs k d
  patch-after k le = grind (arith, elements)

-- item j of a part
pub get_or-part : {X : Type 0} (d : X) (xs : List X) (at n j : ℕ) → j < n → get_or (take n (drop at xs)) j d ≡ get_or xs (at + j) d
get_or-part d xs at n j lt = grind (arith, elements)

-- how many items a part has
pub length-part : {X : Type 0} (xs : List X) (at n : ℕ) → at + n ≤ length xs → length (take n (drop at xs)) ≡ n
length-part xs at n fits = length-take-le n (drop at xs) (omega (arith, length-drop at xs))

-- the same in the list of a vector
module _ {X Z : Type 0} (d : X) (v : Vec X Z) (xs ys : List X) (at n : ℕ) (is : xs ≡ v.items) (len : length xs ≡ v.len) (long : length ys ≡ n) (fits : at + n ≤ length xs) where
  patched-is : (with_items v (patch xs at n ys)).items ≡ patch xs at n ys
  patched-is = with_items_is v (patch xs at n ys) (length-patch d xs ys at n long fits ∙ len)

  pub length-patched : length (with_items v (patch xs at n ys)).items ≡ length v.items
  length-patched = ap (λ (l : List X). length l) patched-is ∙ length-patch d xs ys at n long fits ∙ ap (λ (l : List X). length l) is

  pub patched-in : (k : ℕ) → at ≤ k → k < at + n → get_or (with_items v (patch xs at n ys)).items k d ≡ get_or ys (k - at) d
  patched-in k low high = ap (λ (l : List X). get_or l k d) patched-is ∙ patch-in d xs ys at n long fits k low high

  pub patched-out : (k : ℕ) → (k < at) ⊎ (at + n ≤ k) → get_or (with_items v (patch xs at n ys)).items k d ≡ get_or v.items k d
  patched-out k (inl lt) = ap (λ (l : List X). get_or l k d) patched-is ∙ patch-before d xs ys at n long fits k lt ∙ ap (λ (l : List X). get_or l k d) is
  patched-out k (inr le) = ap (λ (l : List X). get_or l k d) patched-is ∙ patch-after d xs ys at n long fits k le ∙ ap (λ (l : List X). get_or l k d) is

-- ---- what is held of a part of an object

module _ (marks : List Mark) (values : List ℕ) (held : List (Option Held)) (view : holdings_of marks values ≡ held) (same : length marks ≤ length values)
    (xs : List Mark) (ws : List ℕ) (is_marks : xs ≡ marks) (is_values : ws ≡ values) (at n : ℕ) (fits : at + n ≤ length xs)
  where
    -- byte j of the part
    pub held_of_part : (j : ℕ) → j < n → holding_of (mark_at (take n (drop at xs)) j) (get_or (take n (drop at ws)) j 0) ≡ held_in held (at + j)
    held_of_part j lt =
        same_holding
        (get_or-part Absent xs at n j lt ∙ ap (λ (l : List Mark). mark_at l (at + j)) is_marks)
        (get_or-part 0 ws at n j lt ∙ ap (λ (l : List ℕ). get_or l (at + j) 0) is_values)
        ∙ sym (held_of marks values held view same (at + j))

-- a part is marked and has its values anew
module _ {Y Z : Type 0} (marks : Vec Mark Y) (values : Vec ℕ Z) (held : List (Option Held)) (view : holdings_of marks.items values.items ≡ held) (same : length marks.items ≤ length values.items)
    (xs : List Mark) (ws : List ℕ) (is_marks : xs ≡ marks.items) (is_values : ws ≡ values.items) (len_marks : length xs ≡ marks.len) (len_values : length ws ≡ values.len)
    (ys : List Mark) (zs : List ℕ) (at n : ℕ) (fits : at + n ≤ length xs) (long_marks : length ys ≡ n) (long_values : length zs ≡ n)
  where
    in_values : at + n ≤ length ws
    in_values = let ex = ap (λ (l : List Mark). length l) is_marks in let ew = ap (λ (l : List ℕ). length l) is_values in omega (arith, fits, ex, ew, same)

    room_for : length (with_items marks (patch xs at n ys)).items ≤ length (with_items values (patch ws at n zs)).items
    room_for = omega (arith, length-patched Absent marks xs ys at n is_marks len_marks long_marks fits, length-patched 0 values ws zs at n is_values len_values long_values in_values, same)

    pub length-anew : length (holdings_of (with_items marks (patch xs at n ys)).items (with_items values (patch ws at n zs)).items) ≡ length held
    length-anew = length-holdings_of _ _ room_for ∙ length-patched Absent marks xs ys at n is_marks len_marks long_marks fits ∙ sym (room_of marks.items values.items held view same)

    pub anew_in : (k : ℕ) → at ≤ k → k < at + n → held_in (holdings_of (with_items marks (patch xs at n ys)).items (with_items values (patch ws at n zs)).items) k ≡ holding_of (mark_at ys (k - at)) (get_or zs (k - at) 0)
    anew_in k low high = held_in-holdings_of _ _ k room_for ∙ same_holding (patched-in Absent marks xs ys at n is_marks len_marks long_marks fits k low high) (patched-in 0 values ws zs at n is_values len_values long_values in_values k low high)

    pub anew_out : (k : ℕ) → (k < at) ⊎ (at + n ≤ k) → held_in (holdings_of (with_items marks (patch xs at n ys)).items (with_items values (patch ws at n zs)).items) k ≡ held_in held k
    anew_out k out = held_in-holdings_of _ _ k room_for ∙ same_holding (patched-out Absent marks xs ys at n is_marks len_marks long_marks fits k out) (patched-out 0 values ws zs at n is_values len_values long_values in_values k out)
        ∙ sym (held_of marks.items values.items held view same k)

-- ---- a range of bytes

-- byte k is in the range, or outside of it
pub in_range_or : (low high k : ℕ) → (((nat_le low k && nat_lt k high) ≡ true) × (low ≤ k) × (k < high)) ⊎ (((nat_le low k && nat_lt k high) ≡ false) × ((k < low) ⊎ (high ≤ k)))
in_range_or low high k = elim (cases_lt k low) [
  | inl lt ↦ inr (and_left (nat_le low k) (nat_lt k high) (lt-leb low k lt), inl lt)
  | inr ge ↦ elim (cases_lt k high) [
    | inl lt ↦ inl (and_from (nat_le low k) (nat_lt k high) (le-leb low k ge) (lt-ltb k high lt), ge, lt)
    | inr le ↦ inr (and_right (nat_le low k) (nat_lt k high) (le-ltb k high le), inr le)
  ]
]
