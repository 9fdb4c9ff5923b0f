-- The rows of regions as parts: where no two of them meet, no two regions have rows that meet.
use Rattle.std.proofs.Common.{◌≡◌, ℕ, ◌*◌, List, [], ◌∷◌, ◌++◌, map, Bool, true, false, ◌||◌, refl, sym, ap, ◌∙◌}
use Rattle.std.specs.List.{list_any, filter, flat_map}
use Rattle.std.proofs.lemmas.Bool.{or_parts, or_from, true≢false}
use Rattle.std.proofs.lemmas.List.Folds.{list_any-append}
use Rattle.vk_model.specs.declared.command.BufferImageCopy.{BufferImageCopy}
use Rattle.vk_model.specs.Basics.{some_pair, below}
use Rattle.vk_model.specs.Memory.Suballocation.{ranges_meet}
use Rattle.vk_model.specs.World.Areas.{row_count, row_start, rows_meet}
use Rattle.vk_overlaps.specs.Extents.{extents_meet, parts_overlap}
use Rattle.vk_overlaps.specs.Inner.Places.{row_at, rows_at}
use Rattle.vk_overlaps.proofs.ListPairs.{cross_map, cross_same}
use Rattle.vk_overlaps.proofs.Splits.{no_pair_kept}
use Rattle.vk_overlaps.proofs.Places.{bytes_meet}

module _ {A : Type 0} (m : A → A → Bool) where
  -- what none of two lists together passes, none of either passes
  none_of_both : (p : A → Bool) (xs ys : List A) → list_any p (xs ++ ys) ≡ false → (list_any p xs ≡ false) × (list_any p ys ≡ false)
  none_of_both p xs ys h = or_parts (list_any p xs) (list_any p ys) (sym (list_any-append p xs ys) ∙ h)

  -- no pair of two lists together: none of one of each, and none of the second
  no_pair_of_both : (xs ys : List A) → some_pair m (xs ++ ys) ≡ false → (list_any (λ x. list_any (m x) ys) xs ≡ false) × (some_pair m ys ≡ false)
  no_pair_of_both [] ys h = (refl, h)
  no_pair_of_both (x ∷ xs) ys h =
      let parts = or_parts (list_any (m x) (xs ++ ys)) (some_pair m (xs ++ ys)) h in
      let rest = no_pair_of_both xs ys parts.1 in
      (or_from (list_any (m x) ys) (list_any (λ x. list_any (m x) ys) xs) (none_of_both (m x) xs ys parts.0).1 rest.0, rest.1)

  -- items of a list meet none of two lists together: none of either
  none_met_of_both : (xs ys zs : List A) → list_any (λ x. list_any (m x) (ys ++ zs)) xs ≡ false → (list_any (λ x. list_any (m x) ys) xs ≡ false) × (list_any (λ x. list_any (m x) zs) xs ≡ false)
  none_met_of_both [] ys zs h = (refl, refl)
  none_met_of_both (x ∷ xs) ys zs h =
      let parts = or_parts (list_any (m x) (ys ++ zs)) (list_any (λ x. list_any (m x) (ys ++ zs)) xs) h in
      let here = none_of_both (m x) ys zs parts.0 in
      let rest = none_met_of_both xs ys zs parts.1 in
      (or_from (list_any (m x) ys) (list_any (λ x. list_any (m x) ys) xs) here.0 rest.0, or_from (list_any (m x) zs) (list_any (λ x. list_any (m x) zs) xs) here.1 rest.1)

-- rows of two regions, as parts
rows_as_parts : (t : ℕ) (g h : BufferImageCopy) → list_any (λ x. list_any (extents_meet x) (rows_at t h)) (rows_at t g) ≡ rows_meet t g t h
rows_as_parts t g h =
    cross_map extents_meet (row_at t g) (row_at t h) (below (row_count g)) (below (row_count h))
    ∙ cross_same (λ r s. extents_meet (row_at t g r) (row_at t h s)) (λ r s. ranges_meet (row_start t g r) (g.width * t) (row_start t h s) (h.width * t)) (below (row_count g)) (below (row_count h))
    (λ r s. bytes_meet (row_start t g r) (g.width * t) (row_start t h s) (h.width * t))

apart_from : (t : ℕ) (g : BufferImageCopy) (hs : List BufferImageCopy) → list_any (λ x. list_any (extents_meet x) (flat_map (rows_at t) hs)) (rows_at t g) ≡ false → list_any (λ h. rows_meet t g t h) hs ≡ false
apart_from t g [] none = refl
apart_from t g (h ∷ hs) none =
    let both = none_met_of_both extents_meet (rows_at t g) (rows_at t h) (flat_map (rows_at t) hs) none in
    or_from (rows_meet t g t h) (list_any (λ h. rows_meet t g t h) hs) (sym (rows_as_parts t g h) ∙ both.0) (apart_from t g hs both.1)

no_pair_of_rows : (t : ℕ) (gs : List BufferImageCopy) → some_pair extents_meet (flat_map (rows_at t) gs) ≡ false → some_pair (λ g h. rows_meet t g t h) gs ≡ false
no_pair_of_rows t [] none = refl
no_pair_of_rows t (g ∷ gs) none =
    let both = no_pair_of_both extents_meet (rows_at t g) (flat_map (rows_at t) gs) none in
    or_from (list_any (λ h. rows_meet t g t h) gs) (some_pair (λ g h. rows_meet t g t h) gs) (apart_from t g gs both.0) (no_pair_of_rows t gs both.1)

-- regions whose rows don't overlap have no rows that meet
pub no_parts : (t : ℕ) (gs : List BufferImageCopy) → parts_overlap (flat_map (rows_at t) gs) [] ≡ false → some_pair (λ g h. rows_meet t g t h) gs ≡ false
no_parts t gs none = no_pair_of_rows t gs (or_parts (some_pair extents_meet (flat_map (rows_at t) gs)) (list_any (λ w. list_any (extents_meet w) []) (flat_map (rows_at t) gs)) none).0

-- a pair of some of the regions is one of them all
pub pair_of_some : {A : Type 0} (m : A → A → Bool) (r : A → Bool) (xs : List A) → some_pair m (filter r xs) ≡ true → some_pair m xs ≡ true
pair_of_some m r xs h = go (some_pair m xs) refl
  where
    go : (b : Bool) → some_pair m xs ≡ b → some_pair m xs ≡ true
    go true e = e
    go false e = absurd (true≢false (sym h ∙ no_pair_kept m r xs e))
