-- Which bytes memory is behind by when an entry has been applied.
use Rattle.std.proofs.Common.{◌≡◌, ℕ, ◌<◌, ◌≤◌, ◌==◌, List, [], ◌∷◌, length, replicate, Bool, true, false, ◌||◌, nat_lt, refl, ap, sym, ◌∙◌, subst, arith, IsTrue, Option, Some, None}
use Rattle.std.proofs.lemmas.Bool.{eqb-true, eq-eqb, ltb-true, ltb-false}
use Rattle.std.specs.Prelude.{Contains, IsSome, is_some, option_and_then, option_map, if◌then◌else◌, slice_index_or}
use Rattle.std.proofs.lemmas.List.{length-replicate, get_or-replicate, get_or_past}
use Rattle.vk_model.proofs.Lists.Members.{member_passes, some_member}
use Rattle.vk_model.proofs.Lists.Truths.{clash}
use Rattle.vk_model.specs.declared.entry.Entry.{Entry}
use Rattle.vk_model.specs.declared.entry.Entry.TheVariants as entry
use Rattle.vk_model.specs.declared.resource.ImageInfo.{ImageInfo}
use Rattle.vk_model.specs.Basics.{among, holds}
use Rattle.vk_model.specs.Trace.Order.{host}
use Rattle.vk_model.specs.Trace.Point.{Past}
use Rattle.vk_model.specs.Trace.Objects.{made, made_by, ended, ended_by, live, resource_in, image_in}
use Rattle.vk_model.specs.World.Bytes.{Byte, resource_at}
use Rattle.vk_laws.specs.DirectRuns.{is_made}
use Rattle.vk_cache_laws.specs.LateRuns.{LateByte, Late, behind_of, lag_of, late_after_entry}
use Rattle.vk_lag.specs.declared.late.Late as kept
use Rattle.vk_lag.specs.Lags.{Lags, resource_in as bytes_of, late_in, late_at}
use Rattle.vk_backing.specs.Passing.{Passing}
use Rattle.vk_image_transfer.specs.Held.{place_of}
use Rattle.vk_resources.specs.declared.resources.Placed.{Placed}
use Rattle.vk_resources.specs.Held.{Held, placed, shape_of, form_of, place_in, IsThere}
use Rattle.vk_resources.specs.Stretches.{place_at}
use Rattle.vk_resources.specs.Matches.{MatchesLive, size_made}
use Rattle.vk_resources.proofs.Matching.{LivePlaced, live_of_placed, resource_of_placed, some_sized}
use Rattle.vk_resources.proofs.Lying.{Lies, where_lies}
use Rattle.vk_availability.specs.AreLate.{AreLate, late_byte}
use Rattle.vk_device.specs.declared.device.Device.{Device}
use Rattle.vk_device.specs.Inner.Clean.{IsClean}
use Rattle.vk_device.specs.Inner.Fits.{FitsHost}
use Rattle.vk_device.proofs.Entering.{lived, fits_next}
use Rattle.vk_cached_device.specs.Applies.{moved_at}
use Rattle.vk_cached_device.specs.Inner.{Follows}

-- ---- places

-- a byte with a place lies somewhere
pub is_there : (s : Held) (c : Byte) (k : ℕ) → place_at s c ≡ Some k → IsThere s c
is_there s c k place = subst (λ (o : Option ℕ). IsSome o) (sym place) refl

at_place : (s : Held) (c : Byte) (l : Lies s c) → place_at s c ≡ Some l.at
at_place s c l = ap (λ (o : Option Placed). place_in (shape_of s (resource_at c)) o c) l.here ∙ l.is

-- ---- what is among some

among_has : (id : ℕ) (ids : List ℕ) → among id ids ≡ true → Contains ids id
among_has id ids is = let f = some_member (λ j. id == j) ids is in subst (λ (j : ℕ). Contains ids j) (sym (eqb-true id f.0 f.2)) f.1

pub has_among : (id : ℕ) (ids : List ℕ) → Contains ids id → among id ids ≡ true
has_among id ids has = member_passes (λ j. id == j) ids id has (eq-eqb id id refl)

-- ---- what an entry makes of a byte that memory is behind by

caught : (x : Entry) (p : Passing) (late : Late) (c : Byte) → among (resource_at c) (moved_at x p) ≡ true → late_after_entry (moved_at x p) x late c ≡ None
caught (entry.Pass d) p late c moved = rw moved refl
caught x p late c moved = absurd cc

kept_late : (x : Entry) (p : Passing) (late : Late) (c : Byte) → among (resource_at c) (moved_at x p) ≡ false → late_after_entry (moved_at x p) x late c ≡ late c
kept_late (entry.Pass d) p late c still = rw still refl
kept_late x p late c still = refl

none_after : (x : Entry) (moved : List ℕ) (late : Late) (c : Byte) → late c ≡ None → late_after_entry moved x late c ≡ None
none_after (entry.Pass d) moved late c none = go (among (resource_at c) moved)
  where
    go : (b : Bool) → (if b then None else late c) ≡ None
    go true = refl
    go false = none
none_after x moved late c none = none

get_or-filled : (n k : ℕ) → late_in (replicate n None) k ≡ None
get_or-filled n k = go (nat_lt k n) refl
  where
    go : (b : Bool) → nat_lt k n ≡ b → late_in (replicate n None) k ≡ None
    go true is = get_or-replicate n k None None (ltb-true k n is)
    go false is = get_or_past (replicate n None) k None (let past_end = ltb-false k n is in let long = length-replicate {A = Option kept.Late} n None in omega (arith, past_end, long))

module _ (e : ℕ) (past : Past) (x : Entry) (clean : IsClean (host e x ∷ past)) (old new : Held) (before : MatchesLive past old) (after : MatchesLive (host e x ∷ past) new) where
  -- what lies somewhere is live
  now_live : (id : ℕ) (p : Placed) → placed new id ≡ Some p → LivePlaced (live (host e x ∷ past)) id p
  now_live id p here = live_of_placed (live (host e x ∷ past)) new id p after here

  -- what was made and lies somewhere lay there before, with the same size
  had_size : (id : ℕ) (p : Placed) → IsTrue (is_some (made past id)) → placed new id ≡ Some p → (q : Placed) × (placed old id ≡ Some q) × (q.size ≡ p.size)
  had_size id p there here =
      let k = now_live id p here in
      some_sized (placed old id) p.size (before.sizes id ∙ ap (option_and_then size_made) (lived e past x clean id k.made there k.alive_is) ∙ k.size)

  -- and each of its bytes had the same place in it
  had_place : (c : Byte) (k : ℕ) → IsTrue (is_made past c) → place_at new c ≡ Some k → place_at old c ≡ Some k
  had_place c k there place =
      let l = where_lies new c (is_there new c k place) in
      let v = now_live (resource_at c) l.place l.here in
      let p = had_size (resource_at c) l.place there l.here in
      let shape : shape_of old (resource_at c) ≡ shape_of new (resource_at c) =
      before.shapes (resource_at c) ∙ ap (option_and_then image_in) (lived e past x clean (resource_at c) v.made there v.alive_is ∙ sym v.alive_is) ∙ sym (after.shapes (resource_at c)) in
      ap (λ (o : Option Placed). place_in (shape_of old (resource_at c)) o c) p.1
      ∙ ap (λ (i : Option ImageInfo). place_of (form_of i p.0.size) c) shape ∙ ap (λ (n : ℕ). place_of (form_of (shape_of new (resource_at c)) n) c) p.2
      ∙ sym (ap (λ (o : Option Placed). place_in (shape_of new (resource_at c)) o c) l.here) ∙ place

  -- ---- what the entry made and ended

  -- what is live hasn't been ended
  unended : (id : ℕ) (y : Entry) → live (host e x ∷ past) id ≡ Some y → (among id (ended_by x) ≡ false) × (made (host e x ∷ past) id ≡ Some y)
  unended id y is = go (among id (ended_by x)) (ended past id) is
    where
      go : (t u : Bool) → (if t || u then None else made (host e x ∷ past) id) ≡ Some y → (t ≡ false) × (made (host e x ∷ past) id ≡ Some y)
      go true u is = absurd cc
      go false true is = absurd cc
      go false false is = (refl, is)

  -- a new object is made by the entry
  made_now : (id : ℕ) (y : Entry) → is_some (made past id) ≡ false → made (host e x ∷ past) id ≡ Some y → (made_by x ≡ Some id) × (y ≡ x)
  made_now id y none is = go (made_by x) refl is
    where
      none_before : (o : Option Entry) → is_some o ≡ false → o ≡ Some y → ⊥
      none_before None f e = absurd cc
      none_before (Some z) f e = absurd cc

      go : (o : Option ℕ) → made_by x ≡ o → (if holds o (λ j. id == j) then Some x else made past id) ≡ Some y → (made_by x ≡ Some id) × (y ≡ x)
      go None by is = absurd (none_before (made past id) none is)
      go (Some j) by is = at (id == j) refl is
        where
          at : (b : Bool) → (id == j) ≡ b → (if b then Some x else made past id) ≡ Some y → (made_by x ≡ Some id) × (y ≡ x)
          at true same is = (by ∙ ap Some (sym (eqb-true id j same)), let both : x ≡ y = cc in sym both)
          at false other is = absurd (none_before (made past id) none is)

  -- and a resource that the entry makes is new
  fresh : (id : ℕ) → is_some (resource_in x) ≡ true → made_by x ≡ Some id → is_some (made past id) ≡ false
  fresh id = go x (fits_next e x past clean)
    where
      go : (y : Entry) → FitsHost past y → is_some (resource_in y) ≡ true → made_by y ≡ Some id → is_some (made past id) ≡ false
      go (entry.Buffer i b) fits some by = let same : i ≡ id = cc in ap (λ (j : ℕ). is_some (made past j)) (sym same) ∙ ap is_some fits.unused.unmade
      go (entry.Image i m) fits some by = let same : i ≡ id = cc in ap (λ (j : ℕ). is_some (made past j)) (sym same) ∙ ap is_some fits.unused.unmade
      go y fits some by = absurd cc

  -- ---- late bytes

  module _ (d : Device) (is_new : d.resources ≡ new) (lags lags' : Lags) (follows : Follows x d lags lags') (late : Late) (are : AreLate old lags late) (bare : (c : Byte) → is_made past c ≡ false → lag_of late c ≡ None) where
    none_late : (o : Option LateByte) → behind_of o ≡ None → o ≡ None
    none_late None e = refl
    none_late (Some l) e = absurd cc

    -- a byte of what the entry has made
    new_byte : (c : Byte) (k : ℕ) → is_made past c ≡ false → place_at new c ≡ Some k → (o : Option LateByte) → o ≡ None → o ≡ late_byte (late_at lags' (resource_at c) k)
    new_byte c k none place o is =
        let l = where_lies new c (is_there new c k place) in
        let v = now_live (resource_at c) l.place l.here in
        let m = unended (resource_at c) v.made v.alive_is in
        let by = made_now (resource_at c) v.made none m.1 in
        let some : is_some (resource_in x) ≡ true = ap (λ (y : Entry). is_some (resource_in y)) (sym by.1) ∙ ap is_some v.resource_is in
        let room = follows.made (resource_at c) l.place some by.0 (ap (λ (h : Held). placed h (resource_at c)) is_new ∙ l.here) in
        is ∙ ap late_byte (sym (ap (λ (bytes : List (Option kept.Late)). late_in bytes k) room ∙ get_or-filled l.place.size k))

    -- a byte of what was there before
    old_byte : (c : Byte) (k : ℕ) → is_made past c ≡ true → place_at new c ≡ Some k → late_after_entry (moved_at x d.passes) x late c ≡ late_byte (late_at lags' (resource_at c) k)
    old_byte c k there place = go (among (resource_at c) (moved_at x d.passes)) refl
      where
        was : late c ≡ late_byte (late_at lags (resource_at c) k)
        was = are c k (had_place c k there place)

        same : (Contains (moved_at x d.passes) (resource_at c) → ⊥) → late_at lags' (resource_at c) k ≡ late_at lags (resource_at c) k
        same other =
            let l = where_lies new c (is_there new c k place) in
            let v = now_live (resource_at c) l.place l.here in
            let m = unended (resource_at c) v.made v.alive_is in
            ap (λ (bytes : List (Option kept.Late)). late_in bytes k) (follows.others (resource_at c) (λ some by. clash there (fresh (resource_at c) some by)) m.0 other)

        go : (b : Bool) → among (resource_at c) (moved_at x d.passes) ≡ b → late_after_entry (moved_at x d.passes) x late c ≡ late_byte (late_at lags' (resource_at c) k)
        go true moved = caught x d.passes late c moved ∙ ap late_byte (sym (follows.moved (resource_at c) k (among_has (resource_at c) (moved_at x d.passes) moved)).0)
        go false still = kept_late x d.passes late c still ∙ was ∙ ap late_byte (sym (same (λ has. clash (has_among (resource_at c) (moved_at x d.passes) has) still)))

    pub late_follows : AreLate new lags' (late_after_entry (moved_at x d.passes) x late)
    late_follows c k place = go (is_made past c) refl
      where
        go : (b : Bool) → is_made past c ≡ b → late_after_entry (moved_at x d.passes) x late c ≡ late_byte (late_at lags' (resource_at c) k)
        go true there = old_byte c k there place
        go false none = new_byte c k none place (late_after_entry (moved_at x d.passes) x late c) (none_after x (moved_at x d.passes) late c (none_late (late c) (bare c none)))

    -- and there is room
    pub room_follows : ((id : ℕ) (p : Placed) → placed old id ≡ Some p → p.size ≤ length (bytes_of lags id)) → (id : ℕ) (p : Placed) → placed new id ≡ Some p → p.size ≤ length (bytes_of lags' id)
    room_follows room id p here = go (is_some (made past id)) refl
      where
        v : LivePlaced (live (host e x ∷ past)) id p
        v = now_live id p here

        m : (among id (ended_by x) ≡ false) × (made (host e x ∷ past) id ≡ Some v.made)
        m = unended id v.made v.alive_is

        go : (b : Bool) → is_some (made past id) ≡ b → p.size ≤ length (bytes_of lags' id)
        go false none =
            let by = made_now id v.made none m.1 in
            let some : is_some (resource_in x) ≡ true = ap (λ (y : Entry). is_some (resource_in y)) (sym by.1) ∙ ap is_some v.resource_is in
            let filled = ap length (follows.made id p some by.0 (ap (λ (h : Held). placed h id) is_new ∙ here)) ∙ length-replicate p.size None in
            omega (arith, filled)
        go true there =
            let q = had_size id p there here in
            let had = room id q.0 q.1 in
            let size = q.2 in
            at (among id (moved_at x d.passes)) refl had size
          where
            at : (b : Bool) → among id (moved_at x d.passes) ≡ b → {n : ℕ} → n ≤ length (bytes_of lags id) → n ≡ p.size → p.size ≤ length (bytes_of lags' id)
            at true moved had size = let same = (follows.moved id 0 (among_has id (moved_at x d.passes) moved)).1 in omega (arith, had, size, same)
            at false still had size =
                let same = ap length (follows.others id (λ some by. clash there (fresh id some by)) m.0 (λ has. clash (has_among id (moved_at x d.passes) has) still)) in
                omega (arith, had, size, same)
