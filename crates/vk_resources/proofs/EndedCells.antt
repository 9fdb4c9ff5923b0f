-- The bytes of resources when a pass has ended, in memory and in the host's cache.
use Rattle.std.proofs.Common.{◌≡◌, ◌⊎◌, ◌∙◌, ℕ, ◌+◌, ◌<◌, List, Bool, true, false, ◌==◌, eq-eqb, slice_index, Option, Some, None, refl, sym, ap, subst, arith, inl, inr}
use Rattle.std.specs.Prelude.{Contains, if◌then◌else◌}
use Rattle.std.proofs.lemmas.Bool.{eqb-true, false_from_ne_true}
use Rattle.vk_memory.specs.declared.memories.Object.{Object}
use Rattle.vk_memory.specs.MemoryState.{MemoryState, bytes_of, region_of}
use Rattle.vk_map_cache.specs.Holdings.{Holdings, held_at}
use Rattle.vk_model.specs.Basics.{among}
use Rattle.vk_model.specs.declared.resource.ImageInfo.{ImageInfo}
use Rattle.vk_model.specs.Run.Caches as caches
use Rattle.vk_model.specs.Run.Caches.{Cell, Clean, Dirty, dropped, dropped_if}
use Rattle.vk_model.specs.World.Bytes.{Byte, in_buffer, in_image, resource_at}
use Rattle.vk_image_transfer.specs.Held.{place_of}
use Rattle.vk_model.proofs.Lists.Members.{member_passes, some_member}
use Rattle.vk_backing.specs.Passing.{Passing, ArePassing}
use Rattle.vk_resources.specs.declared.resources.Placed.{Placed}
use Rattle.vk_resources.specs.Held.{Held, IsConsistent, IsThere, HasCell, placed, placed_in, shape_of, shape_in, form_of, host_at, byte_at, holding_in, is_dirty}
use Rattle.vk_resources.specs.PassSteps.{AreClean, Drops, is_of_any}
use Rattle.vk_resources.specs.Inner.PassEnds.{ForgetsEach, HoldsNoneOf, Settles}
use Rattle.vk_resources.proofs.CachedBytes.{host_of}
use Rattle.vk_resources.proofs.Lying.{Lies, byte_lies, lies_within, where_is, where_lies}
use Rattle.vk_resources.proofs.MovedPlaces.{HaveHomes, IsOwned, IsPooled, Origin, moved_bare, not_gone, origin}
use Rattle.vk_backing.proofs.Numbers.{listed_or}

-- ---- a copy that is dropped

dropped_held : (cell : Cell) → is_dirty (cell.held 0) ≡ false → (dropped 0 cell).held 0 ≡ None
dropped_held cell clean = go (cell.held 0) refl clean
  where
    go : (h : Option caches.Held) → cell.held 0 ≡ h → is_dirty h ≡ false → (dropped_if 0 h cell).held 0 ≡ None
    go None is clean = is
    go (Some (Clean v)) is clean = refl
    go (Some (Dirty v)) is clean = absurd cc

dropped_region : (cell : Cell) → (dropped 0 cell).region ≡ cell.region
dropped_region cell = go (cell.held 0)
  where
    go : (h : Option caches.Held) → (dropped_if 0 h cell).region ≡ cell.region
    go None = refl
    go (Some (Clean v)) = refl
    go (Some (Dirty v)) = refl

dropped_none : (cell : Cell) → cell.held 0 ≡ None → dropped 0 cell ≡ cell
dropped_none cell none = ap (λ (h : Option caches.Held). dropped_if 0 h cell) none

-- ---- all bytes

module _ (old first s new : Held) (before : IsConsistent old) (consistent : IsConsistent s) (homes : HaveHomes s) (p q : Passing) (passing : ArePassing p s.backed) (id : ℕ) (moving ignored destroyed : List ℕ) (moving_is : moving ≡ p.moving)
    (f : ForgetsEach moving old first) (g : ForgetsEach destroyed first s) (e : Settles p q s new moving ignored destroyed id) (unheld : HoldsNoneOf s moving destroyed) (clean : AreClean moving old) where
  abbrev came : (b : ℕ) (now : Placed) → Type 0
  came b now = Origin s consistent homes p q passing new.backed new.memory id moving ignored destroyed moving_is e.closes e.backed e.between new.resources e.left e.anew b now

  memory : s.memory ≡ old.memory
  memory = g.memory ∙ f.memory

  resources : s.resources ≡ old.resources
  resources = g.resources ∙ f.resources

  shapes : s.shapes ≡ old.shapes
  shapes = g.shapes ∙ f.shapes

  module _ (c : Byte) (l : Lies new c) where
    abbrev b : ℕ
    b = resource_at c

    away : Contains destroyed b → ⊥
    away = not_gone s consistent homes p q passing new.backed new.memory id moving ignored destroyed moving_is e.closes e.backed e.between new.resources e.left e.anew b l.place l.here

    o : came b l.place
    o = origin s consistent homes p q passing new.backed new.memory id moving ignored destroyed moving_is e.closes e.backed e.between new.resources e.left e.anew b l.place l.here

    shape_is : shape_of new b ≡ shape_of old b
    shape_is = e.shapes.others b away ∙ ap (λ (x : List (ℕ × ImageInfo)). shape_in x b) shapes

    lay : Lies old c
    lay = record {
      place = o.came.was;
      at = l.at;
      here = ap (λ (x : List (ℕ × Placed)). placed_in x b) (sym resources) ∙ o.came.here;
      is = ap (λ (x : Option ImageInfo). place_of (form_of x o.came.was.size) c) (sym shape_is) ∙ ap (λ (n : ℕ). place_of (form_of (shape_of new b) n) c) (sym o.came.size) ∙ l.is;
    }

    same_there : slice_index (region_of new.memory l.place.object) (l.place.offset + l.at) ≡ slice_index (region_of s.memory o.came.was.object) (o.came.was.offset + l.at)
    unfolding lay o
    same_there = go o (lies_within old before.2 c lay) o.lies
      where
        go : (o : came b l.place) → l.at < o.came.was.size → IsOwned s consistent homes p q passing new.backed new.memory id moving ignored destroyed moving_is e.closes e.backed e.between new.resources e.left e.anew b l.place o.came.was
            ⊎ IsPooled s consistent homes p q passing new.backed new.memory id moving ignored destroyed moving_is e.closes e.backed e.between new.resources e.left e.anew b l.place o.came.was
            → slice_index (region_of new.memory l.place.object) (l.place.offset + l.at) ≡ slice_index (region_of s.memory o.came.was.object) (o.came.was.offset + l.at)
        go o lt (inl own) =
            ap (λ (x : Placed). slice_index (region_of new.memory x.object) (x.offset + l.at)) own.same
            ∙ ap (λ (x : Option Object). slice_index (bytes_of x) (o.came.was.offset + l.at)) (e.closes.objects own.owner o.came.was.object own.has)
        go o lt (inr w) =
            let within = w.lay.within in
            ap (λ (n : ℕ). slice_index (region_of new.memory n) (l.place.offset + l.at)) (sym w.object) ∙ ap (λ (n : ℕ). slice_index (region_of new.memory w.to.memory) (n + l.at)) (sym w.offset)
            ∙ w.bytes.bytes l.at (omega (arith, lt, within))
            ∙ ap (λ (n : ℕ). slice_index (region_of s.memory n) (w.lay.spot.offset + l.at)) w.lay.object ∙ ap (λ (n : ℕ). slice_index (region_of s.memory o.came.was.object) (n + l.at)) w.lay.offset

    same_byte : byte_at new c ≡ byte_at old c
    unfolding lay o
    same_byte = byte_lies new c l ∙ same_there ∙ ap (λ (x : MemoryState). slice_index (region_of x o.came.was.object) (o.came.was.offset + l.at)) memory ∙ sym (byte_lies old c lay)

  -- ---- the host's cache

  listed : (b : ℕ) → Contains moving b → among b moving ≡ true
  listed b there = member_passes (λ y. b == y) moving b there (eq-eqb b b refl)

  unlisted : (b : ℕ) → (Contains moving b → ⊥) → among b moving ≡ false
  unlisted b still = false_from_ne_true (among b moving) (λ h. let x = some_member (λ y. b == y) moving h in still (subst (λ (j : ℕ). Contains moving j) (sym (eqb-true b x.0 x.2)) x.1))

  bare : (b k : ℕ) → IsThere new (in_buffer b k) → Contains moving b → host_at new (in_buffer b k) ≡ None
  bare b k there moves =
      let w = where_is new b k there in
      host_of new b w.0 w.1 k w.2 ∙ ap (λ (h : Holdings). held_at h w.0.object (w.0.offset + k)) e.cache
      ∙ moved_bare s consistent homes p q passing new.backed new.memory id moving ignored destroyed moving_is e.closes e.backed e.between new.resources e.left e.anew unheld b k w.0 moves w.1 w.2

  kept : (b k : ℕ) → (Contains destroyed b → ⊥) → (Contains moving b → ⊥) → host_at new (in_buffer b k) ≡ host_at old (in_buffer b k)
  kept b k away still =
      ap (λ (h : Holdings). holding_in h (placed new b) k) e.cache ∙ ap (λ (o : Option Placed). holding_in s.cache o k) (e.anew.others b still ∙ e.left.others b away)
      ∙ g.others b k away ∙ f.others b k still

  pub drops : Drops moving old new
  drops (in_buffer b k) cell was there has = let l = where_lies new (in_buffer b k) there in elim (listed_or moving b) [
    | inl moves ↦ subst (λ (v : Bool). HasCell new (in_buffer b k) (if v then dropped 0 cell else cell)) (sym (listed b moves)) (record {
      held = dropped_held cell (ap is_dirty has.held ∙ clean (in_buffer b k) was (listed b moves)) ∙ sym (bare b k there moves);
      region = dropped_region cell ∙ has.region ∙ sym (same_byte (in_buffer b k) l);
    })
    | inr still ↦ subst (λ (v : Bool). HasCell new (in_buffer b k) (if v then dropped 0 cell else cell)) (sym (unlisted b still)) (record {
      held = has.held ∙ sym (kept b k (away (in_buffer b k) l) still);
      region = has.region ∙ sym (same_byte (in_buffer b k) l);
    })
  ]
  drops (in_image i m a x y z) cell was there has = go (is_of_any moving (in_image i m a x y z))
    where
      new_cell : HasCell new (in_image i m a x y z) cell
      new_cell = record { held = has.held; region = has.region ∙ sym (same_byte (in_image i m a x y z) (where_lies new (in_image i m a x y z) there)) }

      go : (v : Bool) → HasCell new (in_image i m a x y z) (if v then dropped 0 cell else cell)
      go true = subst (λ (t : Cell). HasCell new (in_image i m a x y z) t) (sym (dropped_none cell has.held)) new_cell
      go false = new_cell
