-- Where the bytes of buffers and images lie, and what stays of them when one resource gets other bytes.
use Rattle.std.proofs.Common.{◌≡◌, ◌⊎◌, inl, inr, ℕ, ◌+◌, ◌<◌, ◌≤◌, List, length, map, Bool, true, false, eqb, nat_lt, refl, ap, sym, ◌∙◌, subst, arith, slice_index, Option, Some, None, if◌then◌else◌}
use Rattle.std.proofs.lemmas.Bool.{eqb-true, eqb-false, lt-ltb, ltb-true}
use Rattle.std.proofs.Math.Seq.{map-set_same}
use Rattle.std.specs.Prelude.{IsSome, option_map}
use Rattle.vk_memory.specs.declared.memories.Object.{Object}
use Rattle.vk_memory.specs.MemoryState.{MemoryState, object_at, region_of, rewritten, with_region}
use Rattle.vk_memory.proofs.LiveObjects.{region_of-same, region_of-other, type_of-same}
use Rattle.vk_model.specs.declared.resource.ImageInfo.{ImageInfo}
use Rattle.vk_model.specs.World.Bytes.{Byte, in_buffer, in_image, resource_at}
use Rattle.vk_image_transfer.specs.Held.{place_of, byte_held}
use Rattle.vk_transfer.specs.Ran.{AreApart}
use Rattle.vk_resources.specs.declared.resources.Placed.{Placed}
use Rattle.vk_backing.specs.Allotted.{kind_of}
use Rattle.vk_backing.proofs.Grown.{some_there}
use Rattle.vk_resources.specs.Allocating.{allotted}
use Rattle.vk_resources.specs.Held.{Held, IsApart, IsInside, AreShaped, placed, shape_of, form_of, lying_in, place_in, byte_at, IsThere}
use Rattle.vk_resources.specs.Inner.Steps.{KeepsPlaces}
use Rattle.vk_resources.proofs.Placing.{apart_rewritten, inside_of, still_long}

-- a byte that is there, by its place in its resource
pub record Lies (s : Held) (c : Byte) : Type 0 where
  pub place : Placed
  pub at : ℕ
  pub here : placed s (resource_at c) ≡ Some place
  pub is : place_of (form_of (shape_of s (resource_at c)) place.size) c ≡ Some at

pub where_lies : (s : Held) (c : Byte) → IsThere s c → Lies s c
where_lies s c there = go (placed s (resource_at c)) refl there
  where
    go : (o : Option Placed) → placed s (resource_at c) ≡ o → IsSome (place_in (shape_of s (resource_at c)) o c) → Lies s c
    go None is there = absurd cc
    go (Some p) is there = let k = some_there (place_of (form_of (shape_of s (resource_at c)) p.size) c) there in record { place = p; at = k.0; here = is; is = k.1 }

pub lies_there : (s : Held) (c : Byte) → Lies s c → IsThere s c
lies_there s c l = rw (l.here, l.is) refl

abbrev in_place : List ℕ → ℕ → Option ℕ → ℕ
in_place xs start None = 0
in_place xs start (Some k) = slice_index xs (start + k)

pub byte_lies : (s : Held) (c : Byte) (l : Lies s c) → byte_at s c ≡ slice_index (region_of s.memory l.place.object) (l.place.offset + l.at)
byte_lies s c l =
    ap (λ (o : Option Placed). byte_held (option_map (lying_in s.memory (shape_of s (resource_at c))) o) c) l.here
    ∙ ap (λ (o : Option ℕ). in_place (region_of s.memory l.place.object) l.place.offset o) l.is

-- where a byte of a buffer is there
buffer_place : (shape : Option ImageInfo) (n b k at : ℕ) → place_of (form_of shape n) (in_buffer b k) ≡ Some at → (shape ≡ None) × (k < n) × (at ≡ k)
buffer_place None n b k at is = go (nat_lt k n) refl is
  where
    go : (t : Bool) → nat_lt k n ≡ t → (if t then Some k else None) ≡ Some at → (◌≡◌ {A = Option ImageInfo} None None) × (k < n) × (at ≡ k)
    go true e is = (refl, ltb-true k n e, cc)
    go false e is = absurd cc
buffer_place (Some m) n b k at is = absurd cc

pub where_is : (s : Held) (b k : ℕ) → IsThere s (in_buffer b k) → (p : Placed) × (placed s b ≡ Some p) × (k < p.size) × (shape_of s b ≡ None)
where_is s b k there =
    let l = where_lies s (in_buffer b k) there in
    let parts = buffer_place (shape_of s b) l.place.size b k l.at l.is in
    (l.place, l.here, parts.1, parts.0)

-- a byte of a buffer that is there
abbrev pub buffer_lies : (s : Held) (b : ℕ) (p : Placed) → placed s b ≡ Some p → shape_of s b ≡ None → (k : ℕ) → k < p.size → Lies s (in_buffer b k)
buffer_lies s b p here none k lt = record {
  place = p;
  at = k;
  here = here;
  is = ap (λ (m : Option ImageInfo). place_of (form_of m p.size) (in_buffer b k)) none ∙ ap (λ (t : Bool). if t then Some k else None) (lt-ltb k p.size lt);
}

-- and where one of an image is
image_place : (shape : Option ImageInfo) (n i level layer x y p at : ℕ) → place_of (form_of shape n) (in_image i level layer x y p) ≡ Some at → (m : ImageInfo) × (shape ≡ Some m)
image_place None n i level layer x y p at is = absurd cc
image_place (Some m) n i level layer x y p at is = (m, refl)

pub where_image : (s : Held) (i level layer x y p : ℕ) (l : Lies s (in_image i level layer x y p)) → (m : ImageInfo) × (shape_of s i ≡ Some m)
where_image s i level layer x y p l = image_place (shape_of s i) l.place.size i level layer x y p l.at l.is

-- it lies in its resource
pub lies_within : (s : Held) → AreShaped s.resources s.shapes → (c : Byte) (l : Lies s c) → l.at < l.place.size
lies_within s shaped c l = go (shape_of s (resource_at c)) refl c l.is
  where
    go : (m : Option ImageInfo) → shape_of s (resource_at c) ≡ m → (e : Byte) → place_of (form_of m l.place.size) e ≡ Some l.at → l.at < l.place.size
    go None is (in_buffer b k) e = let parts = buffer_place None l.place.size b k l.at e in omega (arith, parts)
    go None is (in_image i level layer x y p) e = absurd cc
    go (Some m) is e at = (shaped.each (resource_at c) m l.place is l.here).inside e l.at at

-- a byte of a resource that stays where it is, and whose place in memory holds what it held
pub byte_stays : (old new : Held) (c : Byte) → placed new (resource_at c) ≡ placed old (resource_at c) → shape_of new (resource_at c) ≡ shape_of old (resource_at c)
    → ((l : Lies old c) → slice_index (region_of new.memory l.place.object) (l.place.offset + l.at) ≡ slice_index (region_of old.memory l.place.object) (l.place.offset + l.at)) → byte_at new c ≡ byte_at old c
byte_stays old new c place shape same =
    ap (λ (m : Option ImageInfo). byte_held (option_map (lying_in new.memory m) (placed new (resource_at c))) c) shape
    ∙ ap (λ (o : Option Placed). byte_held (option_map (lying_in new.memory (shape_of old (resource_at c))) o) c) place
    ∙ go (placed old (resource_at c)) refl
  where
    at : (p : Placed) → placed old (resource_at c) ≡ Some p → (o : Option ℕ) → place_of (form_of (shape_of old (resource_at c)) p.size) c ≡ o → in_place (region_of new.memory p.object) p.offset o ≡ in_place (region_of old.memory p.object) p.offset o
    at p here None is = refl
    at p here (Some k) is = same (record { place = p; at = k; here = here; is = is })

    go : (o : Option Placed) → placed old (resource_at c) ≡ o → byte_held (option_map (lying_in new.memory (shape_of old (resource_at c))) o) c ≡ byte_held (option_map (lying_in old.memory (shape_of old (resource_at c))) o) c
    go None here = refl
    go (Some p) here = at p here (place_of (form_of (shape_of old (resource_at c)) p.size) c) refl

pub there_stays : (old new : Held) (c : Byte) → placed new (resource_at c) ≡ placed old (resource_at c) → shape_of new (resource_at c) ≡ shape_of old (resource_at c) → IsThere old c → IsThere new c
there_stays old new c place shape there =
    subst (λ (m : Option ImageInfo). IsSome (place_in m (placed new (resource_at c)) c)) (sym shape) (subst (λ (o : Option Placed). IsSome (place_in (shape_of old (resource_at c)) o c)) (sym place) there)

-- ---- one resource gets other bytes

-- an object keeps its type and its size
pub kinds_kept : (m : MemoryState) (o : ℕ) (bytes : List ℕ) → map kind_of (with_region m o bytes).objects ≡ map kind_of m.objects
kinds_kept m o bytes = map-set_same kind_of m.objects o (rewritten bytes (object_at m o)) None (same (object_at m o))
  where
    same : (x : Option Object) → kind_of (rewritten bytes x) ≡ kind_of x
    same None = refl
    same (Some x) = refl

module _ (s : Held) (apart : IsApart s.memory s.backed s.resources) (shaped : AreShaped s.resources s.shapes) (b : ℕ) (p : Placed) (here : placed s b ≡ Some p) (new : List ℕ) (long : length new ≡ length (region_of s.memory p.object))
    (outside : (k : ℕ) → (k < p.offset) ⊎ (p.offset + p.size ≤ k) → slice_index new k ≡ slice_index (region_of s.memory p.object) k) where
  abbrev pub changed_in : Held
  changed_in = record s { memory = with_region s.memory p.object new }

  inside : IsInside s.memory p
  inside = inside_of s.memory s.backed s.resources apart b p here

  pub now : region_of changed_in.memory p.object ≡ new
  now = region_of-same s.memory p.object new inside.live

  pub changed_apart : IsApart changed_in.memory changed_in.backed changed_in.resources
  changed_apart = apart_rewritten s.memory p.object new inside.live long s.backed s.resources apart

  pub changed_keeps : KeepsPlaces s changed_in
  changed_keeps = record {
    resources = refl;
    shapes = refl;
    same = ap (λ (os : List (Option (ℕ × ℕ))). record (allotted s) { objects = os }) (kinds_kept s.memory p.object new);
    lengths = λ number. still_long s.memory p.object new inside.live long number;
    types = λ number. type_of-same s.memory p.object number new inside.live;
  }

  -- bytes of other resources
  beside : (c : Byte) (l : Lies s c) → (l.place.object ≡ p.object → AreApart p.offset p.size l.place.offset l.place.size) → (t : Bool) → eqb l.place.object p.object ≡ t
      → slice_index (region_of changed_in.memory l.place.object) (l.place.offset + l.at) ≡ slice_index (region_of s.memory l.place.object) (l.place.offset + l.at)
  beside c l clear false e = ap (λ (r : List ℕ). slice_index r (l.place.offset + l.at)) (region_of-other s.memory p.object l.place.object new (eqb-false l.place.object p.object e))
  beside c l clear true e =
      let same : l.place.object ≡ p.object = eqb-true l.place.object p.object e in
      ap (λ (o : ℕ). slice_index (region_of changed_in.memory o) (l.place.offset + l.at)) same ∙ ap (λ (r : List ℕ). slice_index r (l.place.offset + l.at)) now
      ∙ outside (l.place.offset + l.at) (away (clear same) (lies_within s shaped c l)) ∙ ap (λ (o : ℕ). slice_index (region_of s.memory o) (l.place.offset + l.at)) (sym same)
    where
      away : AreApart p.offset p.size l.place.offset l.place.size → l.at < l.place.size → (l.place.offset + l.at < p.offset) ⊎ (p.offset + p.size ≤ l.place.offset + l.at)
      away (inl le) lt = inr (omega (arith, le, lt))
      away (inr le) lt = inl (omega (arith, le, lt))

  pub changed_other : (c : Byte) → (b ≡ resource_at c → ⊥) → byte_at changed_in c ≡ byte_at s c
  changed_other c ne = byte_stays s changed_in c refl refl (λ l. beside c l (λ same. apart.apart b (resource_at c) p l.place ne here l.here (sym same)) (eqb l.place.object p.object) refl)
