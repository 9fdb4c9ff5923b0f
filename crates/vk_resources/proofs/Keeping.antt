-- What stays of memory where some bytes of resources change.
use Rattle.std.proofs.Common.{◌≡◌, ◌⊎◌, inl, inr, ℕ, ◌+◌, ◌-◌, ◌<◌, ◌≤◌, List, length, Bool, true, false, eqb, refl, ap, sym, ◌∙◌, subst, arith, slice_index, Option, Some, None}
use Rattle.std.proofs.lemmas.Bool.{eqb-true, eqb-false, eq-eqb, cases_lt}
use Rattle.std.specs.Prelude.{IsTrue, is_some}
use Rattle.vk_memory.specs.declared.memories.Object.{Object}
use Rattle.vk_memory.specs.MemoryState.{MemoryState, IsLive, object_at, bytes_of, type_in, region_of, with_region}
use Rattle.vk_memory.proofs.LiveObjects.{region_of-same, region_of-other, type_of-same}
use Rattle.vk_model.specs.declared.resource.ImageInfo.{ImageInfo}
use Rattle.vk_model.specs.World.Bytes.{Byte, in_buffer, resource_at}
use Rattle.vk_model.specs.World.ByteWrites.{ByteWrite}
use Rattle.vk_model.specs.Run.CachedRuns.{write_to}
use Rattle.vk_map_cache.specs.Holdings.{Holdings}
use Rattle.vk_image_transfer.specs.Held.{place_of}
use Rattle.vk_transfer.specs.Ran.{HaveRun, stored}
use Rattle.vma_pools.specs.State.{released}
use Rattle.vk_resources.specs.declared.resources.Placed.{Placed}
use Rattle.vk_resources.specs.Held.{Held, IsWithin, placed, placed_in, shape_of, shape_in, form_of, byte_at, IsThere}
use Rattle.vk_resources.specs.Rest.{IsPlaceOf, LiesNone, KeepsRest, is_written}
use Rattle.vk_resources.specs.Inner.Steps.{KeepsPlaces, KeepsObjects, Ends, is_of}
use Rattle.vk_resources.proofs.Placing.{still_long, released_object}
use Rattle.vk_resources.proofs.Lying.{Lies, byte_lies, lies_there, buffer_lies}

-- ---- memory objects that stay

pub objects_rest : (old new : Held) (test : Byte → Bool) → KeepsObjects old new → KeepsRest old new test
objects_rest old new test same = record {
  types = λ number was is. ap type_in (same number was is);
  sizes = λ number was is. ap (λ (o : Option Object). length (bytes_of o)) (same number was is);
  bytes = λ number k was is none. ap (λ (o : Option Object). slice_index (bytes_of o) k) (same number was is);
}

pub same_objects : (old new : Held) → new.memory ≡ old.memory → KeepsObjects old new
same_objects old new same number was is = ap (λ (m : MemoryState). object_at m number) same

pub ends_keep : (old new : Held) (id : ℕ) → Ends old new id → KeepsObjects old new
ends_keep old new id ends number was is =
    let left : new.memory ≡ released old.memory ends.gone = ends.releases.memory in
    ap (λ (m : MemoryState). object_at m number) left ∙ released_object old.memory ends.gone number (subst (λ (m : MemoryState). IsLive m number) left is)

-- ---- a byte at its place

abbrev place_lies : (s : Held) (number k : ℕ) (c : Byte) → IsPlaceOf s number k c → Lies s c
place_lies s number k c w = record { place = w.place; at = w.at; here = w.here; is = w.is }

byte_placed : (s : Held) (number k : ℕ) (c : Byte) → IsPlaceOf s number k c → byte_at s c ≡ slice_index (region_of s.memory number) k
byte_placed s number k c w =
    byte_lies s c (place_lies s number k c w) ∙ ap (λ (o : ℕ). slice_index (region_of s.memory o) (w.place.offset + w.at)) w.object
    ∙ ap (λ (j : ℕ). slice_index (region_of s.memory number) j) w.byte

pub still_placed : (old new : Held) → new.resources ≡ old.resources → new.shapes ≡ old.shapes → (number k : ℕ) (c : Byte) → IsPlaceOf old number k c → IsPlaceOf new number k c
still_placed old new resources shapes number k c w = record {
  place = w.place;
  at = w.at;
  here = ap (λ (l : List (ℕ × Placed)). placed_in l (resource_at c)) resources ∙ w.here;
  is = ap (λ (l : List (ℕ × ImageInfo)). place_of (form_of (shape_in l (resource_at c)) w.place.size) c) shapes ∙ w.is;
  object = w.object;
  byte = w.byte;
}

-- a byte of a buffer
pub buffer_placed : (s : Held) (b : ℕ) (p : Placed) → placed s b ≡ Some p → shape_of s b ≡ None → (k : ℕ) → IsWithin p k → IsPlaceOf s p.object k (in_buffer b (k - p.offset))
buffer_placed s b p here flat_is k within =
    let low = within.0 in
    let high = within.1 in
    let l = buffer_lies s b p here flat_is (k - p.offset) (omega (arith, low, high)) in
    record { place = p; at = k - p.offset; here = l.here; is = l.is; object = refl; byte = omega (arith, low) }

pub own_byte : (b k : ℕ) → IsTrue (is_of b (in_buffer b k))
own_byte b k = eq-eqb b b refl

-- ---- fewer bytes

-- numbers that can't differ are the same
same_unless : (a b : ℕ) → ((a ≡ b → ⊥) → ⊥) → a ≡ b
same_unless a b never = go (eqb a b) refl
  where
    go : (t : Bool) → eqb a b ≡ t → a ≡ b
    go true e = eqb-true a b e
    go false e = absurd (never (eqb-false a b e))

-- of the bytes that may have changed those have stayed that fail another test
pub narrowed : (old new : Held) (wide test : Byte → Bool) → KeepsPlaces old new → KeepsRest old new wide → ((c : Byte) → IsThere old c → IsTrue (wide c) → test c ≡ false → byte_at new c ≡ byte_at old c) → KeepsRest old new test
narrowed old new wide test keeps rest same = record {
  types = rest.types;
  sizes = rest.sizes;
  bytes = λ number k was is none. same_unless (slice_index (region_of new.memory number) k) (slice_index (region_of old.memory number) k)
      (λ differ. differ (rest.bytes number k was is (λ c among w. differ (tested number k none c among w (test c) refl))));
}
  where
    tested : (number k : ℕ) → LiesNone old test number k → (c : Byte) → IsTrue (wide c) → IsPlaceOf old number k c → (t : Bool) → test c ≡ t → slice_index (region_of new.memory number) k ≡ slice_index (region_of old.memory number) k
    tested number k none c among w true e = absurd (none c e w)
    tested number k none c among w false e =
        sym (byte_placed new number k c (still_placed old new keeps.resources keeps.shapes number k c w)) ∙ same c (lies_there old c (place_lies old number k c w)) among e ∙ byte_placed old number k c w

-- where byte writes have been made
pub ran_rest : (old new : Held) (wide : Byte → Bool) (ms : List ByteWrite) → KeepsPlaces old new → KeepsRest old new wide → HaveRun ms (byte_at old) (byte_at new) → KeepsRest old new (is_written ms)
ran_rest old new wide ms keeps rest ran = narrowed old new wide (is_written ms) keeps rest (λ c there among none. ran c ∙ unwritten c (write_to c ms) none)
  where
    unwritten : (c : Byte) (o : Option ByteWrite) → is_some o ≡ false → stored o (byte_at old) c ≡ byte_at old c
    unwritten c None e = refl
    unwritten c (Some m) e = absurd cc

-- ---- one memory object gets other bytes

module _ (s : Held) (b : ℕ) (p : Placed) (live : IsLive s.memory p.object) (new : List ℕ) (long : length new ≡ length (region_of s.memory p.object)) (cache : Holdings)
    (kept : (k : ℕ) → LiesNone s (is_of b) p.object k → slice_index new k ≡ slice_index (region_of s.memory p.object) k) where
  abbrev after : Held
  after = record s { memory = with_region s.memory p.object new; cache = cache }

  pub rewritten_rest : KeepsRest s after (is_of b)
  rewritten_rest = record {
    types = λ number was is. type_of-same s.memory p.object number new live;
    sizes = λ number was is. still_long s.memory p.object new live long number;
    bytes = λ number k was is none. go number k none (eqb number p.object) refl;
  }
    where
      go : (number k : ℕ) → LiesNone s (is_of b) number k → (t : Bool) → eqb number p.object ≡ t → slice_index (region_of after.memory number) k ≡ slice_index (region_of s.memory number) k
      go number k none false e = ap (λ (r : List ℕ). slice_index r k) (region_of-other s.memory p.object number new (eqb-false number p.object e))
      go number k none true e =
          let same : number ≡ p.object = eqb-true number p.object e in
          let here : LiesNone s (is_of b) p.object k = subst (λ (n : ℕ). LiesNone s (is_of b) n k) same none in
          subst (λ (n : ℕ). slice_index (region_of after.memory n) k ≡ slice_index (region_of s.memory n) k) (sym same)
          (ap (λ (r : List ℕ). slice_index r k) (region_of-same s.memory p.object new live) ∙ kept k here)

-- where the resource is a buffer all that lies in it is a byte of it
pub buffer_kept : (s : Held) (b : ℕ) (p : Placed) → placed s b ≡ Some p → shape_of s b ≡ None → (new : List ℕ) → ((k : ℕ) → (k < p.offset) ⊎ (p.offset + p.size ≤ k) → slice_index new k ≡ slice_index (region_of s.memory p.object) k)
    → (k : ℕ) → LiesNone s (is_of b) p.object k → slice_index new k ≡ slice_index (region_of s.memory p.object) k
buffer_kept s b p here flat_is new outside k none = elim (cases_lt k p.offset) [
  | inl lt ↦ outside k (inl lt)
  | inr ge ↦ elim (cases_lt k (p.offset + p.size)) [
    | inr past ↦ outside k (inr past)
    | inl lt ↦ absurd (none (in_buffer b (k - p.offset)) (own_byte b (k - p.offset)) (buffer_placed s b p here flat_is k (ge, lt)))
  ]
]
