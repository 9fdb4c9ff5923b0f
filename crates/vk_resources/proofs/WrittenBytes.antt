-- The bytes of one resource that byte writes are of, by their places in it.
use Rattle.std.proofs.Common.{◌≡◌, ℕ, ◌+◌, ◌<◌, ◌≤◌, List, [], ◌∷◌, Bool, true, false, ◌&&◌, eqb, refl, ap, sym, ◌∙◌, subst, arith, zero-add, Option, Some}
use Rattle.std.specs.Prelude.{is_some}
use Rattle.std.proofs.lemmas.Bool.{eqb-true, eqb-false}
use Rattle.vk_model.specs.declared.resource.ImageInfo.{ImageInfo}
use Rattle.vk_model.specs.Trace.Image.{image_size}
use Rattle.vk_model.specs.World.Bytes.{Byte, in_buffer, in_image, resource_at}
use Rattle.vk_model.specs.World.ByteWrites.{ByteWrite}
use Rattle.vk_model.specs.Run.CachedRuns.{write_to}
use Rattle.vk_model.proofs.Lists.Truths.{bool_same}
use Rattle.vk_transfer.specs.declared.stretches.Stretch.{Stretch}
use Rattle.vk_transfer.specs.Stretches.{is_byte_in}
use Rattle.vk_image_transfer.specs.Held.{Form, BufferOf, ImageOf, place_of}
use Rattle.vk_image_transfer.specs.Stretches.{WritesAt, is_among}
use Rattle.vk_image_transfer.proofs.Places.{buffer_parts}
use Rattle.vk_image_transfer.proofs.WrittenPlaces.{stretch_writes_at}
use Rattle.vk_resources.specs.declared.resources.Placed.{Placed}
use Rattle.vk_resources.specs.Held.{Held, IsConsistent, IsShaped, placed, shape_of, form_of, place_in, flat}
use Rattle.vk_resources.specs.Rest.{is_written}
use Rattle.vk_resources.specs.Stretches.{HasWrites, place_at}
use Rattle.vk_resources.proofs.Matching.{flat_parts}
use Rattle.vk_resources.proofs.WrittenRows.{one_shape}

-- byte writes of bytes of one resource, which lie in it
module _ (s : Held) (d : ℕ) (p : Placed) (here : placed s d ≡ Some p) (form : Form) (is : form_of (shape_of s d) p.size ≡ form) (within : (c : Byte) (k : ℕ) → place_of form c ≡ Some k → k < p.size) (ms : List ByteWrite) (left : List Stretch) (w : WritesAt (is_among left) ms d form 0) where
  place_here : (c : Byte) → resource_at c ≡ d → place_at s c ≡ place_of form c
  place_here c of_d =
      ap (λ (i : ℕ). place_in (shape_of s i) (placed s i) c) of_d ∙ ap (λ (o : Option Placed). place_in (shape_of s d) o c) here ∙ ap (λ (f : Form). place_of f c) is

  written_as : (c : Byte) (k : ℕ) → place_at s c ≡ Some k → (t : Bool) → eqb d (resource_at c) ≡ t → is_written ms c ≡ (t && is_among left k)
  written_as c k at true e =
      let of_d : resource_at c ≡ d = sym (eqb-true d (resource_at c) e) in
      w.bytes c k of_d (sym (place_here c of_d) ∙ at) ∙ ap (λ (j : ℕ). is_among left j) (zero-add k)
  written_as c k at false e = bool_same (is_written ms c) false (λ yes. absurd (eqb-false d (resource_at c) e (sym (w.own c yes).0))) (λ no. absurd cc)

  has_writes : HasWrites s ms (record { resource = d; left = left })
  has_writes = record {
    bytes = λ c k at. written_as c k at (eqb d (resource_at c)) refl;
    places = λ k e.
        let r = w.places k e in
        let at : place_at s r.0 ≡ Some k = place_here r.0 r.2 ∙ r.3 ∙ ap (λ (j : ℕ). Some j) (sym (zero-add r.1) ∙ r.4) in
        (r.0, r.2, at, w.bytes r.0 r.1 r.2 r.3 ∙ ap (λ (j : ℕ). is_among left j) r.4 ∙ e);
    place = p;
    here = here;
    inside = λ k e.
        let r = w.places k e in
        let lt : r.1 < p.size = within r.0 r.1 r.3 in
        omega (arith, lt, r.4);
  }

-- of a buffer
buffer_within : (n : ℕ) (c : Byte) (k : ℕ) → place_of (BufferOf n) c ≡ Some k → k < n
buffer_within n (in_buffer b j) k at = let parts = buffer_parts n b j k at in omega (arith, parts)
buffer_within n (in_image i l a x y q) k at = absurd cc

pub flat_has_writes : (s : Held) (b : ℕ) (p : Placed) → flat s b ≡ Some p → (ms : List ByteWrite) (left : List Stretch) → WritesAt (is_among left) ms b (BufferOf p.size) 0 → HasWrites s ms (record { resource = b; left = left })
flat_has_writes s b p at ms left w =
    let parts = flat_parts (shape_of s b) (placed s b) p at in
    has_writes s b p parts.1 (BufferOf p.size) (ap (λ (m : Option ImageInfo). form_of m p.size) parts.0) (buffer_within p.size) ms left w

pub stretch_has_writes : (s : Held) (b : ℕ) (p : Placed) → flat s b ≡ Some p → (ms : List ByteWrite) (stretch : Stretch) (left : List Stretch) → left ≡ stretch ∷ [] → ((c : Byte) → is_some (write_to c ms) ≡ is_byte_in stretch b 0 c) → stretch.at + stretch.size ≤ p.size
    → HasWrites s ms (record { resource = b; left = left })
stretch_has_writes s b p at ms stretch left is written to =
    subst (λ (l : List Stretch). HasWrites s ms (record { resource = b; left = l })) (sym is)
    (flat_has_writes s b p at ms (stretch ∷ []) (stretch_writes_at b p.size 0 ms stretch written (omega arith) (omega (arith, to))))

-- of an image, of whichever shape it is said to be
module _ (s : Held) (consistent : IsConsistent s) (i : ℕ) (m : ImageInfo) (p : Placed) (shaped : shape_of s i ≡ Some m) (here : placed s i ≡ Some p) where
  sound : IsShaped m p
  sound = consistent.2.each i m p shaped here

  pub picture_has_writes : (ms : List ByteWrite) (left : List Stretch) (writes : ImageInfo → List ByteWrite) → writes m ≡ ms → WritesAt (is_among left) ms i (ImageOf m) 0 → (n : ImageInfo) → shape_of s i ≡ Some n → HasWrites s (writes n) (record { resource = i; left = left })
  picture_has_writes ms left writes same w n is =
      subst (λ (xs : List ByteWrite). HasWrites s xs (record { resource = i; left = left })) (sym (ap writes (one_shape s i n m is shaped) ∙ same))
      (has_writes s i p here (ImageOf m) (ap (λ (o : Option ImageInfo). form_of o p.size) shaped) sound.inside ms left w)

  -- its bytes are as many as it asks for
  pub picture_size : p.size ≡ image_size m m.tiling
  picture_size = sound.size
