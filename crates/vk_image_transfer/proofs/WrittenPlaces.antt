-- Rows of texels that byte writes are of, by the places of their bytes.
use Rattle.std.proofs.Common.{◌≡◌, ℕ, ◌+◌, ◌-◌, ◌*◌, ◌/◌, ◌%◌, ◌<◌, ◌≤◌, List, [], ◌∷◌, Bool, true, false, ◌||◌, ◌&&◌, ◌==◌, eq-eqb, refl, ap, sym, subst, ◌∙◌, arith, zero-add, Option, Some, None}
use Rattle.std.specs.Prelude.{Contains, is_some}
use Rattle.std.specs.List.{range_with_len}
use Rattle.std.proofs.lemmas.Bool.{and_parts, eqb-true}
use Rattle.std.proofs.lemmas.Nat.{div_below, mod_below, div-mul-add, mod-mul-add, mul-add-lt}
use Rattle.vk_model.specs.declared.command.BufferImageCopy.{BufferImageCopy}
use Rattle.vk_model.specs.declared.resource.ImageInfo.{ImageInfo}
use Rattle.vk_model.specs.Basics.{within}
use Rattle.vk_model.specs.Trace.Image.{texel}
use Rattle.vk_model.specs.Rules.Sizes.{bad_image}
use Rattle.vk_model.specs.Memory.Addresses.{address}
use Rattle.vk_model.specs.Memory.PlaceLaws.{TexelsApart}
use Rattle.vk_model.specs.World.Bytes.{Byte, in_buffer, in_image, same_byte, resource_at}
use Rattle.vk_model.specs.World.ByteWrites.{Source, ByteWrite, byte_write, buffer_texel}
use Rattle.vk_model.specs.Run.CachedRuns.{write_to}
use Rattle.vk_model.proofs.Lists.Members.{some_member, member_passes, numbers_have, range_from}
use Rattle.vk_model.proofs.Lists.Truths.{bool_same, clash}
use Rattle.vk_model.proofs.World.BytePlaces.{byte_same, byte_itself, texel_some}
use Rattle.vk_transfer.specs.declared.stretches.Stretch.{Stretch}
use Rattle.vk_transfer.specs.Stretches.{lies_in, is_byte_in}
use Rattle.vk_image_transfer.specs.Held.{Form, BufferOf, ImageOf, place_of}
use Rattle.vk_image_transfer.specs.Rows.{RegionFits, image_row, buffer_row}
use Rattle.vk_image_transfer.specs.Stretches.{is_among, row_left, WritesAt}
use Rattle.vk_image_transfer.proofs.Running.{row_writes, found_in, none_in, PlacesApart}
use Rattle.vk_image_transfer.proofs.Places.{image_byte_at, image_apart, buffer_parts, buffer_byte_at, buffer_apart}
use Rattle.vk_image_transfer.proofs.ImageRows.{RowThere, texel_there, row_apart}
use Rattle.vk_image_transfer.proofs.Walking.{within_from, within_parts, row_among}

-- ---- a row of a resource

-- byte p of texel x of a row is this byte
record ByteOf (to : ℕ → ℕ → Byte) (w t : ℕ) (c : Byte) : Type 0 where
  x : ℕ
  p : ℕ
  low_x : x < w
  low_p : p < t
  is : to x p ≡ c

-- byte p of texel x of a row lies at this place
record PlaceOf (place : ℕ → ℕ) (w t k : ℕ) : Type 0 where
  x : ℕ
  p : ℕ
  low_x : x < w
  low_p : p < t
  is : place x + p ≡ k

module _ (d w t : ℕ) (form : Form) (start : ℕ) (to : ℕ → ℕ → Byte) (source : ℕ → ℕ → Source) (place : ℕ → ℕ) (some : 0 < t) (apart : PlacesApart d form) (of_d : (x p : ℕ) → resource_at (to x p) ≡ d)
    (at : (x p : ℕ) → x < w → p < t → (k : ℕ) × (place_of form (to x p) ≡ Some k) × (start + k ≡ place x + p)) where
  abbrev ms : List ByteWrite
  ms = row_writes w t to source

  abbrev write : ℕ → ByteWrite
  write q = byte_write (to (q / t) (q % t)) (source (q / t) (q % t))

  found : (c : Byte) → is_some (write_to c ms) ≡ true → ByteOf to w t c
  found c e = go (write_to c ms) refl e
    where
      go : (o : Option ByteWrite) → write_to c ms ≡ o → is_some o ≡ true → ByteOf to w t c
      go None is e = absurd cc
      go (Some m) is e =
          let r = found_in (λ m. same_byte m.to c) write 0 (w * t) m is in
          record { x = r.0 / t; p = r.0 % t; low_x = div_below r.0 t w some (omega (arith, r.2)); low_p = mod_below r.0 t some; is = byte_same (to (r.0 / t) (r.0 % t)) c r.4 }

  written : (c : Byte) → ByteOf to w t c → is_some (write_to c ms) ≡ true
  written c b = go (write_to c ms) refl
    where
      go : (o : Option ByteWrite) → write_to c ms ≡ o → is_some o ≡ true
      go (Some m) e = refl
      go None e =
          let texel_is : (b.x * t + b.p) / t ≡ b.x = div-mul-add b.x t b.p b.low_p in
          let part_is : (b.x * t + b.p) % t ≡ b.p = mod-mul-add b.x t b.p b.low_p in
          let high : b.x * t + b.p < t * w = mul-add-lt b.x t b.p w b.low_x b.low_p in
          let missed = none_in (λ m. same_byte m.to c) write 0 (w * t) e (b.x * t + b.p) (omega arith) (omega (arith, high)) in
          let not_it : same_byte (to b.x b.p) c ≡ false = ap (λ (u : ℕ). same_byte (to u b.p) c) (sym texel_is) ∙ ap (λ (u : ℕ). same_byte (to ((b.x * t + b.p) / t) u) c) (sym part_is) ∙ missed in
          let it : same_byte (to b.x b.p) c ≡ true = ap (λ (e : Byte). same_byte (to b.x b.p) e) (sym b.is) ∙ byte_itself (to b.x b.p) in
          clash it not_it

  among : (k : ℕ) → is_among (row_left place t 0 w) k ≡ true → PlaceOf place w t k
  among k e =
      let r = some_member (λ j. within (place j) t k) (range_with_len 0 w) (sym (row_among place t 0 w k) ∙ e) in
      let own = within_parts (place r.0) t k r.2 in
      let there = range_from 0 w r.0 r.1 in
      record { x = r.0; p = k - place r.0; low_x = omega (arith, there); low_p = omega (arith, own); is = omega (arith, own) }

  has : (k : ℕ) → PlaceOf place w t k → is_among (row_left place t 0 w) k ≡ true
  has k b =
      row_among place t 0 w k
      ∙ member_passes (λ j. within (place j) t k) (range_with_len 0 w) b.x (subst (λ (z : ℕ). Contains (range_with_len 0 w) z) (zero-add b.x) (numbers_have 0 w b.x b.low_x)) (within_from (place b.x) t k (omega (arith, b.is)) (omega (arith, b.is, b.low_p)))

  pub row_writes_at : WritesAt (is_among (row_left place t 0 w)) ms d form start
  row_writes_at = record {
    own = λ c e.
        let b = found c e in
        let k = at b.x b.p b.low_x b.low_p in
        (ap resource_at (sym b.is) ∙ of_d b.x b.p, k.0, ap (place_of form) (sym b.is) ∙ k.1);
    bytes = λ c j of_c is. bool_same (is_some (write_to c ms)) (is_among (row_left place t 0 w) (start + j)) (λ e. forward c j is (found c e)) (λ e. backward c j of_c is (among (start + j) e));
    places = λ k e.
        let b = among k e in
        let j = at b.x b.p b.low_x b.low_p in
        (to b.x b.p, j.0, of_d b.x b.p, j.1, j.2 ∙ b.is);
  }
    where
      forward : (c : Byte) (j : ℕ) → place_of form c ≡ Some j → ByteOf to w t c → is_among (row_left place t 0 w) (start + j) ≡ true
      forward c j is b =
          let k = at b.x b.p b.low_x b.low_p in
          let both : Some k.0 ≡ Some j = sym k.1 ∙ ap (place_of form) b.is ∙ is in
          let same : k.0 ≡ j = cc in
          has (start + j) (record { x = b.x; p = b.p; low_x = b.low_x; low_p = b.low_p; is = omega (arith, k.2, same) })

      backward : (c : Byte) (j : ℕ) → resource_at c ≡ d → place_of form c ≡ Some j → PlaceOf place w t (start + j) → is_some (write_to c ms) ≡ true
      backward c j of_c is b =
          let k = at b.x b.p b.low_x b.low_p in
          let same : k.0 ≡ j = omega (arith, k.2, b.is) in
          written c (record { x = b.x; p = b.p; low_x = b.low_x; low_p = b.low_p; is = apart (to b.x b.p) c j (of_d b.x b.p) of_c (k.1 ∙ ap (λ (i : ℕ). Some i) same) is })

-- ---- a row of an image, and of a buffer

module _ (m : ImageInfo) (good : bad_image m ≡ false) (law : TexelsApart) (start level layer first y w : ℕ) (row : RowThere m level layer first y w) (t : ℕ) (bytes : t ≡ texel m.format) (place : ℕ → ℕ) (places : (x : ℕ) → place x ≡ image_row m start level layer first y x) where
  pub image_writes_at : (d : ℕ) (to : ℕ → ℕ → Byte) → ((x p : ℕ) → to x p ≡ in_image d level layer (first + x) y p) → (source : ℕ → ℕ → Source) → WritesAt (is_among (row_left place t 0 w)) (row_writes w (texel m.format) to source) d (ImageOf m) start
  image_writes_at d to to_is source =
      subst (λ (n : ℕ). WritesAt (is_among (row_left place n 0 w)) (row_writes w (texel m.format) to source) d (ImageOf m) start) (sym bytes)
      (row_writes_at d w (texel m.format) (ImageOf m) start to source place (texel_some m.format) (image_apart law m good d)
      (λ x p. ap resource_at (to_is x p))
      (λ x p lt low. (address m m.tiling level layer (first + x) y + p, ap (place_of (ImageOf m)) (to_is x p) ∙ image_byte_at m d level layer (first + x) y p (texel_there m good start level layer first y w row x p lt low), omega (arith, places x))))

  pub texels_apart_in : (x p u q : ℕ) → x < w → u < w → p < t → q < t → place x + p ≡ place u + q → x ≡ u
  texels_apart_in x p u q lx lu lp lq same =
      row_apart m good start level layer first y w row law x p u q lx lu (omega (arith, lp, bytes)) (omega (arith, lq, bytes)) (ap (λ (k : ℕ). k + p) (sym (places x)) ∙ same ∙ ap (λ (k : ℕ). k + q) (places u))

module _ (g : BufferImageCopy) (t start z y : ℕ) (z_there : z < g.layers) (y_there : y < g.height) (some : 0 < t) (n : ℕ) (fits : RegionFits g t n) (place : ℕ → ℕ) (places : (x : ℕ) → place x ≡ buffer_row g t start z y x) where
  pub buffer_writes_at : (d : ℕ) (source : ℕ → ℕ → Source) → WritesAt (is_among (row_left place t 0 g.width)) (row_writes g.width t (λ x p. in_buffer d (buffer_texel g t z y x p)) source) d (BufferOf n) start
  buffer_writes_at d source =
      row_writes_at d g.width t (BufferOf n) start (λ x p. in_buffer d (buffer_texel g t z y x p)) source place some (buffer_apart n d) (λ x p. refl)
      (λ x p lt low. (buffer_texel g t z y x p, buffer_byte_at n d (buffer_texel g t z y x p) (fits z y x p z_there y_there lt low), omega (arith, places x)))

-- ---- bytes of a buffer that follow each other

-- byte writes of the bytes of a buffer that lie in a stretch of it
module _ (b n start : ℕ) (ms : List ByteWrite) (s : Stretch) (written : (c : Byte) → is_some (write_to c ms) ≡ is_byte_in s b start c) (from : start ≤ s.at) (to : s.at + s.size ≤ start + n) where
  alone : (t : Bool) → (t || false) ≡ t
  alone true = refl
  alone false = refl

  own_bytes : (c : Byte) → is_some (write_to c ms) ≡ true → (resource_at c ≡ b) × (at : ℕ) × (place_of (BufferOf n) c ≡ Some at)
  own_bytes (in_image i level layer x y p) e = clash e (written (in_image i level layer x y p))
  own_bytes (in_buffer d k) e =
      let parts = and_parts (b == d) (lies_in s (start + k)) (sym (written (in_buffer d k)) ∙ e) in
      let there = within_parts s.at s.size (start + k) parts.1 in
      (sym (eqb-true b d parts.0), k, buffer_byte_at n d k (omega (arith, there, to)))

  all_bytes : (c : Byte) (at : ℕ) → resource_at c ≡ b → place_of (BufferOf n) c ≡ Some at → is_some (write_to c ms) ≡ is_among (s ∷ []) (start + at)
  all_bytes (in_image i level layer x y p) at of_b is = absurd cc
  all_bytes (in_buffer d k) at of_b is =
      let parts = buffer_parts n d k at is in
      written (in_buffer d k) ∙ ap (λ (t : Bool). t && lies_in s (start + k)) (eq-eqb b d (sym of_b)) ∙ ap (λ (j : ℕ). lies_in s (start + j)) parts.1 ∙ sym (alone (lies_in s (start + at)))

  pub stretch_writes_at : WritesAt (is_among (s ∷ [])) ms b (BufferOf n) start
  stretch_writes_at = record {
    own = own_bytes;
    bytes = all_bytes;
    places = λ k e. let there = within_parts s.at s.size k (sym (alone (lies_in s k)) ∙ e) in (in_buffer b (k - start), k - start, refl, buffer_byte_at n b (k - start) (omega (arith, there, from, to)), omega (arith, there, from));
  }
