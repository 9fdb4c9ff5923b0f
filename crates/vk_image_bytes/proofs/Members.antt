-- The bytes of a range of levels and layers are those in it.
use Rattle.std.proofs.Common.{◌≡◌, ℕ, ◌+◌, ◌-◌, ◌<◌, true, false, ◌==◌, ◌&&◌, List, map, refl, ap, sym, subst, ◌∙◌, arith}
use Rattle.std.specs.Prelude.{Contains}
use Rattle.std.proofs.lemmas.Bool.{eq-eqb, and_parts}
use Rattle.vk_model.specs.declared.command.SubresourceRange.{SubresourceRange}
use Rattle.vk_model.specs.declared.resource.ImageInfo.{ImageInfo}
use Rattle.vk_model.specs.Basics.{below, within}
use Rattle.vk_model.specs.Trace.Image.{texel, level_width, level_height}
use Rattle.vk_model.specs.Rules.Sizes.{bad_image}
use Rattle.vk_model.specs.Memory.PlaceLaws.{TexelByte, HasByte}
use Rattle.vk_model.specs.World.Bytes.{Byte, in_image, same_byte}
use Rattle.vk_model.specs.World.ByteWrites.{subresource_bytes, level_bytes}
use Rattle.vk_model.specs.World.Effect.{in_range}
use Rattle.vk_model.specs.Sync.Access.{is_in}
use Rattle.vk_model.proofs.Lists.Grids.{grid_from, grid_has, below_has}
use Rattle.vk_model.proofs.Lists.Members.{some_member, member_passes, range_from, mapped_from, map_has, flat_from, flat_has}
use Rattle.vk_model.proofs.Lists.Truths.{bool_same}
use Rattle.vk_model.proofs.World.BytePlaces.{image_same}
use Rattle.vk_image_bytes.specs.Numbers.{byte_count, numbered, byte_in, byte_of}
use Rattle.vk_image_bytes.proofs.Numbering.{number_has}
use Rattle.vk_image_bytes.proofs.Spans.{within_from, within_parts}

module _ (m : ImageInfo) (i : ℕ) (r : SubresourceRange) where
  abbrev bytes : List Byte
  bytes = map (λ p. p.0) (subresource_bytes i m r)

  abbrev cell : ℕ → ℕ → ℕ → ℕ → ℕ → Byte × ℕ
  cell level z y x p = (in_image i level (r.first_layer + z) x y p, p)

  -- each byte that they are is in the range
  listed : (b : TexelByte) → is_in (byte_in i b) bytes ≡ true → in_range i r (byte_in i b) ≡ true
  listed b e =
      let found = some_member (same_byte (byte_in i b)) bytes e in
      let pair = mapped_from (λ p. p.0) (subresource_bytes i m r) found.0 found.1 in
      let of_level = flat_from (λ k. level_bytes i m r (r.first_level + k)) (below r.levels) pair.0 pair.1 in
      let n : ℕ = of_level.0 in
      let at = grid_from (cell (r.first_level + n)) r.layers (level_height m (r.first_level + n)) (level_width m (r.first_level + n)) (texel m.format) pair.0 of_level.2 in
      let named : found.0 ≡ in_image i (r.first_level + n) (r.first_layer + at.z) at.x at.y at.k = sym pair.2 ∙ ap (λ p. p.0) at.is in
      let s = image_same i b.level b.layer b.x b.y b.texel_byte i (r.first_level + n) (r.first_layer + at.z) at.x at.y at.k (ap (same_byte (byte_in i b)) (sym named) ∙ found.2) in
      let few = (range_from 0 r.levels n of_level.1).1 in
      let level = within_from r.first_level r.levels b.level (omega (arith, s.level)) (omega (arith, s.level, few)) in
      let of_layer = within_from r.first_layer r.layers b.layer (omega (arith, s.layer)) (omega (arith, s.layer, at.low_z)) in
      rw (eq-eqb i i refl, level, of_layer) refl

  -- and each byte of the image in the range is one of them
  lists : (b : TexelByte) → HasByte m b → in_range i r (byte_in i b) ≡ true → is_in (byte_in i b) bytes ≡ true
  lists b h e =
      let ands = and_parts (i == i && within r.first_level r.levels b.level) (within r.first_layer r.layers b.layer) e in
      let level = within_parts r.first_level r.levels b.level (and_parts (i == i) (within r.first_level r.levels b.level) ands.0).1 in
      let of_layer = within_parts r.first_layer r.layers b.layer ands.1 in
      let l : ℕ = b.level - r.first_level in
      let z : ℕ = b.layer - r.first_layer in
      let level_is : r.first_level + l ≡ b.level = omega (arith, level.0) in
      let layer_is : r.first_layer + z ≡ b.layer = omega (arith, of_layer.0) in
      let here : Contains (level_bytes i m r b.level) (cell b.level z b.y b.x b.texel_byte) =
      grid_has (cell b.level) r.layers (level_height m b.level) (level_width m b.level) (texel m.format) z b.y b.x b.texel_byte (omega (arith, of_layer.0, of_layer.1)) h.y_there h.x_there h.texel_byte_there in
      let among : Contains (subresource_bytes i m r) (cell b.level z b.y b.x b.texel_byte) =
      flat_has (λ k. level_bytes i m r (r.first_level + k)) (below r.levels) l (cell b.level z b.y b.x b.texel_byte) (below_has r.levels l (omega (arith, level.0, level.1)))
      (subst (λ (n : ℕ). Contains (level_bytes i m r n) (cell b.level z b.y b.x b.texel_byte)) (sym level_is) here) in
      let byte : in_image i b.level (r.first_layer + z) b.x b.y b.texel_byte ≡ byte_in i b = ap (λ (n : ℕ). in_image i b.level n b.x b.y b.texel_byte) layer_is in
      member_passes (same_byte (byte_in i b)) bytes (byte_in i b) (subst (λ (c : Byte). Contains bytes c) byte (map_has (λ p. p.0) (subresource_bytes i m r) (cell b.level z b.y b.x b.texel_byte) among)) (itself b)
    where
      itself : (b : TexelByte) → same_byte (byte_in i b) (byte_in i b) ≡ true
      itself b = rw (eq-eqb i i refl, eq-eqb b.level b.level refl, eq-eqb b.layer b.layer refl, eq-eqb b.x b.x refl, eq-eqb b.y b.y refl, eq-eqb b.texel_byte b.texel_byte refl) refl

  -- so a byte of the image is listed exactly where it's in the range
  pub in_subresources : bad_image m ≡ false → (k : ℕ) → k < byte_count m → is_in (byte_of m i k) bytes ≡ in_range i r (byte_of m i k)
  in_subresources good k lt = bool_same (is_in (byte_of m i k) bytes) (in_range i r (byte_of m i k)) (listed (numbered m k)) (lists (numbered m k) (number_has m good k lt))
