-- What a search finds of the numbers of levels and layers is what a test says of their bytes.
use Rattle.std.proofs.Common.{◌≡◌, ◌<◌, ◌≤◌, ◌+◌, ◌*◌, ℕ, List, map, slice_get, Bool, true, false, sym, ap, ◌∙◌, subst, arith, Some}
use Rattle.std.specs.Prelude.{Contains}
use Rattle.std.specs.List.{list_any}
use Rattle.std.proofs.lemmas.Bool.{false_from_ne_true}
use Rattle.vk_model.specs.declared.command.SubresourceRange.{SubresourceRange}
use Rattle.vk_model.specs.declared.resource.ImageInfo.{ImageInfo}
use Rattle.vk_model.specs.Basics.{below, within}
use Rattle.vk_model.specs.Memory.PlaceLaws.{HasByte}
use Rattle.vk_model.specs.Rules.Sizes.{bad_image}
use Rattle.vk_model.specs.Trace.Image.{texel, level_width, level_height}
use Rattle.vk_model.specs.Trace.Point.{Past}
use Rattle.vk_model.specs.World.Bytes.{Byte, in_image, same_byte}
use Rattle.vk_model.specs.World.ByteWrites.{subresource_bytes, level_bytes}
use Rattle.vk_model.specs.Sync.Access.{is_in}
use Rattle.vk_model.proofs.Lists.Grids.{grid_from, below_has}
use Rattle.vk_model.proofs.Lists.Members.{some_member, member_passes, range_from, mapped_from, flat_from}
use Rattle.vk_model.proofs.Lists.Truths.{clash}
use Rattle.vk_image_bytes.specs.declared.ranges.ByteRanges.{ByteRanges}
use Rattle.vk_image_bytes.specs.Numbers.{byte_of, byte_count, number_of}
use Rattle.vk_image_bytes.specs.Ranges.{AreRanges, has_number}
use Rattle.vk_image_bytes.proofs.Members.{in_subresources}
use Rattle.vk_image_bytes.proofs.Numbering.{number_below, byte_of_number}
use Rattle.vk_image_bytes.proofs.Spans.{within_from, within_parts}
use Rattle.vk_touches.specs.declared.touches.LastTouches.{LastTouches}
use Rattle.vk_touches.specs.Touched.{touched}
use Rattle.vk_touches.specs.Conflicts.{FoundAt, FoundInRanges}
use Rattle.vk_model.proofs.World.BytePlaces.{is_in_from, is_in_of}

-- levels and layers are an image's
pub record AreThere (m : ImageInfo) (r : SubresourceRange) : Type 0 where
  pub shaped : bad_image m ≡ false
  pub levels : r.first_level + r.levels ≤ m.levels
  pub layers : r.first_layer + r.layers ≤ m.layers

module _ (m : ImageInfo) (i : ℕ) (r : SubresourceRange) (fit : AreThere m r) where
  abbrev bytes : List Byte
  bytes = map (λ p. p.0) (subresource_bytes i m r)

  -- each of their bytes has a number
  pub some_number : (b : Byte) → Contains bytes b → (k : ℕ) × (k < byte_count m) × (byte_of m i k ≡ b)
  some_number b c =
      let pair = mapped_from (λ p. p.0) (subresource_bytes i m r) b c in
      let of_level = flat_from (λ k. level_bytes i m r (r.first_level + k)) (below r.levels) pair.0 pair.1 in
      let n : ℕ = of_level.0 in
      let level : ℕ = r.first_level + n in
      let at = grid_from (λ z y x k. (in_image i level (r.first_layer + z) x y k, k)) r.layers (level_height m level) (level_width m level) (texel m.format) pair.0 of_level.2 in
      let named : b ≡ in_image i level (r.first_layer + at.z) at.x at.y at.k = sym pair.2 ∙ ap (λ p. p.0) at.is in
      let few = (range_from 0 r.levels n of_level.1).1 in
      let last_level = fit.levels in
      let last_layer = fit.layers in
      let has : HasByte m (record { level = level; layer = r.first_layer + at.z; x = at.x; y = at.y; texel_byte = at.k }) = record {
        shaped = fit.shaped;
        level_there = omega (arith, few, last_level);
        layer_there = omega (arith, at.low_z, last_layer);
        x_there = at.low_x;
        y_there = at.low_y;
        texel_byte_there = at.low_k;
      } in (
        number_of m level (r.first_layer + at.z) at.x at.y at.k,
        number_below m (record { level = level; layer = r.first_layer + at.z; x = at.x; y = at.y; texel_byte = at.k }) has,
        byte_of_number m i level (r.first_layer + at.z) at.x at.y at.k has ∙ sym named,
      )

  -- ---- what is found in their ranges

  module _ (past : Past) (is : ℕ → Bool → LastTouches → Type 0) (test : Byte → Bool) (same : (k : ℕ) (t : Bool) → is k t (touched past (byte_of m i k)) → test (byte_of m i k) ≡ t) (touches : List LastTouches) (kept : (k : ℕ) → k < byte_count m → slice_get touches k ≡ Some (touched past (byte_of m i k)))
      (s : ByteRanges) (are : AreRanges m r s) where
    inside : (x y : LastTouches) → Some x ≡ Some y → x ≡ y
    inside x y e = cc

    said : (k : ℕ) → k < byte_count m → (q : Bool) (t : LastTouches) → slice_get touches k ≡ Some t → is k q t → test (byte_of m i k) ≡ q
    said k lt q t at h =
        let own : Some t ≡ Some (touched past (byte_of m i k)) = sym at ∙ kept k lt in
        same k q (subst (λ (u : LastTouches). is k q u) (inside t (touched past (byte_of m i k)) own) h)

    -- the number of a byte that they have is in one of the ranges
    in_some : (k : ℕ) → k < byte_count m → is_in (byte_of m i k) bytes ≡ true → (n : ℕ) × (n < s.count) × (s.first + n * s.step ≤ k) × (k < s.first + n * s.step + s.size)
    in_some k lt h =
        let has : has_number s k ≡ true = are.bytes i k lt ∙ sym (in_subresources m i r fit.shaped k lt) ∙ h in
        let n = some_member (λ n. within (s.first + n * s.step) s.size k) (below s.count) has in
        let parts = within_parts (s.first + n.0 * s.step) s.size k n.2 in
        let few = (range_from 0 s.count n.0 n.1).1 in
        (n.0, omega (arith, few), parts.0, parts.1)

    pub ranges_found : (q : Bool) → FoundInRanges (λ t low high. FoundAt is t touches low high) q s → list_any test bytes ≡ q
    ranges_found true (n, lt, (k, low, high, t, at, h)) =
        let ends = are.inside n lt in
        let there : k < byte_count m = omega (arith, high, ends) in
        let has : has_number s k ≡ true = member_passes (λ j. within (s.first + j * s.step) s.size k) (below s.count) n (below_has s.count n lt) (within_from (s.first + n * s.step) s.size k low high) in
        member_passes test bytes (byte_of m i k) (is_in_from (byte_of m i k) bytes (in_subresources m i r fit.shaped k there ∙ sym (are.bytes i k there) ∙ has)) (said k there true t at h)
    ranges_found false none = false_from_ne_true (list_any test bytes) (λ e.
        let b = some_member test bytes e in
        let k = some_number b.0 b.1 in
        let named : byte_of m i k.0 ≡ b.0 = k.2 in
        let listed : is_in (byte_of m i k.0) bytes ≡ true = is_in_of (byte_of m i k.0) bytes (subst (λ (c : Byte). Contains bytes c) (sym named) b.1) in
        let n = in_some k.0 k.1 listed in
        let found = none n.0 n.1 k.0 n.2 n.3 in
        clash (ap test named ∙ b.2) (said k.0 k.1 false found.0 found.1 found.2))
