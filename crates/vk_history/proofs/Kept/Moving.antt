-- The bytes that a layout transition reads and writes, by their numbers.
use Rattle.std.proofs.Common.{◌≡◌, ◌<◌, ◌+◌, ℕ, List, [], map, Bool, true, false, not, ◌&&◌, ◌==◌, refl, ap, sym, ◌∙◌, Option, Some, None}
use Rattle.std.specs.Prelude.{if◌then◌else◌}
use Rattle.std.proofs.lemmas.Bool.{false_from_ne_true}
use Rattle.vk_model.specs.declared.command.Element.TheVariants as element
use Rattle.vk_model.specs.declared.command.ImageElement.{ImageElement}
use Rattle.vk_model.specs.declared.command.SubresourceRange.{SubresourceRange}
use Rattle.vk_model.specs.declared.resource.ImageInfo.{ImageInfo}
use Rattle.vk_model.specs.Basics.{below}
use Rattle.vk_model.specs.Rules.Sizes.{bad_image}
use Rattle.vk_model.specs.Trace.Image.{texel, level_width, level_height}
use Rattle.vk_model.specs.Trace.Objects.{image}
use Rattle.vk_model.specs.Trace.Point.{Past}
use Rattle.vk_model.specs.World.Bytes.{Byte, in_image, resource_at, same_byte}
use Rattle.vk_model.specs.World.ByteWrites.{subresource_bytes, level_bytes}
use Rattle.vk_model.specs.World.Effect.{in_range}
use Rattle.vk_model.specs.World.Ownership.{is_transition, is_release}
use Rattle.vk_model.specs.Sync.Access.{is_in, image_bytes, transition_bytes}
use Rattle.vk_model.proofs.Lists.Grids.{grid_from}
use Rattle.vk_model.proofs.Lists.Members.{some_member, mapped_from, flat_from}
use Rattle.vk_model.proofs.Lists.Truths.{clash}
use Rattle.vk_image_bytes.specs.Numbers.{byte_of, byte_count}
use Rattle.vk_image_bytes.proofs.Members.{in_subresources}
use Rattle.vk_history.proofs.Making.Numbers.{apart_bytes}

-- the bytes of levels and layers are all of the image
pub of_image : (i : ℕ) (m : ImageInfo) (r : SubresourceRange) (c : Byte) → is_in c (map (λ p. p.0) (subresource_bytes i m r)) ≡ true → (resource_at c == i) ≡ true
of_image i m r c h =
    let found = some_member (same_byte c) (map (λ p. p.0) (subresource_bytes i m r)) h in
    let pair = mapped_from (λ p. p.0) (subresource_bytes i m r) found.0 found.1 in
    let of_level = flat_from (λ k. level_bytes i m r (r.first_level + k)) (below r.levels) pair.0 pair.1 in
    let n : ℕ = of_level.0 in
    let at = grid_from (λ z y x b. (in_image i (r.first_level + n) (r.first_layer + z) x y b, b)) r.layers (level_height m (r.first_level + n)) (level_width m (r.first_level + n)) (texel m.format) pair.0 of_level.2 in
    let named : found.0 ≡ in_image i (r.first_level + n) (r.first_layer + at.z) at.x at.y at.k = sym pair.2 ∙ ap (λ p. p.0) at.is in
    let same : same_byte c (in_image i (r.first_level + n) (r.first_layer + at.z) at.x at.y at.k) ≡ true = ap (same_byte c) (sym named) ∙ found.2 in
    decide (resource_at c == i) refl (in_image i (r.first_level + n) (r.first_layer + at.z) at.x at.y at.k) refl same
  where
    decide : (t : Bool) → (resource_at c == i) ≡ t → (d : Byte) → resource_at d ≡ i → same_byte c d ≡ true → t ≡ true
    decide true e d own same = refl
    decide false e d own same = clash same (apart_bytes c d (rw own e))

module _ (past : Past) (q : ℕ) (e : ImageElement) where
  -- whether it is one that reads and writes them
  abbrev moving : Bool
  moving = is_transition e && not (is_release q (element.Image e))

  by_test : (c : Byte) (t : Bool) (o : Option ImageInfo) → is_in c (let bs : List Byte = if t then image_bytes o e else [] in bs) ≡ (t && is_in c (image_bytes o e))
  by_test c true o = refl
  by_test c false o = refl

  pub moves_number : (m : ImageInfo) → image past e.image ≡ Some m → bad_image m ≡ false → (k : ℕ) → k < byte_count m → is_in (byte_of m e.image k) (transition_bytes past q (element.Image e)) ≡ (moving && in_range e.image e.range (byte_of m e.image k))
  moves_number m is good k lt =
      by_test (byte_of m e.image k) moving (image past e.image)
      ∙ ap (λ (o : Option ImageInfo). moving && is_in (byte_of m e.image k) (image_bytes o e)) is
      ∙ ap (λ (t : Bool). moving && t) (in_subresources m e.image e.range good k lt)

  pub moves_no_other : (c : Byte) → (resource_at c == e.image) ≡ false → is_in c (transition_bytes past q (element.Image e)) ≡ false
  moves_no_other c ne = by_test c moving (image past e.image) ∙ go moving (image past e.image) where
    go : (t : Bool) (o : Option ImageInfo) → (t && is_in c (image_bytes o e)) ≡ false
    go false o = refl
    go true None = refl
    go true (Some m) = false_from_ne_true (is_in c (image_bytes (Some m) e)) (λ h. clash (of_image e.image m e.range c h) ne)
