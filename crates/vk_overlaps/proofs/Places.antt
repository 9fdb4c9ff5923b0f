-- Regions and ranges meet where the parts do that they write and read.
use Rattle.std.proofs.Common.{◌≡◌, ℕ, ◌+◌, List, [], map, Bool, true, false, cond, Option, Some, None, ◌||◌, ◌&&◌, ◌==◌, refl, sym, ap, ◌∙◌, inl, inr, arith}
use Rattle.std.specs.Prelude.{nat_lt}
use Rattle.std.specs.List.{list_any, filter_map}
use Rattle.std.proofs.Math.Bool.{or-false, and-true}
use Rattle.std.proofs.lemmas.Bool.{cases_order, lt-ltb, le-ltb, eq-eqb, ne_eqb, and_right, and_left, and_from}
use Rattle.vk_model.specs.declared.command.BufferCopy.{BufferCopy}
use Rattle.vk_model.specs.declared.command.BufferImageCopy.{BufferImageCopy}
use Rattle.vk_model.specs.declared.command.ImageCopy.{ImageCopy}
use Rattle.vk_model.specs.declared.command.SubresourceRange.{SubresourceRange}
use Rattle.vk_model.specs.declared.command.Element.{Element}
use Rattle.vk_model.specs.declared.command.Element.TheVariants as element
use Rattle.vk_model.specs.World.Ownership.{is_transition}
use Rattle.vk_model.specs.Rules.Ranges.{transitions_meet}
use Rattle.vk_model.specs.Basics.{some_pair}
use Rattle.vk_model.specs.Memory.Suballocation.{ranges_meet}
use Rattle.vk_model.specs.World.Areas.{Box, boxes_meet, subresources_meet, region_box, source_box, destination_box}
use Rattle.vk_overlaps.specs.declared.extents.Extent.{Extent}
use Rattle.vk_overlaps.specs.Extents.{extents_meet, parts_overlap}
use Rattle.vk_overlaps.specs.Regions.{copies_meet, copy_meets_source, copies_overlap, regions_meet, image_copies_meet, image_copy_meets_source, image_copies_overlap}
use Rattle.vk_overlaps.specs.Inner.Places.{bytes_at, box_at, range_at, transition_part, copy_written, copy_read, region_texels, image_copy_written, image_copy_read}
use Rattle.vk_overlaps.proofs.ListPairs.{pair_map, pair_same, cross_map, cross_same, empty_cross, on_both, pairs_of_some}

-- spans of one meet where they are the same
pub ones_meet : (a b : ℕ) → ranges_meet a 1 b 1 ≡ (a == b)
ones_meet a b = elim (cases_order a b) [
  | inl same ↦ and_from (nat_lt a (b + 1)) (nat_lt b (a + 1)) (lt-ltb a (b + 1) (omega (arith, same))) (lt-ltb b (a + 1) (omega (arith, same))) ∙ sym (eq-eqb a b same)
  | inr rest ↦ elim rest [
    | inl less ↦ and_right (nat_lt a (b + 1)) (nat_lt b (a + 1)) (le-ltb b (a + 1) (omega (arith, less))) ∙ sym (ne_eqb a b (λ e. omega (arith, less, e)))
    | inr more ↦ and_left (nat_lt a (b + 1)) (nat_lt b (a + 1)) (le-ltb a (b + 1) (omega (arith, more))) ∙ sym (ne_eqb a b (λ e. omega (arith, more, e)))
  ]
]

pub bytes_meet : (o n p m : ℕ) → extents_meet (bytes_at o n) (bytes_at p m) ≡ ranges_meet o n p m
bytes_meet o n p m = and-true (ranges_meet o n p m)

pub boxes : (k l : Box) → extents_meet (box_at k) (box_at l) ≡ boxes_meet k l
boxes k l = ap (λ b. b && ranges_meet k.first_layer k.layers l.first_layer l.layers && ranges_meet k.x k.width l.x l.width && ranges_meet k.y k.height l.y l.height) (ones_meet k.level l.level)

pub ranges : (r s : SubresourceRange) → extents_meet (range_at 0 r) (range_at 0 s) ≡ subresources_meet r s
ranges r s = and-true (subresources_meet r s && true) ∙ and-true (subresources_meet r s)

-- parts that are written, and none that is read
alone : {A : Type 0} (t : A → A → Bool) (f : A → Extent) (same : (x y : A) → extents_meet (f x) (f y) ≡ t x y) (xs : List A) → parts_overlap (map f xs) [] ≡ some_pair t xs
alone t f same xs = ap (λ b. some_pair extents_meet (map f xs) || b) (empty_cross extents_meet (map f xs)) ∙ or-false _ ∙ pair_map extents_meet f xs ∙ pair_same _ t xs same

-- parts of both kinds
both : {A : Type 0} (t u : A → A → Bool) (f g : A → Extent) (same : (x y : A) → extents_meet (f x) (f y) ≡ t x y) (alike : (x y : A) → extents_meet (f x) (g y) ≡ u x y) (xs : List A) → parts_overlap (map f xs) (map g xs) ≡ (some_pair t xs || list_any (λ x. list_any (u x) xs) xs)
both t u f g same alike xs =
    ap (λ b. b || list_any (λ w. list_any (extents_meet w) (map g xs)) (map f xs)) (pair_map extents_meet f xs ∙ pair_same _ t xs same)
    ∙ ap (λ b. some_pair t xs || b) (cross_map extents_meet f g xs xs ∙ cross_same _ u xs xs alike)

pub copies_alone : (gs : List BufferCopy) → parts_overlap (map copy_written gs) [] ≡ some_pair copies_meet gs
copies_alone = alone copies_meet copy_written (λ g h. bytes_meet g.destination_offset g.size h.destination_offset h.size)

pub copies_both : (gs : List BufferCopy) → parts_overlap (map copy_written gs) (map copy_read gs) ≡ copies_overlap 0 0 gs
copies_both = both copies_meet copy_meets_source copy_written copy_read (λ g h. bytes_meet g.destination_offset g.size h.destination_offset h.size) (λ g h. bytes_meet g.destination_offset g.size h.source_offset h.size)

pub ranges_alone : (rs : List SubresourceRange) → parts_overlap (map (range_at 0) rs) [] ≡ some_pair subresources_meet rs
ranges_alone = alone subresources_meet (range_at 0) ranges

pub regions_alone : (gs : List BufferImageCopy) → parts_overlap (map region_texels gs) [] ≡ some_pair regions_meet gs
regions_alone = alone regions_meet region_texels (λ g h. boxes (region_box g) (region_box h))

pub image_copies_alone : (gs : List ImageCopy) → parts_overlap (map image_copy_written gs) [] ≡ some_pair image_copies_meet gs
image_copies_alone = alone image_copies_meet image_copy_written (λ g h. boxes (destination_box g) (destination_box h))

pub image_copies_both : (gs : List ImageCopy) → parts_overlap (map image_copy_written gs) (map image_copy_read gs) ≡ image_copies_overlap 0 0 gs
image_copies_both = both image_copies_meet image_copy_meets_source image_copy_written image_copy_read (λ g h. boxes (destination_box g) (destination_box h)) (λ g h. boxes (destination_box g) (source_box h))

-- ---- transitions

regrouped : (a b c : Bool) → (((a && b) && c) && true) && true ≡ (((a && true) && true) && (b && c))
regrouped true b c = and-true ((b && c) && true) ∙ and-true (b && c)
regrouped false b c = refl

-- two elements meet as transitions where their parts do
transitions : (x y : Element) → on_both extents_meet (transition_part x) (transition_part y) ≡ transitions_meet x y
transitions (element.Memory d) y = refl
transitions (element.Buffer e) y = refl
transitions (element.Image e) (element.Memory d) = none (transition_part (element.Image e)) where
  none : (o : Option Extent) → on_both extents_meet o None ≡ false
  none None = refl
  none (Some c) = refl
transitions (element.Image e) (element.Buffer f) = none (transition_part (element.Image e)) where
  none : (o : Option Extent) → on_both extents_meet o None ≡ false
  none None = refl
  none (Some c) = refl
transitions (element.Image e) (element.Image f) = go (is_transition e) (is_transition f) where
  go : (a b : Bool) → on_both extents_meet (cond a (Some (range_at e.image e.range)) None) (cond b (Some (range_at f.image f.range)) None) ≡ (e.image == f.image && a && b && subresources_meet e.range f.range)
  go false false = sym (none (e.image == f.image) (subresources_meet e.range f.range)) where
    none : (p q : Bool) → (p && false && false && q) ≡ false
    none true q = refl
    none false q = refl
  go false true = sym (none (e.image == f.image) (subresources_meet e.range f.range)) where
    none : (p q : Bool) → (p && false && true && q) ≡ false
    none true q = refl
    none false q = refl
  go true false = sym (none (e.image == f.image) (subresources_meet e.range f.range)) where
    none : (p q : Bool) → (p && true && false && q) ≡ false
    none true q = refl
    none false q = refl
  go true true = ap (λ v. v && ranges_meet e.range.first_level e.range.levels f.range.first_level f.range.levels && ranges_meet e.range.first_layer e.range.layers f.range.first_layer f.range.layers && true && true) (ones_meet e.image f.image) ∙ regrouped (e.image == f.image) _ _

pub transitions_alone : (es : List Element) → parts_overlap (filter_map transition_part es) [] ≡ some_pair transitions_meet es
transitions_alone es = ap (λ b. some_pair extents_meet (filter_map transition_part es) || b) (empty_cross extents_meet (filter_map transition_part es)) ∙ or-false _ ∙ pairs_of_some extents_meet transition_part es ∙ pair_same _ transitions_meet es transitions
