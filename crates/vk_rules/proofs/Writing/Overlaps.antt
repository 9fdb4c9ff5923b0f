-- OVERLAP by the regions of each command.
use Rattle.std.proofs.Common.{◌≡◌, ℕ, List, [], map, Bool, true, false, ◌&&◌, ◌||◌, ◌==◌, refl, ap, sym, ◌∙◌, Option, Some, None}
use Rattle.std.specs.List.{list_any}
use Rattle.std.proofs.lemmas.Bool.{eq-eqb}
use Rattle.std.proofs.Math.Bool.{or-false}
use Rattle.vk_model.specs.declared.command.BufferCopy.{BufferCopy}
use Rattle.vk_model.specs.declared.command.BufferImageCopy.{BufferImageCopy}
use Rattle.vk_model.specs.declared.command.ImageCopy.{ImageCopy}
use Rattle.vk_model.specs.declared.command.SubresourceRange.{SubresourceRange}
use Rattle.vk_model.specs.declared.command.Cmd.TheVariants as cmd
use Rattle.vk_model.specs.declared.resource.ImageInfo.{ImageInfo}
use Rattle.vk_model.specs.Basics.{some_pair, holds}
use Rattle.vk_model.specs.Trace.Image.{texel}
use Rattle.vk_model.specs.Trace.Objects.{image}
use Rattle.vk_model.specs.Trace.Point.{Past}
use Rattle.vk_model.specs.World.Areas.{Area, Bytes, Rows, Texels, Subresources, areas_meet, areas_read, areas_written, region_box, source_box, destination_box, subresources_meet, rows_meet}
use Rattle.vk_model.specs.Rules.Ranges.{command_overlaps, writes_overlap}
use Rattle.vk_model.proofs.Lists.Members.{any_map, none_passes_any}
use Rattle.vk_overlaps.specs.Regions.{copies_meet, copy_meets_source, copies_overlap, regions_meet, image_copies_meet, image_copy_meets_source, image_copies_overlap}
use Rattle.vk_overlaps.proofs.ListPairs.{pair_map, pair_same, cross_map, empty_cross}
use Rattle.vk_rules.specs.Inner.Overlapping.{rows_overlap}
use Rattle.vk_model.proofs.Lists.Truths.{or-false-false}

-- ---- pairs

cross_and : {A : Type 0} (v : Bool) (t : A → A → Bool) (xs ys : List A) → list_any (λ x. list_any (λ y. v && t x y) ys) xs ≡ (v && list_any (λ x. list_any (t x) ys) xs)
cross_and true t xs ys = refl
cross_and false t xs ys = none_passes_any _ xs (λ x c. none_passes_any _ ys (λ y d. refl))

-- areas of one resource
module _ {A : Type 0} (i : ℕ) (t : A → A → Bool) (f : A → Area) (same : (x y : A) → areas_meet (f x) (f y) ≡ (i == i && t x y)) where
  own_pairs : (xs : List A) → some_pair areas_meet (map f xs) ≡ some_pair t xs
  own_pairs xs = pair_map areas_meet f xs ∙ pair_same _ t xs (λ x y. same x y ∙ ap (λ b. b && t x y) (eq-eqb i i refl))

module _ (past : Past) where
  pub copy_overlaps : (s d : ℕ) (gs : List BufferCopy) → copies_overlap s d gs ≡ command_overlaps past (cmd.Copy s d gs)
  copy_overlaps s d gs = sym (or-false _ ∙ ap (λ b. b || list_any (λ w. list_any (areas_meet w) (areas_read past (cmd.Copy s d gs))) (areas_written past (cmd.Copy s d gs))) (own_pairs d copies_meet (λ g. Bytes d g.destination_offset g.size) (λ g h. refl) gs)
      ∙ ap (λ b. some_pair copies_meet gs || b) (cross_map areas_meet (λ g. Bytes d g.destination_offset g.size) (λ g. Bytes s g.source_offset g.size) gs gs ∙ cross_and (d == s) copy_meets_source gs gs))

  pub image_copy_overlaps : (s l d m : ℕ) (gs : List ImageCopy) → image_copies_overlap s d gs ≡ command_overlaps past (cmd.CopyImage s l d m gs)
  image_copy_overlaps s l d m gs = sym (or-false _ ∙ ap (λ b. b || list_any (λ w. list_any (areas_meet w) (areas_read past (cmd.CopyImage s l d m gs))) (areas_written past (cmd.CopyImage s l d m gs))) (own_pairs d image_copies_meet (λ g. Texels d (destination_box g)) (λ g h. refl) gs)
      ∙ ap (λ b. some_pair image_copies_meet gs || b) (cross_map areas_meet (λ g. Texels d (destination_box g)) (λ g. Texels s (source_box g)) gs gs ∙ cross_and (d == s) image_copy_meets_source gs gs))

  pub clear_overlaps : (i l : ℕ) (color : List ℕ) (rs : List SubresourceRange) → some_pair subresources_meet rs ≡ command_overlaps past (cmd.Clear i l color rs)
  clear_overlaps i l color rs = sym (ap (λ b. (some_pair areas_meet (map (Subresources i) rs) || b) || false) (empty_cross areas_meet (map (Subresources i) rs)) ∙ or-false-false _ ∙ own_pairs i subresources_meet (Subresources i) (λ r s. refl) rs)

  pub copy_in_overlaps : (b i l : ℕ) (gs : List BufferImageCopy) → some_pair regions_meet gs ≡ command_overlaps past (cmd.CopyIn b i l gs)
  copy_in_overlaps b i l gs = sym (ap (λ t. (some_pair areas_meet (map (λ g. Texels i (region_box g)) gs) || t) || false) (go (image past i)) ∙ or-false-false _ ∙ own_pairs i regions_meet (λ g. Texels i (region_box g)) (λ g h. refl) gs) where
    go : (o : Option ImageInfo) → list_any (λ w. list_any (areas_meet w) (elim o [ None ↦ [] | Some m ↦ map (Rows b (texel m.format)) gs ])) (map (λ g. Texels i (region_box g)) gs) ≡ false
    go None = empty_cross areas_meet (map (λ g. Texels i (region_box g)) gs)
    go (Some m) = any_map _ (λ g. Texels i (region_box g)) gs ∙ none_passes_any _ gs (λ g c. any_map (areas_meet (Texels i (region_box g))) (Rows b (texel m.format)) gs ∙ none_passes_any _ gs (λ h d. refl))

  pub copy_out_overlaps : (i l b : ℕ) (gs : List BufferImageCopy) → rows_overlap past i gs ≡ command_overlaps past (cmd.CopyOut i l b gs)
  copy_out_overlaps i l b gs = sym (go (image past i)) where
    go : (o : Option ImageInfo) → (writes_overlap (elim o [ None ↦ [] | Some m ↦ map (Rows b (texel m.format)) gs ]) (map (λ g. Texels i (region_box g)) gs) || false) ≡ holds o (λ m. some_pair (λ g h. rows_meet (texel m.format) g (texel m.format) h) gs)
    go None = refl
    go (Some m) =
        let no_texel : list_any (λ w. list_any (areas_meet w) (map (λ g. Texels i (region_box g)) gs)) (map (Rows b (texel m.format)) gs) ≡ false =
        any_map (λ w. list_any (areas_meet w) (map (λ g. Texels i (region_box g)) gs)) (Rows b (texel m.format)) gs
        ∙ none_passes_any _ gs (λ g c. any_map (areas_meet (Rows b (texel m.format) g)) (λ g. Texels i (region_box g)) gs ∙ none_passes_any _ gs (λ h d. refl)) in
        ap (λ t. (some_pair areas_meet (map (Rows b (texel m.format)) gs) || t) || false) no_texel ∙ or-false-false _ ∙ own_pairs b (λ g h. rows_meet (texel m.format) g (texel m.format) h) (Rows b (texel m.format)) (λ g h. refl) gs
