-- What commands name past the ends of buffers, form by form.
use Rattle.std.proofs.Common.{◌≡◌, ◌+◌, ℕ, List, [], ◌++◌, map, length, Bool, true, false, ◌||◌, refl, ap, ◌∙◌, Option, Some, None}
use Rattle.std.specs.Prelude.{nat_lt}
use Rattle.std.specs.List.{list_any}
use Rattle.std.proofs.Math.Bool.{or-false}
use Rattle.std.proofs.lemmas.List.Folds.{list_any-append}
use Rattle.vk_model.specs.declared.command.BufferCopy.{BufferCopy}
use Rattle.vk_model.specs.declared.command.BufferImageCopy.{BufferImageCopy}
use Rattle.vk_model.specs.declared.command.ImageCopy.{ImageCopy}
use Rattle.vk_model.specs.declared.command.Cmd.TheVariants as cmd
use Rattle.vk_model.specs.declared.command.Element.{Element}
use Rattle.vk_model.specs.declared.command.SubresourceRange.{SubresourceRange}
use Rattle.vk_model.specs.declared.resource.ImageInfo.{ImageInfo}
use Rattle.vk_model.specs.Basics.{holds}
use Rattle.vk_model.specs.Trace.Image.{texel}
use Rattle.vk_model.specs.Trace.Point.{Past}
use Rattle.vk_model.specs.Trace.Objects.{image}
use Rattle.vk_model.specs.World.Areas.{Area, Bytes, Rows, Texels, Subresources, region_box, source_box, destination_box, region_rows}
use Rattle.vk_model.specs.World.ByteWrites.{buffer_size}
use Rattle.vk_model.specs.Rules.Ranges.{command_past, area_past, element_past, region_past, is_short}
use Rattle.vk_model.proofs.Lists.Members.{any_map}
use Rattle.vk_model.proofs.Lists.Truths.{or-false-false}
use Rattle.vk_laws.proofs.Forms.Areas.{no_areas}

module _ (past : Past) where
  -- the rows of regions reach past it where there is such an image
  rows_past : (b i : ℕ) (gs : List BufferImageCopy) → list_any (area_past past) (region_rows past b i gs) ≡ holds (image past i) (λ m. list_any (region_past (buffer_size past b) (texel m.format)) gs)
  rows_past b i gs = go (image past i) where
    go : (o : Option ImageInfo) → list_any (area_past past) (elim o as (λ _. List Area) [ None ↦ [] | Some m ↦ map (Rows b (texel m.format)) gs ]) ≡ holds o (λ m. list_any (region_past (buffer_size past b) (texel m.format)) gs)
    go None = refl
    go (Some m) = any_map (area_past past) (Rows b (texel m.format)) gs

  none_before : (a b : Bool) → a ≡ false → (a || b) ≡ b
  none_before a b none = rw none refl

  none_after : (a b : Bool) → b ≡ false → (a || b) ≡ a
  none_after a b none = rw none (or-false a)

  no_more : (b : Bool) → (((b || false) || false) || false) ≡ b
  no_more true = refl
  no_more false = refl

  pub update_past : (b o : ℕ) (bytes : List ℕ) → command_past past (cmd.Update b o bytes) ≡ nat_lt (buffer_size past b) (o + length bytes)
  update_past b o bytes = no_more _ ∙ or-false (nat_lt (buffer_size past b) (o + length bytes))

  pub copy_past : (s d : ℕ) (gs : List BufferCopy) → command_past past (cmd.Copy s d gs) ≡ (list_any (λ g. nat_lt (buffer_size past s) (g.source_offset + g.size)) gs || list_any (λ g. nat_lt (buffer_size past d) (g.destination_offset + g.size)) gs)
  copy_past s d gs =
      let read : BufferCopy → Area = λ g. Bytes s g.source_offset g.size in
      let written : BufferCopy → Area = λ g. Bytes d g.destination_offset g.size in
      no_more _ ∙ list_any-append (area_past past) (map read gs) (map written gs) ∙ ap (λ b. b || list_any (area_past past) (map written gs)) (any_map (area_past past) read gs)
      ∙ ap (λ b. list_any (λ g. area_past past (read g)) gs || b) (any_map (area_past past) written gs)

  pub clear_past : (i l : ℕ) (color : List ℕ) (rs : List SubresourceRange) → command_past past (cmd.Clear i l color rs) ≡ false
  clear_past i l color rs = no_more _ ∙ no_areas (area_past past) (Subresources i) (λ r. refl) rs

  copies_past : (areas : List Area) (gs : List BufferImageCopy) (b i : ℕ) → list_any (area_past past) areas ≡ list_any (area_past past) (region_rows past b i gs)
      → (((list_any (area_past past) areas || false) || false) || list_any is_short gs) ≡ (holds (image past i) (λ m. list_any (region_past (buffer_size past b) (texel m.format)) gs) || list_any is_short gs)
  copies_past areas gs b i are = ap (λ b. b || list_any is_short gs) (or-false-false _ ∙ are ∙ rows_past b i gs)

  pub copy_in_past : (b i l : ℕ) (gs : List BufferImageCopy) → command_past past (cmd.CopyIn b i l gs) ≡ (holds (image past i) (λ m. list_any (region_past (buffer_size past b) (texel m.format)) gs) || list_any is_short gs)
  copy_in_past b i l gs = copies_past (region_rows past b i gs ++ map (λ g. Texels i (region_box g)) gs) gs b i
      (list_any-append (area_past past) (region_rows past b i gs) (map (λ g. Texels i (region_box g)) gs) ∙ none_after _ _ (no_areas (area_past past) (λ g. Texels i (region_box g)) (λ g. refl) gs))

  pub copy_out_past : (i l b : ℕ) (gs : List BufferImageCopy) → command_past past (cmd.CopyOut i l b gs) ≡ (holds (image past i) (λ m. list_any (region_past (buffer_size past b) (texel m.format)) gs) || list_any is_short gs)
  copy_out_past i l b gs = copies_past (map (λ g. Texels i (region_box g)) gs ++ region_rows past b i gs) gs b i
      (list_any-append (area_past past) (map (λ g. Texels i (region_box g)) gs) (region_rows past b i gs) ∙ none_before _ _ (no_areas (area_past past) (λ g. Texels i (region_box g)) (λ g. refl) gs))

  pub copy_image_past : (s l d m : ℕ) (gs : List ImageCopy) → command_past past (cmd.CopyImage s l d m gs) ≡ false
  copy_image_past s l d m gs =
      no_more _ ∙ list_any-append (area_past past) (map (λ g. Texels s (source_box g)) gs) (map (λ g. Texels d (destination_box g)) gs)
      ∙ none_before _ _ (no_areas (area_past past) (λ g. Texels s (source_box g)) (λ g. refl) gs) ∙ no_areas (area_past past) (λ g. Texels d (destination_box g)) (λ g. refl) gs

  pub barrier_past : (es : List Element) → command_past past (cmd.Barrier es) ≡ list_any (element_past past) es
  barrier_past es = or-false (list_any (element_past past) es)
