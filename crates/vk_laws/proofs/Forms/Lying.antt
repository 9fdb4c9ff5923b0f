-- What commands name outside images, form by form.
use Rattle.std.proofs.Common.{◌≡◌, ℕ, List, [], map, Bool, false, ◌||◌, refl, ap, ◌∙◌, Option, Some, None}
use Rattle.std.specs.List.{list_any}
use Rattle.std.proofs.Math.Bool.{or-false}
use Rattle.std.proofs.lemmas.List.Folds.{list_any-append}
use Rattle.vk_model.specs.declared.command.BufferCopy.{BufferCopy}
use Rattle.vk_model.specs.declared.command.BufferImageCopy.{BufferImageCopy}
use Rattle.vk_model.specs.declared.command.Cmd.TheVariants as cmd
use Rattle.vk_model.specs.declared.command.ImageCopy.{ImageCopy}
use Rattle.vk_model.specs.declared.command.SubresourceRange.{SubresourceRange}
use Rattle.vk_model.specs.declared.resource.ImageInfo.{ImageInfo}
use Rattle.vk_model.specs.Basics.{holds}
use Rattle.vk_model.specs.Trace.Image.{texel}
use Rattle.vk_model.specs.Trace.Point.{Past}
use Rattle.vk_model.specs.Trace.Objects.{image}
use Rattle.vk_model.specs.World.Areas.{Area, Box, Bytes, Rows, Texels, Subresources, region_box, source_box, destination_box, region_rows}
use Rattle.vk_model.specs.Rules.Ranges.{bad_subresource, bad_area, bad_box, bad_range}
use Rattle.vk_model.proofs.Lists.Members.{any_map}
use Rattle.vk_laws.proofs.Forms.Areas.{never, no_areas}

-- an image, where there is one, is asked once
held : {A : Type 0} (o : Option ImageInfo) (test : ImageInfo → A → Bool) (xs : List A) → list_any (λ x. holds o (λ m. test m x)) xs ≡ holds o (λ m. list_any (test m) xs)
held None test xs = never (λ x. holds None (λ m. test m x)) (λ x. refl) xs
held (Some m) test xs = refl

module _ (past : Past) where
  no_rows : (b i : ℕ) (gs : List BufferImageCopy) → list_any (bad_area past) (region_rows past b i gs) ≡ false
  no_rows b i gs = go (image past i) where
    go : (o : Option ImageInfo) → list_any (bad_area past) (elim o as (λ _. List Area) [ None ↦ [] | Some m ↦ map (Rows b (texel m.format)) gs ]) ≡ false
    go None = refl
    go (Some m) = no_areas (bad_area past) (Rows b (texel m.format)) (λ g. refl) gs

  boxes_out : {A : Type 0} (i : ℕ) (of : A → Box) (gs : List A) → list_any (bad_area past) (map (λ g. Texels i (of g)) gs) ≡ holds (image past i) (λ m. list_any (λ g. bad_box m (of g)) gs)
  boxes_out i of gs = any_map (bad_area past) (λ g. Texels i (of g)) gs ∙ held (image past i) (λ m g. bad_box m (of g)) gs

  pub copy_out : (s d : ℕ) (gs : List BufferCopy) → bad_subresource past (cmd.Copy s d gs) ≡ false
  copy_out s d gs =
      let read : BufferCopy → Area = λ g. Bytes s g.source_offset g.size in
      let written : BufferCopy → Area = λ g. Bytes d g.destination_offset g.size in
      or-false _ ∙ list_any-append (bad_area past) (map read gs) (map written gs) ∙ ap (λ b. b || list_any (bad_area past) (map written gs)) (no_areas (bad_area past) read (λ g. refl) gs) ∙ no_areas (bad_area past) written (λ g. refl) gs

  pub clear_out : (i l : ℕ) (color : List ℕ) (rs : List SubresourceRange) → bad_subresource past (cmd.Clear i l color rs) ≡ holds (image past i) (λ m. list_any (bad_range m) rs)
  clear_out i l color rs = or-false _ ∙ any_map (bad_area past) (Subresources i) rs ∙ held (image past i) bad_range rs

  pub copy_in_out : (b i l : ℕ) (gs : List BufferImageCopy) → bad_subresource past (cmd.CopyIn b i l gs) ≡ holds (image past i) (λ m. list_any (λ g. bad_box m (region_box g)) gs)
  copy_in_out b i l gs =
      let boxes : List Area = map (λ g. Texels i (region_box g)) gs in
      or-false _ ∙ list_any-append (bad_area past) (region_rows past b i gs) boxes ∙ ap (λ b. b || list_any (bad_area past) boxes) (no_rows b i gs) ∙ boxes_out i region_box gs

  pub copy_out_out : (i l b : ℕ) (gs : List BufferImageCopy) → bad_subresource past (cmd.CopyOut i l b gs) ≡ holds (image past i) (λ m. list_any (λ g. bad_box m (region_box g)) gs)
  copy_out_out i l b gs =
      let boxes : List Area = map (λ g. Texels i (region_box g)) gs in
      or-false _ ∙ list_any-append (bad_area past) boxes (region_rows past b i gs) ∙ ap (λ b. list_any (bad_area past) boxes || b) (no_rows b i gs) ∙ or-false _ ∙ boxes_out i region_box gs

  pub copy_image_out : (s l d m : ℕ) (gs : List ImageCopy) → bad_subresource past (cmd.CopyImage s l d m gs) ≡ (holds (image past s) (λ m. list_any (λ g. bad_box m (source_box g)) gs) || holds (image past d) (λ m. list_any (λ g. bad_box m (destination_box g)) gs))
  copy_image_out s l d m gs =
      let read : List Area = map (λ g. Texels s (source_box g)) gs in
      let written : List Area = map (λ g. Texels d (destination_box g)) gs in
      or-false _ ∙ list_any-append (bad_area past) read written ∙ ap (λ b. b || list_any (bad_area past) written) (boxes_out s source_box gs) ∙ ap (λ b. holds (image past s) (λ m. list_any (λ g. bad_box m (source_box g)) gs) || b) (boxes_out d destination_box gs)
