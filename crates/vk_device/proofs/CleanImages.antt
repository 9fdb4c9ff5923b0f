-- What the rules promise of the commands on images at points that break none.
use Rattle.std.proofs.Common.{◌≡◌, ℕ, ◌+◌, ◌-◌, ◌*◌, ◌<◌, ◌≤◌, List, [], ◌∷◌, ◌++◌, length, map, Bool, true, false, not, ◌&&◌, ◌||◌, ◌==◌, eqb, nat_lt, refl, ap, sym, subst, arith, Option, Some, None}
use Rattle.std.proofs.Math.Nat.{mul-le-mul_right}
use Rattle.std.proofs.lemmas.Bool.{eqb-true, eq-eqb, lt-ltb, and_parts, and_from, or_parts, false_from_ne_true}
use Rattle.std.proofs.lemmas.List.{length-map}
use Rattle.std.proofs.lemmas.List.Elements.{Contains-append_left, Contains-append_right}
use Rattle.std.proofs.lemmas.Map.Steps.{length-le_from_distinct_below}
use Rattle.std.proofs.lemmas.Nat.{mul-add-lt, same_from_place}
use Rattle.std.specs.List.{list_any, AllByRecursion, IsDistinct}
use Rattle.std.specs.Prelude.{Contains, IsTrue, is_some, option_and_then}
use Rattle.vk_model.proofs.Lists.Members.{contains-head, contains-tail, map_has, mapped_from, some_member}
use Rattle.vk_model.proofs.Lists.Truths.{clash}
use Rattle.vk_model.proofs.World.BytePlaces.{common_meets}
use Rattle.vk_model.proofs.Rules.Limits.{within_limit}
use Rattle.vk_model.specs.declared.command.BufferImageCopy.{BufferImageCopy}
use Rattle.vk_model.specs.declared.command.Cmd.{Cmd}
use Rattle.vk_model.specs.declared.command.Cmd.TheVariants as cmd
use Rattle.vk_model.specs.declared.command.ImageCopy.{ImageCopy}
use Rattle.vk_model.specs.declared.command.SubresourceRange.{SubresourceRange}
use Rattle.vk_model.specs.declared.entry.Entry.{Entry}
use Rattle.vk_model.specs.declared.layout.Layout.{Layout}
use Rattle.vk_model.specs.declared.resource.ImageInfo.{ImageInfo}
use Rattle.vk_model.specs.Basics.{holds, some_pair}
use Rattle.vk_model.specs.Memory.Suballocation.{ranges_meet}
use Rattle.vk_model.specs.Rules.Ids.{is_buffer, is_image, asked_by_command}
use Rattle.vk_model.specs.Rules.Ranges.{is_beyond, bad_range, bad_box, bad_area, area_past, region_past, writes_overlap}
use Rattle.vk_model.specs.Trace.Image.{texel, level_width, level_height}
use Rattle.vk_model.specs.Trace.Objects.{image, image_in, made}
use Rattle.vk_model.specs.Trace.Point.{Past, Point, Run}
use Rattle.vk_model.specs.World.Areas.{Area, Rows, Texels, Subresources, Box, region_box, source_box, destination_box, boxes_meet, subresources_meet, areas_meet, areas_read, areas_written, region_rows}
use Rattle.vk_model.specs.World.ByteWrites.{buffer_size, buffer_texel, layer_rows, row_texels}
use Rattle.vk_image_transfer.specs.Pieces.{RangeFits}
use Rattle.vk_image_transfer.specs.Rows.{BoxFits, RegionFits}
use Rattle.vk_laws.proofs.Nodes.Steady.{IsNew}
use Rattle.vk_resources.specs.Fits.{FitsClear, FitsRegions, FitsImages, FitsCommand, KeepsApart}
use Rattle.vk_device.proofs.Unbroken.{BreaksNone, not-false, not_above, none_passes, all_from, areas_inside, command_names, command_overlap, command_format, command_subresource}

-- of two tests that don't both pass, the second fails where the first passes
rest_false : (a b : Bool) → a ≡ true → a && b ≡ false → b ≡ false
rest_false true b is e = e
rest_false false b is e = absurd cc

-- ---- ranges and boxes

-- a range of an image, with a level and a layer
record IsRange (m : ImageInfo) (r : SubresourceRange) : Type 0 where
  some_levels : 0 < r.levels
  some_layers : 0 < r.layers
  levels : r.first_level + r.levels ≤ m.levels
  layers : r.first_layer + r.layers ≤ m.layers

range_is : (m : ImageInfo) (r : SubresourceRange) → bad_range m r ≡ false → IsRange m r
range_is m r e =
    let parts = or_parts (is_beyond m.levels r.first_level r.levels) (is_beyond m.layers r.first_layer r.layers) e in
    let levels = within_limit m.levels r.first_level r.levels parts.0 in
    let layers = within_limit m.layers r.first_layer r.layers parts.1 in
    record { some_levels = levels.0; some_layers = layers.0; levels = levels.1; layers = layers.1 }

box_is : (m : ImageInfo) (k : Box) → bad_box m k ≡ false → BoxFits m k
box_is m k e =
    let three = or_parts (is_beyond m.levels k.level 1 || is_beyond m.layers k.first_layer k.layers || is_beyond (level_width m k.level) k.x k.width) (is_beyond (level_height m k.level) k.y k.height) e in
    let two = or_parts (is_beyond m.levels k.level 1 || is_beyond m.layers k.first_layer k.layers) (is_beyond (level_width m k.level) k.x k.width) three.0 in
    let one = or_parts (is_beyond m.levels k.level 1) (is_beyond m.layers k.first_layer k.layers) two.0 in
    let level = (within_limit m.levels k.level 1 one.0).1 in
    record {
      level = omega (arith, level);
      layers = (within_limit m.layers k.first_layer k.layers one.1).1;
      columns = (within_limit (level_width m k.level) k.x k.width two.1).1;
      rows = (within_limit (level_height m k.level) k.y k.height three.1).1;
    }

-- ---- ranges that don't meet are few

-- the number of a range's first subresource among those of the image
abbrev first_of : ImageInfo → SubresourceRange → ℕ
first_of m r = r.first_level * m.layers + r.first_layer

same_meets : (i : ℕ) (m : ImageInfo) (r q : SubresourceRange) → IsRange m r → IsRange m q → first_of m r ≡ first_of m q → areas_meet (Subresources i r) (Subresources i q) ≡ true
same_meets i m r q is are same =
    let place = same_from_place r.first_level r.first_layer q.first_level q.first_layer m.layers (omega (arith, is.layers, is.some_layers)) (omega (arith, are.layers, are.some_layers)) same in
    let level : r.first_level ≡ q.first_level = place.0 in
    let layer : r.first_layer ≡ q.first_layer = place.1 in
    and_from (i == i) (subresources_meet r q) (eq-eqb i i refl)
    (and_from (ranges_meet r.first_level r.levels q.first_level q.levels) (ranges_meet r.first_layer r.layers q.first_layer q.layers)
    (common_meets r.first_level r.levels q.first_level q.levels r.first_level (omega arith) (omega (arith, is.some_levels)) (omega (arith, level)) (omega (arith, level, are.some_levels)))
    (common_meets r.first_layer r.layers q.first_layer q.layers r.first_layer (omega arith) (omega (arith, is.some_layers)) (omega (arith, layer)) (omega (arith, layer, are.some_layers))))

module _ (i : ℕ) (m : ImageInfo) where
  others : (r : SubresourceRange) (rs : List SubresourceRange) → IsRange m r → ((q : SubresourceRange) → Contains rs q → IsRange m q) → list_any (areas_meet (Subresources i r)) (map (Subresources i) rs) ≡ false
      → AllByRecursion (λ y. eqb (first_of m r) y ≡ false) (map (first_of m) rs)
  others r [] is each apart = tt
  others r (q ∷ rs) is each apart =
      let parts = or_parts (areas_meet (Subresources i r) (Subresources i q)) (list_any (areas_meet (Subresources i r)) (map (Subresources i) rs)) apart in (
        false_from_ne_true (eqb (first_of m r) (first_of m q)) (λ h. clash (same_meets i m r q is (each q (contains-head q rs)) (eqb-true (first_of m r) (first_of m q) h)) parts.0),
        others r rs is (λ x c. each x (contains-tail q rs x c)) parts.1,
      )

  distinct : (rs : List SubresourceRange) → ((q : SubresourceRange) → Contains rs q → IsRange m q) → some_pair areas_meet (map (Subresources i) rs) ≡ false → IsDistinct eqb (map (first_of m) rs)
  unfolding IsDistinct
  distinct [] each apart = tt
  distinct (r ∷ rs) each apart =
      let parts = or_parts (list_any (areas_meet (Subresources i r)) (map (Subresources i) rs)) (some_pair areas_meet (map (Subresources i) rs)) apart in
      (others r rs (each r (contains-head r rs)) (λ x c. each x (contains-tail r rs x c)) parts.0, distinct rs (λ x c. each x (contains-tail r rs x c)) parts.1)

  few_ranges : (rs : List SubresourceRange) → ((q : SubresourceRange) → Contains rs q → IsRange m q) → some_pair areas_meet (map (Subresources i) rs) ≡ false → length rs ≤ m.levels * m.layers
  few_ranges rs each apart =
      let few : length (map (first_of m) rs) ≤ m.layers * m.levels = length-le_from_distinct_below (map (first_of m) rs) (m.layers * m.levels) (distinct rs each apart) (λ q h. low q h) in
      let same : length (map (first_of m) rs) ≡ length rs = length-map rs (first_of m) in
      omega (arith, few, same)
    where
      low : (q : ℕ) → list_any (eqb q) (map (first_of m) rs) ≡ true → q < m.layers * m.levels
      low q h =
          let at = some_member (eqb q) (map (first_of m) rs) h in
          let r = mapped_from (first_of m) rs at.0 at.1 in
          let is = each r.0 r.1 in
          let below : first_of m r.0 < m.layers * m.levels = mul-add-lt r.0.first_level m.layers r.0.first_layer m.levels (omega (arith, is.levels, is.some_levels)) (omega (arith, is.layers, is.some_layers)) in
          omega (arith, below, r.2, eqb-true q at.0 at.2)

-- ---- regions in a buffer

-- a texel of a region begins no later than the last one, which ends in the buffer
region_fits : (g : BufferImageCopy) (t size : ℕ) → region_past size t g ≡ false → RegionFits g t size
region_fits g t size e z y x p z_there y_there x_there p_there =
    let some : nat_lt 0 g.layers && nat_lt 0 g.height && nat_lt 0 g.width ≡ true = and_from _ _ (and_from _ _ (lt-ltb 0 g.layers (omega (arith, z_there))) (lt-ltb 0 g.height (omega (arith, y_there)))) (lt-ltb 0 g.width (omega (arith, x_there))) in
    let ends : buffer_texel g t (g.layers - 1) (g.height - 1) (g.width - 1) t ≤ size = not_above size (buffer_texel g t (g.layers - 1) (g.height - 1) (g.width - 1) t)
    (rest_false (nat_lt 0 g.layers && nat_lt 0 g.height && nat_lt 0 g.width) (nat_lt size (buffer_texel g t (g.layers - 1) (g.height - 1) (g.width - 1) t)) some e) in
    let layers : z * layer_rows g ≤ (g.layers - 1) * layer_rows g = mul-le-mul_right (layer_rows g) (let le : z ≤ g.layers - 1 = omega (arith, z_there) in le) in
    let rows : (z * layer_rows g + y) * row_texels g ≤ ((g.layers - 1) * layer_rows g + (g.height - 1)) * row_texels g =
    mul-le-mul_right (row_texels g) (let le : z * layer_rows g + y ≤ (g.layers - 1) * layer_rows g + (g.height - 1) = omega (arith, layers, y_there) in le) in
    let texels : ((z * layer_rows g + y) * row_texels g + x) * t ≤ (((g.layers - 1) * layer_rows g + (g.height - 1)) * row_texels g + (g.width - 1)) * t =
    mul-le-mul_right t (let le : (z * layer_rows g + y) * row_texels g + x ≤ ((g.layers - 1) * layer_rows g + (g.height - 1)) * row_texels g + (g.width - 1) = omega (arith, rows, x_there) in le) in
    below_end g.buffer_offset (((z * layer_rows g + y) * row_texels g + x) * t) ((((g.layers - 1) * layer_rows g + (g.height - 1)) * row_texels g + (g.width - 1)) * t) p t size texels p_there ends
  where
    below_end : (o a b p t size : ℕ) → a ≤ b → p < t → o + b + t ≤ size → o + a + p < size
    below_end o a b p t size le lt ends = omega arith

-- ---- boxes of one image

meets_turned : (a n b m : ℕ) → ranges_meet a n b m ≡ true → ranges_meet b m a n ≡ true
meets_turned a n b m e =
    let three = and_parts (nat_lt 0 n && nat_lt 0 m && nat_lt a (b + m)) (nat_lt b (a + n)) e in
    let two = and_parts (nat_lt 0 n && nat_lt 0 m) (nat_lt a (b + m)) three.0 in
    let one = and_parts (nat_lt 0 n) (nat_lt 0 m) two.0 in
    and_from _ _ (and_from _ _ (and_from _ _ one.1 one.0) three.1) two.1

boxes_turned : (k l : Box) → boxes_meet l k ≡ false → boxes_meet k l ≡ false
boxes_turned k l apart = false_from_ne_true (boxes_meet k l) (λ e. clash (turned e) apart)
  where
    turned : boxes_meet k l ≡ true → boxes_meet l k ≡ true
    turned e =
        let three = and_parts (k.level == l.level && ranges_meet k.first_layer k.layers l.first_layer l.layers && ranges_meet k.x k.width l.x l.width) (ranges_meet k.y k.height l.y l.height) e in
        let two = and_parts (k.level == l.level && ranges_meet k.first_layer k.layers l.first_layer l.layers) (ranges_meet k.x k.width l.x l.width) three.0 in
        let one = and_parts (k.level == l.level) (ranges_meet k.first_layer k.layers l.first_layer l.layers) two.0 in
        and_from _ _ (and_from _ _ (and_from _ _ (eq-eqb l.level k.level (sym (eqb-true k.level l.level one.0))) (meets_turned k.first_layer k.layers l.first_layer l.layers one.1)) (meets_turned k.x k.width l.x l.width two.1)) (meets_turned k.y k.height l.y l.height three.1)

-- ---- the commands

-- the areas that a copy between images reads, and those that it writes
abbrev reads_of : ℕ → List ImageCopy → List Area
reads_of s gs = map (λ g. Texels s (source_box g)) gs

abbrev writes_of : ℕ → List ImageCopy → List Area
writes_of d gs = map (λ g. Texels d (destination_box g)) gs

-- an image that was made
made_image : (past : Past) (i : ℕ) (x : Entry) → made past i ≡ Some x → IsTrue (is_image x) → (m : ImageInfo) × (image past i ≡ Some m)
made_image past i x is kind = go (image_in x) (ap (option_and_then image_in) is) kind
  where
    go : (o : Option ImageInfo) → image past i ≡ o → IsTrue (is_some o) → (m : ImageInfo) × (image past i ≡ Some m)
    go None e h = absurd cc
    go (Some m) e h = (m, e)

module _ (past : Past) (p : Point) (new : IsNew past) (none : BreaksNone past p) where
  image_there : (c : Cmd) (i : ℕ) → p.action ≡ Run c → Contains (asked_by_command c) (i, is_image) → (m : ImageInfo) × (image past i ≡ Some m)
  image_there c i is asked = let x = command_names past p none new c i is_image is asked in made_image past i x.0 x.1 x.2

  -- no area of a command is outside its image
  area_good : (c : Cmd) → p.action ≡ Run c → (a : Area) → Contains (areas_read past c ++ areas_written past c) a → bad_area past a ≡ false
  area_good c is a among = none_passes (bad_area past) (areas_read past c ++ areas_written past c) (or_parts _ _ (command_subresource past p none c is)).0 a among

  -- and none is past its buffer
  area_ends : (c : Cmd) → p.action ≡ Run c → (a : Area) → Contains (areas_read past c ++ areas_written past c) a → area_past past a ≡ false
  area_ends c is a among = none_passes (area_past past) (areas_read past c ++ areas_written past c) (areas_inside past p c is none) a among

  of_image : (i : ℕ) (m : ImageInfo) → image past i ≡ Some m → (test : ImageInfo → Bool) → holds (image past i) test ≡ false → test m ≡ false
  of_image i m is test e = subst (λ (o : Option ImageInfo). holds o test ≡ false) is e

  pub clear_point : (i : ℕ) (l : Layout) (color : List ℕ) (rs : List SubresourceRange) → p.action ≡ Run (cmd.Clear i l color rs) → FitsCommand past (cmd.Clear i l color rs)
  clear_point i l color rs is =
      let m = image_there (cmd.Clear i l color rs) i is (contains-head (i, is_image) []) in
      let apart = or_parts (writes_overlap (areas_written past (cmd.Clear i l color rs)) (areas_read past (cmd.Clear i l color rs))) _ (command_overlap past p none (cmd.Clear i l color rs) is) in
      let pairs = (or_parts (some_pair areas_meet (map (Subresources i) rs)) _ apart.0).0 in
      let each : (r : SubresourceRange) → Contains rs r → IsRange m.0 r =
      λ r among. range_is m.0 r (of_image i m.0 m.1 (λ n. bad_range n r) (area_good (cmd.Clear i l color rs) is (Subresources i r) (map_has (Subresources i) rs r among))) in
      subst (λ (o : Option ImageInfo). FitsClear o rs) (sym m.1)
      (all_from (RangeFits m.0) rs (λ r among. let q = each r among in (q.levels, q.layers)), few_ranges i m.0 rs each pairs)

  -- regions of a copy between a buffer and an image
  regions_fit : (c : Cmd) → p.action ≡ Run c → (b i : ℕ) (m : ImageInfo) → image past i ≡ Some m → (gs : List BufferImageCopy) → ((g : BufferImageCopy) → Contains gs g → Contains (areas_read past c ++ areas_written past c) (Texels i (region_box g)))
      → ((g : BufferImageCopy) → Contains gs g → Contains (areas_read past c ++ areas_written past c) (Rows b (texel m.format) g)) → FitsRegions (image past i) (buffer_size past b) gs
  regions_fit c is b i m made gs boxes rows = subst (λ (o : Option ImageInfo). FitsRegions o (buffer_size past b) gs) (sym made)
      (all_from (λ g. BoxFits m (region_box g) × RegionFits g (texel m.format) (buffer_size past b)) gs (λ g among. (
        box_is m (region_box g) (of_image i m made (λ n. bad_box n (region_box g)) (area_good c is (Texels i (region_box g)) (boxes g among))),
        region_fits g (texel m.format) (buffer_size past b) (area_ends c is (Rows b (texel m.format) g) (rows g among)),
      )))

  rows_are : (b i : ℕ) (m : ImageInfo) → image past i ≡ Some m → (gs : List BufferImageCopy) → region_rows past b i gs ≡ map (Rows b (texel m.format)) gs
  rows_are b i m made gs = ap (λ (o : Option ImageInfo). elim o [ None ↦ [] | Some n ↦ map (Rows b (texel n.format)) gs ]) made

  pub copy_in_point : (b i : ℕ) (l : Layout) (gs : List BufferImageCopy) → p.action ≡ Run (cmd.CopyIn b i l gs) → FitsCommand past (cmd.CopyIn b i l gs)
  copy_in_point b i l gs is =
      let m = image_there (cmd.CopyIn b i l gs) i is (contains-tail (b, is_buffer) ((i, is_image) ∷ []) (i, is_image) (contains-head (i, is_image) [])) in
      regions_fit (cmd.CopyIn b i l gs) is b i m.0 m.1 gs
      (λ g among. Contains-append_right (region_rows past b i gs) (map (λ g. Texels i (region_box g)) gs) (Texels i (region_box g)) (map_has (λ g. Texels i (region_box g)) gs g among))
      (λ g among. Contains-append_left (region_rows past b i gs) (map (λ g. Texels i (region_box g)) gs) (Rows b (texel m.0.format) g)
      (subst (λ (as' : List Area). Contains as' (Rows b (texel m.0.format) g)) (sym (rows_are b i m.0 m.1 gs)) (map_has (Rows b (texel m.0.format)) gs g among)))

  pub copy_out_point : (i b : ℕ) (l : Layout) (gs : List BufferImageCopy) → p.action ≡ Run (cmd.CopyOut i l b gs) → FitsCommand past (cmd.CopyOut i l b gs)
  copy_out_point i b l gs is =
      let m = image_there (cmd.CopyOut i l b gs) i is (contains-head (i, is_image) ((b, is_buffer) ∷ [])) in
      regions_fit (cmd.CopyOut i l b gs) is b i m.0 m.1 gs
      (λ g among. Contains-append_left (map (λ g. Texels i (region_box g)) gs) (region_rows past b i gs) (Texels i (region_box g)) (map_has (λ g. Texels i (region_box g)) gs g among))
      (λ g among. Contains-append_right (map (λ g. Texels i (region_box g)) gs) (region_rows past b i gs) (Rows b (texel m.0.format) g)
      (subst (λ (as' : List Area). Contains as' (Rows b (texel m.0.format) g)) (sym (rows_are b i m.0 m.1 gs)) (map_has (Rows b (texel m.0.format)) gs g among)))

  pub copy_image_point : (s d : ℕ) (l t : Layout) (gs : List ImageCopy) → p.action ≡ Run (cmd.CopyImage s l d t gs) → FitsCommand past (cmd.CopyImage s l d t gs)
  copy_image_point s d l t gs is =
      let a = image_there (cmd.CopyImage s l d t gs) s is (contains-head (s, is_image) ((d, is_image) ∷ [])) in
      let b = image_there (cmd.CopyImage s l d t gs) d is (contains-tail (s, is_image) ((d, is_image) ∷ []) (d, is_image) (contains-head (d, is_image) [])) in
      let differ = of_image d b.0 b.1 (λ n. not (texel a.0.format == texel n.format)) (of_image s a.0 a.1 (λ m. holds (image past d) (λ n. not (texel m.format == texel n.format))) (command_format past p none (cmd.CopyImage s l d t gs) is)) in
      let texels : texel a.0.format ≡ texel b.0.format = eqb-true (texel a.0.format) (texel b.0.format) (not-false (texel a.0.format == texel b.0.format) differ) in
      subst (λ (o : Option ImageInfo). FitsImages s d o (image past d) gs) (sym a.1) (subst (λ (o : Option ImageInfo). FitsImages s d (Some a.0) o gs) (sym b.1) (
        texels,
        all_from (λ g. BoxFits a.0 (source_box g) × BoxFits b.0 (destination_box g) × KeepsApart s d g) gs (λ g among. (
          box_is a.0 (source_box g) (of_image s a.0 a.1 (λ n. bad_box n (source_box g)) (area_good (cmd.CopyImage s l d t gs) is (Texels s (source_box g)) (Contains-append_left (reads_of s gs) (writes_of d gs) (Texels s (source_box g)) (read g among)))),
          box_is b.0 (destination_box g) (of_image d b.0 b.1 (λ n. bad_box n (destination_box g)) (area_good (cmd.CopyImage s l d t gs) is (Texels d (destination_box g)) (Contains-append_right (reads_of s gs) (writes_of d gs) (Texels d (destination_box g)) (written g among)))),
          λ same. boxes_turned (source_box g) (destination_box g) (apart g among same),
        )),
      ))
    where
      read : (g : ImageCopy) → Contains gs g → Contains (reads_of s gs) (Texels s (source_box g))
      read g among = map_has (λ g. Texels s (source_box g)) gs g among

      written : (g : ImageCopy) → Contains gs g → Contains (writes_of d gs) (Texels d (destination_box g))
      written g among = map_has (λ g. Texels d (destination_box g)) gs g among

      -- what is written in an image isn't read there
      apart : (g : ImageCopy) → Contains gs g → s ≡ d → boxes_meet (destination_box g) (source_box g) ≡ false
      apart g among same =
          let overlap = (or_parts (writes_overlap (writes_of d gs) (reads_of s gs)) _ (command_overlap past p none (cmd.CopyImage s l d t gs) is)).0 in
          let crossed = (or_parts (some_pair areas_meet (writes_of d gs)) (list_any (λ w. list_any (areas_meet w) (reads_of s gs)) (writes_of d gs)) overlap).1 in
          let one = none_passes (λ w. list_any (areas_meet w) (reads_of s gs)) (writes_of d gs) crossed (Texels d (destination_box g)) (written g among) in
          let two = none_passes (areas_meet (Texels d (destination_box g))) (reads_of s gs) one (Texels s (source_box g)) (read g among) in
          rest_false (d == s) (boxes_meet (destination_box g) (source_box g)) (eq-eqb d s (sym same)) two
