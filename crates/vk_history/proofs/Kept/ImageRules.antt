-- What points that break no rule say of the images that they make or name.
use Rattle.std.proofs.Common.{◌≡◌, ◌≤◌, ◌<◌, ◌+◌, ◌/◌, ◌*◌, ◌^◌, ℕ, cond, nat_lt, List, [], ◌∷◌, ◌++◌, map, Bool, true, false, not, ◌||◌, ◌==◌, refl, ap, sym, ◌∙◌, subst, arith, Option, Some, None}
use Rattle.std.specs.Prelude.{Contains, is_some, option_and_then}
use Rattle.std.specs.List.{list_any, find, cons_option}
use Rattle.std.proofs.lemmas.Bool.{or_parts, ltb-false, eqb-true, not-false}
use Rattle.std.proofs.lemmas.List.Folds.{list_any-append}
use Rattle.vk_model.specs.declared.command.BufferImageCopy.{BufferImageCopy}
use Rattle.vk_model.specs.declared.command.Cmd.{Cmd}
use Rattle.vk_model.specs.declared.command.Cmd.TheVariants as cmd
use Rattle.vk_model.specs.declared.command.ImageCopy.{ImageCopy}
use Rattle.vk_model.specs.declared.entry.Entry.{Entry}
use Rattle.vk_model.specs.declared.entry.Entry.TheVariants as entry
use Rattle.vk_model.specs.declared.resource.BufferInfo.{BufferInfo}
use Rattle.vk_model.specs.declared.resource.ImageInfo.{ImageInfo}
use Rattle.vk_model.specs.declared.rule.Rule.TheVariants as rule
use Rattle.vk_model.specs.Basics.{holds}
use Rattle.vk_model.specs.Trace.Image.{texel}
use Rattle.vk_model.specs.Trace.Objects.{made, made_by, image, image_in, buffer, buffer_in}
use Rattle.vk_model.specs.Trace.Point.{Past, Point, Action, Host, Wait, Run, Signal, entries, host_of, command_of}
use Rattle.vk_model.specs.World.Areas.{Area, Box, Rows, Texels, areas_read, areas_written, region_rows, region_box, source_box, destination_box}
use Rattle.vk_model.specs.World.ByteWrites.{buffer_size}
use Rattle.vk_model.specs.Rules.Ranges.{bad_area, bad_box, bad_subresource, area_past, command_past, host_past, region_past, texels_differ}
use Rattle.vk_model.specs.Rules.Sizes.{bad_image, bad_entry_size, bad_memory_size}
use Rattle.vk_model.specs.Rules.Table.{fault, breaks}
use Rattle.vk_model.proofs.Lists.Members.{map_has}
use Rattle.vk_model.proofs.Lists.Failing.{fails}
use Rattle.vk_image_bytes.specs.Copies.{AreInside, AreBetween}
use Rattle.vk_history.proofs.Kept.NextPoint.{IsWithin, unbroken, fault_rest}

-- ---- what was made

-- a point without a fault makes what has a good size
sized_now : (past : Past) (p : Point) → fault (p ∷ past) ≡ None → (x : Entry) → p.action ≡ Host x → (bad_entry_size x ≡ false) × (bad_memory_size x ≡ false)
unfolding breaks
sized_now past p clean x is =
    let size : (bad_entry_size x || false) ≡ false = rw is at (unbroken past p clean rule.Size) in
    let memory : bad_memory_size x ≡ false = rw is at (unbroken past p clean rule.MemorySize) in
    ((or_parts (bad_entry_size x) false size).0, memory)

-- so what was made has one
made_sized : (past : Past) → fault past ≡ None → (i : ℕ) (x : Entry) → made past i ≡ Some x → (bad_entry_size x ≡ false) × (bad_memory_size x ≡ false)
made_sized [] clean i x is = absurd cc
made_sized (p ∷ past) clean i x is = go p.action refl is (made_sized past (fault_rest past p clean) i x) where
  go : (d : Action) → p.action ≡ d → find (λ y. holds (made_by y) (λ j. i == j)) (cons_option (host_of d) (entries past)) ≡ Some x → (made past i ≡ Some x → (bad_entry_size x ≡ false) × (bad_memory_size x ≡ false)) → (bad_entry_size x ≡ false) × (bad_memory_size x ≡ false)
  go (Host y) e h rest = pick (holds (made_by y) (λ j. i == j)) h where
    pick : (t : Bool) → cond t (Some y) (made past i) ≡ Some x → (bad_entry_size x ≡ false) × (bad_memory_size x ≡ false)
    pick true h = let same : y ≡ x = cc in sized_now past p clean x (e ∙ ap Host same)
    pick false h = rest h
  go (Wait s) e h rest = rest h
  go (Run c) e h rest = rest h
  go (Signal s) e h rest = rest h

image_shape : (x : Entry) (m : ImageInfo) → image_in x ≡ Some m → bad_entry_size x ≡ bad_image m
image_shape (entry.Image i n) m e = let same : n ≡ m = cc in ap bad_image same
image_shape _ m e = absurd cc

buffer_bytes : (x : Entry) (b : BufferInfo) → buffer_in x ≡ Some b → bad_memory_size x ≡ nat_lt 67108864 ((b.size + 15) / 16 * 16)
buffer_bytes (entry.Buffer i c) b e = let same : c ≡ b = cc in ap (λ (b : BufferInfo). nat_lt 67108864 ((b.size + 15) / 16 * 16)) same
buffer_bytes _ b e = absurd cc

-- an image that is made has a shape that breaks no rule
pub made_good : (past : Past) (p : Point) → fault (p ∷ past) ≡ None → (i : ℕ) (m : ImageInfo) → p.action ≡ Host (entry.Image i m) → bad_image m ≡ false
made_good past p clean i m is = (sized_now past p clean (entry.Image i m) is).0

module _ (past : Past) (clean : fault past ≡ None) where
  -- an image has a shape that breaks no rule
  pub image_good : (i : ℕ) (m : ImageInfo) → image past i ≡ Some m → bad_image m ≡ false
  image_good i m is = go (made past i) refl is where
    go : (o : Option Entry) → made past i ≡ o → option_and_then image_in o ≡ Some m → bad_image m ≡ false
    go None e h = absurd cc
    go (Some x) e h = sym (image_shape x m h) ∙ (made_sized past clean i x e).0

  -- a buffer has not too many bytes
  pub buffer_small : (b : ℕ) → is_some (buffer past b) ≡ true → buffer_size past b < 2 ^ 64
  buffer_small b there = go (made past b) refl there where
    bounded : (c : BufferInfo) → (c.size + 15) / 16 * 16 ≤ 67108864 → c.size < 2 ^ 64
    bounded c le = omega (arith, le)

    from : (x : Entry) → made past b ≡ Some x → (o : Option BufferInfo) → buffer_in x ≡ o → is_some o ≡ true → (let n : ℕ = elim o [ None ↦ 0 | Some c ↦ c.size ] in n) < 2 ^ 64
    from x e None is h = absurd cc
    from x e (Some c) is h = bounded c (ltb-false 67108864 ((c.size + 15) / 16 * 16) (sym (buffer_bytes x c is) ∙ (made_sized past clean b x e).1))

    go : (o : Option Entry) → made past b ≡ o → is_some (option_and_then buffer_in o) ≡ true → buffer_size past b < 2 ^ 64
    go None e h = absurd cc
    go (Some x) e h = subst (λ (o : Option Entry). (let n : ℕ = elim (option_and_then buffer_in o) [ None ↦ 0 | Some c ↦ c.size ] in n) < 2 ^ 64) (sym e) (from x e (buffer_in x) refl h)

-- ---- what commands reach of images

module _ (past : Past) (p : Point) (fit : IsWithin past p) (c : Cmd) (is : p.action ≡ Run c) where
  -- the areas that it reads and writes lie in images and buffers
  good_areas : list_any (bad_area past) (areas_read past c ++ areas_written past c) ≡ false
  good_areas = (or_parts _ _ (subst (λ (d : Action). holds (command_of d) (bad_subresource past) ≡ false) is fit.subresource)).0

  near_areas : list_any (area_past past) (areas_read past c ++ areas_written past c) ≡ false
  near_areas =
      let whole : command_past past c ≡ false = subst (λ (d : Action). (holds (host_of d) (host_past past) || holds (command_of d) (command_past past)) ≡ false) is fit.range in
      (or_parts _ _ (or_parts _ _ (or_parts _ _ whole).0).0).0

  parts : (test : Area → Bool) → list_any test (areas_read past c ++ areas_written past c) ≡ false → (list_any test (areas_read past c) ≡ false) × (list_any test (areas_written past c) ≡ false)
  parts test none = or_parts (list_any test (areas_read past c)) (list_any test (areas_written past c)) (sym (list_any-append test (areas_read past c) (areas_written past c)) ∙ none)

  pub read_good : (i : ℕ) (m : ImageInfo) → image past i ≡ Some m → (k : Box) → Contains (areas_read past c) (Texels i k) → bad_box m k ≡ false
  read_good i m of k named = let bad : bad_area past (Texels i k) ≡ false = fails (bad_area past) (areas_read past c) (Texels i k) (parts (bad_area past) good_areas).0 named in rw of at bad

  pub written_good : (i : ℕ) (m : ImageInfo) → image past i ≡ Some m → (k : Box) → Contains (areas_written past c) (Texels i k) → bad_box m k ≡ false
  written_good i m of k named = let bad : bad_area past (Texels i k) ≡ false = fails (bad_area past) (areas_written past c) (Texels i k) (parts (bad_area past) good_areas).1 named in rw of at bad

  pub read_near : (b t : ℕ) (g : BufferImageCopy) → Contains (areas_read past c) (Rows b t g) → region_past (buffer_size past b) t g ≡ false
  read_near b t g named = fails (area_past past) (areas_read past c) (Rows b t g) (parts (area_past past) near_areas).0 named

  pub written_near : (b t : ℕ) (g : BufferImageCopy) → Contains (areas_written past c) (Rows b t g) → region_past (buffer_size past b) t g ≡ false
  written_near b t g named = fails (area_past past) (areas_written past c) (Rows b t g) (parts (area_past past) near_areas).1 named

-- the rows of a region are among those of all
rows_has : (past : Past) (b i : ℕ) (m : ImageInfo) (gs : List BufferImageCopy) (g : BufferImageCopy) → image past i ≡ Some m → Contains gs g → Contains (region_rows past b i gs) (Rows b (texel m.format) g)
rows_has past b i m gs g of c = subst (λ (o : Option ImageInfo). Contains (let rows : List Area = elim o [ None ↦ [] | Some m ↦ map (Rows b (texel m.format)) gs ] in rows) (Rows b (texel m.format) g)) (sym of) (map_has (Rows b (texel m.format)) gs g c)

module _ (past : Past) (p : Point) (fit : IsWithin past p) where
  -- the regions of a copy from a buffer lie in both
  pub copy_in_inside : (b i l : ℕ) (gs : List BufferImageCopy) → p.action ≡ Run (cmd.CopyIn b i l gs) → (m : ImageInfo) → image past i ≡ Some m → AreInside m (buffer_size past b) gs
  copy_in_inside b i l gs is m of g c = record {
    box = written_good past p fit (cmd.CopyIn b i l gs) is i m of (region_box g) (map_has (λ g. Texels i (region_box g)) gs g c);
    rows = read_near past p fit (cmd.CopyIn b i l gs) is b (texel m.format) g (rows_has past b i m gs g of c);
  }

  -- and those of one to a buffer
  pub copy_out_inside : (i l b : ℕ) (gs : List BufferImageCopy) → p.action ≡ Run (cmd.CopyOut i l b gs) → (m : ImageInfo) → image past i ≡ Some m → AreInside m (buffer_size past b) gs
  copy_out_inside i l b gs is m of g c = record {
    box = read_good past p fit (cmd.CopyOut i l b gs) is i m of (region_box g) (map_has (λ g. Texels i (region_box g)) gs g c);
    rows = written_near past p fit (cmd.CopyOut i l b gs) is b (texel m.format) g (rows_has past b i m gs g of c);
  }

  -- those of a copy of images lie in them, and their texels have one size
  pub copy_image_between : (s l d k : ℕ) (gs : List ImageCopy) → p.action ≡ Run (cmd.CopyImage s l d k gs) → (m n : ImageInfo) → image past s ≡ Some m → image past d ≡ Some n → AreBetween m n gs
  copy_image_between s l d k gs is m n read written = record {
    texels = eqb-true (texel m.format) (texel n.format) (not-false (texel m.format == texel n.format) same);
    sources = λ g c. read_good past p fit (cmd.CopyImage s l d k gs) is s m read (source_box g) (map_has (λ g. Texels s (source_box g)) gs g c);
    destinations = λ g c. written_good past p fit (cmd.CopyImage s l d k gs) is d n written (destination_box g) (map_has (λ g. Texels d (destination_box g)) gs g c);
  } where
    same : not (texel m.format == texel n.format) ≡ false
    same =
        let differ : texels_differ past (cmd.CopyImage s l d k gs) ≡ false = subst (λ (d : Action). holds (command_of d) (texels_differ past) ≡ false) is fit.format in
        rw (read, written) at differ
