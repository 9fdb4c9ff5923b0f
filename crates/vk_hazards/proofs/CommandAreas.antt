-- The areas of each form of command are those of its byte writes.
use Rattle.std.proofs.Common.{◌≡◌, ℕ, ◌+◌, ◌<◌, List, [], ◌∷◌, map, Some, None, Option, refl, sym, ap, ◌∙◌, subst, arith, length, zero, suc, ⊎_elim}
use Rattle.std.specs.Prelude.{Contains, ◌%◌}
use Rattle.std.specs.List.{flat_map, enumerate_from}
use Rattle.vk_model.specs.declared.command.BufferCopy.{BufferCopy}
use Rattle.vk_model.specs.declared.command.Cmd.{Cmd}
use Rattle.vk_model.specs.declared.command.Cmd.TheVariants as cmd
use Rattle.vk_model.specs.Trace.Point.{Past}
use Rattle.vk_model.specs.Trace.Objects.{image}
use Rattle.vk_model.specs.declared.command.BufferImageCopy.{BufferImageCopy}
use Rattle.vk_model.specs.declared.command.ImageCopy.{ImageCopy}
use Rattle.vk_model.specs.declared.command.ImageElement.{ImageElement}
use Rattle.vk_model.specs.declared.command.SubresourceRange.{SubresourceRange}
use Rattle.vk_model.specs.declared.resource.ImageInfo.{ImageInfo}
use Rattle.vk_model.specs.Basics.{below, grid, byte_of}
use Rattle.vk_model.specs.Trace.Image.{texel}
use Rattle.vk_model.specs.World.Bytes.{Byte, in_buffer, in_image}
use Rattle.vk_model.specs.World.ByteWrites.{ByteWrite, Value, From, byte_write, copy_writes, clear_write, clear_writes, copy_in_writes, copy_out_writes, copy_image_writes, buffer_texel, image_texel, subresource_bytes, level_bytes, byte_writes, buffer_size, fill_size}
use Rattle.vk_model.specs.Sync.Access.{bytes_of, origin, origins, targets, image_bytes}
use Rattle.vk_model.proofs.Lists.Members.{none_in, contains-cons, contains-head, contains-tail, map_has, mapped_from, flat_from, flat_has, below_from}
use Rattle.vk_model.proofs.Lists.Grids.{grid_from, grid_has, below_has}
use Rattle.vk_hazards.specs.declared.areas.Area.{Area}
use Rattle.vk_hazards.specs.Areas.{AreAreas}
use Rattle.vk_hazards.specs.Inner.Parts.{region_bytes, box_bytes, source_bytes, destination_bytes, level_part, range_part}
use Rattle.vk_hazards.proofs.Members.{no_area, areas_none, areas_same, origins_from, origins_has, targets_from, targets_has, all_origins, all_targets}
use Rattle.vk_hazards.proofs.AreaLemmas.{bytes_has, bytes_from}

-- ---- byte writes of ranges and of grids

module _ (A B : ℕ → Byte) (n : ℕ) where
  abbrev moved : List ByteWrite
  moved = map (λ k. byte_write (A k) (From (B k))) (below n)

  pub run_origins : (v : Byte) → Contains (origins moved) v → Contains (map B (below n)) v
  run_origins v h =
      let m = origins_from moved v h in
      let k = mapped_from (λ k. byte_write (A k) (From (B k))) (below n) m.0 m.1 in
      let e : Some (B k.0) ≡ Some v = ap (λ (w : ByteWrite). origin w.source) k.2 ∙ m.2 in
      let same : B k.0 ≡ v = cc in
      subst (λ (w : Byte). Contains (map B (below n)) w) same (map_has B (below n) k.0 k.1)

  pub run_origins_back : (v : Byte) → Contains (map B (below n)) v → Contains (origins moved) v
  run_origins_back v h =
      let k = mapped_from B (below n) v h in
      origins_has moved (byte_write (A k.0) (From (B k.0))) v (map_has (λ k. byte_write (A k) (From (B k))) (below n) k.0 k.1) (ap (λ (b : Byte). Some b) k.2)

  pub run_targets : (v : Byte) → Contains (targets moved) v → Contains (map A (below n)) v
  run_targets v h =
      let m = targets_from moved v h in
      let k = mapped_from (λ k. byte_write (A k) (From (B k))) (below n) m.0 m.1 in
      subst (λ (w : Byte). Contains (map A (below n)) w) (ap (λ (w : ByteWrite). w.to) k.2 ∙ m.2) (map_has A (below n) k.0 k.1)

  pub run_targets_back : (v : Byte) → Contains (map A (below n)) v → Contains (targets moved) v
  run_targets_back v h =
      let k = mapped_from A (below n) v h in
      subst (λ (w : Byte). Contains (targets moved) w) k.2 (targets_has moved (byte_write (A k.0) (From (B k.0))) (map_has (λ k. byte_write (A k) (From (B k))) (below n) k.0 k.1))

module _ (A B : ℕ → ℕ → ℕ → ℕ → Byte) (a b c d : ℕ) where
  abbrev copied : List ByteWrite
  copied = grid a b c d (λ z y x k. byte_write (A z y x k) (From (B z y x k)))

  pub grid_origins : (v : Byte) → Contains (origins copied) v → Contains (grid a b c d B) v
  grid_origins v h =
      let m = origins_from copied v h in
      let g = grid_from (λ z y x k. byte_write (A z y x k) (From (B z y x k))) a b c d m.0 m.1 in
      let e : Some (B g.z g.y g.x g.k) ≡ Some v = sym (ap (λ (w : ByteWrite). origin w.source) g.is) ∙ m.2 in
      let same : B g.z g.y g.x g.k ≡ v = cc in
      subst (λ (w : Byte). Contains (grid a b c d B) w) same (grid_has B a b c d g.z g.y g.x g.k g.low_z g.low_y g.low_x g.low_k)

  pub grid_origins_back : (v : Byte) → Contains (grid a b c d B) v → Contains (origins copied) v
  grid_origins_back v h =
      let g = grid_from B a b c d v h in
      origins_has copied (byte_write (A g.z g.y g.x g.k) (From (B g.z g.y g.x g.k))) v
      (grid_has (λ z y x k. byte_write (A z y x k) (From (B z y x k))) a b c d g.z g.y g.x g.k g.low_z g.low_y g.low_x g.low_k) (ap (λ (b : Byte). Some b) (sym g.is))

  pub grid_targets : (v : Byte) → Contains (targets copied) v → Contains (grid a b c d A) v
  grid_targets v h =
      let m = targets_from copied v h in
      let g = grid_from (λ z y x k. byte_write (A z y x k) (From (B z y x k))) a b c d m.0 m.1 in
      subst (λ (w : Byte). Contains (grid a b c d A) w) (sym (ap (λ (w : ByteWrite). w.to) g.is) ∙ m.2) (grid_has A a b c d g.z g.y g.x g.k g.low_z g.low_y g.low_x g.low_k)

  pub grid_targets_back : (v : Byte) → Contains (grid a b c d A) v → Contains (targets copied) v
  grid_targets_back v h =
      let g = grid_from A a b c d v h in
      subst (λ (w : Byte). Contains (targets copied) w) (sym g.is)
      (targets_has copied (byte_write (A g.z g.y g.x g.k) (From (B g.z g.y g.x g.k)))
      (grid_has (λ z y x k. byte_write (A z y x k) (From (B z y x k))) a b c d g.z g.y g.x g.k g.low_z g.low_y g.low_x g.low_k))

-- ---- copies between buffers

pub copy_reads : (s d : ℕ) (gs : List BufferCopy) (areas : List Area) → AreAreas areas (flat_map (λ g. bytes_of s g.source_offset g.size) gs) → AreAreas areas (origins (flat_map (copy_writes s d) gs))
copy_reads s d gs areas are = all_origins (copy_writes s d) (λ g. bytes_of s g.source_offset g.size) gs
    (λ g v h. run_origins (λ k. in_buffer d (g.destination_offset + k)) (λ k. in_buffer s (g.source_offset + k)) g.size v h)
    (λ g v h. run_origins_back (λ k. in_buffer d (g.destination_offset + k)) (λ k. in_buffer s (g.source_offset + k)) g.size v h) areas are

pub copy_targets : (s d : ℕ) (gs : List BufferCopy) (areas : List Area) → AreAreas areas (flat_map (λ g. bytes_of d g.destination_offset g.size) gs) → AreAreas areas (targets (flat_map (copy_writes s d) gs))
copy_targets s d gs areas are = all_targets (copy_writes s d) (λ g. bytes_of d g.destination_offset g.size) gs
    (λ g v h. run_targets (λ k. in_buffer d (g.destination_offset + k)) (λ k. in_buffer s (g.source_offset + k)) g.size v h)
    (λ g v h. run_targets_back (λ k. in_buffer d (g.destination_offset + k)) (λ k. in_buffer s (g.source_offset + k)) g.size v h) areas are

-- ---- copies with images

nothing_read : {G : Type 0} (gs : List G) → AreAreas [] (origins (flat_map (λ (g : G). let w : List ByteWrite = [] in w) gs))
nothing_read {G} gs = no_area (origins (flat_map (λ (g : G). let w : List ByteWrite = [] in w) gs)) (λ b n h.
    let m = origins_from (flat_map (λ (g : G). let w : List ByteWrite = [] in w) gs) b h in
    let x = flat_from (λ (g : G). let w : List ByteWrite = [] in w) gs m.0 m.1 in absurd (none_in m.0 x.2))

nothing_written : {G : Type 0} (gs : List G) → AreAreas [] (targets (flat_map (λ (g : G). let w : List ByteWrite = [] in w) gs))
nothing_written {G} gs = no_area (targets (flat_map (λ (g : G). let w : List ByteWrite = [] in w) gs)) (λ b n h.
    let m = targets_from (flat_map (λ (g : G). let w : List ByteWrite = [] in w) gs) b h in
    let x = flat_from (λ (g : G). let w : List ByteWrite = [] in w) gs m.0 m.1 in absurd (none_in m.0 x.2))

module _ (m : ImageInfo) (t : ℕ) (is : t ≡ texel m.format) (areas : List Area) where
  pub some_in_reads : (b i : ℕ) (gs : List BufferImageCopy) → AreAreas areas (flat_map (region_bytes b t) gs) → AreAreas areas (origins (flat_map (copy_in_writes b i (Some m)) gs))
  some_in_reads b i gs are = all_origins (copy_in_writes b i (Some m)) (region_bytes b (texel m.format)) gs
      (λ g v h. grid_origins (image_texel i g) (λ z y x k. in_buffer b (buffer_texel g (texel m.format) z y x k)) g.layers g.height g.width (texel m.format) v h)
      (λ g v h. grid_origins_back (image_texel i g) (λ z y x k. in_buffer b (buffer_texel g (texel m.format) z y x k)) g.layers g.height g.width (texel m.format) v h)
      areas (subst (λ (n : ℕ). AreAreas areas (flat_map (region_bytes b n) gs)) is are)

  pub some_in_targets : (b i : ℕ) (gs : List BufferImageCopy) → AreAreas areas (flat_map (box_bytes i t) gs) → AreAreas areas (targets (flat_map (copy_in_writes b i (Some m)) gs))
  some_in_targets b i gs are = all_targets (copy_in_writes b i (Some m)) (box_bytes i (texel m.format)) gs
      (λ g v h. grid_targets (image_texel i g) (λ z y x k. in_buffer b (buffer_texel g (texel m.format) z y x k)) g.layers g.height g.width (texel m.format) v h)
      (λ g v h. grid_targets_back (image_texel i g) (λ z y x k. in_buffer b (buffer_texel g (texel m.format) z y x k)) g.layers g.height g.width (texel m.format) v h)
      areas (subst (λ (n : ℕ). AreAreas areas (flat_map (box_bytes i n) gs)) is are)

  pub some_out_reads : (b i : ℕ) (gs : List BufferImageCopy) → AreAreas areas (flat_map (box_bytes i t) gs) → AreAreas areas (origins (flat_map (copy_out_writes i b (Some m)) gs))
  some_out_reads b i gs are = all_origins (copy_out_writes i b (Some m)) (box_bytes i (texel m.format)) gs
      (λ g v h. grid_origins (λ z y x k. in_buffer b (buffer_texel g (texel m.format) z y x k)) (image_texel i g) g.layers g.height g.width (texel m.format) v h)
      (λ g v h. grid_origins_back (λ z y x k. in_buffer b (buffer_texel g (texel m.format) z y x k)) (image_texel i g) g.layers g.height g.width (texel m.format) v h)
      areas (subst (λ (n : ℕ). AreAreas areas (flat_map (box_bytes i n) gs)) is are)

  pub some_out_targets : (b i : ℕ) (gs : List BufferImageCopy) → AreAreas areas (flat_map (region_bytes b t) gs) → AreAreas areas (targets (flat_map (copy_out_writes i b (Some m)) gs))
  some_out_targets b i gs are = all_targets (copy_out_writes i b (Some m)) (region_bytes b (texel m.format)) gs
      (λ g v h. grid_targets (λ z y x k. in_buffer b (buffer_texel g (texel m.format) z y x k)) (image_texel i g) g.layers g.height g.width (texel m.format) v h)
      (λ g v h. grid_targets_back (λ z y x k. in_buffer b (buffer_texel g (texel m.format) z y x k)) (image_texel i g) g.layers g.height g.width (texel m.format) v h)
      areas (subst (λ (n : ℕ). AreAreas areas (flat_map (region_bytes b n) gs)) is are)

  abbrev to_image : ℕ → ImageCopy → ℕ → ℕ → ℕ → ℕ → Byte
  to_image d g z y x k = in_image d g.destination_level (g.destination_first_layer + z) (g.destination_x + x) (g.destination_y + y) k

  abbrev from_image : ℕ → ImageCopy → ℕ → ℕ → ℕ → ℕ → Byte
  from_image s g z y x k = in_image s g.source_level (g.source_first_layer + z) (g.source_x + x) (g.source_y + y) k

  pub some_image_reads : (s d : ℕ) (gs : List ImageCopy) → AreAreas areas (flat_map (source_bytes s t) gs) → AreAreas areas (origins (flat_map (copy_image_writes s d (Some m)) gs))
  some_image_reads s d gs are = all_origins (copy_image_writes s d (Some m)) (source_bytes s (texel m.format)) gs
      (λ g v h. grid_origins (to_image d g) (from_image s g) g.layers g.height g.width (texel m.format) v h)
      (λ g v h. grid_origins_back (to_image d g) (from_image s g) g.layers g.height g.width (texel m.format) v h)
      areas (subst (λ (n : ℕ). AreAreas areas (flat_map (source_bytes s n) gs)) is are)

  pub some_image_targets : (s d : ℕ) (gs : List ImageCopy) → AreAreas areas (flat_map (destination_bytes d t) gs) → AreAreas areas (targets (flat_map (copy_image_writes s d (Some m)) gs))
  some_image_targets s d gs are = all_targets (copy_image_writes s d (Some m)) (destination_bytes d (texel m.format)) gs
      (λ g v h. grid_targets (to_image d g) (from_image s g) g.layers g.height g.width (texel m.format) v h)
      (λ g v h. grid_targets_back (to_image d g) (from_image s g) g.layers g.height g.width (texel m.format) v h)
      areas (subst (λ (n : ℕ). AreAreas areas (flat_map (destination_bytes d n) gs)) is are)

-- where an image isn't there, nothing is copied
pub none_in_reads : (b i : ℕ) (gs : List BufferImageCopy) → AreAreas [] (origins (flat_map (copy_in_writes b i None) gs))
none_in_reads b i gs = nothing_read gs

pub none_in_targets : (b i : ℕ) (gs : List BufferImageCopy) → AreAreas [] (targets (flat_map (copy_in_writes b i None) gs))
none_in_targets b i gs = nothing_written gs

pub none_out_reads : (b i : ℕ) (gs : List BufferImageCopy) → AreAreas [] (origins (flat_map (copy_out_writes i b None) gs))
none_out_reads b i gs = nothing_read gs

pub none_out_targets : (b i : ℕ) (gs : List BufferImageCopy) → AreAreas [] (targets (flat_map (copy_out_writes i b None) gs))
none_out_targets b i gs = nothing_written gs

pub none_image_reads : (s d : ℕ) (gs : List ImageCopy) → AreAreas [] (origins (flat_map (copy_image_writes s d None) gs))
none_image_reads s d gs = nothing_read gs

pub none_image_targets : (s d : ℕ) (gs : List ImageCopy) → AreAreas [] (targets (flat_map (copy_image_writes s d None) gs))
none_image_targets s d gs = nothing_written gs

-- ---- subresources

range_to : (i : ℕ) (m : ImageInfo) (r : SubresourceRange) (v : Byte) → Contains (range_part i m r) v → Contains (map (λ p. p.0) (subresource_bytes i m r)) v
range_to i m r v h =
    let k = flat_from (level_part i m r) (below r.levels) v h in
    let p = mapped_from (λ p. p.0) (level_bytes i m r (r.first_level + k.0)) v k.2 in
    subst (λ (w : Byte). Contains (map (λ p. p.0) (subresource_bytes i m r)) w) p.2
    (map_has (λ p. p.0) (subresource_bytes i m r) p.0 (flat_has (λ k. level_bytes i m r (r.first_level + k)) (below r.levels) k.0 p.0 k.1 p.1))

range_from : (i : ℕ) (m : ImageInfo) (r : SubresourceRange) (v : Byte) → Contains (map (λ p. p.0) (subresource_bytes i m r)) v → Contains (range_part i m r) v
range_from i m r v h =
    let p = mapped_from (λ p. p.0) (subresource_bytes i m r) v h in
    let k = flat_from (λ k. level_bytes i m r (r.first_level + k)) (below r.levels) p.0 p.1 in
    flat_has (level_part i m r) (below r.levels) k.0 v k.1 (subst (λ (w : Byte). Contains (level_part i m r k.0) w) p.2 (map_has (λ p. p.0) (level_bytes i m r (r.first_level + k.0)) p.0 k.2))

pub some_named : (m : ImageInfo) (e : ImageElement) (areas : List Area) → AreAreas areas (range_part e.image m e.range) → AreAreas areas (image_bytes (Some m) e)
some_named m e areas are = areas_same areas (range_part e.image m e.range) (map (λ p. p.0) (subresource_bytes e.image m e.range)) (range_to e.image m e.range) (range_from e.image m e.range) are

pub none_named : (e : ImageElement) → AreAreas [] (image_bytes None e)
none_named e = no_area [] (λ b n h. absurd (none_in b h))

pub ruleset named_bytes = (some_named, none_named)

pub some_cleared : (i : ℕ) (color : List ℕ) (m : ImageInfo) (rs : List SubresourceRange) (areas : List Area) → AreAreas areas (flat_map (range_part i m) rs) → AreAreas areas (targets (flat_map (clear_writes i color (Some m)) rs))
some_cleared i color m rs areas are = all_targets (clear_writes i color (Some m)) (range_part i m) rs to from areas are
  where
    to : (r : SubresourceRange) (v : Byte) → Contains (targets (clear_writes i color (Some m) r)) v → Contains (range_part i m r) v
    to r v h =
        let w = targets_from (clear_writes i color (Some m) r) v h in
        let p = mapped_from (clear_write m color) (subresource_bytes i m r) w.0 w.1 in
        range_from i m r v (subst (λ (u : Byte). Contains (map (λ p. p.0) (subresource_bytes i m r)) u) (ap (λ (u : ByteWrite). u.to) p.2 ∙ w.2) (map_has (λ p. p.0) (subresource_bytes i m r) p.0 p.1))

    from : (r : SubresourceRange) (v : Byte) → Contains (range_part i m r) v → Contains (targets (clear_writes i color (Some m) r)) v
    from r v h =
        let p = mapped_from (λ p. p.0) (subresource_bytes i m r) v (range_to i m r v h) in
        subst (λ (u : Byte). Contains (targets (clear_writes i color (Some m) r)) u) p.2
        (targets_has (clear_writes i color (Some m) r) (clear_write m color p.0) (map_has (clear_write m color) (subresource_bytes i m r) p.0 p.1))

pub none_cleared : (i : ℕ) (color : List ℕ) (rs : List SubresourceRange) → AreAreas [] (targets (flat_map (clear_writes i color None) rs))
none_cleared i color rs = nothing_written rs

-- ---- fills and updates

pub fill_targets : (b o n w : ℕ) (areas : List Area) → AreAreas areas (bytes_of b o n) → AreAreas areas (targets (map (λ k. byte_write (in_buffer b (o + k)) (Value (byte_of w (k % 4)))) (below n)))
fill_targets b o n w areas are = areas_same areas (bytes_of b o n) (targets ws) to from are
  where
    ws : List ByteWrite
    ws = map (λ k. byte_write (in_buffer b (o + k)) (Value (byte_of w (k % 4)))) (below n)

    to : (v : Byte) → Contains (bytes_of b o n) v → Contains (targets (map (λ k. byte_write (in_buffer b (o + k)) (Value (byte_of w (k % 4)))) (below n))) v
    to v h =
        let k = bytes_from b o n v h in
        subst (λ (u : Byte). Contains (targets (map (λ k. byte_write (in_buffer b (o + k)) (Value (byte_of w (k % 4)))) (below n))) u) (sym k.2)
        (targets_has (map (λ k. byte_write (in_buffer b (o + k)) (Value (byte_of w (k % 4)))) (below n)) (byte_write (in_buffer b (o + k.0)) (Value (byte_of w (k.0 % 4))))
        (map_has (λ k. byte_write (in_buffer b (o + k)) (Value (byte_of w (k % 4)))) (below n) k.0 (below_has n k.0 k.1)))

    from : (v : Byte) → Contains (targets (map (λ k. byte_write (in_buffer b (o + k)) (Value (byte_of w (k % 4)))) (below n))) v → Contains (bytes_of b o n) v
    from v h =
        let m = targets_from (map (λ k. byte_write (in_buffer b (o + k)) (Value (byte_of w (k % 4)))) (below n)) v h in
        let k = mapped_from (λ k. byte_write (in_buffer b (o + k)) (Value (byte_of w (k % 4)))) (below n) m.0 m.1 in
        subst (λ (u : Byte). Contains (bytes_of b o n) u) (ap (λ (u : ByteWrite). u.to) k.2 ∙ m.2) (bytes_has b o n k.0 (below_from n k.0 k.1))

numbered_from : (a : ℕ) (xs : List ℕ) (p : ℕ × ℕ) → Contains (enumerate_from a xs) p → (j : ℕ) × (j < length xs) × (p.0 ≡ a + j)
numbered_from a [] p h = absurd (none_in p h)
numbered_from a (x ∷ xs) p h = ⊎_elim
    (λ e. (0, omega arith, sym (ap (λ (q : ℕ × ℕ). q.0) e) ∙ omega arith))
    (λ later. let r = numbered_from (a + 1) xs p later in let e : p.0 ≡ (a + 1) + r.0 = r.2 in (r.0 + 1, omega (arith, r.1), omega (arith, e)))
    (contains-cons (a, x) (enumerate_from (a + 1) xs) p h)

numbered_has : (a j : ℕ) (xs : List ℕ) → j < length xs → (v : ℕ) × Contains (enumerate_from a xs) (a + j, v)
numbered_has a j [] lt = absurd (omega arith)
numbered_has a zero (x ∷ xs) lt =
    (x, subst (λ (n : ℕ). Contains (enumerate_from a (x ∷ xs)) (n, x)) (let e : a ≡ a + 0 = omega arith in e) (contains-head (a, x) (enumerate_from (a + 1) xs)))
numbered_has a (suc j) (x ∷ xs) lt =
    let r = numbered_has (a + 1) j xs (omega arith) in (
      r.0,
      contains-tail (a, x) (enumerate_from (a + 1) xs) (a + suc j, r.0)
          (subst (λ (n : ℕ). Contains (enumerate_from (a + 1) xs) (n, r.0)) (let e : (a + 1) + j ≡ a + suc j = omega arith in e) r.1),
    )

pub update_targets : (b o : ℕ) (values : List ℕ) (areas : List Area) → AreAreas areas (bytes_of b o (length values)) → AreAreas areas (targets (map (λ p. byte_write (in_buffer b (o + p.0)) (Value p.1)) (enumerate_from 0 values)))
update_targets b o values areas are = areas_same areas (bytes_of b o (length values)) (targets (map (λ p. byte_write (in_buffer b (o + p.0)) (Value p.1)) (enumerate_from 0 values))) to from are
  where
    to : (v : Byte) → Contains (bytes_of b o (length values)) v → Contains (targets (map (λ p. byte_write (in_buffer b (o + p.0)) (Value p.1)) (enumerate_from 0 values))) v
    to v h =
        let k = bytes_from b o (length values) v h in
        let p = numbered_has 0 k.0 values k.1 in
        let e : o + (0 + k.0) ≡ o + k.0 = omega arith in
        subst (λ (u : Byte). Contains (targets (map (λ p. byte_write (in_buffer b (o + p.0)) (Value p.1)) (enumerate_from 0 values))) u) (ap (in_buffer b) e ∙ sym k.2)
        (targets_has (map (λ p. byte_write (in_buffer b (o + p.0)) (Value p.1)) (enumerate_from 0 values)) (byte_write (in_buffer b (o + (0 + k.0))) (Value p.0))
        (map_has (λ p. byte_write (in_buffer b (o + p.0)) (Value p.1)) (enumerate_from 0 values) (0 + k.0, p.0) p.1))

    from : (v : Byte) → Contains (targets (map (λ p. byte_write (in_buffer b (o + p.0)) (Value p.1)) (enumerate_from 0 values))) v → Contains (bytes_of b o (length values)) v
    from v h =
        let m = targets_from (map (λ p. byte_write (in_buffer b (o + p.0)) (Value p.1)) (enumerate_from 0 values)) v h in
        let p = mapped_from (λ p. byte_write (in_buffer b (o + p.0)) (Value p.1)) (enumerate_from 0 values) m.0 m.1 in
        let j = numbered_from 0 values p.0 p.1 in
        let e : o + j.0 ≡ o + p.0.0 = omega (arith, j.2) in
        subst (λ (u : Byte). Contains (bytes_of b o (length values)) u) (ap (in_buffer b) e ∙ ap (λ (u : ByteWrite). u.to) p.2 ∙ m.2) (bytes_has b o (length values) j.0 j.1)

-- ---- commands that read nothing

no_origins : {A : Type 0} (f : A → Byte) (g : A → ℕ) (xs : List A) → AreAreas [] (origins (map (λ k. byte_write (f k) (Value (g k))) xs))
no_origins f g xs = no_area (origins (map (λ k. byte_write (f k) (Value (g k))) xs)) (λ b n h.
    let m = origins_from (map (λ k. byte_write (f k) (Value (g k))) xs) b h in
    let x = mapped_from (λ k. byte_write (f k) (Value (g k))) xs m.0 m.1 in
    let e : None ≡ Some b = ap (λ (w : ByteWrite). origin w.source) x.2 ∙ m.2 in absurd cc)

clear_reads : (i : ℕ) (color : List ℕ) (o : Option ImageInfo) (rs : List SubresourceRange) → AreAreas [] (origins (flat_map (clear_writes i color o) rs))
clear_reads i color None rs = nothing_read rs
clear_reads i color (Some info) rs = no_area (origins (flat_map (clear_writes i color (Some info)) rs)) (λ b n h.
    let m = origins_from (flat_map (clear_writes i color (Some info)) rs) b h in
    let r = flat_from (clear_writes i color (Some info)) rs m.0 m.1 in
    let x = mapped_from (clear_write info color) (subresource_bytes i info r.0) m.0 r.2 in
    let e : None ≡ Some b = ap (λ (w : ByteWrite). origin w.source) x.2 ∙ m.2 in absurd cc)

-- what is no copy reads nothing
pub no_reads : (past : Past) (c : Cmd)
    → ((s d : ℕ) (gs : List BufferCopy) → c ≡ cmd.Copy s d gs → ⊥)
    → ((b i l : ℕ) (gs : List BufferImageCopy) → c ≡ cmd.CopyIn b i l gs → ⊥)
    → ((i l b : ℕ) (gs : List BufferImageCopy) → c ≡ cmd.CopyOut i l b gs → ⊥)
    → ((s l d m : ℕ) (gs : List ImageCopy) → c ≡ cmd.CopyImage s l d m gs → ⊥)
    → AreAreas [] (origins (byte_writes past c))
no_reads past (cmd.Fill b o n w) f g h k = no_origins (λ k. in_buffer b (o + k)) (λ k. byte_of w (k % 4)) (below (fill_size (buffer_size past b) o n))
no_reads past (cmd.Update b o bytes) f g h k = no_origins (λ p. in_buffer b (o + p.0)) (λ p. p.1) (enumerate_from 0 bytes)
no_reads past (cmd.Copy s d gs) f g h k = absurd (f s d gs refl)
no_reads past (cmd.Clear i l color rs) f g h k = clear_reads i color (image past i) rs
no_reads past (cmd.CopyIn b i l gs) f g h k = absurd (g b i l gs refl)
no_reads past (cmd.CopyOut i l b gs) f g h k = absurd (h i l b gs refl)
no_reads past (cmd.CopyImage s l d m gs) f g h k = absurd (k s l d m gs refl)
no_reads past (cmd.Barrier es) f g h k = areas_none
no_reads past (cmd.Set v ms) f g h k = areas_none
no_reads past (cmd.Await v ms) f g h k = areas_none

-- ---- by other names of the same

module _ {G : Type 0} (f : Option ImageInfo → G → List ByteWrite) (areas : List Area) (o p : Option ImageInfo) (gs hs : List G) (image_is : o ≡ p) (regions_are : gs ≡ hs) where
  pub read_as : AreAreas areas (origins (flat_map (f o) gs)) → AreAreas areas (origins (flat_map (f p) hs))
  read_as are = subst (λ (q : Option ImageInfo). AreAreas areas (origins (flat_map (f q) hs))) image_is (subst (λ (l : List G). AreAreas areas (origins (flat_map (f o) l))) regions_are are)

  pub written_as : AreAreas areas (targets (flat_map (f o) gs)) → AreAreas areas (targets (flat_map (f p) hs))
  written_as are = subst (λ (q : Option ImageInfo). AreAreas areas (targets (flat_map (f q) hs))) image_is (subst (λ (l : List G). AreAreas areas (targets (flat_map (f o) l))) regions_are are)

pub read_by : (past : Past) (areas : List Area) (c d : Cmd) → c ≡ d → AreAreas areas (origins (byte_writes past d)) → AreAreas areas (origins (byte_writes past c))
read_by past areas c d is are = subst (λ (e : Cmd). AreAreas areas (origins (byte_writes past e))) (sym is) are

pub written_by : (past : Past) (areas : List Area) (c d : Cmd) → c ≡ d → AreAreas areas (targets (byte_writes past d)) → AreAreas areas (targets (byte_writes past c))
written_by past areas c d is are = subst (λ (e : Cmd). AreAreas areas (targets (byte_writes past e))) (sym is) are
