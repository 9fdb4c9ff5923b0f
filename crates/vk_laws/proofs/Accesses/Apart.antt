-- No task of an act reads or writes what another task of it writes.
use Rattle.std.proofs.Common.{◌≡◌, ℕ, zero, suc, ◌+◌, ◌<◌, List, [], ◌∷◌, Bool, IsTrue, Option, Some, None, ap, sym, ◌∙◌, subst, arith, slice_get}
use Rattle.std.specs.Prelude.{Contains}
use Rattle.std.specs.List.{list_any, enumerate_from}
use Rattle.std.proofs.lemmas.Bool.{eq-eqb, or_left, or_right, and_from}
use Rattle.vk_model.specs.declared.command.Cmd.{Cmd}
use Rattle.vk_model.specs.declared.command.Cmd.TheVariants as cmd
use Rattle.vk_model.specs.declared.command.BufferCopy.{BufferCopy}
use Rattle.vk_model.specs.declared.command.BufferImageCopy.{BufferImageCopy}
use Rattle.vk_model.specs.declared.command.ImageCopy.{ImageCopy}
use Rattle.vk_model.specs.declared.command.SubresourceRange.{SubresourceRange}
use Rattle.vk_model.specs.declared.resource.ImageInfo.{ImageInfo}
use Rattle.vk_model.specs.Basics.{some_pair, below}
use Rattle.vk_model.specs.World.Bytes.{Byte, in_buffer, in_image}
use Rattle.vk_model.specs.Trace.Point.{Past}
use Rattle.vk_model.specs.Trace.Objects.{image}
use Rattle.vk_model.specs.Trace.Image.{texel}
use Rattle.vk_model.specs.World.ByteWrites.{Value, From, ByteWrite, byte_write, byte_writes, copy_writes, copy_in_writes, copy_out_writes, copy_image_writes, clear_writes, clear_write, subresource_bytes, image_texel, buffer_texel}
use Rattle.vk_model.specs.World.Areas.{Area, Bytes, Texels, areas_meet, source_box, destination_box, areas_read, areas_written}
use Rattle.vk_model.specs.Sync.Access.{origin}
use Rattle.vk_model.specs.Rules.Ranges.{command_overlaps}
use Rattle.vk_model.proofs.Lists.Members.{member_passes, none_in, mapped_from, flat_from, place_has, map_has, below_from}
use Rattle.vk_model.proofs.Lists.Grids.{At, grid_from}
use Rattle.vk_model.proofs.World.BytePlaces.{common_meets}

-- ---- members and pairs of a list

pub pair_of : {X : Type 0} (test : X → X → Bool) (xs : List X) (k l : ℕ) (x y : X) → slice_get xs k ≡ Some x → slice_get xs l ≡ Some y → k < l → IsTrue (test x y) → IsTrue (some_pair test xs)
pair_of test [] k l x y e f lt h = absurd cc
pair_of {X} test (z ∷ xs) zero zero x y e f lt h = absurd (omega arith)
pair_of {X} test (z ∷ xs) zero (suc l) x y e f lt h =
    let same : x ≡ z = cc in or_left _ _ (member_passes (test z) xs y (place_has xs l y f) (subst (λ (w : X). IsTrue (test w y)) same h))
pair_of test (z ∷ xs) (suc k) zero x y e f lt h = absurd (omega arith)
pair_of test (z ∷ xs) (suc k) (suc l) x y e f lt h = or_right _ _ (pair_of test xs k l x y e f (omega arith) h)

-- ---- a command that doesn't overlap reads nothing that it writes

module _ (past : Past) where
  overlapping : (c : Cmd) (w r : Area) → Contains (areas_written past c) w → Contains (areas_read past c) r → IsTrue (areas_meet w r) → IsTrue (command_overlaps past c)
  overlapping c w r cw cr h = or_left _ _ (or_right _ _ (member_passes (λ w. list_any (areas_meet w) (areas_read past c)) (areas_written past c) w cw (member_passes (areas_meet w) (areas_read past c) r cr h)))

  abbrev Wrote : Cmd → Byte → Type 0
  Wrote c b = (m : ByteWrite) × Contains (byte_writes past c) m × (m.to ≡ b)

  abbrev Took : Cmd → Byte → Type 0
  Took c b = (m : ByteWrite) × Contains (byte_writes past c) m × (origin m.source ≡ Some b)

  copy_clear : (s d : ℕ) (gs : List BufferCopy) (b : Byte) → Wrote (cmd.Copy s d gs) b → Took (cmd.Copy s d gs) b → IsTrue (command_overlaps past (cmd.Copy s d gs))
  copy_clear s d gs b w r =
      let g = flat_from (copy_writes s d) gs w.0 w.1 in
      let h = flat_from (copy_writes s d) gs r.0 r.1 in
      let k = mapped_from _ (below g.0.size) w.0 g.2 in
      let l = mapped_from _ (below h.0.size) r.0 h.2 in
      let low = below_from g.0.size k.0 k.1 in
      let low' = below_from h.0.size l.0 l.1 in
      let at : in_buffer d (g.0.destination_offset + k.0) ≡ b = ap (λ (m : ByteWrite). m.to) k.2 ∙ w.2 in
      let from : Some (in_buffer s (h.0.source_offset + l.0)) ≡ Some b = ap (λ (m : ByteWrite). origin m.source) l.2 ∙ r.2 in
      let same : d ≡ s = cc in
      let place : g.0.destination_offset + k.0 ≡ h.0.source_offset + l.0 = cc in
      overlapping (cmd.Copy s d gs) (Bytes d g.0.destination_offset g.0.size) (Bytes s h.0.source_offset h.0.size)
      (map_has (λ g. Bytes d g.destination_offset g.size) gs g.0 g.1) (map_has (λ g. Bytes s g.source_offset g.size) gs h.0 h.1)
      (and_from _ _ (eq-eqb d s same) (common_meets g.0.destination_offset g.0.size h.0.source_offset h.0.size (g.0.destination_offset + k.0) (omega arith) (omega arith) (omega arith) (omega arith)))

  -- the regions of an image copy
  image_write : (s d : ℕ) (o : Option ImageInfo) (g : ImageCopy) (m : ByteWrite) → Contains (copy_image_writes s d o g) m → (t : ℕ) × At (λ z y x k. byte_write (in_image d g.destination_level (g.destination_first_layer + z) (g.destination_x + x) (g.destination_y + y) k)
      (From (in_image s g.source_level (g.source_first_layer + z) (g.source_x + x) (g.source_y + y) k))) g.layers g.height g.width t m
  image_write s d None g m c = absurd (none_in m c)
  image_write s d (Some i) g m c = (texel i.format, grid_from _ g.layers g.height g.width (texel i.format) m c)

  image_clear : (s d : ℕ) (l n : ℕ) (gs : List ImageCopy) (b : Byte) → Wrote (cmd.CopyImage s l d n gs) b → Took (cmd.CopyImage s l d n gs) b → IsTrue (command_overlaps past (cmd.CopyImage s l d n gs))
  image_clear s d l n gs b w r =
      let g = flat_from (copy_image_writes s d (image past d)) gs w.0 w.1 in
      let h = flat_from (copy_image_writes s d (image past d)) gs r.0 r.1 in
      let at = (image_write s d (image past d) g.0 w.0 g.2).1 in
      let from = (image_write s d (image past d) h.0 r.0 h.2).1 in
      let to : in_image d g.0.destination_level (g.0.destination_first_layer + at.z) (g.0.destination_x + at.x) (g.0.destination_y + at.y) at.k ≡ b = ap (λ (m : ByteWrite). m.to) (sym at.is) ∙ w.2 in
      let take : Some (in_image s h.0.source_level (h.0.source_first_layer + from.z) (h.0.source_x + from.x) (h.0.source_y + from.y) from.k) ≡ Some b = ap (λ (m : ByteWrite). origin m.source) (sym from.is) ∙ r.2 in
      let same : d ≡ s = cc in
      let level : g.0.destination_level ≡ h.0.source_level = cc in
      let layer : g.0.destination_first_layer + at.z ≡ h.0.source_first_layer + from.z = cc in
      let x : g.0.destination_x + at.x ≡ h.0.source_x + from.x = cc in
      let y : g.0.destination_y + at.y ≡ h.0.source_y + from.y = cc in
      let lz = at.low_z in let ly = at.low_y in let lx = at.low_x in let lz' = from.low_z in let ly' = from.low_y in let lx' = from.low_x in
      overlapping (cmd.CopyImage s l d n gs) (Texels d (destination_box g.0)) (Texels s (source_box h.0))
      (map_has (λ g. Texels d (destination_box g)) gs g.0 g.1) (map_has (λ g. Texels s (source_box g)) gs h.0 h.1)
      (and_from _ _ (eq-eqb d s same) (and_from _ _ (and_from _ _ (and_from _ _ (eq-eqb g.0.destination_level h.0.source_level level)
      (common_meets g.0.destination_first_layer g.0.layers h.0.source_first_layer h.0.layers (g.0.destination_first_layer + at.z) (omega arith) (omega arith) (omega arith) (omega arith)))
      (common_meets g.0.destination_x g.0.width h.0.source_x h.0.width (g.0.destination_x + at.x) (omega arith) (omega arith) (omega arith) (omega arith)))
      (common_meets g.0.destination_y g.0.height h.0.source_y h.0.height (g.0.destination_y + at.y) (omega arith) (omega arith) (omega arith) (omega arith))))

  -- copies between buffers and images read the one kind and write the other
  abbrev WritesIn : ℕ → ℕ → BufferImageCopy → ByteWrite → Type 0
  WritesIn b i g m = (z y x k : ℕ) × (t : ℕ) × (byte_write (image_texel i g z y x k) (From (in_buffer b (buffer_texel g t z y x k))) ≡ m)

  in_clear : (b i : ℕ) (o : Option ImageInfo) (g : BufferImageCopy) (m : ByteWrite) → Contains (copy_in_writes b i o g) m → WritesIn b i g m
  in_clear b i None g m c = absurd (none_in m c)
  in_clear b i (Some n) g m c = let at = grid_from _ g.layers g.height g.width (texel n.format) m c in (at.z, at.y, at.x, at.k, texel n.format, sym at.is)

  in_apart : (b i : ℕ) (g h : BufferImageCopy) (m n : ByteWrite) (c : Byte) → WritesIn b i g m → WritesIn b i h n → m.to ≡ c → origin n.source ≡ Some c → ⊥
  in_apart b i g h m n c at of to from =
      let e = ap (λ (m : ByteWrite). m.to) at.5 ∙ to in
      let f = ap (λ (m : ByteWrite). origin m.source) of.5 ∙ from in cc

  abbrev WritesOut : ℕ → ℕ → BufferImageCopy → ByteWrite → Type 0
  WritesOut i b g m = (z y x k : ℕ) × (t : ℕ) × (byte_write (in_buffer b (buffer_texel g t z y x k)) (From (image_texel i g z y x k)) ≡ m)

  out_clear : (i b : ℕ) (o : Option ImageInfo) (g : BufferImageCopy) (m : ByteWrite) → Contains (copy_out_writes i b o g) m → WritesOut i b g m
  out_clear i b None g m c = absurd (none_in m c)
  out_clear i b (Some n) g m c = let at = grid_from _ g.layers g.height g.width (texel n.format) m c in (at.z, at.y, at.x, at.k, texel n.format, sym at.is)

  out_apart : (i b : ℕ) (g h : BufferImageCopy) (m n : ByteWrite) (c : Byte) → WritesOut i b g m → WritesOut i b h n → m.to ≡ c → origin n.source ≡ Some c → ⊥
  out_apart i b g h m n c at of to from =
      let e = ap (λ (m : ByteWrite). m.to) at.5 ∙ to in
      let f = ap (λ (m : ByteWrite). origin m.source) of.5 ∙ from in cc

  clear_value : (i : ℕ) (color : List ℕ) (o : Option ImageInfo) (r : SubresourceRange) (m : ByteWrite) → Contains (clear_writes i color o r) m → (v : ℕ) × (m.source ≡ Value v)
  clear_value i color None r m c = absurd (none_in m c)
  clear_value i color (Some n) r m c = let p = mapped_from (clear_write n color) (subresource_bytes i n r) m c in (_, ap (λ (m : ByteWrite). m.source) (sym p.2))

  value_takes : (m : ByteWrite) (v : ℕ) (b : Byte) → m.source ≡ Value v → origin m.source ≡ Some b → ⊥
  value_takes m v b e h = let none : origin m.source ≡ None = ap origin e in cc

  pub no_overlap : (c : Cmd) (b : Byte) → (IsTrue (command_overlaps past c) → ⊥) → Wrote c b → Took c b → ⊥
  no_overlap (cmd.Fill d o n w) b free to from = let k = mapped_from _ _ from.0 from.1 in value_takes from.0 _ b (ap (λ (m : ByteWrite). m.source) (sym k.2)) from.2
  no_overlap (cmd.Update d o bytes) b free to from = let k = mapped_from _ (enumerate_from 0 bytes) from.0 from.1 in value_takes from.0 _ b (ap (λ (m : ByteWrite). m.source) (sym k.2)) from.2
  no_overlap (cmd.Copy s d gs) b free to from = free (copy_clear s d gs b to from)
  no_overlap (cmd.Clear i l color rs) b free to from =
      let r = flat_from (clear_writes i color (image past i)) rs from.0 from.1 in
      let v = clear_value i color (image past i) r.0 from.0 r.2 in
      value_takes from.0 v.0 b v.1 from.2
  no_overlap (cmd.CopyIn s i l gs) b free to from =
      let g = flat_from (copy_in_writes s i (image past i)) gs to.0 to.1 in
      let h = flat_from (copy_in_writes s i (image past i)) gs from.0 from.1 in
      in_apart s i g.0 h.0 to.0 from.0 b (in_clear s i (image past i) g.0 to.0 g.2) (in_clear s i (image past i) h.0 from.0 h.2) to.2 from.2
  no_overlap (cmd.CopyOut i l d gs) b free to from =
      let g = flat_from (copy_out_writes i d (image past i)) gs to.0 to.1 in
      let h = flat_from (copy_out_writes i d (image past i)) gs from.0 from.1 in
      out_apart i d g.0 h.0 to.0 from.0 b (out_clear i d (image past i) g.0 to.0 g.2) (out_clear i d (image past i) h.0 from.0 h.2) to.2 from.2
  no_overlap (cmd.CopyImage s l d n gs) b free to from = free (image_clear s d l n gs b to from)
  no_overlap (cmd.Barrier es) b free to from = none_in to.0 to.1
  no_overlap (cmd.Set v ms) b free to from = none_in to.0 to.1
  no_overlap (cmd.Await v ms) b free to from = none_in to.0 to.1
