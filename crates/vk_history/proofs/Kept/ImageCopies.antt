-- Copies with images copy the numbers of their bytes.
use denote.Ref.{Bor}
use Rattle.std.proofs.Common.{arith, ◌≡◌, ◌<◌, ◌+◌, ◌^◌, ℕ, List, [], ◌∷◌, true, false, refl, ap, sym, ◌∙◌, Option, Some, None}
use Rattle.std.specs.Prelude.{is_some, option_and_then}
use Rattle.std.specs.Option.{option_map}
use Rattle.std.specs.List.{flat_map}
use Rattle.vk_ids.specs.Ids.{value_of}
use Rattle.vk_model.specs.declared.command.BufferCopy.{BufferCopy}
use Rattle.vk_model.specs.declared.command.BufferImageCopy.{BufferImageCopy}
use Rattle.vk_model.specs.declared.command.Cmd.TheVariants as cmd
use Rattle.vk_model.specs.declared.command.ImageCopy.{ImageCopy}
use Rattle.vk_model.specs.declared.entry.Entry.{Entry}
use Rattle.vk_model.specs.declared.entry.Entry.TheVariants as entry
use Rattle.vk_model.specs.declared.resource.ImageInfo.{ImageInfo}
use Rattle.vk_model.specs.Rules.Ids.{is_buffer, is_image}
use Rattle.vk_model.specs.Trace.Objects.{made, buffer, image, image_in, resource, resource_in}
use Rattle.vk_model.specs.Trace.Point.{Past, Point, Run}
use Rattle.vk_model.specs.World.Bytes.{Byte, in_buffer}
use Rattle.vk_model.specs.World.ByteWrites.{From, byte_write, buffer_size, copy_in_writes, copy_out_writes, copy_image_writes}
use Rattle.vk_model.proofs.Lists.Members.{contains-head, contains-tail}
use Rattle.vk_model.proofs.Lists.Rows.{flat_same, map_below}
use Rattle.vk_image_bytes.specs.Copies.{AreCopies, AreInside, AreBetween, numbered_writes}
use Rattle.vk_image_bytes.specs.Numbers.{byte_of, byte_count}
use Rattle.vk_history.specs.declared.contents.Contents.{Contents}
use Rattle.vk_history.specs.declared.resource_contents.ResourceContents.{ResourceContents}
use Rattle.vk_touches.specs.declared.bytes.Bytes.TheVariants as bytes
use Rattle.vk_history.specs.Contents.{AreBytesOf, AreContents, AreContentsIn, image_kept, byte_at}
use Rattle.vk_history.proofs.Making.Numbers.{byte_of_buffer, size_of_buffer, byte_of_image, size_of_image, buffer_is_resource, image_is_resource}
use Rattle.vk_history.proofs.Kept.NextPoint.{IsWithin, command_there, image_there}
use Rattle.vk_history.proofs.Kept.ImageRules.{buffer_small, copy_in_inside, copy_out_inside, copy_image_between}
use Rattle.vk_history.proofs.Kept.CopySteps.{CopiesNumbers}

-- the image that is kept of a resource is its own
pub kept_image : (contents : Contents) (past : Past) → AreContents contents past → (i : ℕ) → image_kept contents i ≡ image past i
kept_image contents past are i = go (value_of contents.resources i) (are i) where
  no_image : (o : Option Entry) → is_some (option_and_then resource_in o) ≡ false → None ≡ option_and_then image_in o
  no_image None e = refl
  no_image (Some x) e = by x e where
    by : (x : Entry) → is_some (resource_in x) ≡ false → None ≡ image_in x
    by (entry.Image i m) e = absurd cc
    by _ e = refl

  go : (o : Option ResourceContents) → AreContentsIn o past i → option_and_then (λ c. c.image) o ≡ image past i
  go None fresh = no_image (made past i) fresh.unmade
  go (Some c) a = a.image

pub same_some : {m n : ImageInfo} → Some m ≡ Some n → m ≡ n
same_some e = cc

-- the bytes of an image, and of what is none
pub image_bytes_of : (past : Past) (r levels : ℕ) (b : Bor ImageInfo) → image past r ≡ Some b.now → levels ≡ b.now.levels → AreBytesOf past r (bytes.Image r levels b)
image_bytes_of past r levels b is levels_are = record {
  byte = λ k. sym (byte_of_image past r b.now is k);
  numbers = (levels_are, (let size = size_of_image past r b.now is in omega (arith, size)));
  of_buffer = λ none. absurd (let bad : None ≡ Some b.now = sym none ∙ is in cc);
}

pub buffer_bytes_of : (past : Past) (r : ℕ) → image past r ≡ None → AreBytesOf past r (bytes.Buffer r)
unfolding byte_at
buffer_bytes_of past r none = record {
  byte = λ k. sym (ap (λ (o : Option ImageInfo). elim o [ None ↦ in_buffer r k | Some m ↦ byte_of m r k ]) none);
  numbers = tt;
  of_buffer = λ again. refl;
}

-- the levels that an image is said to have
pub levels_of : (o : Option ImageInfo) (b : ImageInfo) (levels : ℕ) → option_map (λ m. m.levels) o ≡ Some levels → Some b ≡ o → levels ≡ b.levels
levels_of None b levels e is = absurd cc
levels_of (Some m) b levels e is = let same : b ≡ m = cc in let known : m.levels ≡ levels = cc in sym known ∙ ap (λ (m : ImageInfo). m.levels) (sym same)

-- copies of bytes that are named in two ways
pub renamed : (from to source destination : ℕ → Byte) → ((k : ℕ) → from k ≡ source k) → ((k : ℕ) → to k ≡ destination k) → (gs : List BufferCopy) → flat_map (numbered_writes from to) gs ≡ flat_map (numbered_writes source destination) gs
renamed from to source destination same_from same_to gs = flat_same (numbered_writes from to) (numbered_writes source destination) gs (λ g. map_below (λ k. byte_write (to (g.destination_offset + k)) (From (from (g.source_offset + k)))) (λ k. byte_write (destination (g.destination_offset + k)) (From (source (g.source_offset + k)))) g.size
    (λ k lt. rw (same_from (g.source_offset + k), same_to (g.destination_offset + k)) refl))

module _ (past : Past) (p : Point) (fit : IsWithin past p) where
  image_is_live : (i : ℕ) (m : ImageInfo) → image past i ≡ Some m → is_some (resource past i) ≡ true
  image_is_live i m of = image_is_resource past i (ap is_some of)

  -- ---- from a buffer to an image

  module _ (b i l : ℕ) (regions : List BufferImageCopy) (is : p.action ≡ Run (cmd.CopyIn b i l regions)) where
    in_there : is_some (buffer past b) ≡ true
    in_there = command_there past p fit.faultless fit.live fit.range (cmd.CopyIn b i l regions) is b (contains-head (b, is_buffer) ((i, is_image) ∷ []))

    in_image_of : (m : ImageInfo) × (image past i ≡ Some m)
    in_image_of = image_there past p fit.faultless fit.live fit.range (cmd.CopyIn b i l regions) is i (contains-tail (b, is_buffer) ((i, is_image) ∷ []) (i, is_image) (contains-head (i, is_image) []))

    pub copied_in : (gs : List BufferCopy)
        → ((m : ImageInfo) → image past i ≡ Some m → (c size : ℕ) → size < 2 ^ 64 → AreInside m size regions → AreCopies (in_buffer c) (byte_of m i) size (byte_count m) (flat_map (copy_in_writes c i (Some m)) regions) gs)
        → CopiesNumbers past p (cmd.CopyIn b i l regions) b i gs
    copied_in gs copies =
        let m : ImageInfo = in_image_of.0 in
        let of = in_image_of.1 in
        let c = copies m of b (buffer_size past b) (buffer_small past fit.faultless b in_there) (copy_in_inside past p fit b i l regions is m of) in
        record {
          owner = λ w r. refl;
          dirty = λ w byte. refl;
          value = λ w byte. refl;
          writes = ap (λ (o : Option ImageInfo). flat_map (copy_in_writes b i o) regions) of ∙ sym c.writes
              ∙ renamed (in_buffer b) (byte_of m i) (byte_at past b) (byte_at past i) (λ k. sym (byte_of_buffer past b in_there k)) (λ k. sym (byte_of_image past i m of k)) gs;
          writes_now = same_image;
          unmoved = λ byte. refl;
          source_there = buffer_is_resource past b in_there;
          destination_there = image_is_live i m of;
          reads_fit = λ g k. rw (size_of_buffer past b in_there) (c.reads_within g k);
          writes_fit = λ g k. rw (size_of_image past i m of) (c.writes_within g k);
        }
      where
        same_image : flat_map (copy_in_writes b i (image (p ∷ past) i)) regions ≡ flat_map (copy_in_writes b i (image past i)) regions
        same_image = rw is refl

  -- ---- from an image to a buffer

  module _ (i l b : ℕ) (regions : List BufferImageCopy) (is : p.action ≡ Run (cmd.CopyOut i l b regions)) where
    out_there : is_some (buffer past b) ≡ true
    out_there = command_there past p fit.faultless fit.live fit.range (cmd.CopyOut i l b regions) is b (contains-tail (i, is_image) ((b, is_buffer) ∷ []) (b, is_buffer) (contains-head (b, is_buffer) []))

    out_image_of : (m : ImageInfo) × (image past i ≡ Some m)
    out_image_of = image_there past p fit.faultless fit.live fit.range (cmd.CopyOut i l b regions) is i (contains-head (i, is_image) ((b, is_buffer) ∷ []))

    pub copied_out : (gs : List BufferCopy)
        → ((m : ImageInfo) → image past i ≡ Some m → (c size : ℕ) → size < 2 ^ 64 → AreInside m size regions → AreCopies (byte_of m i) (in_buffer c) (byte_count m) size (flat_map (copy_out_writes i c (Some m)) regions) gs)
        → CopiesNumbers past p (cmd.CopyOut i l b regions) i b gs
    copied_out gs copies =
        let m : ImageInfo = out_image_of.0 in
        let of = out_image_of.1 in
        let c = copies m of b (buffer_size past b) (buffer_small past fit.faultless b out_there) (copy_out_inside past p fit i l b regions is m of) in
        record {
          owner = λ w r. refl;
          dirty = λ w byte. refl;
          value = λ w byte. refl;
          writes = ap (λ (o : Option ImageInfo). flat_map (copy_out_writes i b o) regions) of ∙ sym c.writes
              ∙ renamed (byte_of m i) (in_buffer b) (byte_at past i) (byte_at past b) (λ k. sym (byte_of_image past i m of k)) (λ k. sym (byte_of_buffer past b out_there k)) gs;
          writes_now = same_image;
          unmoved = λ byte. refl;
          source_there = image_is_live i m of;
          destination_there = buffer_is_resource past b out_there;
          reads_fit = λ g k. rw (size_of_image past i m of) (c.reads_within g k);
          writes_fit = λ g k. rw (size_of_buffer past b out_there) (c.writes_within g k);
        }
      where
        same_image : flat_map (copy_out_writes i b (image (p ∷ past) i)) regions ≡ flat_map (copy_out_writes i b (image past i)) regions
        same_image = rw is refl

  -- ---- from an image to another, or within one

  module _ (s l d k : ℕ) (regions : List ImageCopy) (is : p.action ≡ Run (cmd.CopyImage s l d k regions)) where
    read_of : (m : ImageInfo) × (image past s ≡ Some m)
    read_of = image_there past p fit.faultless fit.live fit.range (cmd.CopyImage s l d k regions) is s (contains-head (s, is_image) ((d, is_image) ∷ []))

    written_of : (m : ImageInfo) × (image past d ≡ Some m)
    written_of = image_there past p fit.faultless fit.live fit.range (cmd.CopyImage s l d k regions) is d (contains-tail (s, is_image) ((d, is_image) ∷ []) (d, is_image) (contains-head (d, is_image) []))

    pub copied_image : (gs : List BufferCopy)
        → ((m n : ImageInfo) → image past s ≡ Some m → image past d ≡ Some n → AreBetween m n regions → AreCopies (byte_of m s) (byte_of n d) (byte_count m) (byte_count n) (flat_map (copy_image_writes s d (Some n)) regions) gs)
        → CopiesNumbers past p (cmd.CopyImage s l d k regions) s d gs
    copied_image gs copies =
        let m : ImageInfo = read_of.0 in
        let n : ImageInfo = written_of.0 in
        let of = read_of.1 in
        let to = written_of.1 in
        let c = copies m n of to (copy_image_between past p fit s l d k regions is m n of to) in
        record {
          owner = λ w r. refl;
          dirty = λ w byte. refl;
          value = λ w byte. refl;
          writes = ap (λ (o : Option ImageInfo). flat_map (copy_image_writes s d o) regions) to ∙ sym c.writes
              ∙ renamed (byte_of m s) (byte_of n d) (byte_at past s) (byte_at past d) (λ k. sym (byte_of_image past s m of k)) (λ k. sym (byte_of_image past d n to k)) gs;
          writes_now = same_image;
          unmoved = λ byte. refl;
          source_there = image_is_live s m of;
          destination_there = image_is_live d n to;
          reads_fit = λ g k. rw (size_of_image past s m of) (c.reads_within g k);
          writes_fit = λ g k. rw (size_of_image past d n to) (c.writes_within g k);
        }
      where
        same_image : flat_map (copy_image_writes s d (image (p ∷ past) d)) regions ≡ flat_map (copy_image_writes s d (image past d)) regions
        same_image = rw is refl
