-- The bytes of resources by their numbers.
use Rattle.std.proofs.Common.{◌≡◌, ◌<◌, ◌≤◌, ◌+◌, ◌-◌, ℕ, List, [], ◌∷◌, ◌++◌, map, Bool, true, false, ◌&&◌, ◌==◌, refl, ap, sym, ◌∙◌, arith, Option, Some, None, eq-eqb}
use Rattle.std.specs.Prelude.{is_some, option_and_then, nat_le, nat_lt, Contains}
use Rattle.std.specs.List.{list_any, flat_map}
use Rattle.std.proofs.lemmas.Bool.{eqb-true, and_parts, leb-true, ltb-true, le-leb, lt-ltb}
use Rattle.std.proofs.lemmas.List.{map-append}
use Rattle.std.proofs.lemmas.List.Elements.{filter_map-append}
use Rattle.std.proofs.lemmas.List.Folds.{list_any-append}
use Rattle.vk_model.specs.declared.command.BufferCopy.{BufferCopy}
use Rattle.vk_model.specs.declared.entry.Entry.{Entry}
use Rattle.vk_model.specs.declared.entry.Entry.TheVariants as entry
use Rattle.vk_model.specs.declared.resource.ImageInfo.{ImageInfo}
use Rattle.vk_model.specs.Basics.{below, within}
use Rattle.vk_model.specs.Trace.Objects.{made, buffer, buffer_in, image, image_in, resource, resource_in}
use Rattle.vk_model.specs.Trace.Point.{Past}
use Rattle.vk_model.specs.World.Bytes.{Byte, in_buffer, in_image, same_byte, resource_at}
use Rattle.vk_model.specs.World.ByteWrites.{ByteWrite, From, byte_write, buffer_size}
use Rattle.vk_model.specs.Sync.Access.{is_in, bytes_of, targets, origin, origins}
use Rattle.vk_model.proofs.Lists.Members.{any_map, contains-head, contains-tail}
use Rattle.vk_model.proofs.Lists.Truths.{bool_same}
use Rattle.vk_touches.specs.TouchedRanges.{reads_at, writes_at}
use Rattle.vk_image_bytes.specs.Copies.{numbered_writes}
use Rattle.vk_image_bytes.specs.Numbers.{byte_of, byte_count}
use Rattle.vk_image_bytes.proofs.Numbering.{numbers_same}
use Rattle.vk_model.specs.World.Effect.{world}
use Rattle.vk_touches.specs.Touched.{touched}
use Rattle.vk_history.specs.declared.resource_contents.ResourceContents.{ResourceContents}
use Rattle.vk_history.specs.Contents.{byte_at, size_at, has_value, AreContentsOf, AreBufferContents}
use Rattle.vk_history.proofs.Points.Ranges.{byte_in, to-map, none_of, one_of, some_of}

-- ---- what a byte is of

-- bytes of two resources are not the same
pub apart_bytes : (b c : Byte) → (resource_at b == resource_at c) ≡ false → same_byte b c ≡ false
apart_bytes (in_buffer b k) (in_buffer c l) e = rw e refl
apart_bytes (in_buffer b k) (in_image j c d u v q) e = refl
apart_bytes (in_image i a b x y p) (in_buffer c l) e = refl
apart_bytes (in_image i a b x y p) (in_image j c d u v q) e = rw e refl

-- a buffer is no image
pub buffer_kind : (x : Entry) → is_some (buffer_in x) ≡ true → (is_some (resource_in x) ≡ true) × (image_in x ≡ None)
buffer_kind (entry.Buffer i b) e = (refl, refl)
buffer_kind (entry.Map b) e = absurd cc
buffer_kind (entry.Read b o n) e = absurd cc
buffer_kind (entry.Semaphore i v) e = absurd cc
buffer_kind (entry.Wait ws) e = absurd cc
buffer_kind (entry.Submit q bs) e = absurd cc
buffer_kind (entry.Pool i x) e = absurd cc
buffer_kind (entry.Image i x) e = absurd cc
buffer_kind (entry.Memory i m) e = absurd cc
buffer_kind (entry.Free m) e = absurd cc
buffer_kind (entry.Destroy r) e = absurd cc
buffer_kind (entry.DropPool q) e = absurd cc
buffer_kind (entry.Unmap b) e = absurd cc
buffer_kind (entry.Write b o bytes) e = absurd cc
buffer_kind (entry.Flush b o n) e = absurd cc
buffer_kind (entry.Invalidate b o n) e = absurd cc
buffer_kind (entry.Event i) e = absurd cc
buffer_kind (entry.Signal s v) e = absurd cc
buffer_kind (entry.Defrag i q n m) e = absurd cc
buffer_kind (entry.Pass d) e = absurd cc
buffer_kind (entry.EndPass d kept lost) e = absurd cc
buffer_kind (entry.EndDefrag d) e = absurd cc

module _ (past : Past) (b : ℕ) (there : is_some (buffer past b) ≡ true) where
  kind_of : (o : Option Entry) → is_some (option_and_then buffer_in o) ≡ true → (is_some (option_and_then resource_in o) ≡ true) × (option_and_then image_in o ≡ None)
  kind_of None e = absurd cc
  kind_of (Some x) e = buffer_kind x e

  pub buffer_is_resource : is_some (resource past b) ≡ true
  buffer_is_resource = (kind_of (made past b) there).0

  pub buffer_no_image : image past b ≡ None
  buffer_no_image = (kind_of (made past b) there).1

  pub byte_of_buffer : (k : ℕ) → byte_at past b k ≡ in_buffer b k
  unfolding byte_at
  byte_of_buffer k = rw (byte_at, buffer_no_image) refl

  pub size_of_buffer : size_at past b ≡ buffer_size past b
  unfolding size_at
  size_of_buffer = rw (size_at, buffer_no_image) refl

  -- the contents of a buffer
  pub of_buffer : (c : ResourceContents) → AreContentsOf c past b → AreBufferContents c past b
  of_buffer c a = record {
    defined_size = a.defined_size ∙ size_of_buffer;
    touches_size = a.touches_size ∙ size_of_buffer;
    cache = a.cache;
    defined = λ k lt. a.defined k (rw size_of_buffer lt) ∙ ap (λ (x : Byte). Some (has_value (world past) x)) (byte_of_buffer k);
    touches = λ k lt. a.touches k (rw size_of_buffer lt) ∙ ap (λ (x : Byte). Some (touched past x)) (byte_of_buffer k);
  }

module _ (past : Past) (i : ℕ) (m : ImageInfo) (is : image past i ≡ Some m) where
  pub byte_of_image : (k : ℕ) → byte_at past i k ≡ byte_of m i k
  unfolding byte_at
  byte_of_image k = rw (byte_at, is) refl

  pub size_of_image : size_at past i ≡ byte_count m
  unfolding size_at
  size_of_image = rw (size_at, is) refl

-- an image is a resource
image_kind : (x : Entry) → is_some (image_in x) ≡ true → is_some (resource_in x) ≡ true
image_kind (entry.Image i m) e = refl
image_kind _ e = absurd cc

pub image_is_resource : (past : Past) (i : ℕ) → is_some (image past i) ≡ true → is_some (resource past i) ≡ true
image_is_resource past i there = go (made past i) there where
  go : (o : Option Entry) → is_some (option_and_then image_in o) ≡ true → is_some (option_and_then resource_in o) ≡ true
  go None e = absurd cc
  go (Some x) e = image_kind x e

-- what is made of one entry is numbered alike
module _ (past later : Past) (r : ℕ) (same : made later r ≡ made past r) where
  same_image : image later r ≡ image past r
  same_image = ap (option_and_then image_in) same

  pub same_byte_at : (k : ℕ) → byte_at later r k ≡ byte_at past r k
  unfolding byte_at
  same_byte_at k = ap (λ (o : Option ImageInfo). elim o [ None ↦ in_buffer r k | Some m ↦ byte_of m r k ]) same_image

  pub same_size_at : size_at later r ≡ size_at past r
  unfolding size_at
  same_size_at = ap (λ (o : Option Entry). elim (option_and_then image_in o) [ None ↦ elim (option_and_then buffer_in o) [ None ↦ 0 | Some b ↦ b.size ] | Some m ↦ byte_count m ]) same

-- ---- numbering

-- bytes of a resource, so many of which differ
pub record IsNumbered (byte : ℕ → Byte) (size r : ℕ) : Type 0 where
  pub own : (k : ℕ) → resource_at (byte k) ≡ r
  pub apart : (j k : ℕ) → j < size → k < size → same_byte (byte j) (byte k) ≡ (j == k)

pub numbered_at : (past : Past) (r : ℕ) → IsNumbered (byte_at past r) (size_at past r) r
unfolding byte_at size_at
numbered_at past r = go (image past r) where
  go : (o : Option ImageInfo) → IsNumbered (λ k. elim o [ None ↦ in_buffer r k | Some m ↦ byte_of m r k ]) (elim o [ None ↦ buffer_size past r | Some m ↦ byte_count m ]) r
  go None = record { own = λ k. refl; apart = λ j k lj lk. rw (eq-eqb r r refl) refl }
  go (Some m) = record { own = λ k. refl; apart = λ j k lj lk. (numbers_same m r r j k lj lk ∙ rw (eq-eqb r r refl) refl) }

-- ---- bytes of a range of a buffer

abbrev pub in_bytes : (b o n : ℕ) → Byte → Bool
in_bytes b o n (in_buffer c k) = c == b && within o n k
in_bytes b o n (in_image i l a x y p) = false

pub in_bytes_is : (b o n : ℕ) (c : Byte) → is_in c (bytes_of b o n) ≡ in_bytes b o n c
in_bytes_is b o n (in_buffer c k) = byte_in c k b o n
in_bytes_is b o n (in_image i l a x y p) = any_map (same_byte (in_image i l a x y p)) (λ j. in_buffer b (o + j)) (below n) ∙ none_of (λ j. false) 0 n (λ k low high. refl)

pub bytes_of_other : (b o n r : ℕ) (c : Byte) → (r == b) ≡ false → resource_at c ≡ r → in_bytes b o n c ≡ false
bytes_of_other b o n r (in_buffer c k) e is = rw (is, e) refl
bytes_of_other b o n r (in_image i l a x y p) e is = refl

-- ---- bytes of ranges of numbers

module _ (byte : ℕ → Byte) (size r : ℕ) (numbered : IsNumbered byte size r) where
  abbrev pub numbers : ℕ → ℕ → List Byte
  numbers o n = map (λ j. byte (o + j)) (below n)

  pub number_in : (o n k : ℕ) → o + n ≤ size → k < size → is_in (byte k) (numbers o n) ≡ within o n k
  number_in o n k fits lt = any_map (same_byte (byte k)) (λ j. byte (o + j)) (below n) ∙ bool_same (list_any (λ j. same_byte (byte k) (byte (o + j))) (below n)) (within o n k) to from where
    to : list_any (λ j. same_byte (byte k) (byte (o + j))) (below n) ≡ true → within o n k ≡ true
    to h =
        let at = some_of (λ j. same_byte (byte k) (byte (o + j))) 0 n h in
        let high = at.2 in
        let is : k ≡ o + at.0 = eqb-true k (o + at.0) (sym (numbered.apart k (o + at.0) lt (omega (arith, high))) ∙ at.3) in
        rw (le-leb o k (omega (arith, is)), lt-ltb k (o + n) (omega (arith, is, high))) refl

    from : within o n k ≡ true → list_any (λ j. same_byte (byte k) (byte (o + j))) (below n) ≡ true
    from h =
        let inside = and_parts (nat_le o k) (nat_lt k (o + n)) h in
        let low : o ≤ k = leb-true o k inside.0 in
        let high : k < o + n = ltb-true k (o + n) inside.1 in
        let at : k ≡ o + (k - o) = omega (arith, low) in
        one_of (λ j. same_byte (byte k) (byte (o + j))) 0 n (k - o) (omega arith) (omega (arith, low, high)) (numbered.apart k (o + (k - o)) lt (omega (arith, low, lt)) ∙ eq-eqb k (o + (k - o)) at)

  pub number_of_other : (o n : ℕ) (c : Byte) → (resource_at c == r) ≡ false → is_in c (numbers o n) ≡ false
  number_of_other o n c e = any_map (same_byte c) (λ j. byte (o + j)) (below n) ∙ none_of (λ j. same_byte c (byte (o + j))) 0 n (λ j low high. apart_bytes c (byte (o + j)) (rw (numbered.own (o + j)) e))

-- ---- what copies of numbers write and read

module _ (from to : ℕ → Byte) where
  pub targets_flat : (gs : List BufferCopy) → targets (flat_map (numbered_writes from to) gs) ≡ flat_map (λ g. map (λ j. to (g.destination_offset + j)) (below g.size)) gs
  targets_flat [] = refl
  targets_flat (g ∷ gs) =
      map-append (λ (m : ByteWrite). m.to) (numbered_writes from to g) (flat_map (numbered_writes from to) gs)
      ∙ ap (λ (bs : List Byte). bs ++ targets (flat_map (numbered_writes from to) gs)) (to-map _ (below g.size)) ∙ ap (λ (bs : List Byte). map (λ j. to (g.destination_offset + j)) (below g.size) ++ bs) (targets_flat gs)

  one_origins : (g : BufferCopy) (ks : List ℕ) → origins (map (λ k. byte_write (to (g.destination_offset + k)) (From (from (g.source_offset + k)))) ks) ≡ map (λ k. from (g.source_offset + k)) ks
  one_origins g [] = refl
  one_origins g (k ∷ ks) = ap (λ (bs : List Byte). from (g.source_offset + k) ∷ bs) (one_origins g ks)

  pub origins_flat : (gs : List BufferCopy) → origins (flat_map (numbered_writes from to) gs) ≡ flat_map (λ g. map (λ j. from (g.source_offset + j)) (below g.size)) gs
  origins_flat [] = refl
  origins_flat (g ∷ gs) =
      filter_map-append (λ (m : ByteWrite). origin m.source) (numbered_writes from to g) (flat_map (numbered_writes from to) gs)
      ∙ ap (λ (bs : List Byte). bs ++ origins (flat_map (numbered_writes from to) gs)) (one_origins g (below g.size)) ∙ ap (λ (bs : List Byte). map (λ j. from (g.source_offset + j)) (below g.size) ++ bs) (origins_flat gs)

-- a byte among those of ranges, one for each copy
module _ (byte : ℕ → Byte) (size r : ℕ) (numbered : IsNumbered byte size r) (offset : BufferCopy → ℕ) where
  in_ranges : (gs : List BufferCopy) → ((g : BufferCopy) → Contains gs g → offset g + g.size ≤ size) → (k : ℕ) → k < size → is_in (byte k) (flat_map (λ g. map (λ j. byte (offset g + j)) (below g.size)) gs) ≡ list_any (λ g. within (offset g) g.size k) gs
  in_ranges [] fit k lt = refl
  in_ranges (g ∷ gs) fit k lt =
      list_any-append (same_byte (byte k)) (map (λ j. byte (offset g + j)) (below g.size)) (flat_map (λ h. map (λ j. byte (offset h + j)) (below h.size)) gs)
      ∙ rw (number_in byte size r numbered (offset g) g.size k (fit g (contains-head g gs)) lt, in_ranges gs (λ h c. fit h (contains-tail g gs h c)) k lt) refl

  in_no_range : (gs : List BufferCopy) (c : Byte) → (resource_at c == r) ≡ false → is_in c (flat_map (λ g. map (λ j. byte (offset g + j)) (below g.size)) gs) ≡ false
  in_no_range [] c e = refl
  in_no_range (g ∷ gs) c e =
      list_any-append (same_byte c) (map (λ j. byte (offset g + j)) (below g.size)) (flat_map (λ h. map (λ j. byte (offset h + j)) (below h.size)) gs)
      ∙ rw (number_of_other byte size r numbered (offset g) g.size c e, in_no_range gs c e) refl

module _ (from to : ℕ → Byte) (gs : List BufferCopy) where
  pub copies-targets : (size d : ℕ) → IsNumbered to size d → ((g : BufferCopy) → Contains gs g → g.destination_offset + g.size ≤ size) → (k : ℕ) → k < size → is_in (to k) (targets (flat_map (numbered_writes from to) gs)) ≡ writes_at gs k
  copies-targets size d n fit k lt = ap (is_in (to k)) (targets_flat from to gs) ∙ in_ranges to size d n (λ g. g.destination_offset) gs fit k lt

  pub copies-targets-other : (size d : ℕ) → IsNumbered to size d → (c : Byte) → (resource_at c == d) ≡ false → is_in c (targets (flat_map (numbered_writes from to) gs)) ≡ false
  copies-targets-other size d n c e = ap (is_in c) (targets_flat from to gs) ∙ in_no_range to size d n (λ g. g.destination_offset) gs c e

  pub copies-origins : (size s : ℕ) → IsNumbered from size s → ((g : BufferCopy) → Contains gs g → g.source_offset + g.size ≤ size) → (k : ℕ) → k < size → is_in (from k) (origins (flat_map (numbered_writes from to) gs)) ≡ reads_at gs k
  copies-origins size s n fit k lt = ap (is_in (from k)) (origins_flat from to gs) ∙ in_ranges from size s n (λ g. g.source_offset) gs fit k lt

  pub copies-origins-other : (size s : ℕ) → IsNumbered from size s → (c : Byte) → (resource_at c == s) ≡ false → is_in c (origins (flat_map (numbered_writes from to) gs)) ≡ false
  copies-origins-other size s n c e = ap (is_in c) (origins_flat from to gs) ∙ in_no_range from size s n (λ g. g.source_offset) gs c e
