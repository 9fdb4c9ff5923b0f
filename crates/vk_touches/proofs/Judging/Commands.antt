-- What is wrong with the bytes that a command accesses is what searches find of what is kept of them.
use Rattle.std.proofs.Common.{◌≡◌, ◌<◌, ◌≤◌, ◌+◌, ℕ, List, [], map, slice_get, Bool, true, false, sym, ap, ◌∙◌, subst, Some}
use Rattle.std.specs.Prelude.{Contains}
use Rattle.std.specs.List.{list_any, flat_map}
use Rattle.vk_model.specs.declared.command.BufferCopy.{BufferCopy}
use Rattle.vk_model.specs.declared.command.SubresourceRange.{SubresourceRange}
use Rattle.vk_model.specs.declared.resource.ImageInfo.{ImageInfo}
use Rattle.vk_model.specs.Basics.{below}
use Rattle.vk_model.specs.Trace.Objects.{is_cached}
use Rattle.vk_model.specs.Trace.Point.{Past, Point}
use Rattle.vk_model.specs.World.Bytes.{Byte, resource_at}
use Rattle.vk_model.specs.World.ByteWrites.{subresource_bytes}
use Rattle.vk_model.specs.Rules.Hazards.{breaks_hazard_war, breaks_hazard_raw, breaks_hazard_waw, breaks_read_undefined}
use Rattle.vk_model.proofs.Lists.Members.{member_passes, none_passes_any}
use Rattle.vk_image_bytes.specs.declared.ranges.ByteRanges.{ByteRanges}
use Rattle.vk_image_bytes.specs.Numbers.{byte_of, byte_count}
use Rattle.vk_image_bytes.specs.Ranges.{AreRanges}
use Rattle.vk_order.specs.declared.access.Access.{Access}
use Rattle.vk_order.specs.declared.access.Access.TheVariants as access
use Rattle.vk_order.specs.declared.new_node.NewNode.{NewNode}
use Rattle.vk_touches.specs.declared.accesses.ResourceAccess.{ResourceAccess}
use Rattle.vk_touches.specs.declared.bytes.Bytes.{Bytes}
use Rattle.vk_touches.specs.declared.touches.LastTouches.{LastTouches}
use Rattle.vk_touches.specs.Bytes.{numbered_byte}
use Rattle.vk_touches.specs.Touched.{touched}
use Rattle.vk_touches.specs.Conflicts.{AreConflicts, IsAccess, FoundIn, FoundAt, FoundAmong, FoundInRanges, Misses, IsEarly}
use Rattle.vk_touches.proofs.Judging.Covered.{AreThere, ranges_found}
use Rattle.vk_laws.proofs.Forms.Spread.{any_flat}
use Rattle.vk_touches.proofs.Judging.Found.{numbers_found, regions_found}

-- what is kept of the bytes of a resource, by their numbers
pub record IsKept (past : Past) (b : Bytes) (byte : ℕ → Byte) (size : ℕ) (cached : Bool) (touches : List LastTouches) : Type 0 where
  pub named : (k : ℕ) → numbered_byte b k ≡ byte k
  pub remembered : (k : ℕ) → k < size → slice_get touches k ≡ Some (touched past (byte k))
  pub cache : (k : ℕ) → cached ≡ is_cached past (resource_at (byte k))

-- what is found in levels and layers of an image
abbrev pub FoundInSubresources : (Bool → (low high : ℕ) → Type 0) → ImageInfo → Bool → SubresourceRange → Type 0
FoundInSubresources is m answer r = (s : ByteRanges) × AreRanges m r s × FoundInRanges is answer s

module _ (past : Past) (m : ImageInfo) (i : ℕ) (is : ℕ → Bool → LastTouches → Type 0) (test : Byte → Bool) (same : (k : ℕ) (t : Bool) → is k t (touched past (byte_of m i k)) → test (byte_of m i k) ≡ t) (touches : List LastTouches) (kept : (k : ℕ) → k < byte_count m → slice_get touches k ≡ Some (touched past (byte_of m i k))) where
  pub subresources_found : (r : SubresourceRange) → AreThere m r → (q : Bool) → FoundInSubresources (λ t low high. FoundAt is t touches low high) m q r → list_any test (map (λ p. p.0) (subresource_bytes i m r)) ≡ q
  subresources_found r fit q found = ranges_found m i r fit past is test same touches kept found.0 found.1 q found.2

  pub all_subresources_found : (rs : List SubresourceRange) → ((r : SubresourceRange) → Contains rs r → AreThere m r) → (q : Bool) → FoundAmong (FoundInSubresources (λ t low high. FoundAt is t touches low high) m) q rs
      → list_any test (flat_map (λ r. map (λ p. p.0) (subresource_bytes i m r)) rs) ≡ q
  all_subresources_found rs fits true found =
      any_flat test (λ r. map (λ p. p.0) (subresource_bytes i m r)) rs
      ∙ member_passes (λ r. list_any test (map (λ p. p.0) (subresource_bytes i m r))) rs found.0 found.1 (subresources_found found.0 (fits found.0 found.1) true found.2)
  all_subresources_found rs fits false found =
      any_flat test (λ r. map (λ p. p.0) (subresource_bytes i m r)) rs
      ∙ none_passes_any (λ r. list_any test (map (λ p. p.0) (subresource_bytes i m r))) rs (λ r c. subresources_found r (fits r c) false (found r c))

-- ---- by what is missed and what is early

module _ (past : Past) (p : Point) (reads writes : List Byte) (missed : Access → Byte → Bool) (early : Byte → Bool)
    (raw_is : breaks_hazard_raw past p ≡ list_any (missed access.Read) reads)
    (waw_is : breaks_hazard_waw past p ≡ list_any (missed access.Write) writes)
    (war_is : breaks_hazard_war past p ≡ list_any early writes)
    (undefined_is : false ≡ breaks_read_undefined past p)
    (s : NewNode)
    (missed_is : (x : ResourceAccess) (b : Bytes) (a : Access) → IsAccess past s b a x → (k : ℕ) (c : Bool) → c ≡ is_cached past (resource_at (numbered_byte b k)) → (r : Bool) → Misses c x k r (touched past (numbered_byte b k)) → missed a (numbered_byte b k) ≡ r)
    (early_is : (b : Byte) (r : Bool) → IsEarly s r (touched past b) → early b ≡ r) where
  module _ (b : Bytes) (byte : ℕ → Byte) (size : ℕ) (c : Bool) (touches : List LastTouches) (kept : IsKept past b byte size c touches) where
    missed_at : (x : ResourceAccess) (a : Access) → IsAccess past s b a x → (k : ℕ) (r : Bool) → Misses c x k r (touched past (byte k)) → missed a (byte k) ≡ r
    missed_at x a by k = subst (λ (y : Byte). c ≡ is_cached past (resource_at y) → (r : Bool) → Misses c x k r (touched past y) → missed a y ≡ r) (kept.named k) (missed_is x b a by k c) (kept.cache k)

    -- a command that gives a range values
    pub values_conflicts : (o n : ℕ) → o + n ≤ size → reads ≡ [] → writes ≡ map (λ k. byte (o + k)) (below n) → (x : ResourceAccess) → IsAccess past s b access.Write x → (war waw : Bool)
        → FoundIn (IsEarly s) war touches o (o + n) → FoundAt (Misses c x) waw touches o (o + n)
        → AreConflicts (record { war = war; raw = false; waw = waw; undefined = false }) past p
    values_conflicts o n fits none are x by war waw ahead unseen = record {
      war = sym (war_is ∙ ap (list_any early) are ∙ numbers_found past byte size (λ k. IsEarly s) early (λ k. early_is (byte k)) touches kept.remembered o n fits war ahead);
      raw = sym (raw_is ∙ ap (list_any (missed access.Read)) none);
      waw = sym (waw_is ∙ ap (list_any (missed access.Write)) are ∙ numbers_found past byte size (Misses c x) (missed access.Write) (missed_at x access.Write by) touches kept.remembered o n fits waw unseen);
      undefined = undefined_is;
    }

    -- a clear
    pub clear_conflicts : (m : ImageInfo) (i : ℕ) (rs : List SubresourceRange) → ((k : ℕ) → byte k ≡ byte_of m i k) → size ≡ byte_count m → ((r : SubresourceRange) → Contains rs r → AreThere m r) → reads ≡ [] → writes ≡ flat_map (λ r. map (λ p. p.0) (subresource_bytes i m r)) rs
        → (x : ResourceAccess) → IsAccess past s b access.Write x → (war waw : Bool)
        → FoundAmong (FoundInSubresources (λ t low high. FoundIn (IsEarly s) t touches low high) m) war rs → FoundAmong (FoundInSubresources (λ t low high. FoundAt (Misses c x) t touches low high) m) waw rs
        → AreConflicts (record { war = war; raw = false; waw = waw; undefined = false }) past p
    clear_conflicts m i rs of whole fits none are x by war waw ahead unseen = record {
      war = sym (war_is ∙ ap (list_any early) are ∙ all_subresources_found past m i (λ k. IsEarly s) early (λ k. early_is (byte_of m i k)) touches there rs fits war ahead);
      raw = sym (raw_is ∙ ap (list_any (missed access.Read)) none);
      waw = sym (waw_is ∙ ap (list_any (missed access.Write)) are ∙ all_subresources_found past m i (Misses c x) (missed access.Write) (λ k. subst (λ (y : Byte). (r : Bool) → Misses c x k r (touched past y) → missed access.Write y ≡ r) (of k) (missed_at x access.Write by k)) touches there rs fits waw unseen);
      undefined = undefined_is;
    } where
      there : (k : ℕ) → k < byte_count m → slice_get touches k ≡ Some (touched past (byte_of m i k))
      there k lt = kept.remembered k (subst (λ (n : ℕ). k < n) (sym whole) lt) ∙ ap (λ (y : Byte). Some (touched past y)) (of k)

  -- a copy, of numbers of one resource to numbers of another, or of the same
  module _ (b d : Bytes) (source destination : ℕ → Byte) (m n : ℕ) (c e : Bool) (u v : List LastTouches) (kept : IsKept past b source m c u) (kept_there : IsKept past d destination n e v) where
    pub copy_conflicts : (gs : List BufferCopy) → reads ≡ flat_map (λ g. map (λ k. source (g.source_offset + k)) (below g.size)) gs → writes ≡ flat_map (λ g. map (λ k. destination (g.destination_offset + k)) (below g.size)) gs
        → ((g : BufferCopy) → Contains gs g → g.source_offset + g.size ≤ m) → ((g : BufferCopy) → Contains gs g → g.destination_offset + g.size ≤ n)
        → (x : ResourceAccess) → IsAccess past s b access.Read x → (y : ResourceAccess) → IsAccess past s d access.Write y → (war raw waw : Bool)
        → FoundAmong (λ r g. FoundIn (IsEarly s) r v g.destination_offset (g.destination_offset + g.size)) war gs
        → FoundAmong (λ r g. FoundAt (Misses c x) r u g.source_offset (g.source_offset + g.size)) raw gs
        → FoundAmong (λ r g. FoundAt (Misses e y) r v g.destination_offset (g.destination_offset + g.size)) waw gs
        → AreConflicts (record { war = war; raw = raw; waw = waw; undefined = false }) past p
    copy_conflicts gs from to reads_fit writes_fit x by_x y by_y war raw waw ahead unread unwritten = record {
      war = sym (war_is ∙ ap (list_any early) to ∙ regions_found past destination n (λ k. IsEarly s) early (λ k. early_is (destination k)) v kept_there.remembered (λ g. g.destination_offset) gs writes_fit war ahead);
      raw = sym (raw_is ∙ ap (list_any (missed access.Read)) from ∙ regions_found past source m (Misses c x) (missed access.Read) (missed_at b source m c u kept x access.Read by_x) u kept.remembered (λ g. g.source_offset) gs reads_fit raw unread);
      waw = sym (waw_is ∙ ap (list_any (missed access.Write)) to ∙ regions_found past destination n (Misses e y) (missed access.Write) (missed_at d destination n e v kept_there y access.Write by_y) v kept_there.remembered (λ g. g.destination_offset) gs writes_fit waw unwritten);
      undefined = undefined_is;
    }
