-- What bytes remember, by the three lists that are kept of it.
use Rattle.std.proofs.Common.{◌≡◌, ◌<◌, ◌≤◌, ℕ, List, length, slice_get, Bool, true, false, refl, ap, sym, ◌∙◌, subst, Option, Some, None, inl, inr}
use Rattle.std.specs.Prelude.{if◌then◌else◌}
use Rattle.std.specs.Option.{option_map}
use Rattle.std.specs.Simd.Lanes.{zip2}
use Rattle.std.proofs.lemmas.Simd.{length-zip2}
use Rattle.vk_order.specs.declared.new_node.NewNode.{NewNode}
use Rattle.vk_order.specs.declared.parts.Spot.{Spot as Placed}
use Rattle.vk_order.specs.declared.visible_prefix.VisiblePrefix.{VisiblePrefix}
use Rattle.vk_order.specs.VisiblePrefix.{is_among}
use Rattle.vk_ranges.specs.Overlaps.{Piece, AreRunsOf}
use Rattle.vk_touches.specs.declared.accesses.ResourceAccess.{ResourceAccess}
use Rattle.vk_touches.specs.declared.others.OtherTouches.{OtherTouches}
use Rattle.vk_touches.specs.declared.reads.LastReads.{LastReads}
use Rattle.vk_touches.specs.declared.touches.LastTouches.{LastTouches}
use Rattle.vk_touches.specs.declared.writes.LastWrite.{LastWrite}
use Rattle.vk_touches.specs.Conflicts.{AreSeen, FoundAt, FoundIn, IsEarly, MissesHostWrite, MissesOther, SeesWrite, SomeBetween}
use Rattle.vk_touches.specs.Remembered.{untouched, with_invalidation}
use Rattle.vk_touches.specs.TouchedRanges.{AreInvalidated}
use Rattle.vk_touches.specs.TouchMaps.{with_reads, without_reads, with_reads_alone, reads_of, others_of, with_write, with_write_alone, write_of, all_remembered, HaveOneLength}
use Rattle.vk_touches.proofs.Searches.{AreSearched, walk_start}
use Rattle.vk_touches.proofs.Zips.{both, at_both, both_at, first_updated, second_updated, found_in_first, found_in_second}

-- ---- what the other lists have no part in

pub host_write_alike : (cached : Bool) (x : ResourceAccess) (k : ℕ) (r : Bool) (w : LastWrite) (t : OtherTouches) (h : LastReads) → MissesHostWrite cached x k r (without_reads t) → MissesHostWrite cached x k r (with_write w (with_reads t h))
host_write_alike false x k r w t h m = m
host_write_alike true x k r w t h m = record { none = m.none; unflushed = m.unflushed; flushed = m.flushed }

pub other_alike : (cached : Bool) (x : ResourceAccess) (k : ℕ) (r : Bool) (w : LastWrite) (t : OtherTouches) (h : LastReads) → MissesOther cached x k r (without_reads t) → MissesOther cached x k r (with_write w (with_reads t h))
other_alike cached x k true w t h (inl m) = inl (host_write_alike cached x k true w t h m)
other_alike cached x k true w t h (inr m) = inr m
other_alike cached x k false w t h m = (host_write_alike cached x k false w t h m.0, m.1)

-- where there are no nodes all are seen
pub seen_of_none : (x : ResourceAccess) (v : VisiblePrefix) → ((w : Placed) → is_among v w ≡ false) → AreSeen x v
seen_of_none x v none w from b is = let both : false ≡ true = sym (none w) ∙ is in absurd cc

-- of a byte that remembers this else, whether it is early by the reads of it
abbrev pub IsEarlyAt : List LastReads → NewNode → ℕ → Bool → OtherTouches → Type 0
IsEarlyAt hs s k r t = (h : LastReads) × (slice_get hs k ≡ Some h) × IsEarly s r (with_reads t h)

pub early_between : (hs : List LastReads) (s : NewNode) (t : OtherTouches) (low high : ℕ) (r : Bool) → FoundIn (λ r h. IsEarly s r (with_reads t h)) r hs low high → SomeBetween (λ k r. IsEarlyAt hs s k r t) r low high
early_between hs s t low high true f = (f.0, f.1, f.2, (f.3, f.4, f.5))
early_between hs s t low high false f = f

-- ---- how many there are

rest_len : {ws : List LastWrite} {ts : List OtherTouches} {hs : List LastReads} → HaveOneLength ws ts hs → length ws ≡ length (zip2 with_reads ts hs)
rest_len {ws} {ts} {hs} same = same.writes ∙ sym (length-zip2 with_reads ts hs same.reads)

pub remembered_len : {ws : List LastWrite} {ts : List OtherTouches} {hs : List LastReads} → HaveOneLength ws ts hs → length (all_remembered ws ts hs) ≡ length ws
unfolding all_remembered
remembered_len {ws} {ts} {hs} same = length-zip2 with_write ws (zip2 with_reads ts hs) (rest_len same)

pub all_at : (ws : List LastWrite) (ts : List OtherTouches) (hs : List LastReads) (k : ℕ) (w : LastWrite) (t : OtherTouches) (h : LastReads) → slice_get ws k ≡ Some w → slice_get ts k ≡ Some t → slice_get hs k ≡ Some h
    → slice_get (all_remembered ws ts hs) k ≡ Some (with_write w (with_reads t h))
unfolding all_remembered
all_at ws ts hs k w t h written other read = both_at with_write ws (zip2 with_reads ts hs) k w (with_reads t h) written (both_at with_reads ts hs k t h other read)

module _ {ws : List LastWrite} {ts : List OtherTouches} {hs : List LastReads} (same : HaveOneLength ws ts hs) {all : List LastTouches} (are : all_remembered ws ts hs ≡ all) where
  pub writes_len : length ws ≡ length all
  writes_len = sym (remembered_len same) ∙ ap length are

  pub others_len : length ts ≡ length all
  others_len = sym same.writes ∙ writes_len

  pub reads_len : length hs ≡ length all
  reads_len = sym same.reads ∙ others_len

  -- ---- a change of one of the lists

  pub writes_changed_len : (new : List LastWrite) → length new ≡ length ws → length (all_remembered new ts hs) ≡ length all
  writes_changed_len new is = remembered_len (record { writes = is ∙ same.writes; reads = same.reads }) ∙ is ∙ writes_len

  pub others_changed_len : (new : List OtherTouches) → length new ≡ length ts → length (all_remembered ws new hs) ≡ length all
  others_changed_len new is = remembered_len (record { writes = same.writes ∙ sym is; reads = is ∙ same.reads }) ∙ writes_len

  pub reads_changed_len : (new : List LastReads) → length new ≡ length hs → length (all_remembered ws ts new) ≡ length all
  reads_changed_len new is = remembered_len (record { writes = same.writes; reads = same.reads ∙ sym is }) ∙ writes_len

  -- where a test says so
  module _ (g : LastTouches → LastTouches) (test : ℕ → Bool) where
    on_all : (o : Option LastTouches) (k : ℕ) → o ≡ option_map (λ t. if test k then g t else t) (slice_get (all_remembered ws ts hs) k) → o ≡ option_map (λ t. if test k then g t else t) (slice_get all k)
    on_all o k is = is ∙ ap (λ (xs : List LastTouches). option_map (λ t. if test k then g t else t) (slice_get xs k)) are

    pub writes_updated : (f : LastWrite → LastWrite) → ((w : LastWrite) (t : LastTouches) → with_write (f w) t ≡ g (with_write w t)) → (new : List LastWrite) → ((k : ℕ) → slice_get new k ≡ option_map (λ w. if test k then f w else w) (slice_get ws k))
        → (k : ℕ) → slice_get (all_remembered new ts hs) k ≡ option_map (λ t. if test k then g t else t) (slice_get all k)
    unfolding all_remembered
    writes_updated f is new changed k = on_all (slice_get (all_remembered new ts hs) k) k (first_updated with_write g test f is ws new (zip2 with_reads ts hs) changed k)

    module _ (apart : (w : LastWrite) (t : LastTouches) → with_write w (g t) ≡ g (with_write w t)) where
      pub others_updated : (f : OtherTouches → OtherTouches) → ((t : OtherTouches) (h : LastReads) → with_reads (f t) h ≡ g (with_reads t h)) → (new : List OtherTouches) → ((k : ℕ) → slice_get new k ≡ option_map (λ t. if test k then f t else t) (slice_get ts k))
          → (k : ℕ) → slice_get (all_remembered ws new hs) k ≡ option_map (λ t. if test k then g t else t) (slice_get all k)
      unfolding all_remembered
      others_updated f is new changed k =
          on_all (slice_get (all_remembered ws new hs) k) k (second_updated with_write g test g apart ws (zip2 with_reads ts hs) (zip2 with_reads new hs) (first_updated with_reads g test f is ts new hs changed) k)

      pub reads_updated : (f : LastReads → LastReads) → ((t : OtherTouches) (h : LastReads) → with_reads t (f h) ≡ g (with_reads t h)) → (new : List LastReads) → ((k : ℕ) → slice_get new k ≡ option_map (λ h. if test k then f h else h) (slice_get hs k))
          → (k : ℕ) → slice_get (all_remembered ws ts new) k ≡ option_map (λ t. if test k then g t else t) (slice_get all k)
      unfolding all_remembered
      reads_updated f is new changed k =
          on_all (slice_get (all_remembered ws ts new) k) k (second_updated with_write g test g apart ws (zip2 with_reads ts hs) (zip2 with_reads ts new) (second_updated with_reads g test f is ts hs new changed) k)

  -- ---- what is found

  -- what the last write by a command alone decides
  pub found_in_writes : (is : ℕ → Bool → LastTouches → Type 0) → ((k : ℕ) (r : Bool) (w : LastWrite) (t : LastTouches) → is k r (with_write_alone w) → is k r (with_write w t)) → (low high : ℕ) (r : Bool)
      → FoundAt (λ k r w. is k r (with_write_alone w)) r ws low high → FoundAt is r all low high
  unfolding all_remembered
  found_in_writes is alike low high r h =
      subst (λ (xs : List LastTouches). FoundAt is r xs low high) are (found_in_first with_write ws (zip2 with_reads ts hs) (rest_len same) is (λ k r w. is k r (with_write_alone w)) alike untouched r low high h)

  found_in_rest : (is : ℕ → Bool → LastTouches → Type 0) (low high : ℕ) (r : Bool) → FoundAt (λ k r t. (w : LastWrite) → is k r (with_write w t)) r (zip2 with_reads ts hs) low high → FoundAt is r all low high
  unfolding all_remembered
  found_in_rest is low high r h =
      subst (λ (xs : List LastTouches). FoundAt is r xs low high) are
      (found_in_second with_write ws (zip2 with_reads ts hs) (rest_len same) is (λ k r t. (w : LastWrite) → is k r (with_write w t)) (λ k r w t m. m w) (write_of untouched) r low high h)

  -- what all but that and the last reads decides
  pub found_in_others : (is : ℕ → Bool → LastTouches → Type 0) → ((k : ℕ) (r : Bool) (w : LastWrite) (t : OtherTouches) (h : LastReads) → is k r (without_reads t) → is k r (with_write w (with_reads t h))) → (low high : ℕ) (r : Bool)
      → FoundAt (λ k r t. is k r (without_reads t)) r ts low high → FoundAt is r all low high
  found_in_others is alike low high r found =
      found_in_rest is low high r
      (found_in_first with_reads ts hs same.reads (λ k r t. (w : LastWrite) → is k r (with_write w t)) (λ k r t. is k r (without_reads t)) (λ k r t h m w. alike k r w t h m) (reads_of untouched) r low high found)

  -- what the last reads alone decide
  pub found_in_reads : (is : ℕ → Bool → LastTouches → Type 0) → ((k : ℕ) (r : Bool) (w : LastWrite) (t : OtherTouches) (h : LastReads) → is k r (with_reads_alone h) → is k r (with_write w (with_reads t h))) → (low high : ℕ) (r : Bool)
      → FoundAt (λ k r h. is k r (with_reads_alone h)) r hs low high → FoundAt is r all low high
  found_in_reads is alike low high r found =
      found_in_rest is low high r
      (found_in_second with_reads ts hs same.reads (λ k r t. (w : LastWrite) → is k r (with_write w t)) (λ k r h. is k r (with_reads_alone h)) (λ k r t h m w. alike k r w t h m) (others_of untouched) r low high found)

  -- what it decides with the last reads
  pub found_early : (s : NewNode) (low high : ℕ) (r : Bool) → FoundAt (IsEarlyAt hs s) r ts low high → FoundIn (IsEarly s) r all low high
  found_early s low high r found = found_in_rest (λ k. IsEarly s) low high r (at_read r found) where
    any_write : (r : Bool) (t : LastTouches) → IsEarly s r t → (w : LastWrite) → IsEarly s r (with_write w t)
    any_write r t m w = record { of_host = m.of_host; of_commands = m.of_commands; of_transition = m.of_transition; either = m.either; host = m.host; commands = m.commands; transition = m.transition }

    at_read : (r : Bool) → FoundAt (IsEarlyAt hs s) r ts low high → FoundAt (λ k r t. (w : LastWrite) → IsEarly s r (with_write w t)) r (zip2 with_reads ts hs) low high
    at_read true f = let e = f.5 in (f.0, f.1, f.2, with_reads f.3 e.0, both_at with_reads ts hs f.0 f.3 e.0 f.4 e.1, any_write true (with_reads f.3 e.0) e.2)
    at_read false f = λ k from to.
        let m = f k from to in
        let e = m.2 in
        (with_reads m.0 e.0, both_at with_reads ts hs k m.0 e.0 m.1 e.1, any_write false (with_reads m.0 e.0) e.2)

  -- run by run
  module _ {low high : ℕ} {left : List (Piece LastWrite)} where
    pub writes_start : (is : ℕ → Bool → LastTouches → Type 0) → ((k : ℕ) (r : Bool) (w : LastWrite) (t : LastTouches) → is k r (with_write_alone w) → is k r (with_write w t)) → AreRunsOf ws low high left → AreSearched (λ k r w. is k r (with_write_alone w)) is all low high left
    writes_start is alike runs = walk_start ws (found_in_writes is alike low high) left runs

  module _ {low high : ℕ} {left : List (Piece OtherTouches)} where
    pub others_start : (is : ℕ → Bool → LastTouches → Type 0) → ((k : ℕ) (r : Bool) (w : LastWrite) (t : OtherTouches) (h : LastReads) → is k r (without_reads t) → is k r (with_write w (with_reads t h))) → AreRunsOf ts low high left
        → AreSearched (λ k r t. is k r (without_reads t)) is all low high left
    others_start is alike runs = walk_start ts (found_in_others is alike low high) left runs

    pub early_start : (s : NewNode) → AreRunsOf ts low high left → AreSearched (IsEarlyAt hs s) (λ k. IsEarly s) all low high left
    early_start s runs = walk_start ts (found_early s low high) left runs

  -- ---- an invalidation

  module _ (x : ResourceAccess) (new : List LastWrite) (low high : ℕ) (further : low < high) (w : LastWrite) (r : Bool) (has : (k : ℕ) → low ≤ k → k < high → slice_get ws k ≡ Some w) (sees : (k : ℕ) → low ≤ k → k < high → SeesWrite x k r (with_write_alone w))
      (inside : (k : ℕ) → low ≤ k → k < high → slice_get new k ≡ Some (write_of (with_invalidation (with_write_alone w) r))) (before : (k : ℕ) → k < low → slice_get new k ≡ slice_get ws k) (after : (k : ℕ) → high ≤ k → slice_get new k ≡ slice_get ws k) where
    rest : ℕ → Option LastTouches
    rest k = slice_get (zip2 with_reads ts hs) k

    at : (xs : List LastWrite) (k : ℕ) (o : Option LastWrite) → slice_get xs k ≡ o → slice_get (all_remembered xs ts hs) k ≡ both with_write o (rest k)
    unfolding all_remembered rest
    at xs k o is = at_both with_write xs (zip2 with_reads ts hs) k ∙ ap (λ (o : Option LastWrite). both with_write o (rest k)) is

    unchanged : (k : ℕ) → slice_get new k ≡ slice_get ws k → slice_get (all_remembered new ts hs) k ≡ slice_get (all_remembered ws ts hs) k
    unchanged k is = at new k (slice_get ws k) is ∙ sym (at ws k (slice_get ws k) refl)

    there : (k : ℕ) → low ≤ k → k < high → (o : Option LastTouches) → rest k ≡ o → (v : LastTouches) → slice_get (all_remembered ws ts hs) k ≡ Some v → (answer : Bool) × (slice_get (all_remembered new ts hs) k ≡ Some (with_invalidation v answer)) × SeesWrite x k answer v
    there k from to None is v was = absurd (let bad : None ≡ Some v = sym (at ws k (Some w) (has k from to) ∙ ap (both with_write (Some w)) is) ∙ was in cc)
    there k from to (Some t) is v was =
        let one : Some (with_write w t) ≡ Some v = sym (at ws k (Some w) (has k from to) ∙ ap (both with_write (Some w)) is) ∙ was in
        let v_is : with_write w t ≡ v = cc in
        let seen_or_not = write_of (with_invalidation (with_write_alone w) r) in
        let now : slice_get (all_remembered new ts hs) k ≡ Some (with_invalidation (with_write w t) r) = at new k (Some seen_or_not) (inside k from to) ∙ ap (both with_write (Some seen_or_not)) is in
        let seen = sees k from to in
        subst (λ (u : LastTouches). (answer : Bool) × (slice_get (all_remembered new ts hs) k ≡ Some (with_invalidation u answer)) × SeesWrite x k answer u) v_is (r, now, record { none = seen.none; some = seen.some })

    pub writes_invalidated : AreInvalidated (SeesWrite x) all (all_remembered new ts hs) low high
    writes_invalidated = subst (λ (xs : List LastTouches). AreInvalidated (SeesWrite x) xs (all_remembered new ts hs) low high) are (record {
      further = further;
      inside = λ k v from to was. there k from to (rest k) refl v was;
      before = λ k lt. unchanged k (before k lt);
      after = λ k ge. unchanged k (after k ge);
    })
