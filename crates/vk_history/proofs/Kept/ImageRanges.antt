-- What becomes of the bytes of ranges of an image, one range after another.
use Rattle.std.proofs.Common.{min, ⊎_elim, ◌≡◌, ◌<◌, ◌+◌, ◌*◌, ℕ, List, [], length, slice_get, take, get_or, Bool, true, false, ◌||◌, refl, ap, sym, ◌∙◌, arith, Option, Some, None}
use Rattle.std.specs.Prelude.{if◌then◌else◌, nat_le, nat_lt}
use Rattle.std.proofs.lemmas.Bool.{cases_lt, and_parts, and_from, leb-true, ltb-true, le-leb, lt-ltb}
use Rattle.std.proofs.lemmas.Option.{slice_get_past}
use Rattle.vk_model.proofs.Lists.Truths.{bool_same}
use Rattle.std.specs.Option.{option_map}
use Rattle.std.specs.List.{list_any, range_with_len}
use Rattle.std.proofs.Math.Bool.{or-false}
use Rattle.std.proofs.lemmas.List.Folds.{list_any-append, list_any_more}
use Rattle.vk_model.specs.declared.command.SubresourceRange.{SubresourceRange}
use Rattle.vk_model.specs.Basics.{below, within}
use Rattle.vk_model.specs.World.Effect.{in_range}
use Rattle.vk_model.proofs.Lists.Rows.{range_append}
use Rattle.vk_image_bytes.specs.declared.ranges.ByteRanges.{ByteRanges}
use Rattle.vk_image_bytes.specs.Numbers.{byte_of}
use Rattle.vk_touches.specs.declared.touches.LastTouches.{LastTouches}
use Rattle.vk_touches.specs.declared.touches.Spot.{Spot}
use Rattle.vk_touches.specs.declared.touches.Touch.{Touch}
use Rattle.vk_touches.specs.declared.touches.Touch.TheVariants as touch
use Rattle.vk_touches.specs.Remembered.{with_transition}
use Rattle.vk_touches.specs.TouchedRanges.{touching, transitioning, is_between}
use Rattle.vk_touches.proofs.RegionTouches.{touching_more}
use Rattle.vk_history.specs.declared.resource_contents.ResourceContents.{ResourceContents}
use Rattle.vk_history.specs.Inner.Passing.{IsMarked}
use Rattle.vk_history.specs.Contents.{IsTaken, IsCleared, IsDefined, as_before, assigns, defines, left_of}

-- ---- ranges of numbers

-- whether one of the first ranges has a byte
abbrev pub has_among : ByteRanges → ℕ → ℕ → Bool
has_among s n k = list_any (λ j. within (s.first + j * s.step) s.size k) (below n)

has_next : (s : ByteRanges) (n k : ℕ) → has_among s (n + 1) k ≡ (has_among s n k || within (s.first + n * s.step) s.size k)
has_next s n k =
    ap (list_any (λ j. within (s.first + j * s.step) s.size k)) (range_append 0 n 1)
    ∙ list_any-append (λ j. within (s.first + j * s.step) s.size k) (below n) (range_with_len (0 + n) 1)
    ∙ ap (λ (t : Bool). has_among s n k || t) (or-false (within (s.first + (0 + n) * s.step) s.size k) ∙ ap (λ (m : ℕ). within (s.first + m * s.step) s.size k) (let e : 0 + n ≡ n = omega arith in e))

-- one more range of a value
assigning_more : (a b v : Bool) (o : Option Bool) → option_map (λ d. if b then v else d) (option_map (λ d. if a then v else d) o) ≡ option_map (λ d. if a || b then v else d) o
assigning_more a b v None = refl
assigning_more true true v (Some d) = refl
assigning_more true false v (Some d) = refl
assigning_more false true v (Some d) = refl
assigning_more false false v (Some d) = refl

pub assign_next : (s : ByteRanges) (n : ℕ) (v : Bool) (old mid new : List Bool)
    → ((k : ℕ) → slice_get mid k ≡ option_map (assigns (has_among s n) v k) (slice_get old k))
    → ((k : ℕ) → slice_get new k ≡ option_map (assigns (within (s.first + n * s.step) s.size) v k) (slice_get mid k))
    → (k : ℕ) → slice_get new k ≡ option_map (assigns (has_among s (n + 1)) v k) (slice_get old k)
assign_next s n v old mid new first next k =
    next k ∙ ap (option_map (assigns (within (s.first + n * s.step) s.size) v k)) (first k)
    ∙ assigning_more (has_among s n k) (within (s.first + n * s.step) s.size k) v (slice_get old k)
    ∙ ap (λ (t : Bool). option_map (λ d. if t then v else d) (slice_get old k)) (sym (has_next s n k))

-- one more range that was touched
pub touch_next : (s : ByteRanges) (n : ℕ) (w : Touch) (t : Spot) (old mid new : List LastTouches)
    → ((k : ℕ) → slice_get mid k ≡ option_map (touching (has_among s n) w t k) (slice_get old k))
    → ((k : ℕ) → slice_get new k ≡ option_map (touching (within (s.first + n * s.step) s.size) w t k) (slice_get mid k))
    → (k : ℕ) → slice_get new k ≡ option_map (touching (has_among s (n + 1)) w t k) (slice_get old k)
touch_next s n w t old mid new first next k =
    next k ∙ ap (option_map (touching (within (s.first + n * s.step) s.size) w t k)) (first k)
    ∙ touching_more (has_among s n) (within (s.first + n * s.step) s.size) w t k (slice_get old k)
    ∙ ap (λ (b : Bool). option_map (touching (λ k. b) w t k) (slice_get old k)) (sym (has_next s n k))

-- one more that was moved by a transition
moving_more : (a b : Bool) (t : Spot) (o : Option LastTouches) → option_map (λ d. if b then with_transition d t else d) (option_map (λ d. if a then with_transition d t else d) o) ≡ option_map (λ d. if a || b then with_transition d t else d) o
moving_more a b t None = refl
moving_more true true t (Some d) = refl
moving_more true false t (Some d) = refl
moving_more false true t (Some d) = refl
moving_more false false t (Some d) = refl

pub transition_next : (s : ByteRanges) (n : ℕ) (t : Spot) (old mid new : List LastTouches)
    → ((k : ℕ) → slice_get mid k ≡ option_map (transitioning (has_among s n) t k) (slice_get old k))
    → ((k : ℕ) → slice_get new k ≡ option_map (transitioning (within (s.first + n * s.step) s.size) t k) (slice_get mid k))
    → (k : ℕ) → slice_get new k ≡ option_map (transitioning (has_among s (n + 1)) t k) (slice_get old k)
transition_next s n t old mid new first next k =
    next k ∙ ap (option_map (transitioning (within (s.first + n * s.step) s.size) t k)) (first k)
    ∙ moving_more (has_among s n k) (within (s.first + n * s.step) s.size k) t (slice_get old k)
    ∙ ap (λ (b : Bool). option_map (λ d. if b then with_transition d t else d) (slice_get old k)) (sym (has_next s n k))

-- the part of a range that lies in a list is the range there
pub transition_within : (t : Spot) (old new : List LastTouches) (o n low high : ℕ) → high ≡ min (o + n) (length old) → low ≡ min (o + 0) high
    → ((k : ℕ) → slice_get new k ≡ option_map (transitioning (is_between low high) t k) (slice_get old k)) → (k : ℕ) → slice_get new k ≡ option_map (transitioning (within o n) t k) (slice_get old k)
transition_within t old new o n low high high_is low_is values k = values k ∙ ⊎_elim
    (λ there. ap (λ (b : Bool). option_map (λ d. if b then with_transition d t else d) (slice_get old k)) (bool_same (is_between low high k) (within o n k) (forth there) (back there)))
    (λ none. rw (slice_get_past old k none) refl)
    (cases_lt k (length old))
  where
    forth : k < length old → is_between low high k ≡ true → within o n k ≡ true
    forth there h =
        let parts = and_parts (nat_le low k) (nat_lt k high) h in
        let from = leb-true low k parts.0 in
        let to = ltb-true k high parts.1 in
        and_from (nat_le o k) (nat_lt k (o + n)) (le-leb o k (omega (arith, from, to, low_is, high_is))) (lt-ltb k (o + n) (omega (arith, to, high_is)))

    back : k < length old → within o n k ≡ true → is_between low high k ≡ true
    back there h =
        let parts = and_parts (nat_le o k) (nat_lt k (o + n)) h in
        let from = leb-true o k parts.0 in
        let to = ltb-true k (o + n) parts.1 in
        and_from (nat_le low k) (nat_lt k high) (le-leb low k (omega (arith, from, to, low_is, high_is, there))) (lt-ltb k high (omega (arith, to, high_is, there)))

-- ---- ranges of levels and layers, one after another

-- no transition
pub marked_none : (r : SubresourceRange) (s : Spot) (c : ResourceContents) → IsMarked false r s c c
marked_none r s c = record {
  hits = λ k. false;
  reached = λ m is i k lt. refl;
  changed = record { defined_size = refl; dirty_size = refl; touches_size = refl; mode = refl; cache = refl; image = refl; owned = refl; defined = λ k. same (slice_get c.defined k); dirty = λ k. same (slice_get c.dirty k); touches = λ k. same (slice_get c.touches k) };
} where
  same : {A : Type 0} (o : Option A) → o ≡ option_map (λ d. d) o
  same None = refl
  same (Some d) = refl

pub cleared_start : (family : ℕ) (s : Spot) (old new : ResourceContents) → IsTaken old new family → IsCleared [] family s old new
cleared_start family s old new h = record { hits = λ k. false; reached = λ m is i k lt. refl; written = h }

module _ (rs : List SubresourceRange) (n : ℕ) (r : SubresourceRange) (low : n < length rs) (family : ℕ) (s : Spot) (old mid new : ResourceContents)
    (so_far : IsCleared (take n rs) family s old mid) (next : IsDefined (get_or rs n r) s mid new) where
  defining_more : (a b : Bool) (f : Bool → Bool) (o : Option Bool) → option_map (λ d. if b then true else d) (option_map (λ d. if a then true else f d) o) ≡ option_map (λ d. if a || b then true else f d) o
  defining_more a b f None = refl
  defining_more true true f (Some d) = refl
  defining_more true false f (Some d) = refl
  defining_more false true f (Some d) = refl
  defining_more false false f (Some d) = refl

  twice_before : (k : ℕ) (o : Option Bool) → option_map (as_before k) (option_map (as_before k) o) ≡ option_map (as_before k) o
  twice_before k None = refl
  twice_before k (Some d) = refl

  pub cleared_next : IsCleared (take (n + 1) rs) family s old new
  cleared_next = record {
    hits = λ k. so_far.hits k || next.hits k;
    reached = λ m is i k lt. rw (so_far.reached m is i k lt, next.reached m (so_far.written.image ∙ is) i k lt) (sym (list_any_more (λ r. in_range i r (byte_of m i k)) rs n r low));
    written = record {
      defined_size = next.changed.defined_size ∙ so_far.written.defined_size;
      dirty_size = next.changed.dirty_size ∙ so_far.written.dirty_size;
      touches_size = next.changed.touches_size ∙ so_far.written.touches_size;
      mode = next.changed.mode ∙ so_far.written.mode;
      cache = next.changed.cache ∙ so_far.written.cache;
      image = next.changed.image ∙ so_far.written.image;
      owned = next.changed.owned ∙ so_far.written.owned;
      defined = λ k. next.changed.defined k ∙ ap (option_map (defines next.hits k)) (so_far.written.defined k) ∙ defining_more (so_far.hits k) (next.hits k) (left_of old family k) (slice_get old.defined k);
      dirty = λ k. next.changed.dirty k ∙ ap (option_map (as_before k)) (so_far.written.dirty k) ∙ twice_before k (slice_get old.dirty k);
      touches = λ k. next.changed.touches k ∙ ap (option_map (touching next.hits touch.Write s k)) (so_far.written.touches k) ∙ touching_more so_far.hits next.hits touch.Write s k (slice_get old.touches k);
    };
  }
