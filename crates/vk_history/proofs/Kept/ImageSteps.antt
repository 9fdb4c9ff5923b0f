-- What is kept of the bytes of images after clears and layout transitions.
use Rattle.std.proofs.Common.{◌≡◌, ◌≢◌, ◌<◌, ℕ, List, [], ◌∷◌, map, Bool, true, false, not, ◌&&◌, ◌==◌, refl, ap, sym, ◌∙◌, subst, Option, Some, None}
use Rattle.std.specs.Prelude.{is_some, if◌then◌else◌}
use Rattle.std.specs.Option.{option_map}
use Rattle.std.specs.List.{list_any, flat_map}
use Rattle.vk_ids.specs.Ids.{value_of}
use Rattle.std.proofs.lemmas.Bool.{false_from_ne_true}
use Rattle.std.proofs.lemmas.List.Folds.{list_any-append}
use Rattle.std.proofs.lemmas.List.Elements.{filter_map-append}
use Rattle.std.proofs.lemmas.List.{map-append}
use Rattle.vk_model.specs.declared.command.Cmd.{Cmd}
use Rattle.vk_model.specs.declared.command.Cmd.TheVariants as cmd
use Rattle.vk_model.specs.declared.command.ImageElement.{ImageElement}
use Rattle.vk_model.specs.declared.command.SubresourceRange.{SubresourceRange}
use Rattle.vk_model.specs.declared.resource.ImageInfo.{ImageInfo}
use Rattle.vk_model.specs.Rules.Ids.{is_image}
use Rattle.vk_model.specs.Rules.Sizes.{bad_image}
use Rattle.vk_model.specs.Rules.Table.{fault}
use Rattle.vk_model.specs.Trace.Objects.{image}
use Rattle.vk_model.specs.Trace.Point.{Past, Point, Run}
use Rattle.vk_model.specs.World.Bytes.{Byte, resource_at, same_byte, World}
use Rattle.vk_model.specs.World.ByteWrites.{ByteWrite, byte_writes, clear_write, clear_writes, subresource_bytes}
use Rattle.vk_model.specs.World.Effect.{in_range, transitioned, used, after_element}
use Rattle.vk_model.specs.World.Ownership.{family_of, is_transition, is_release, transfer}
use Rattle.vk_model.specs.declared.command.Element.TheVariants as element
use Rattle.vk_model.specs.Sync.Access.{is_in, origin, origins, targets, transition_bytes}
use Rattle.vk_model.proofs.Lists.Members.{contains-head}
use Rattle.vk_model.proofs.Lists.Truths.{clash}
use Rattle.vk_image_bytes.specs.Numbers.{byte_of, byte_count}
use Rattle.vk_image_bytes.proofs.Members.{in_subresources}
use Rattle.vk_touches.specs.declared.touches.LastTouches.{LastTouches}
use Rattle.vk_touches.specs.declared.touches.Spot.{Spot}
use Rattle.vk_touches.specs.Remembered.{with_transition}
use Rattle.vk_touches.specs.TouchedRanges.{transitioning}
use Rattle.vk_touches.specs.Touched.{next_spot}
use Rattle.vk_history.specs.declared.contents.Contents.{Contents}
use Rattle.vk_history.specs.declared.resource_contents.ResourceContents.{ResourceContents}
use Rattle.vk_history.specs.Contents.{AreContents, AreContentsIn, AreContentsAt, BecomesIn, IsClearedBy, IsWritten, IsDiscarded, IsTaken, has_value, holder_of, byte_at, size_at, as_before, assigns}
use Rattle.vk_history.specs.Inner.Passing.{IsTransitioned, IsUsedByTransition, IsHandedOver, IsMarked, IsImagePassed, is_good_image, touched_by}
use Rattle.vk_history.proofs.Making.Numbers.{byte_of_image, size_of_image, image_is_resource}
use Rattle.vk_history.proofs.Kept.NextPoint.{image_for_command, fault_rest}
use Rattle.vk_history.proofs.Kept.ImageRules.{image_good}
use Rattle.vk_history.proofs.Kept.AccessSteps.{GivesValues, writes_byte, values_step}
use Rattle.vk_history.proofs.Kept.Moving.{of_image, moves_number}
use Rattle.vk_laws.proofs.Forms.Unchanged.{transitioned_owner}
use Rattle.vk_history.proofs.Kept.PassSteps.{transitioned_dirty, transitioned_value, taken_at, good_there}

-- ---- what a clear writes

module _ (i : ℕ) (color : List ℕ) (m : ImageInfo) where
  abbrev bytes : SubresourceRange → List Byte
  bytes r = map (λ p. p.0) (subresource_bytes i m r)

  pub one_targets : (ps : List (Byte × ℕ)) → targets (map (clear_write m color) ps) ≡ map (λ p. p.0) ps
  one_targets [] = refl
  one_targets (p ∷ ps) = ap (λ (bs : List Byte). p.0 ∷ bs) (one_targets ps)

  one_origins : (ps : List (Byte × ℕ)) → origins (map (clear_write m color) ps) ≡ []
  one_origins [] = refl
  one_origins (p ∷ ps) = one_origins ps

  -- it reads nothing
  pub clear_origins : (rs : List SubresourceRange) → origins (flat_map (clear_writes i color (Some m)) rs) ≡ []
  clear_origins [] = refl
  clear_origins (r ∷ rs) =
      filter_map-append (λ (w : ByteWrite). origin w.source) (clear_writes i color (Some m) r) (flat_map (clear_writes i color (Some m)) rs)
      ∙ rw (one_origins (subresource_bytes i m r), clear_origins rs) refl

  -- and writes the bytes of its ranges
  clear_targets : (c : Byte) (rs : List SubresourceRange) → is_in c (targets (flat_map (clear_writes i color (Some m)) rs)) ≡ list_any (λ r. is_in c (bytes r)) rs
  clear_targets c [] = refl
  clear_targets c (r ∷ rs) =
      ap (is_in c) (map-append (λ (w : ByteWrite). w.to) (clear_writes i color (Some m) r) (flat_map (clear_writes i color (Some m)) rs))
      ∙ list_any-append (same_byte c) (targets (clear_writes i color (Some m) r)) (targets (flat_map (clear_writes i color (Some m)) rs))
      ∙ rw (one_targets (subresource_bytes i m r), clear_targets c rs) refl

  none_of_other : (c : Byte) (rs : List SubresourceRange) → (resource_at c == i) ≡ false → list_any (λ r. is_in c (bytes r)) rs ≡ false
  none_of_other c [] ne = refl
  none_of_other c (r ∷ rs) ne = let none : is_in c (bytes r) ≡ false = false_from_ne_true (is_in c (bytes r)) (λ h. clash (of_image i m r c h) ne) in rw (none, none_of_other c rs ne) refl

  -- by their numbers
  numbers_cleared : bad_image m ≡ false → (k : ℕ) → k < byte_count m → (rs : List SubresourceRange) → list_any (λ r. is_in (byte_of m i k) (bytes r)) rs ≡ list_any (λ r. in_range i r (byte_of m i k)) rs
  numbers_cleared good k lt [] = refl
  numbers_cleared good k lt (r ∷ rs) = rw (in_subresources m i r good k lt, numbers_cleared good k lt rs) refl

-- ---- a clear

module _ (past : Past) (p : Point) (clean : fault (p ∷ past) ≡ None) (i l : ℕ) (color : List ℕ) (rs : List SubresourceRange) (is : p.action ≡ Run (cmd.Clear i l color rs)) where
  abbrev clear : Cmd
  clear = cmd.Clear i l color rs

  of : (m : ImageInfo) × (image past i ≡ Some m)
  of = image_for_command past p clean clear is i (contains-head (i, is_image) [])

  abbrev m : ImageInfo
  m = of.0

  writes_are : byte_writes past clear ≡ flat_map (clear_writes i color (Some m)) rs
  writes_are = ap (λ (o : Option ImageInfo). flat_map (clear_writes i color o) rs) of.1

  clear_gives : GivesValues past p clear i
  clear_gives = record {
    owner = λ v s. refl;
    dirty = λ v byte. refl;
    value = λ v byte. refl;
    unmoved = λ byte. refl;
    reads_none = ap origins writes_are ∙ clear_origins i color m rs;
    writes_now = same_image;
    there = image_is_resource past i (ap is_some of.1);
    others = λ byte s e own. ap (λ ws. is_in byte (targets ws)) writes_are ∙ clear_targets i color m byte rs ∙ none_of_other i color m byte rs (rw own e);
  } where
    same_image : flat_map (clear_writes i color (image (p ∷ past) i)) rs ≡ flat_map (clear_writes i color (image past i)) rs
    same_image = rw is refl

  hit : (k : ℕ) → k < size_at past i → writes_byte past clear (byte_at past i k) ≡ list_any (λ r. in_range i r (byte_of m i k)) rs
  hit k lt =
      ap (λ ws. is_in (byte_at past i k) (targets ws)) writes_are ∙ clear_targets i color m (byte_at past i k) rs
      ∙ ap (λ (c : Byte). list_any (λ r. is_in c (bytes i color m r)) rs) (byte_of_image past i m of.1 k)
      ∙ numbers_cleared i color m (image_good past (fault_rest past p clean) i m of.1) k (rw (← size_of_image past i m of.1) lt) rs

  pub cleared_step : (old new : Contents) → BecomesIn (IsClearedBy rs p.queue (next_spot past p)) (value_of old.resources i) (value_of new.resources i)
      → ((other : ℕ) → other ≢ i → value_of new.resources other ≡ value_of old.resources other) → AreContents old past → AreContents new (p ∷ past)
  cleared_step old new here others are = go (value_of old.resources i) (value_of new.resources i) refl refl here (are i) where
    go : (u v : Option ResourceContents) → value_of old.resources i ≡ u → value_of new.resources i ≡ v → BecomesIn (IsClearedBy rs p.queue (next_spot past p)) u v → AreContentsIn u past i → AreContents new (p ∷ past)
    go None v eu ev h fresh = clash clear_gives.there fresh.unmade
    go (Some u) None eu ev h a = absurd h
    go (Some u) (Some v) eu ev h a =
        values_step past p clean clear i is clear_gives h.hits (λ k lt. hit k lt ∙ sym (h.reached m (a.image ∙ of.1) i k (rw (← size_of_image past i m of.1) lt))) old new
        (subst (λ (x : Option ResourceContents). BecomesIn (λ a b. IsWritten a b h.hits (family_of p.queue) (next_spot past p)) x (value_of new.resources i)) (sym eu)
        (subst (λ (x : Option ResourceContents). BecomesIn (λ a b. IsWritten a b h.hits (family_of p.queue) (next_spot past p)) (Some u) x) (sym ev) h.written)) others are

-- ---- transitions

-- one from UNDEFINED
pub discarded_at : (e : ImageElement) (old new : ResourceContents) → is_transition e ≡ true → (e.old_layout == 0) ≡ true → IsDiscarded e.range old new → IsTransitioned e old new
discarded_at e old new changes undefined h past w t good a = record {
  made = a.made;
  defined_size = h.changed.defined_size ∙ a.defined_size;
  dirty_size = h.changed.dirty_size ∙ a.dirty_size;
  touches_size = h.changed.touches_size ∙ a.touches_size;
  image = h.changed.image ∙ a.image;
  mode = h.changed.mode ∙ a.mode;
  cache = h.changed.cache ∙ a.cache;
  owner = h.changed.owned ∙ a.owner ∙ sym (ap holder_of (transitioned_owner e w e.image));
  defined = λ k lt. h.changed.defined k ∙ ap (option_map (assigns h.hits false k)) (a.defined k lt)
      ∙ ap (λ (t : Bool). Some (if t then false else has_value w (byte_at past e.image k))) (reached k lt) ∙ ap Some (sym (lost (byte_at past e.image k)));
  dirty = λ k lt. h.changed.dirty k ∙ ap (option_map (as_before k)) (a.dirty k lt) ∙ ap Some (sym (transitioned_dirty e w (byte_at past e.image k)));
  touches = λ k lt. h.changed.touches k ∙ ap (option_map (λ t. t)) (a.touches k lt);
} where
  of : (m : ImageInfo) × (image past e.image ≡ Some m) × (bad_image m ≡ false)
  of = good_there past e.image good

  lost : (c : Byte) → has_value (transitioned e w) c ≡ (if in_range e.image e.range c then false else has_value w c)
  lost c = transitioned_value e w c ∙ rw (changes, undefined) refl

  reached : (k : ℕ) → k < size_at past e.image → h.hits k ≡ in_range e.image e.range (byte_at past e.image k)
  reached k lt = h.reached of.0 (a.image ∙ of.1) e.image k (rw (← size_of_image past e.image of.0 of.1) lt) ∙ ap (in_range e.image e.range) (sym (byte_of_image past e.image of.0 of.1 k))

-- another one, or none
pub kept_at : (e : ImageElement) (c : ResourceContents) → (is_transition e && e.old_layout == 0) ≡ false → IsTransitioned e c c
kept_at e c keeps past w t good a = record {
  made = a.made;
  defined_size = a.defined_size;
  dirty_size = a.dirty_size;
  touches_size = a.touches_size;
  image = a.image;
  mode = a.mode;
  cache = a.cache;
  owner = a.owner ∙ sym (ap holder_of (transitioned_owner e w e.image));
  defined = λ k lt. a.defined k lt ∙ ap Some (sym (transitioned_value e w (byte_at past e.image k) ∙ rw keeps refl));
  dirty = λ k lt. a.dirty k lt ∙ ap Some (sym (transitioned_dirty e w (byte_at past e.image k)));
  touches = a.touches;
}

-- one within a family
pub used_at : (f : ℕ) (e : ImageElement) (old mid new : ResourceContents) → is_transition e ≡ true → IsTaken old mid f → IsTransitioned e mid new → IsUsedByTransition f e old new
used_at f e old mid new changes taken moved past w t good a =
    subst (λ (u : Bool). AreContentsAt new past (if u then transitioned e (used past f e.image w) else w) t e.image) (sym changes) (moved past (used past f e.image w) t good (taken_at past f e.image w t old mid taken a))

-- what one reads and writes
pub marked_at : (past : Past) (q : ℕ) (e : ImageElement) (s : Spot) (old new : ResourceContents) → IsMarked (is_transition e && not (is_release q (element.Image e))) e.range s old new → (w : World) (t : Byte → LastTouches) → is_good_image past e.image ≡ true
    → AreContentsAt old past w t e.image → AreContentsAt new past w (touched_by past q (element.Image e) s t) e.image
marked_at past q e s old new h w t good a = record {
  made = a.made;
  defined_size = h.changed.defined_size ∙ a.defined_size;
  dirty_size = h.changed.dirty_size ∙ a.dirty_size;
  touches_size = h.changed.touches_size ∙ a.touches_size;
  image = h.changed.image ∙ a.image;
  mode = h.changed.mode ∙ a.mode;
  cache = h.changed.cache ∙ a.cache;
  owner = h.changed.owned ∙ a.owner;
  defined = λ k lt. h.changed.defined k ∙ ap (option_map (as_before k)) (a.defined k lt);
  dirty = λ k lt. h.changed.dirty k ∙ ap (option_map (as_before k)) (a.dirty k lt);
  touches = λ k lt. h.changed.touches k ∙ ap (option_map (transitioning h.hits s k)) (a.touches k lt)
      ∙ ap (λ (u : Bool). Some (if u then with_transition (t (byte_at past e.image k)) s else t (byte_at past e.image k))) (reached k lt);
} where
  of : (m : ImageInfo) × (image past e.image ≡ Some m) × (bad_image m ≡ false)
  of = good_there past e.image good

  reached : (k : ℕ) → k < size_at past e.image → h.hits k ≡ is_in (byte_at past e.image k) (transition_bytes past q (element.Image e))
  reached k lt =
      let low : k < byte_count of.0 = rw (← size_of_image past e.image of.0 of.1) lt in
      h.reached of.0 (a.image ∙ of.1) e.image k low ∙ sym (moves_number past q e of.0 of.1 of.2 k low)
      ∙ ap (λ (c : Byte). is_in c (transition_bytes past q (element.Image e))) (sym (byte_of_image past e.image of.0 of.1 k))

-- what one element of a barrier makes of the contents of its image
pub passed_at : (q : ℕ) (e : ImageElement) (s : Spot) (old mid new : ResourceContents) → IsHandedOver (family_of q) (transfer (family_of q) e.families) e old mid → IsMarked (is_transition e && not (is_release q (element.Image e))) e.range s mid new → IsImagePassed q e s old new
passed_at q e s old mid new over marked past w t good a = marked_at past q e s mid new marked (after_element past (family_of q) w (element.Image e)) t good (over past w t good a)
