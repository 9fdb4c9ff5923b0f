-- What is kept of the bytes of resources after the elements of a barrier.
use Rattle.std.proofs.Common.{◌&&◌, not, ◌≡◌, ◌≢◌, ℕ, List, [], ◌∷◌, Bool, true, false, ◌==◌, refl, ap, sym, ◌∙◌, subst, Option, Some, None, IsTrue}
use Rattle.std.specs.Prelude.{is_some, is_none, if◌then◌else◌, Contains, slice_index_or}
use Rattle.std.specs.Option.{option_map}
use Rattle.std.specs.List.{fold}
use Rattle.vk_ids.specs.Ids.{value_of}
use Rattle.std.proofs.lemmas.Bool.{eq-eqb, eqb-true, eqb-false, not-true}
use Rattle.std.proofs.lemmas.List.{get_or_default}
use Rattle.std.proofs.Math.Bool.{and-false}
use Rattle.vk_model.specs.declared.command.BufferElement.{BufferElement}
use Rattle.vk_model.specs.declared.command.Cmd.TheVariants as cmd
use Rattle.vk_model.specs.declared.command.Element.{Element}
use Rattle.vk_model.specs.declared.command.Element.TheVariants as element
use Rattle.vk_model.specs.declared.command.ImageElement.{ImageElement}
use Rattle.vk_model.specs.World.Bytes.{Byte, in_buffer, in_image, resource_at, Owner, World}
use Rattle.vk_model.specs.World.Effect.{world, used, set_owner, after_action, after_element, after_buffer_element, after_image_element, transitioned, layout_after, without, in_range}
use Rattle.vk_model.specs.World.Ownership.{family_of, Transfer, Stays, Release, Acquire, Neither, transfer, is_transition}
use Rattle.vk_model.specs.Trace.Objects.{resource, image}
use Rattle.vk_model.specs.Trace.Point.{Past, Point, Action, Run}
use Rattle.vk_model.specs.Rules.Ids.{asked_by_element, is_buffer, is_image}
use Rattle.vk_model.proofs.Lists.Members.{contains-head, flat_has}
use Rattle.vk_model.proofs.Lists.Truths.{clash}
use Rattle.vk_history.specs.declared.resource_contents.ResourceContents.{ResourceContents}
use Rattle.vk_history.specs.declared.contents.Contents.{Contents}
use Rattle.vk_touches.specs.declared.touches.LastTouches.{LastTouches}
use Rattle.vk_touches.specs.declared.touches.Spot.{Spot}
use Rattle.vk_touches.specs.Remembered.{with_transition}
use Rattle.vk_model.specs.declared.resource.ImageInfo.{ImageInfo}
use Rattle.vk_model.specs.Basics.{holds}
use Rattle.vk_model.specs.Rules.Sizes.{bad_image}
use Rattle.vk_model.specs.Sync.Node.{nodes}
use Rattle.vk_history.specs.Inner.Passing.{AreOnResources, is_on_resource, is_good_image, IsPassed, IsImagePassed, touched_by, touched_by_all}
use Rattle.vk_model.specs.Rules.Table.{fault}
use Rattle.vk_touches.specs.Touched.{touched}
use Rattle.vk_history.specs.Contents.{AreContents, AreContentsInAt, AreAllAt, BecomesIn, AreContentsAt, holder_of, has_value, byte_at, IsTaken, left_of, as_before}
use Rattle.vk_history.proofs.Making.Worlds.{used_dirty, turned_about}
use Rattle.vk_history.proofs.Kept.Barriers.{barrier_touched}
use Rattle.vk_history.proofs.Kept.ImageRules.{image_good}
use Rattle.vk_history.proofs.Kept.Moving.{moves_no_other}
use Rattle.vk_history.proofs.Kept.NextPoint.{there_for_command, image_for_command, fault_rest}
use Rattle.vk_history.proofs.Kept.ContentSteps.{IsOf, taken_owner, left_is, used_apart, same_resource, same_size, same_byte, same_image, same_mode, same_cache}
use Rattle.vk_history.proofs.Making.Numbers.{numbered_at, buffer_is_resource, image_is_resource}
use Rattle.vk_laws.proofs.Forms.Unchanged.{transitioned_owner}

-- ---- what an element does with contents

-- a use, in a world
pub taken_at : (past : Past) (f r : ℕ) (w : World) (t : Byte → LastTouches) (u v : ResourceContents) → IsTaken u v f → AreContentsAt u past w t r → AreContentsAt v past (used past f r w) t r
taken_at past f r w t u v h a =
    let of : IsOf past u w r = record { mode = a.mode; owner = a.owner; defined = a.defined } in record {
      made = a.made;
      defined_size = h.defined_size ∙ a.defined_size;
      dirty_size = h.dirty_size ∙ a.dirty_size;
      touches_size = h.touches_size ∙ a.touches_size;
      image = h.image ∙ a.image;
      mode = h.mode ∙ a.mode;
      cache = h.cache ∙ a.cache;
      owner = h.owned ∙ taken_owner past f w r u of;
      defined = λ k lt. h.defined k ∙ ap (option_map (left_of u f k)) (a.defined k lt) ∙ ap Some (left_is past f w r u of k (byte_at past r k) ((numbered_at past r).own k));
      dirty = λ k lt. h.dirty k ∙ ap (option_map (as_before k)) (a.dirty k lt) ∙ ap Some (sym (used_dirty past f r w (byte_at past r k)));
      touches = λ k lt. h.touches k ∙ ap (option_map (λ t. t)) (a.touches k lt);
    }

-- another owner
pub owner_at : (past : Past) (r : ℕ) (w : World) (t : Byte → LastTouches) (o : Owner) (u v : ResourceContents) (owner : Option ℕ) → v ≡ record u { owner = owner } → owner ≡ holder_of o → AreContentsAt u past w t r → AreContentsAt v past (set_owner r o w) t r
owner_at past r w t o u v owner is holds a =
    subst (λ (c : ResourceContents). AreContentsAt c past (set_owner r o w) t r) (sym is) (record {
      made = a.made;
      defined_size = a.defined_size;
      dirty_size = a.dirty_size;
      touches_size = a.touches_size;
      image = a.image;
      mode = a.mode;
      cache = a.cache;
      owner = holds ∙ sym (rw (eq-eqb r r refl) refl);
      defined = a.defined;
      dirty = a.dirty;
      touches = a.touches;
    })

-- ---- one element, among all resources

-- what a transition leaves
module _ (e : ImageElement) (w : World) where
  pub transitioned_dirty : (c : Byte) → (transitioned e w).dirty c ≡ w.dirty c
  transitioned_dirty c = go (is_transition e) where
    go : (t : Bool) → (if t then record w { layout = layout_after e w; value = if e.old_layout == 0 then without (in_range e.image e.range) w.value else w.value } else w).dirty c ≡ w.dirty c
    go true = refl
    go false = refl

  -- from UNDEFINED it loses the bytes of its range
  pub transitioned_value : (c : Byte) → has_value (transitioned e w) c ≡ (if is_transition e && e.old_layout == 0 && in_range e.image e.range c then false else has_value w c)
  transitioned_value c = go (is_transition e) (e.old_layout == 0) where
    lost : (t : Bool) → not (is_none (let v : Option ℕ = if t then None else w.value c in v)) ≡ (if t then false else has_value w c)
    lost true = refl
    lost false = refl

    go : (t u : Bool) → has_value (if t then record w { layout = layout_after e w; value = if u then without (in_range e.image e.range) w.value else w.value } else w) c ≡ (if t && u && in_range e.image e.range c then false else has_value w c)
    go true true = lost (in_range e.image e.range c)
    go true false = refl
    go false u = refl

  pub transitioned_elsewhere : (c : Byte) → (resource_at c == e.image) ≡ false → has_value (transitioned e w) c ≡ has_value w c
  transitioned_elsewhere c ne = transitioned_value c ∙ ap (λ (t : Bool). if t then false else has_value w c) (ap (λ (t : Bool). is_transition e && e.old_layout == 0 && t) (out c ne) ∙ and-false (is_transition e && e.old_layout == 0)) where
    out : (c : Byte) → (resource_at c == e.image) ≡ false → in_range e.image e.range c ≡ false
    out (in_buffer b k) ne = refl
    out (in_image i k l x y p) ne = rw (turned_about e.image i ∙ ne) refl

-- what an element on one resource leaves of another
pub record IsApart (past : Past) (w v : World) (b : ℕ) : Type 0 where
  pub owner : v.owner b ≡ w.owner b
  pub defined : (c : Byte) → resource_at c ≡ b → has_value v c ≡ has_value w c
  pub dirty : (c : Byte) → resource_at c ≡ b → v.dirty c ≡ w.dirty c

apart_at : (past : Past) (w v : World) (t u : Byte → LastTouches) (b : ℕ) → IsApart past w v b → ((c : Byte) → resource_at c ≡ b → u c ≡ t c) → (o : Option ResourceContents) → AreContentsInAt o past w t b → AreContentsInAt o past v u b
apart_at past w v t u b s kept None f = record { unmade = f.unmade; owner = s.owner ∙ f.owner; undefined = λ c own. s.defined c own ∙ f.undefined c own; clean = λ c own. s.dirty c own ∙ f.clean c own; unused = λ c own. kept c own ∙ f.unused c own }
apart_at past w v t u b s kept (Some c) a = record {
  made = a.made;
  defined_size = a.defined_size;
  dirty_size = a.dirty_size;
  touches_size = a.touches_size;
  image = a.image;
  mode = a.mode;
  cache = a.cache;
  owner = a.owner ∙ sym (ap holder_of s.owner);
  defined = λ k lt. a.defined k lt ∙ ap Some (sym (s.defined (byte_at past b k) ((numbered_at past b).own k)));
  dirty = λ k lt. a.dirty k lt ∙ ap Some (sym (s.dirty (byte_at past b k) ((numbered_at past b).own k)));
  touches = λ k lt. a.touches k lt ∙ ap Some (sym (kept (byte_at past b k) ((numbered_at past b).own k)));
}

apart_from : (past : Past) (f : ℕ) (e : BufferElement) (t : Transfer) (w : World) (b : ℕ) → (b == e.buffer) ≡ false → IsApart past w (after_buffer_element past f e t w) b
apart_from past f e Release w b ne = let u = used_apart past f w e.buffer b ne in record { owner = rw ne u.0; defined = u.1; dirty = λ c own. used_dirty past f e.buffer w c }
apart_from past f e Acquire w b ne = record { owner = rw ne refl; defined = λ c own. refl; dirty = λ c own. refl }
apart_from past f e Stays w b ne = record { owner = refl; defined = λ c own. refl; dirty = λ c own. refl }
apart_from past f e Neither w b ne = record { owner = refl; defined = λ c own. refl; dirty = λ c own. refl }

apart_from_image : (past : Past) (f : ℕ) (e : ImageElement) (t : Transfer) (w : World) (b : ℕ) → (b == e.image) ≡ false → IsApart past w (after_image_element past f e t w) b
apart_from_image past f e Stays w b ne = go (is_transition e) refl where
  go : (t : Bool) → is_transition e ≡ t → IsApart past w (if t then transitioned e (used past f e.image w) else w) b
  go false is = record { owner = refl; defined = λ c own. refl; dirty = λ c own. refl }
  go true is =
      let u = used_apart past f w e.image b ne in
      record {
        owner = transitioned_owner e (used past f e.image w) b ∙ u.0;
        defined = λ c own. transitioned_elsewhere e (used past f e.image w) c (rw own ne) ∙ u.1 c own;
        dirty = λ c own. transitioned_dirty e (used past f e.image w) c ∙ used_dirty past f e.image w c;
      }
apart_from_image past f e Release w b ne = let u = used_apart past f w e.image b ne in record { owner = rw ne u.0; defined = u.1; dirty = λ c own. used_dirty past f e.image w c }
apart_from_image past f e Acquire w b ne = record { owner = rw ne (transitioned_owner e w b); defined = λ c own. transitioned_elsewhere e w c (rw own ne); dirty = λ c own. transitioned_dirty e w c }
apart_from_image past f e Neither w b ne = record { owner = refl; defined = λ c own. refl; dirty = λ c own. refl }

-- an element on one resource, where it makes another world of a world, and other memories
pub passed_one : (past : Past) (r : ℕ) (w v : World) (t u : Byte → LastTouches) (old new : Contents) → is_some (resource past r) ≡ true → ((b : ℕ) → (b == r) ≡ false → IsApart past w v b)
    → ((b : ℕ) → (b == r) ≡ false → (c : Byte) → resource_at c ≡ b → u c ≡ t c)
    → BecomesIn (λ a b. AreContentsAt a past w t r → AreContentsAt b past v u r) (value_of old.resources r) (value_of new.resources r) → ((other : ℕ) → other ≢ r → value_of new.resources other ≡ value_of old.resources other)
    → AreAllAt old past w t → AreAllAt new past v u
passed_one past r w v t u old new there apart kept here others are b = by (b == r) refl where
  known : (x y : Option ResourceContents) → BecomesIn (λ a b. AreContentsAt a past w t r → AreContentsAt b past v u r) x y → AreContentsInAt x past w t r → AreContentsInAt y past v u r
  known None y h fresh = clash there fresh.unmade
  known (Some x) None h at = absurd h
  known (Some x) (Some y) h at = h at

  by : (x : Bool) → (b == r) ≡ x → AreContentsInAt (value_of new.resources b) past v u b
  by true is = subst (λ (i : ℕ). AreContentsInAt (value_of new.resources i) past v u i) (sym (eqb-true b r is)) (known (value_of old.resources r) (value_of new.resources r) here (are r))
  by false is = subst (λ (o : Option ResourceContents). AreContentsInAt o past v u b) (sym (others b (eqb-false b r is))) (apart_at past w v t u b (apart b is) (kept b is) (value_of old.resources b) (are b))

-- what becomes of what may be there, by what follows from it
becomes_so : (is so : ResourceContents → ResourceContents → Type 0) → ((u v : ResourceContents) → is u v → so u v) → (a b : Option ResourceContents) → BecomesIn is a b → BecomesIn so a b
becomes_so is so f None b h = h
becomes_so is so f (Some u) None h = h
becomes_so is so f (Some u) (Some v) h = f u v h

pub passed_buffer : (past : Past) (f : ℕ) (e : BufferElement) (x : Transfer) (w : World) (t : Byte → LastTouches) (old new : Contents) → is_some (resource past e.buffer) ≡ true
    → BecomesIn (IsPassed f x) (value_of old.resources e.buffer) (value_of new.resources e.buffer) → ((other : ℕ) → other ≢ e.buffer → value_of new.resources other ≡ value_of old.resources other)
    → AreAllAt old past w t → AreAllAt new past (after_buffer_element past f e x w) t
passed_buffer past f e x w t old new there here others = passed_one past e.buffer w (after_buffer_element past f e x w) t t old new there (apart_from past f e x w) (λ b ne c own. refl)
    (becomes_so (IsPassed f x) _ (λ u v h. h past w t e) (value_of old.resources e.buffer) (value_of new.resources e.buffer) here) others

-- an image of a good shape is an image, and has it
pub good_there : (past : Past) (i : ℕ) → is_good_image past i ≡ true → (m : ImageInfo) × (image past i ≡ Some m) × (bad_image m ≡ false)
good_there past i good = go (image past i) refl good where
  go : (o : Option ImageInfo) → image past i ≡ o → holds o (λ m. not (bad_image m)) ≡ true → (m : ImageInfo) × (image past i ≡ Some m) × (bad_image m ≡ false)
  go None is h = absurd cc
  go (Some m) is h = (m, is, not-true (bad_image m) h)

pub passed_image : (past : Past) (q : ℕ) (e : ImageElement) (s : Spot) (w : World) (t : Byte → LastTouches) (old new : Contents) → is_good_image past e.image ≡ true
    → BecomesIn (IsImagePassed q e s) (value_of old.resources e.image) (value_of new.resources e.image) → ((other : ℕ) → other ≢ e.image → value_of new.resources other ≡ value_of old.resources other)
    → AreAllAt old past w t → AreAllAt new past (after_element past (family_of q) w (element.Image e)) (touched_by past q (element.Image e) s t)
passed_image past q e s w t old new good here others = passed_one past e.image w (after_element past (family_of q) w (element.Image e)) t (touched_by past q (element.Image e) s t) old new
    (image_is_resource past e.image (ap is_some (good_there past e.image good).1)) (apart_from_image past (family_of q) e (transfer (family_of q) e.families) w)
    (λ b ne c own. ap (λ (x : Bool). if x then with_transition (t c) s else t c) (moves_no_other past q e c (rw own ne)))
    (becomes_so (IsImagePassed q e s) _ (λ u v h. h past w t good) (value_of old.resources e.image) (value_of new.resources e.image) here) others

-- ---- a barrier

module _ (past : Past) (p : Point) (clean : fault (p ∷ past) ≡ None) (es : List Element) (is : p.action ≡ Run (cmd.Barrier es)) where
  one_there : (e : Element) → Contains es e → IsTrue (is_on_resource past e)
  one_there (element.Memory d) c = refl
  one_there (element.Buffer e) c = buffer_is_resource past e.buffer (there_for_command past p clean (cmd.Barrier es) is e.buffer (flat_has asked_by_element es (element.Buffer e) (e.buffer, is_buffer) c (contains-head (e.buffer, is_buffer) [])))
  one_there (element.Image e) c =
      let m = image_for_command past p clean (cmd.Barrier es) is e.image (flat_has asked_by_element es (element.Image e) (e.image, is_image) c (contains-head (e.image, is_image) [])) in
      let good = image_good past (fault_rest past p clean) e.image m.0 m.1 in
      rw (m.1, good) refl

  pub on_resources : AreOnResources past es
  on_resources = λ k d lt. one_there (slice_index_or es k d) (k, lt, get_or_default es k (slice_index_or es k d) d lt)

  -- the world after it
  world_is : world (p ∷ past) ≡ fold (after_element past (family_of p.queue)) (world past) es
  world_is = ap (λ (d : Action). after_action past p.queue d (world past)) is

  unmade_still : (b : ℕ) → is_some (resource past b) ≡ false → is_some (resource (p ∷ past) b) ≡ false
  unmade_still b none = subst (λ (e : Action). is_some (resource (record p { action = e } ∷ past) b) ≡ false) (sym is) none

  next_at : (t : Byte → LastTouches) → ((c : Byte) → touched (p ∷ past) c ≡ t c) → (o : Option ResourceContents) (b : ℕ) → AreContentsInAt o past (world (p ∷ past)) t b → AreContentsInAt o (p ∷ past) (world (p ∷ past)) (touched (p ∷ past)) b
  next_at t same None b f = record { unmade = unmade_still b f.unmade; owner = f.owner; undefined = f.undefined; clean = f.clean; unused = λ c own. same c ∙ f.unused c own }
  next_at t same (Some c) b a = record {
    made = ap is_some (same_resource past p clean b a.made) ∙ a.made;
    defined_size = a.defined_size ∙ sym (same_size past p clean b a.made);
    dirty_size = a.dirty_size ∙ sym (same_size past p clean b a.made);
    touches_size = a.touches_size ∙ sym (same_size past p clean b a.made);
    image = a.image ∙ sym (same_image past p clean b a.made);
    mode = a.mode ∙ sym (same_mode past p clean b a.made);
    cache = a.cache ∙ sym (same_cache past p clean b a.made);
    owner = a.owner;
    defined = λ k lt. a.defined k (rw (← same_size past p clean b a.made) lt) ∙ ap (λ (c : Byte). Some (has_value (world (p ∷ past)) c)) (sym (same_byte past p clean b a.made k));
    dirty = λ k lt. a.dirty k (rw (← same_size past p clean b a.made) lt) ∙ ap (λ (c : Byte). Some ((world (p ∷ past)).dirty c)) (sym (same_byte past p clean b a.made k));
    touches = λ k lt. a.touches k (rw (← same_size past p clean b a.made) lt) ∙ ap Some (sym (same (byte_at past b k))) ∙ ap (λ (c : Byte). Some (touched (p ∷ past) c)) (sym (same_byte past p clean b a.made k));
  }

  pub passed_step : (old new : Contents) → (AreOnResources past es → AreAllAt old past (world past) (touched past) → AreAllAt new past (fold (after_element past (family_of p.queue)) (world past) es) (touched_by_all past p (nodes past) es (touched past))) → AreContents old past → AreContents new (p ∷ past)
  passed_step old new passes are b = next_at (touched_by_all past p (nodes past) es (touched past)) (barrier_touched past p es is) (value_of new.resources b) b
      (subst (λ (w : World). AreContentsInAt (value_of new.resources b) past w (touched_by_all past p (nodes past) es (touched past)) b) (sym world_is) (passes on_resources are b))
