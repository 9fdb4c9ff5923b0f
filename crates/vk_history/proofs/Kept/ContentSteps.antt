-- What is kept of the bytes of buffers and images after a point.
use Rattle.std.proofs.Common.{◌≡◌, ◌≢◌, ◌<◌, ℕ, [], ◌∷◌, slice_get, cond, Bool, true, false, not, ◌&&◌, ◌==◌, refl, ap, sym, ◌∙◌, subst, Option, Some, None}
use Rattle.std.specs.Prelude.{is_some, is_none, if◌then◌else◌, option_and_then, IfSome, IsSome}
use Rattle.std.specs.Option.{option_map}
use Rattle.std.specs.List.{find, cons_option}
use Rattle.vk_ids.specs.Ids.{value_of}
use Rattle.std.proofs.lemmas.Bool.{eqb-true, eqb-false, eq-eqb}
use Rattle.std.proofs.Math.Bool.{and-false}
use Rattle.vk_model.specs.declared.entry.Entry.{Entry}
use Rattle.vk_model.specs.declared.entry.Entry.TheVariants as entry
use Rattle.vk_model.specs.declared.resource.BufferInfo.{BufferInfo}
use Rattle.vk_model.specs.Basics.{holds}
use Rattle.vk_model.specs.declared.resource.ImageInfo.{ImageInfo}
use Rattle.vk_model.specs.declared.resource.Sharing.{Sharing}
use Rattle.vk_model.specs.World.Bytes.{Byte, resource_at, Owner, Nobody, Family, Released, World}
use Rattle.vk_model.specs.World.ByteWrites.{buffer_size}
use Rattle.vk_model.specs.World.Effect.{world, after_action, is_other, used}
use Rattle.vk_model.specs.Sync.Seen.{flushes, invalidates}
use Rattle.vk_model.proofs.Rules.Fault.{unbroken_of_none}
use Rattle.vk_laws.proofs.Caching.CachedStays.{cached_stays}
use Rattle.vk_laws.proofs.Nodes.Steady.{new_ids, live_ids}
use Rattle.vk_model.specs.Sync.Access.{is_in, host_reads, host_writes}
use Rattle.vk_model.specs.Trace.Objects.{made, made_by, buffer, image, image_in, resource, is_cached, is_exclusive, resource_in, is_exclusive_mode}
use Rattle.vk_model.specs.Trace.Point.{Past, Point, Action, Host, host_of, entries}
use Rattle.vk_model.proofs.Lists.Truths.{clash, bool_same}
use Rattle.vk_history.specs.declared.resource_contents.ResourceContents.{ResourceContents}
use Rattle.vk_history.specs.declared.contents.Contents.{Contents}
use Rattle.vk_touches.specs.declared.touches.LastTouches.{LastTouches}
use Rattle.vk_touches.specs.declared.touches.Touch.{Touch}
use Rattle.vk_touches.specs.declared.touches.Touch.TheVariants as touch
use Rattle.vk_model.specs.Rules.Table.{fault}
use Rattle.vk_touches.specs.Touched.{touches, touched, act_next, has_transition}
use Rattle.vk_history.specs.Contents.{AreContents, AreContentsIn, AreContentsOf, IsFresh, IsMade, IsChanged, BecomesIn, is_lost, left_of, owner_after, holder_of, has_value, byte_at, size_at}
use Rattle.vk_image_bytes.specs.Numbers.{byte_count}
use Rattle.vk_history.proofs.Making.Numbers.{numbered_at, same_byte_at, same_size_at, size_of_buffer, size_of_image, buffer_no_image}
use Rattle.vk_history.proofs.Making.Worlds.{used_owner, used_value, loses}
use Rattle.vk_touches.proofs.Touching.Remembering.{touched_by_none}
use Rattle.vk_history.proofs.Kept.NextPoint.{fault_rest, made_kept, was_unmade}

-- ---- contents and a world

-- the owner of a resource, and what is defined of it, are those of a world
pub record IsOf (past : Past) (c : ResourceContents) (w : World) (b : ℕ) : Type 0 where
  pub mode : c.is_exclusive ≡ is_exclusive past b
  pub owner : c.owner ≡ holder_of (w.owner b)
  pub defined : (k : ℕ) → k < size_at past b → slice_get c.defined k ≡ Some (has_value w (byte_at past b k))

module _ (past : Past) (f : ℕ) (w : World) where
  swapped : (x y : ℕ) → (x == y) ≡ (y == x)
  swapped x y = bool_same (x == y) (y == x) (λ h. eq-eqb y x (sym (eqb-true x y h))) (λ h. eq-eqb x y (sym (eqb-true y x h)))

  -- what a use loses, as it is kept
  pub lost_is : (b : ℕ) (c : ResourceContents) → IsOf past c w b → is_lost c f ≡ loses past f b w
  lost_is b c a = rw (a.mode, a.owner) (ap (λ (t : Bool). is_exclusive past b && t) (go (w.owner b))) where
    go : (o : Owner) → holds (holder_of o) (λ g. not (g == f)) ≡ is_other f o
    go Nobody = refl
    go (Family g) = ap not (swapped g f)
    go (Released g e) = ap not (swapped g f)

  -- who owns it after a use
  pub taken_owner : (b : ℕ) (c : ResourceContents) → IsOf past c w b → owner_after c f ≡ holder_of ((used past f b w).owner b)
  taken_owner b c a = go c.is_exclusive refl ∙ sym (ap holder_of (used_owner past f b w b)) where
    go : (t : Bool) → c.is_exclusive ≡ t → (if t then Some f else c.owner) ≡ holder_of (if is_exclusive past b && b == b then Family f else w.owner b)
    go true e = rw (sym a.mode ∙ e, eq-eqb b b refl) refl
    go false e = rw (sym a.mode ∙ e) a.owner

  -- what is defined after it
  pub left_is : (b : ℕ) (c : ResourceContents) → IsOf past c w b → (k : ℕ) (byte : Byte) → resource_at byte ≡ b → left_of c f k (has_value w byte) ≡ has_value (used past f b w) byte
  left_is b c a k byte own = rw (lost_is b c a) (go (loses past f b w) refl ∙ sym (ap not (used_value past f b w byte))) where
    go : (l : Bool) → loses past f b w ≡ l → (if l then false else has_value w byte) ≡ not (if resource_at byte == b && loses past f b w then true else is_none (w.value byte))
    go true e = rw (eq-eqb (resource_at byte) b own, e) refl
    go false e = rw (eq-eqb (resource_at byte) b own, e) refl

  -- a use of another resource
  pub used_apart : (r b : ℕ) → (b == r) ≡ false → ((used past f r w).owner b ≡ w.owner b) × ((byte : Byte) → resource_at byte ≡ b → has_value (used past f r w) byte ≡ has_value w byte)
  used_apart r b e = (used_owner past f r w b ∙ rw (e, and-false (is_exclusive past r)) refl, λ byte own. ap not (used_value past f r w byte ∙ rw (own, e) refl))

pub of_contents : (past : Past) (b : ℕ) (c : ResourceContents) → AreContentsOf c past b → IsOf past c (world past) b
of_contents past b c a = record { mode = a.mode; owner = a.owner; defined = a.defined }

module _ (past : Past) (p : Point) (clean : fault (p ∷ past) ≡ None) where
  -- ---- a resource that is there stays what it is

  made_of : (b : ℕ) → is_some (resource past b) ≡ true → (x : Entry) × (made past b ≡ Some x)
  made_of b some = go (made past b) refl where
    go : (o : Option Entry) → made past b ≡ o → (x : Entry) × (o ≡ Some x)
    go None e = absurd (let bad : false ≡ true = rw e at some in cc)
    go (Some x) e = (x, refl)

  pub same_made : (b : ℕ) → is_some (resource past b) ≡ true → made (p ∷ past) b ≡ made past b
  same_made b some = let m = made_of b some in made_kept past p clean b m.0 m.1 ∙ sym m.1

  pub same_resource : (b : ℕ) → is_some (resource past b) ≡ true → resource (p ∷ past) b ≡ resource past b
  same_resource b some = ap (option_and_then resource_in) (same_made b some)

  pub same_size : (b : ℕ) → is_some (resource past b) ≡ true → size_at (p ∷ past) b ≡ size_at past b
  same_size b some = same_size_at past (p ∷ past) b (same_made b some)

  pub same_byte : (b : ℕ) → is_some (resource past b) ≡ true → (k : ℕ) → byte_at (p ∷ past) b k ≡ byte_at past b k
  same_byte b some = same_byte_at past (p ∷ past) b (same_made b some)

  pub same_mode : (b : ℕ) → is_some (resource past b) ≡ true → is_exclusive (p ∷ past) b ≡ is_exclusive past b
  same_mode b some = ap (λ (o : Option Entry). holds (option_and_then resource_in o) (λ r. is_exclusive_mode r.sharing)) (same_made b some)

  pub same_image : (b : ℕ) → is_some (resource past b) ≡ true → image (p ∷ past) b ≡ image past b
  same_image b some = ap (option_and_then image_in) (same_made b some)

  pub same_cache : (b : ℕ) → is_some (resource past b) ≡ true → is_cached (p ∷ past) b ≡ is_cached past b
  same_cache b some =
      let m = made_of b some in
      let sound = unbroken_of_none past (fault_rest past p clean) in
      cached_stays (p ∷ []) past (new_ids (p ∷ past) (unbroken_of_none (p ∷ past) clean)) (live_ids past sound) (new_ids past sound) b m.0 m.1

  -- ---- contents that a point leaves, or changes

  -- of a resource that is there
  pub next_of : (b : ℕ) (old new : ResourceContents) (owner : Option ℕ) (define soil : ℕ → Bool → Bool) (touch : ℕ → LastTouches → LastTouches) → AreContentsOf old past b → IsChanged old new owner define soil touch
      → owner ≡ holder_of ((world (p ∷ past)).owner b)
      → ((k : ℕ) → k < size_at past b → define k (has_value (world past) (byte_at past b k)) ≡ has_value (world (p ∷ past)) (byte_at past b k))
      → ((k : ℕ) → k < size_at past b → soil k ((world past).dirty (byte_at past b k)) ≡ (world (p ∷ past)).dirty (byte_at past b k))
      → ((k : ℕ) → k < size_at past b → touch k (touched past (byte_at past b k)) ≡ touched (p ∷ past) (byte_at past b k))
      → AreContentsOf new (p ∷ past) b
  next_of b old new owner define soil touch are is owned defined dirty touches = record {
    made = ap is_some (same_resource b are.made) ∙ are.made;
    defined_size = is.defined_size ∙ are.defined_size ∙ sym (same_size b are.made);
    dirty_size = is.dirty_size ∙ are.dirty_size ∙ sym (same_size b are.made);
    touches_size = is.touches_size ∙ are.touches_size ∙ sym (same_size b are.made);
    image = is.image ∙ are.image ∙ sym (same_image b are.made);
    mode = is.mode ∙ are.mode ∙ sym (same_mode b are.made);
    cache = is.cache ∙ are.cache ∙ sym (same_cache b are.made);
    owner = is.owned ∙ owned;
    defined = λ k lt. let low : k < size_at past b = rw (← same_size b are.made) lt in is.defined k ∙ ap (option_map (define k)) (are.defined k low) ∙ ap Some (defined k low) ∙ ap (λ (c : Byte). Some (has_value (world (p ∷ past)) c)) (sym (same_byte b are.made k));
    dirty = λ k lt. let low : k < size_at past b = rw (← same_size b are.made) lt in is.dirty k ∙ ap (option_map (soil k)) (are.dirty k low) ∙ ap Some (dirty k low) ∙ ap (λ (c : Byte). Some ((world (p ∷ past)).dirty c)) (sym (same_byte b are.made k));
    touches = λ k lt. let low : k < size_at past b = rw (← same_size b are.made) lt in is.touches k ∙ ap (option_map (touch k)) (are.touches k low) ∙ ap Some (touches k low) ∙ ap (λ (c : Byte). Some (touched (p ∷ past) c)) (sym (same_byte b are.made k));
  }

  -- a resource that a point doesn't touch
  pub record IsUntouched (b : ℕ) : Type 0 where
    pub unmade : is_some (resource past b) ≡ false → is_some (resource (p ∷ past) b) ≡ false
    pub owner : (world (p ∷ past)).owner b ≡ (world past).owner b
    pub defined : (c : Byte) → resource_at c ≡ b → has_value (world (p ∷ past)) c ≡ has_value (world past) c
    pub dirty : (c : Byte) → resource_at c ≡ b → (world (p ∷ past)).dirty c ≡ (world past).dirty c
    pub touches : (c : Byte) → resource_at c ≡ b → touched (p ∷ past) c ≡ touched past c

  -- what isn't touched stays
  pub untouched : (o : Option ResourceContents) (b : ℕ) → IsUntouched b → AreContentsIn o past b → AreContentsIn o (p ∷ past) b
  untouched None b un fresh = record {
    unmade = un.unmade fresh.unmade;
    owner = un.owner ∙ fresh.owner;
    undefined = λ c own. un.defined c own ∙ fresh.undefined c own;
    clean = λ c own. un.dirty c own ∙ fresh.clean c own;
    unused = λ c own. un.touches c own ∙ fresh.unused c own;
  }
  untouched (Some c) b un are =
      let own = (numbered_at past b).own in record {
        made = ap is_some (same_resource b are.made) ∙ are.made;
        defined_size = are.defined_size ∙ sym (same_size b are.made);
        dirty_size = are.dirty_size ∙ sym (same_size b are.made);
        touches_size = are.touches_size ∙ sym (same_size b are.made);
        image = are.image ∙ sym (same_image b are.made);
        mode = are.mode ∙ sym (same_mode b are.made);
        cache = are.cache ∙ sym (same_cache b are.made);
        owner = are.owner ∙ sym (ap holder_of un.owner);
        defined = λ k lt. are.defined k (rw (← same_size b are.made) lt) ∙ ap Some (sym (un.defined (byte_at past b k) (own k))) ∙ ap (λ (c : Byte). Some (has_value (world (p ∷ past)) c)) (sym (same_byte b are.made k));
        dirty = λ k lt. are.dirty k (rw (← same_size b are.made) lt) ∙ ap Some (sym (un.dirty (byte_at past b k) (own k))) ∙ ap (λ (c : Byte). Some ((world (p ∷ past)).dirty c)) (sym (same_byte b are.made k));
        touches = λ k lt. are.touches k (rw (← same_size b are.made) lt) ∙ ap Some (sym (un.touches (byte_at past b k) (own k))) ∙ ap (λ (c : Byte). Some (touched (p ∷ past) c)) (sym (same_byte b are.made k));
      }

  -- ---- points that touch no byte

  -- what an action leaves as it is: owners, values, what is dirty, who touched what, and what is no resource
  pub record IsStill (d : Action) : Type 0 where
    pub owner : (b : ℕ) → (after_action past p.queue d (world past)).owner b ≡ (world past).owner b
    pub value : (c : Byte) → is_none ((after_action past p.queue d (world past)).value c) ≡ is_none ((world past).value c)
    pub dirty : (c : Byte) → (after_action past p.queue d (world past)).dirty c ≡ (world past).dirty c
    pub touches : (t : Touch) (c : Byte) → touches t c past p d ≡ false
    pub unflushed : (c : Byte) → flushes (act_next d) c ≡ false
    pub valid : (c : Byte) → invalidates (act_next d) c ≡ false
    pub unmoved : (c : Byte) → has_transition c past p d ≡ false
    pub resources : holds (host_of d) (λ x. is_some (resource_in x)) ≡ false

  -- what makes no resource leaves what is none
  no_resource : (h : Option Entry) → holds h (λ x. is_some (resource_in x)) ≡ false → (b : ℕ) → is_some (resource past b) ≡ false → is_some (option_and_then resource_in (find (λ x. holds (made_by x) (λ i. b == i)) (cons_option h (entries past)))) ≡ false
  no_resource None none b unmade = unmade
  no_resource (Some x) none b unmade = go (holds (made_by x) (λ i. b == i)) where
    go : (t : Bool) → is_some (option_and_then resource_in (cond t (Some x) (made past b))) ≡ false
    go true = none
    go false = unmade

  pub still_here : (d : Action) → p.action ≡ d → IsStill d → (b : ℕ) → IsUntouched b
  still_here d is still b = record {
    unmade = λ none. subst (λ (e : Action). is_some (resource (record p { action = e } ∷ past) b) ≡ false) (sym is) (no_resource (host_of d) still.resources b none);
    owner = ap (λ (e : Action). (after_action past p.queue e (world past)).owner b) is ∙ still.owner b;
    defined = λ c own. ap (λ (e : Action). not (is_none ((after_action past p.queue e (world past)).value c))) is ∙ ap not (still.value c);
    dirty = λ c own. ap (λ (e : Action). (after_action past p.queue e (world past)).dirty c) is ∙ still.dirty c;
    touches = λ c own. touched_by_none past p c d is (still.unmoved c) (λ t. still.touches t c) (still.unflushed c) (still.valid c);
  }

  -- what an entry leaves as it is
  pub record IsStillFor (x : Entry) : Type 0 where
    pub owner : (b : ℕ) → (after_action past p.queue (Host x) (world past)).owner b ≡ (world past).owner b
    pub value : (c : Byte) → is_none ((after_action past p.queue (Host x) (world past)).value c) ≡ is_none ((world past).value c)
    pub dirty : (c : Byte) → (after_action past p.queue (Host x) (world past)).dirty c ≡ (world past).dirty c
    pub touches : (t : Touch) (c : Byte) → touches t c past p (Host x) ≡ false
    pub unflushed : (c : Byte) → flushes (act_next (Host x)) c ≡ false
    pub valid : (c : Byte) → invalidates (act_next (Host x)) c ≡ false

  -- ---- points that change one resource

  pub one_changed : (b : ℕ) → is_some (resource past b) ≡ true → (becomes : ResourceContents → ResourceContents → Type 0) (old new : Contents) → BecomesIn becomes (value_of old.resources b) (value_of new.resources b)
      → ((other : ℕ) → other ≢ b → value_of new.resources other ≡ value_of old.resources other)
      → ((u v : ResourceContents) → AreContentsOf u past b → becomes u v → AreContentsOf v (p ∷ past) b) → ((c : ℕ) → (c == b) ≡ false → IsUntouched c)
      → AreContents old past → AreContents new (p ∷ past)
  one_changed b some becomes old new here others next apart are c = at (c == b) refl where
    known : (u v : Option ResourceContents) → BecomesIn becomes u v → AreContentsIn u past b → AreContentsIn v (p ∷ past) b
    known None v h fresh = clash some fresh.unmade
    known (Some u) None h a = absurd h
    known (Some u) (Some v) h a = next u v a h

    at : (t : Bool) → (c == b) ≡ t → AreContentsIn (value_of new.resources c) (p ∷ past) c
    at true e = subst (λ (x : ℕ). AreContentsIn (value_of new.resources x) (p ∷ past) x) (sym (eqb-true c b e)) (known (value_of old.resources b) (value_of new.resources b) here (are b))
    at false e = subst (λ (x : Option ResourceContents). AreContentsIn x (p ∷ past) c) (sym (others c (eqb-false c b e))) (untouched (value_of old.resources c) c (apart c e) (are c))

  -- ---- a resource is made

  -- by an entry that makes one, with so many bytes that are numbered
  pub resource_made : (i : ℕ) (x : Entry) (size : ℕ) (sharing : Sharing) → p.action ≡ Host x → made_by x ≡ Some i → is_some (resource_in x) ≡ true → holds (resource_in x) (λ r. is_exclusive_mode r.sharing) ≡ is_exclusive_mode sharing
      → size_at (p ∷ past) i ≡ size → (of : Option ImageInfo) → image (p ∷ past) i ≡ of → IsStillFor x → (old new : Contents)
      → (cached : Bool) → cached ≡ is_cached (p ∷ past) i → IfSome (value_of new.resources i) (λ c. IsMade c size sharing cached of) → IsSome (value_of new.resources i) → ((other : ℕ) → other ≢ i → value_of new.resources other ≡ value_of old.resources other)
      → AreContents old past → AreContents new (p ∷ past)
  resource_made i x size sharing is makes some mode sized of imaged still old new cached is_cache here present others are b = at (b == i) refl where
    owned : (b : ℕ) → (world (p ∷ past)).owner b ≡ (world past).owner b
    owned b = ap (λ (e : Action). (after_action past p.queue e (world past)).owner b) is ∙ still.owner b

    valued : (c : Byte) → has_value (world (p ∷ past)) c ≡ has_value (world past) c
    valued c = ap (λ (e : Action). not (is_none ((after_action past p.queue e (world past)).value c))) is ∙ ap not (still.value c)

    soiled : (c : Byte) → (world (p ∷ past)).dirty c ≡ (world past).dirty c
    soiled c = ap (λ (e : Action). (after_action past p.queue e (world past)).dirty c) is ∙ still.dirty c

    kept : (c : Byte) → touched (p ∷ past) c ≡ touched past c
    kept c = touched_by_none past p c (Host x) is refl (λ t. still.touches t c) (still.unflushed c) (still.valid c)

    unmade : is_some (resource past i) ≡ false
    unmade = rw (was_unmade past p clean x i is makes) refl

    entry_now : made (p ∷ past) i ≡ Some x
    entry_now = rw (is, makes, eq-eqb i i refl) refl

    fresh : IsFresh past i
    fresh = go (value_of old.resources i) (are i) where
      go : (o : Option ResourceContents) → AreContentsIn o past i → IsFresh past i
      go None f = f
      go (Some c) a = clash a.made unmade

    own : (k : ℕ) → resource_at (byte_at (p ∷ past) i k) ≡ i
    own = (numbered_at (p ∷ past) i).own

    new_one : (o : Option ResourceContents) → IsSome o → IfSome o (λ c. IsMade c size sharing cached of) → AreContentsIn o (p ∷ past) i
    new_one None there made = absurd cc
    new_one (Some c) there made = record {
      made = ap (λ (o : Option Entry). is_some (option_and_then resource_in o)) entry_now ∙ some;
      defined_size = made.defined_size ∙ sym sized;
      dirty_size = made.dirty_size ∙ sym sized;
      cache = made.cache ∙ is_cache;
      touches_size = made.touches_size ∙ sym sized;
      image = made.image ∙ sym imaged;
      mode = made.mode ∙ sym (ap (λ (o : Option Entry). holds (option_and_then resource_in o) (λ r. is_exclusive_mode r.sharing)) entry_now ∙ mode);
      owner = made.nobody ∙ sym (ap holder_of (owned i ∙ fresh.owner));
      defined = λ k lt. made.undefined k (rw (← sized) lt) ∙ ap Some (sym (valued (byte_at (p ∷ past) i k) ∙ fresh.undefined (byte_at (p ∷ past) i k) (own k)));
      dirty = λ k lt. made.clean k (rw (← sized) lt) ∙ ap Some (sym (soiled (byte_at (p ∷ past) i k) ∙ fresh.clean (byte_at (p ∷ past) i k) (own k)));
      touches = λ k lt. made.unread k (rw (← sized) lt) ∙ ap Some (sym (kept (byte_at (p ∷ past) i k) ∙ fresh.unused (byte_at (p ∷ past) i k) (own k)));
    }

    other_kept : (b : ℕ) → (b == i) ≡ false → resource (p ∷ past) b ≡ resource past b
    other_kept b e = rw (is, makes, e) refl

    at : (t : Bool) → (b == i) ≡ t → AreContentsIn (value_of new.resources b) (p ∷ past) b
    at true e = subst (λ (c : ℕ). AreContentsIn (value_of new.resources c) (p ∷ past) c) (sym (eqb-true b i e)) (new_one (value_of new.resources i) present here)
    at false e = subst (λ (o : Option ResourceContents). AreContentsIn o (p ∷ past) b) (sym (others b (eqb-false b i e)))
        (untouched (value_of old.resources b) b (record { unmade = λ none. ap is_some (other_kept b e) ∙ none; owner = owned b; defined = λ c own. valued c; dirty = λ c own. soiled c; touches = λ c own. kept c }) (are b))

  pub no_touch : (x : Entry) → host_writes x ≡ [] → host_reads x ≡ [] → (t : Touch) (c : Byte) → touches t c past p (Host x) ≡ false
  no_touch x w r touch.Write c = refl
  no_touch x w r (touch.Read q) c = refl
  no_touch x w r touch.HostWrite c = ap (is_in c) w
  no_touch x w r touch.HostRead c = ap (is_in c) r

  pub buffer_made : (i : ℕ) (info : BufferInfo) → p.action ≡ Host (entry.Buffer i info) → (old new : Contents)
      → (cached : Bool) → cached ≡ is_cached (p ∷ past) i → IfSome (value_of new.resources i) (λ c. IsMade c info.size info.sharing cached None) → IsSome (value_of new.resources i) → ((other : ℕ) → other ≢ i → value_of new.resources other ≡ value_of old.resources other)
      → AreContents old past → AreContents new (p ∷ past)
  buffer_made i info is =
      let made_now : buffer (p ∷ past) i ≡ Some info = rw (is, eq-eqb i i refl) refl in
      let size_now : buffer_size (p ∷ past) i ≡ info.size = ap (λ (o : Option BufferInfo). elim o [ None ↦ 0 | Some i ↦ i.size ]) made_now in
      resource_made i (entry.Buffer i info) info.size info.sharing is refl refl refl (size_of_buffer (p ∷ past) i (ap is_some made_now) ∙ size_now) None (buffer_no_image (p ∷ past) i (ap is_some made_now))
      (record { owner = λ b. refl; value = λ c. refl; dirty = λ c. refl; touches = no_touch (entry.Buffer i info) refl refl; unflushed = λ c. refl; valid = λ c. refl })

  pub image_made : (i : ℕ) (m : ImageInfo) → p.action ≡ Host (entry.Image i m) → (old new : Contents)
      → (cached : Bool) → cached ≡ is_cached (p ∷ past) i → IfSome (value_of new.resources i) (λ c. IsMade c (byte_count m) m.sharing cached (Some m)) → IsSome (value_of new.resources i) → ((other : ℕ) → other ≢ i → value_of new.resources other ≡ value_of old.resources other)
      → AreContents old past → AreContents new (p ∷ past)
  image_made i m is =
      let made_now : image (p ∷ past) i ≡ Some m = rw (is, eq-eqb i i refl) refl in
      resource_made i (entry.Image i m) (byte_count m) m.sharing is refl refl refl (size_of_image (p ∷ past) i m made_now) (Some m) made_now
      (record { owner = λ b. refl; value = λ c. refl; dirty = λ c. refl; touches = no_touch (entry.Image i m) refl refl; unflushed = λ c. refl; valid = λ c. refl })
