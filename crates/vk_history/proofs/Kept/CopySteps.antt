-- What is kept of the bytes of buffers after a copy.
use Rattle.std.proofs.Common.{◌≡◌, ◌≢◌, ◌<◌, ◌≤◌, ◌+◌, ◌-◌, ℕ, List, [], ◌∷◌, length, slice_get, Bool, true, false, not, ◌&&◌, ◌==◌, refl, ap, sym, ◌∙◌, subst, arith, Option, Some, None}
use Rattle.std.specs.Prelude.{Contains, is_some, is_none, if◌then◌else◌, unwrap_or, option_and_then, nat_le, nat_lt}
use Rattle.std.specs.Option.{option_map}
use Rattle.std.specs.List.{find, flat_map}
use Rattle.vk_ids.specs.Ids.{value_of}
use Rattle.std.proofs.lemmas.Bool.{eq-eqb, eqb-true, eqb-false, and_parts, leb-true, ltb-true}
use Rattle.vk_model.specs.declared.command.BufferCopy.{BufferCopy}
use Rattle.vk_model.specs.declared.command.Cmd.{Cmd}
use Rattle.vk_model.specs.declared.command.Cmd.TheVariants as cmd
use Rattle.vk_model.specs.Rules.Ids.{is_buffer, asked_by_command}
use Rattle.vk_model.specs.Basics.{within}
use Rattle.vk_model.specs.World.Bytes.{Byte, in_buffer, resource_at, Family, World, Owner}
use Rattle.vk_model.specs.World.ByteWrites.{From, byte_write, byte_writes, copy_writes}
use Rattle.vk_model.specs.Sync.Access.{is_in, targets, origins}
use Rattle.vk_model.proofs.Lists.Rows.{flat_same, map_below}
use Rattle.vk_image_bytes.specs.Copies.{numbered_writes}
use Rattle.vk_model.specs.World.Effect.{world, after_action, after_command, after_writes, used, is_other}
use Rattle.vk_model.specs.World.Ownership.{family_of}
use Rattle.vk_model.specs.Trace.Objects.{resource, is_exclusive}
use Rattle.vk_model.specs.Trace.Point.{Past, Point, Action, Run}
use Rattle.vk_model.proofs.Lists.Members.{found, contains-head, contains-tail}
use Rattle.vk_model.proofs.Lists.Truths.{clash}
use Rattle.vk_history.specs.declared.resource_contents.ResourceContents.{ResourceContents}
use Rattle.vk_history.specs.declared.contents.Contents.{Contents}
use Rattle.vk_history.specs.declared.stretches.Stretch.{Stretch}
use Rattle.vk_touches.specs.declared.touches.LastTouches.{LastTouches}
use Rattle.vk_touches.specs.declared.touches.Spot.{Spot}
use Rattle.vk_touches.specs.declared.touches.Touch.TheVariants as touch
use Rattle.vk_model.specs.Rules.Table.{fault}
use Rattle.vk_touches.specs.Remembered.{with_touch}
use Rattle.vk_touches.specs.Touched.{touched, next_spot, has_transition}
use Rattle.vk_history.specs.Contents.{AreContents, AreContentsIn, AreContentsOf, IsChanged, BecomesIn, IsLent, IsLentWith, IsPasted, AreCopied, AreCopiedNumbers, ReadWithin, as_before, stretch_at, left_of, holder_of, owner_after, has_value, byte_at, size_at}
use Rattle.vk_touches.specs.TouchedRanges.{reads_at, writes_at, touching}
use Rattle.vk_history.proofs.Making.Numbers.{IsNumbered, numbered_at, byte_of_buffer, size_of_buffer, buffer_is_resource, copies-targets, copies-targets-other, copies-origins, copies-origins-other}
use Rattle.vk_history.proofs.Making.Worlds.{copy_leaves, unwritten, used_owner, used_value, used_dirty, loses, turned_about}
use Rattle.vk_touches.proofs.Touching.Remembering.{touched_by_command, merged_command}
use Rattle.vk_history.proofs.Kept.NextPoint.{IsWithin, command_there, copy_reads_fit, copy_writes_fit}
use Rattle.vk_history.proofs.Kept.ContentSteps.{IsOf, IsUntouched, untouched, next_of, of_contents, taken_owner, left_is, used_apart}

-- two changes, one after the other
afterwards : (a b c : ResourceContents) (o1 o2 : Option ℕ) (d1 d2 : ℕ → Bool → Bool) (t1 t2 : ℕ → LastTouches → LastTouches) → IsChanged a b o1 d1 as_before t1 → IsChanged b c o2 d2 as_before t2 → IsChanged a c o2 (λ k d. d2 k (d1 k d)) as_before (λ k t. t2 k (t1 k t))
afterwards a b c o1 o2 d1 d2 t1 t2 h g = record {
  defined_size = g.defined_size ∙ h.defined_size;
  dirty_size = g.dirty_size ∙ h.dirty_size;
  touches_size = g.touches_size ∙ h.touches_size;
  mode = g.mode ∙ h.mode;
  cache = g.cache ∙ h.cache;
  image = g.image ∙ h.image;
  owned = g.owned;
  defined = λ k. g.defined k ∙ ap (option_map (d2 k)) (h.defined k) ∙ twice (d1 k) (d2 k) (slice_get a.defined k);
  dirty = λ k. g.dirty k ∙ ap (option_map (as_before k)) (h.dirty k) ∙ twice (as_before k) (as_before k) (slice_get a.dirty k);
  touches = λ k. g.touches k ∙ ap (option_map (t2 k)) (h.touches k) ∙ twice (t1 k) (t2 k) (slice_get a.touches k);
} where
  twice : {A : Type 0} (f g : A → A) (o : Option A) → option_map g (option_map f o) ≡ option_map (λ x. g (f x)) o
  twice f g None = refl
  twice f g (Some x) = refl

-- what a use leaves of contents
taken_of : (past : Past) (f b : ℕ) (w : World) (u v : ResourceContents) (t : ℕ → LastTouches → LastTouches) → IsOf past u w b → IsChanged u v (owner_after u f) (left_of u f) as_before t → IsOf past v (used past f b w) b
taken_of past f b w u v t a h = record {
  mode = h.mode ∙ a.mode;
  owner = h.owned ∙ taken_owner past f w b u a;
  defined = λ k lt. h.defined k ∙ ap (option_map (left_of u f k)) (a.defined k lt) ∙ ap Some (left_is past f w b u a k (byte_at past b k) ((numbered_at past b).own k));
}

-- what a second use by the family leaves of the first one's resource
used_again : (past : Past) (f s d : ℕ) (w : World) (c : Byte) → resource_at c ≡ s → has_value (used past f d (used past f s w)) c ≡ has_value (used past f s w) c
used_again past f s d w c own = ap not (used_value past f d (used past f s w) c ∙ ap (λ (r : ℕ). if r == d && loses past f d after then true else is_none (after.value c)) own ∙ by (s == d) refl) where
  after : World
  after = used past f s w

  lost : s ≡ d → loses past f d after ≡ false
  lost e = subst (λ (r : ℕ). loses past f r after ≡ false) e (ap (λ (o : Owner). is_exclusive past s && is_other f o) (used_owner past f s w s) ∙ rw (eq-eqb s s refl) (go (is_exclusive past s))) where
    go : (t : Bool) → (t && is_other f (if t && true then Family f else w.owner s)) ≡ false
    go true = rw (eq-eqb f f refl) refl
    go false = refl

  by : (t : Bool) → (s == d) ≡ t → (if t && loses past f d after then true else is_none (after.value c)) ≡ is_none (after.value c)
  by true e = rw (lost (eqb-true s d e)) refl
  by false e = refl

-- the buffers that a copy names
pub source_named : (s d : ℕ) → Contains (asked_by_command (cmd.Copy s d [])) (s, is_buffer)
source_named s d = contains-head (s, is_buffer) ((d, is_buffer) ∷ [])

pub destination_named : (s d : ℕ) → Contains (asked_by_command (cmd.Copy s d [])) (d, is_buffer)
destination_named s d = contains-tail (s, is_buffer) ((d, is_buffer) ∷ []) (d, is_buffer) (contains-head (d, is_buffer) [])

-- a command that copies numbers from one resource to another, or within one
pub record CopiesNumbers (past : Past) (p : Point) (c : Cmd) (s d : ℕ) (gs : List BufferCopy) : Type 0 where
  pub owner : (w : World) (r : ℕ) → (after_command past (family_of p.queue) c w).owner r ≡ (used past (family_of p.queue) d (used past (family_of p.queue) s w)).owner r
  pub dirty : (w : World) (byte : Byte) → (after_command past (family_of p.queue) c w).dirty byte ≡ (used past (family_of p.queue) d (used past (family_of p.queue) s w)).dirty byte
  pub value : (w : World) (byte : Byte) → (after_command past (family_of p.queue) c w).value byte ≡ after_writes (byte_writes past c) (used past (family_of p.queue) d (used past (family_of p.queue) s w)).value byte
  pub writes : byte_writes past c ≡ flat_map (numbered_writes (byte_at past s) (byte_at past d)) gs
  pub writes_now : byte_writes (p ∷ past) c ≡ byte_writes past c
  pub unmoved : (byte : Byte) → has_transition byte past p (Run c) ≡ false
  pub source_there : is_some (resource past s) ≡ true
  pub destination_there : is_some (resource past d) ≡ true
  pub reads_fit : (g : BufferCopy) → Contains gs g → g.source_offset + g.size ≤ size_at past s
  pub writes_fit : (g : BufferCopy) → Contains gs g → g.destination_offset + g.size ≤ size_at past d

module _ (past : Past) (p : Point) (clean : fault (p ∷ past) ≡ None) (c : Cmd) (s d : ℕ) (gs : List BufferCopy) (is : p.action ≡ Run c) (copies : CopiesNumbers past p c s d gs) where
  abbrev family : ℕ
  family = family_of p.queue

  -- the world when the source was used, and then the destination
  abbrev lent : World
  lent = used past family s (world past)

  abbrev ready : World
  ready = used past family d lent

  abbrev first_with : ℕ → Option BufferCopy
  first_with k = find (λ g. within g.destination_offset g.size k) gs

  -- byte k of the source, and of the destination
  abbrev from : ℕ → Byte
  from k = byte_at past s k

  abbrev to : ℕ → Byte
  to k = byte_at past d k

  sources : IsNumbered from (size_at past s) s
  sources = numbered_at past s

  destinations : IsNumbered to (size_at past d) d
  destinations = numbered_at past d

  kept : (b : ℕ) → resource (p ∷ past) b ≡ resource past b
  kept b = rw is refl

  owned : (b : ℕ) → (world (p ∷ past)).owner b ≡ ready.owner b
  owned b = ap (λ (e : Action). (after_action past p.queue e (world past)).owner b) is ∙ copies.owner (world past) b

  soiled : (b : Byte) → (world (p ∷ past)).dirty b ≡ (world past).dirty b
  soiled b = ap (λ (e : Action). (after_action past p.queue e (world past)).dirty b) is ∙ copies.dirty (world past) b ∙ used_dirty past family d lent b ∙ used_dirty past family s (world past) b

  given : (b : Byte) → has_value (world (p ∷ past)) b ≡ not (is_none (after_writes (flat_map (numbered_writes from to) gs) ready.value b))
  given b =
      ap (λ (e : Action). not (is_none ((after_action past p.queue e (world past)).value b))) is ∙ ap (λ (v : Option ℕ). not (is_none v)) (copies.value (world past) b)
      ∙ ap (λ ms. not (is_none (after_writes ms ready.value b))) copies.writes

  valued : (k : ℕ) → k < size_at past d → has_value (world (p ∷ past)) (to k) ≡ elim (first_with k) [ None ↦ has_value ready (to k) | Some g ↦ has_value ready (from (g.source_offset + (k - g.destination_offset))) ]
  valued k lt = given (to k) ∙ ap not (copy_leaves from to (size_at past d) destinations.apart ready.value gs copies.writes_fit k lt) ∙ go (first_with k) where
    go : (o : Option BufferCopy) → not (elim o [ None ↦ is_none (ready.value (to k)) | Some g ↦ is_none (ready.value (from (g.source_offset + (k - g.destination_offset)))) ]) ≡ elim o [ None ↦ has_value ready (to k) | Some g ↦ has_value ready (from (g.source_offset + (k - g.destination_offset))) ]
    go None = refl
    go (Some g) = refl

  valued_other : (b : Byte) → (resource_at b == d) ≡ false → has_value (world (p ∷ past)) b ≡ has_value ready b
  valued_other b ne = given b ∙ ap (λ (v : Option ℕ). not (is_none v)) (unwritten ready.value b (flat_map (numbered_writes from to) gs) (copies-targets-other from to gs (size_at past d) d destinations b ne))

  remembers : (b : Byte) (w r : Bool) → is_in b (targets (flat_map (numbered_writes from to) gs)) ≡ w → is_in b (origins (flat_map (numbered_writes from to) gs)) ≡ r
      → touched (p ∷ past) b ≡ (let t : LastTouches = if r then with_touch (touched past b) (touch.Read p.queue) (next_spot past p) else touched past b in if w then with_touch t touch.Write (next_spot past p) else t)
  remembers b w r we re =
      touched_by_command past p b c is (copies.unmoved b) w r (ap (λ ms. is_in b (targets ms)) (copies.writes_now ∙ copies.writes) ∙ we) (ap (λ ms. is_in b (origins ms)) (copies.writes_now ∙ copies.writes) ∙ re)
      ∙ merged_command w r p.queue (touched past b) (next_spot past p)

  writes_to : (k : ℕ) → k < size_at past d → is_in (to k) (targets (flat_map (numbered_writes from to) gs)) ≡ writes_at gs k
  writes_to = copies-targets from to gs (size_at past d) d destinations copies.writes_fit

  reads_from : (k : ℕ) → k < size_at past s → is_in (from k) (origins (flat_map (numbered_writes from to) gs)) ≡ reads_at gs k
  reads_from = copies-origins from to gs (size_at past s) s sources copies.reads_fit

  no_write : (b : Byte) (r : ℕ) → resource_at b ≡ r → (r == d) ≡ false → is_in b (targets (flat_map (numbered_writes from to) gs)) ≡ false
  no_write b r own ne = copies-targets-other from to gs (size_at past d) d destinations b (rw own ne)

  no_read : (b : Byte) (r : ℕ) → resource_at b ≡ r → (r == s) ≡ false → is_in b (origins (flat_map (numbered_writes from to) gs)) ≡ false
  no_read b r own ne = copies-origins-other from to gs (size_at past s) s sources b (rw own ne)

  -- what was found in the source
  module _ (v : ResourceContents) (of : IsOf past v lent s) (size : length v.defined ≡ size_at past s) (ss : List Stretch) (copied : AreCopied ss v.defined gs) where
    reads_within : ReadWithin gs (length v.defined)
    reads_within g c = rw size (copies.reads_fit g c)

    found_at : (k : ℕ) → stretch_at ss k ≡ option_map (λ g. has_value lent (from (g.source_offset + (k - g.destination_offset)))) (first_with k)
    found_at k = copied reads_within k ∙ go (first_with k) refl where
      go : (o : Option BufferCopy) → first_with k ≡ o → option_and_then (λ g. slice_get v.defined (g.source_offset + (k - g.destination_offset))) o ≡ option_map (λ g. has_value lent (from (g.source_offset + (k - g.destination_offset)))) o
      go None e = refl
      go (Some g) e =
          let member = found (λ g. within g.destination_offset g.size k) gs g e in
          let parts = and_parts (nat_le g.destination_offset k) (nat_lt k (g.destination_offset + g.size)) member.1 in
          let low = leb-true g.destination_offset k parts.0 in
          let high = ltb-true k (g.destination_offset + g.size) parts.1 in
          let fits = copies.reads_fit g member.0 in
          of.defined (g.source_offset + (k - g.destination_offset)) (omega (arith, low, high, fits))

    -- so the destination is defined as the copy leaves it
    pasted_is : (m : ResourceContents) → IsOf past m lent d → (k : ℕ) → k < size_at past d → unwrap_or (stretch_at ss k) (left_of m family k (has_value lent (to k))) ≡ has_value (world (p ∷ past)) (to k)
    pasted_is m om k lt =
        ap (unwrap_or (stretch_at ss k)) (left_is past family lent d m om k (to k) (destinations.own k)) ∙ ap (λ (o : Option Bool). unwrap_or o (has_value ready (to k))) (found_at k)
        ∙ go (first_with k) ∙ sym (valued k lt)
      where
        go : (o : Option BufferCopy) → unwrap_or (option_map (λ g. has_value lent (from (g.source_offset + (k - g.destination_offset)))) o) (has_value ready (to k)) ≡ elim o [ None ↦ has_value ready (to k) | Some g ↦ has_value ready (from (g.source_offset + (k - g.destination_offset))) ]
        go None = refl
        go (Some g) = sym (used_again past family s d (world past) (from (g.source_offset + (k - g.destination_offset))) (sources.own (g.source_offset + (k - g.destination_offset))))

  -- ---- another resource than the two

  apart : (b : ℕ) → (b == s) ≡ false → (b == d) ≡ false → IsUntouched past p clean b
  apart b es ed =
      let one = used_apart past family (world past) s b es in
      let two = used_apart past family lent d b ed in
      record {
        unmade = λ none. ap is_some (kept b) ∙ none;
        owner = owned b ∙ two.0 ∙ one.0;
        defined = λ c own. valued_other c (rw own ed) ∙ two.1 c own ∙ one.1 c own;
        dirty = λ c own. soiled c;
        touches = λ c own. remembers c false false (no_write c b own ed) (no_read c b own es);
      }

  -- ---- the source alone

  source_next : (s == d) ≡ false → (u v : ResourceContents) → AreContentsOf u past s → IsLent u v gs p.queue (next_spot past p) → AreContentsOf v (p ∷ past) s
  source_next ne u v a h =
      let two = used_apart past family lent d s ne in
      next_of past p clean s u v (owner_after u family) (left_of u family) as_before (touching (reads_at gs) (touch.Read p.queue) (next_spot past p)) a h
      (taken_owner past family (world past) s u (of_contents past s u a) ∙ sym (ap holder_of (owned s ∙ two.0)))
      (λ k lt. left_is past family (world past) s u (of_contents past s u a) k (from k) (sources.own k) ∙ sym (valued_other (from k) (rw (sources.own k) ne) ∙ two.1 (from k) (sources.own k)))
      (λ k lt. sym (soiled (from k)))
      (λ k lt. sym (remembers (from k) false (reads_at gs k) (no_write (from k) s (sources.own k) ne) (reads_from k lt)))

  -- ---- the destination alone

  destination_next : (d == s) ≡ false → (v : ResourceContents) → IsOf past v lent s → length v.defined ≡ size_at past s → (ss : List Stretch) → AreCopied ss v.defined gs
      → (u x : ResourceContents) → AreContentsOf u past d → IsPasted u x gs ss family (next_spot past p) → AreContentsOf x (p ∷ past) d
  destination_next ne v of size ss copied u x a h =
      let one = used_apart past family (world past) s d ne in
      let before = of_contents past d u a in
      let mid : IsOf past u lent d = record { mode = a.mode; owner = a.owner ∙ sym (ap holder_of one.0); defined = λ k lt. a.defined k lt ∙ ap Some (sym (one.1 (to k) (destinations.own k))) } in
      next_of past p clean d u x (owner_after u family) (λ k e. unwrap_or (stretch_at ss k) (left_of u family k e)) as_before (touching (writes_at gs) touch.Write (next_spot past p)) a h
      (taken_owner past family lent d u mid ∙ sym (ap holder_of (owned d)))
      (λ k lt. ap (λ (e : Bool). unwrap_or (stretch_at ss k) (left_of u family k e)) (sym (one.1 (to k) (destinations.own k))) ∙ pasted_is v of size ss copied u mid k lt)
      (λ k lt. sym (soiled (to k)))
      (λ k lt. sym (remembers (to k) (writes_at gs k) false (writes_to k lt) (no_read (to k) d (destinations.own k) ne)))

  -- ---- between two resources

  pub between : (s == d) ≡ false → (d == s) ≡ false → (ss : List Stretch) (old mid new : Contents) → BecomesIn (IsLentWith gs ss p.queue (next_spot past p)) (value_of old.resources s) (value_of mid.resources s)
      → ((other : ℕ) → other ≢ s → value_of mid.resources other ≡ value_of old.resources other)
      → BecomesIn (λ u v. IsPasted u v gs ss family (next_spot past p)) (value_of mid.resources d) (value_of new.resources d)
      → ((other : ℕ) → other ≢ d → value_of new.resources other ≡ value_of mid.resources other) → AreContents old past → AreContents new (p ∷ past)
  between sd ds ss old mid new lends kept pastes left are b = by (b == d) refl (b == s) refl where
    source : (u v : Option ResourceContents) → BecomesIn (IsLentWith gs ss p.queue (next_spot past p)) u v → AreContentsIn u past s → (x : ResourceContents) × (y : ResourceContents) × (v ≡ Some y) × AreContentsOf x past s × IsLentWith gs ss p.queue (next_spot past p) x y
    source None v h fresh = clash copies.source_there fresh.unmade
    source (Some u) None h a = absurd h
    source (Some u) (Some v) h a = (u, v, refl, a, h)

    here : (x : ResourceContents) × (y : ResourceContents) × (value_of mid.resources s ≡ Some y) × AreContentsOf x past s × IsLentWith gs ss p.queue (next_spot past p) x y
    here = source (value_of old.resources s) (value_of mid.resources s) lends (are s)

    lent_of : IsOf past here.1 lent s
    lent_of = taken_of past family s (world past) here.0 here.1 (touching (reads_at gs) (touch.Read p.queue) (next_spot past p)) (of_contents past s here.0 here.3) here.4.0

    destination : (u x : Option ResourceContents) → BecomesIn (λ u v. IsPasted u v gs ss family (next_spot past p)) u x → AreContentsIn u past d → AreContentsIn x (p ∷ past) d
    destination None x h fresh = clash copies.destination_there fresh.unmade
    destination (Some u) None h a = absurd h
    destination (Some u) (Some x) h a = destination_next ds here.1 lent_of (here.4.0.defined_size ∙ here.3.defined_size) ss here.4.1 u x a h

    same_mid : value_of mid.resources d ≡ value_of old.resources d
    same_mid = kept d (eqb-false d s ds)

    by : (t : Bool) → (b == d) ≡ t → (r : Bool) → (b == s) ≡ r → AreContentsIn (value_of new.resources b) (p ∷ past) b
    by true e r g = subst (λ (x : ℕ). AreContentsIn (value_of new.resources x) (p ∷ past) x) (sym (eqb-true b d e)) (destination (value_of mid.resources d) (value_of new.resources d) pastes (subst (λ (o : Option ResourceContents). AreContentsIn o past d) (sym same_mid) (are d)))
    by false e true g = subst (λ (x : ℕ). AreContentsIn (value_of new.resources x) (p ∷ past) x) (sym (eqb-true b s g)) (subst (λ (o : Option ResourceContents). AreContentsIn o (p ∷ past) s) (sym (left s (eqb-false s d sd) ∙ here.2)) (source_next sd here.0 here.1 here.3 here.4.0))
    by false e false g = subst (λ (o : Option ResourceContents). AreContentsIn o (p ∷ past) b) (sym (left b (eqb-false b d e) ∙ kept b (eqb-false b s g))) (untouched past p clean (value_of old.resources b) b (apart b g e) (are b))

-- ---- within one resource

module _ (past : Past) (p : Point) (clean : fault (p ∷ past) ≡ None) (c : Cmd) (s : ℕ) (gs : List BufferCopy) (is : p.action ≡ Run c) (copies : CopiesNumbers past p c s s gs) (ss : List Stretch) where
  both_next : (u v x : ResourceContents) → AreContentsOf u past s → IsLentWith gs ss p.queue (next_spot past p) u v → IsPasted v x gs ss (family_of p.queue) (next_spot past p) → AreContentsOf x (p ∷ past) s
  both_next u v x a lends pastes =
      let f : ℕ = family_of p.queue in
      let reads : ℕ → LastTouches → LastTouches = touching (reads_at gs) (touch.Read p.queue) (next_spot past p) in
      let writes : ℕ → LastTouches → LastTouches = touching (writes_at gs) touch.Write (next_spot past p) in
      let pasted : ℕ → Bool → Bool = λ k e. unwrap_or (stretch_at ss k) (left_of v f k e) in
      let of = taken_of past f s (world past) u v reads (of_contents past s u a) lends.0 in
      next_of past p clean s u x (owner_after v f) (λ k e. pasted k (left_of u f k e)) as_before (λ k t. writes k (reads k t)) a (afterwards u v x (owner_after u f) (owner_after v f) (left_of u f) pasted reads writes lends.0 pastes)
      (taken_owner past f (used past f s (world past)) s v of ∙ sym (ap holder_of (owned past p clean c s s gs is copies s)))
      (λ k lt. ap (pasted k) (left_is past f (world past) s u (of_contents past s u a) k (byte_at past s k) ((numbered_at past s).own k)) ∙ pasted_is past p clean c s s gs is copies v of (lends.0.defined_size ∙ a.defined_size) ss lends.1 v of k lt)
      (λ k lt. sym (soiled past p clean c s s gs is copies (byte_at past s k)))
      (λ k lt. sym (remembers past p clean c s s gs is copies (byte_at past s k) (writes_at gs k) (reads_at gs k) (writes_to past p clean c s s gs is copies k lt) (reads_from past p clean c s s gs is copies k lt)))

  pub within_one : (old mid new : Contents) → BecomesIn (IsLentWith gs ss p.queue (next_spot past p)) (value_of old.resources s) (value_of mid.resources s)
      → ((other : ℕ) → other ≢ s → value_of mid.resources other ≡ value_of old.resources other)
      → BecomesIn (λ u v. IsPasted u v gs ss (family_of p.queue) (next_spot past p)) (value_of mid.resources s) (value_of new.resources s)
      → ((other : ℕ) → other ≢ s → value_of new.resources other ≡ value_of mid.resources other) → AreContents old past → AreContents new (p ∷ past)
  within_one old mid new lends kept pastes left are b = by (b == s) refl where
    known : (u v x : Option ResourceContents) → AreContentsIn u past s → BecomesIn (IsLentWith gs ss p.queue (next_spot past p)) u v → BecomesIn (λ u v. IsPasted u v gs ss (family_of p.queue) (next_spot past p)) v x → AreContentsIn x (p ∷ past) s
    known None v x fresh h g = clash copies.source_there fresh.unmade
    known (Some u) None x a h g = absurd h
    known (Some u) (Some v) None a h g = absurd g
    known (Some u) (Some v) (Some x) a h g = both_next u v x a h g

    by : (t : Bool) → (b == s) ≡ t → AreContentsIn (value_of new.resources b) (p ∷ past) b
    by true e = subst (λ (x : ℕ). AreContentsIn (value_of new.resources x) (p ∷ past) x) (sym (eqb-true b s e)) (known (value_of old.resources s) (value_of mid.resources s) (value_of new.resources s) (are s) lends pastes)
    by false e = subst (λ (o : Option ResourceContents). AreContentsIn o (p ∷ past) b) (sym (left b (eqb-false b s e) ∙ kept b (eqb-false b s e))) (untouched past p clean (value_of old.resources b) b (apart past p clean c s s gs is copies b e e) (are b))

-- ---- a copy

pub copies_step : (past : Past) (p : Point) (clean : fault (p ∷ past) ≡ None) (c : Cmd) (s d : ℕ) (gs : List BufferCopy) → p.action ≡ Run c → CopiesNumbers past p c s d gs → (ss : List Stretch) (old mid new : Contents)
    → BecomesIn (IsLentWith gs ss p.queue (next_spot past p)) (value_of old.resources s) (value_of mid.resources s)
    → ((other : ℕ) → other ≢ s → value_of mid.resources other ≡ value_of old.resources other)
    → BecomesIn (λ u v. IsPasted u v gs ss (family_of p.queue) (next_spot past p)) (value_of mid.resources d) (value_of new.resources d)
    → ((other : ℕ) → other ≢ d → value_of new.resources other ≡ value_of mid.resources other) → AreContents old past → AreContents new (p ∷ past)
copies_step past p clean c s d gs is copies ss old mid new lends kept pastes left are = by (s == d) refl where
  by : (t : Bool) → (s == d) ≡ t → AreContents new (p ∷ past)
  by true e =
      let same : d ≡ s = sym (eqb-true s d e) in
      within_one past p clean c s gs is (subst (λ (x : ℕ). CopiesNumbers past p c s x gs) same copies) ss old mid new lends kept
      (subst (λ (x : ℕ). BecomesIn (λ u v. IsPasted u v gs ss (family_of p.queue) (next_spot past p)) (value_of mid.resources x) (value_of new.resources x)) same pastes)
      (subst (λ (x : ℕ). (other : ℕ) → other ≢ x → value_of new.resources other ≡ value_of mid.resources other) same left) are
  by false e = between past p clean c s d gs is copies e (turned_about d s ∙ e) ss old mid new lends kept pastes left are

-- the same of what a command of its queue copies
pub copied_step : (past : Past) (p : Point) (clean : fault (p ∷ past) ≡ None) (c : Cmd) (s d : ℕ) (gs : List BufferCopy) → p.action ≡ Run c → CopiesNumbers past p c s d gs → (t : Spot) → t ≡ next_spot past p → (old new : Contents)
    → AreCopiedNumbers old new s d gs p.queue t → AreContents old past → AreContents new (p ∷ past)
copied_step past p clean c s d gs is copies t spot_is old new copied are =
    let now : AreCopiedNumbers old new s d gs p.queue (next_spot past p) = subst (λ (t : Spot). AreCopiedNumbers old new s d gs p.queue t) spot_is copied in
    copies_step past p clean c s d gs is copies now.stretches old now.lent new now.source now.source_alone now.destination now.destination_alone are

-- a copy between buffers copies their numbers
pub buffers_copied : (past : Past) (p : Point) (fit : IsWithin past p) (s d : ℕ) (gs : List BufferCopy) → p.action ≡ Run (cmd.Copy s d gs) → CopiesNumbers past p (cmd.Copy s d gs) s d gs
buffers_copied past p fit s d gs is =
    let source = command_there past p fit.faultless fit.live fit.range (cmd.Copy s d gs) is s (source_named s d) in
    let destination = command_there past p fit.faultless fit.live fit.range (cmd.Copy s d gs) is d (destination_named s d) in
    record {
      owner = λ w r. refl;
      dirty = λ w byte. refl;
      value = λ w byte. refl;
      writes = flat_same (copy_writes s d) (numbered_writes (byte_at past s) (byte_at past d)) gs (λ g. map_below (λ k. byte_write (in_buffer d (g.destination_offset + k)) (From (in_buffer s (g.source_offset + k)))) (λ k. byte_write (byte_at past d (g.destination_offset + k)) (From (byte_at past s (g.source_offset + k)))) g.size
          (λ k lt. rw (byte_of_buffer past d destination (g.destination_offset + k), byte_of_buffer past s source (g.source_offset + k)) refl));
      writes_now = refl;
      unmoved = λ byte. refl;
      source_there = buffer_is_resource past s source;
      destination_there = buffer_is_resource past d destination;
      reads_fit = λ g c. rw (size_of_buffer past s source) (copy_reads_fit past p fit.faultless fit.live fit.range s d gs is g c);
      writes_fit = λ g c. rw (size_of_buffer past d destination) (copy_writes_fit past p fit.faultless fit.live fit.range s d gs is g c);
    }
