-- What is kept of the bytes of buffers after a flush and after an invalidation.
use Rattle.std.proofs.Common.{◌≡◌, ◌≢◌, ◌<◌, ℕ, List, [], ◌∷◌, Bool, true, false, not, ◌&&◌, ◌==◌, refl, ap, sym, ◌∙◌, subst, arith, Option, Some, None}
use Rattle.std.specs.Prelude.{is_some, is_none, if◌then◌else◌}
use Rattle.std.specs.Option.{option_map}
use Rattle.vk_ids.specs.Ids.{value_of}
use Rattle.std.proofs.lemmas.Bool.{eq-eqb}
use Rattle.vk_model.specs.declared.command.Length.{Length}
use Rattle.vk_model.specs.declared.entry.Entry.TheVariants as entry
use Rattle.vk_model.specs.Basics.{holds}
use Rattle.vk_model.specs.World.Bytes.{Byte, in_buffer, in_image, resource_at}
use Rattle.vk_model.specs.World.Effect.{world, after_action, flushed, invalidated, in_atoms, reaches}
use Rattle.vk_model.specs.Trace.Objects.{buffer, resource, is_cached}
use Rattle.vk_model.specs.Trace.Point.{Past, Point, Action, Host}
use Rattle.vk_model.specs.Sync.Node.{Node, Act, nodes, acts, with_acts}
use Rattle.vk_model.specs.Sync.Edge.{is_element, is_host}
use Rattle.vk_model.specs.Sync.Seen as seen
use Rattle.vk_model.proofs.Lists.Members.{contains-head}
use Rattle.vk_order.specs.Cached.{uncached}
use Rattle.vk_order.specs.Frontiers.{IsFrontier, IsNewNode}
use Rattle.vk_order.specs.Lines.{class_of, class_on, line_on, place}
use Rattle.vk_order.specs.SeenWrites as order
use Rattle.vk_order.specs.Wide.{is_answered}
use Rattle.vk_order.specs.declared.access.Access.{Access}
use Rattle.vk_order.specs.declared.access.Access.TheVariants as access
use Rattle.vk_touches.specs.declared.accesses.ResourceAccess.{ResourceAccess}
use Rattle.vk_touches.specs.declared.bytes.Bytes.{Bytes}
use Rattle.vk_touches.specs.declared.bytes.Bytes.TheVariants as bytes
use Rattle.vk_touches.specs.Bytes.{numbered_byte}
use Rattle.vk_history.specs.declared.resource_contents.ResourceContents.{ResourceContents}
use Rattle.vk_history.specs.declared.contents.Contents.{Contents}
use Rattle.vk_touches.specs.declared.touches.Touch.TheVariants as touch
use Rattle.vk_model.specs.Rules.Table.{fault}
use Rattle.vk_touches.specs.Conflicts.{SaysSeen, SeesWrite}
use Rattle.vk_touches.specs.Touched.{touched, next_spot, next_node, act_next, last_touch, spot_of}
use Rattle.vk_history.specs.Contents.{AreContents, AreContentsOf, BecomesIn, IsFlushed, IsInvalidated, holder_of, has_value, byte_at, size_at, is_on, as_before, assigns}
use Rattle.vk_touches.specs.TouchedRanges.{sees_at, flushing, invalidating}
use Rattle.vk_history.proofs.Making.Worlds.{turned_about}
use Rattle.vk_touches.proofs.Touching.Flushing.{writer_is}
use Rattle.vk_touches.proofs.Touching.Remembering.{touched_by_flush, touched_by_invalidation}
use Rattle.vk_history.proofs.Kept.NextPoint.{there_on_host}
use Rattle.vk_history.proofs.Kept.ContentSteps.{one_changed, next_of}
use Rattle.vk_history.proofs.Making.Numbers.{byte_of_buffer, buffer_is_resource}
use Rattle.std.proofs.Math.Bool.{and-false}

-- ---- which bytes are reached

module _ (b o : ℕ) (n : Length) where
  in_own : (past : Past) → is_some (buffer past b) ≡ true → (k : ℕ) → reaches b o n (byte_at past b k) ≡ in_atoms o n k
  in_own past there k = ap (reaches b o n) (byte_of_buffer past b there k) ∙ rw (eq-eqb b b refl) refl

  in_other : (r : ℕ) (c : Byte) → (r == b) ≡ false → resource_at c ≡ r → reaches b o n c ≡ false
  in_other r (in_buffer c k) e own = rw (turned_about b c, own, e) refl
  in_other r (in_image i l a x y p) e own = refl

-- ---- a flush

module _ (past : Past) (p : Point) (clean : fault (p ∷ past) ≡ None) (b o : ℕ) (n : Length) (is : p.action ≡ Host (entry.Flush b o n)) where
  flush_made : (c : ℕ) → resource (p ∷ past) c ≡ resource past c
  flush_made c = rw is refl

  flush_owned : (c : ℕ) → (world (p ∷ past)).owner c ≡ (world past).owner c
  flush_owned c = ap (λ (e : Action). (after_action past p.queue e (world past)).owner c) is ∙ go (is_cached past b) where
    go : (t : Bool) → (if t then flushed (reaches b o n) (world past) else world past).owner c ≡ (world past).owner c
    go true = refl
    go false = refl

  flush_valued : (c : Byte) → has_value (world (p ∷ past)) c ≡ has_value (world past) c
  flush_valued c = ap (λ (e : Action). not (is_none ((after_action past p.queue e (world past)).value c))) is ∙ go (is_cached past b) where
    go : (t : Bool) → not (is_none ((if t then flushed (reaches b o n) (world past) else world past).value c)) ≡ has_value (world past) c
    go true = refl
    go false = refl

  flush_dirty : (c : Byte) (t : Bool) → reaches b o n c ≡ t → (world (p ∷ past)).dirty c ≡ (if is_cached past b && t then false else (world past).dirty c)
  flush_dirty c t e = ap (λ (e : Action). (after_action past p.queue e (world past)).dirty c) is ∙ go (is_cached past b) where
    go : (u : Bool) → (if u then flushed (reaches b o n) (world past) else world past).dirty c ≡ (if u && t then false else (world past).dirty c)
    go true = ap (λ (t : Bool). if t then false else (world past).dirty c) e
    go false = refl

  flush_there : is_some (buffer past b) ≡ true
  flush_there = there_on_host past p clean (entry.Flush b o n) is b (contains-head _ [])

  pub flush_change : (old new : Contents) → BecomesIn (λ u v. IsFlushed u v o n (next_spot past p)) (value_of old.resources b) (value_of new.resources b)
      → ((other : ℕ) → other ≢ b → value_of new.resources other ≡ value_of old.resources other) → AreContents old past → AreContents new (p ∷ past)
  flush_change old new here others = one_changed past p clean b (buffer_is_resource past b flush_there) (λ u v. IsFlushed u v o n (next_spot past p)) old new here others
      (λ u v a h. next_of past p clean b u v u.owner as_before (assigns (λ k. u.is_cached && in_atoms o n k) false) (flushing (in_atoms o n) (next_spot past p)) a h (a.owner ∙ sym (ap holder_of (flush_owned b))) (λ k lt. sym (flush_valued (byte_at past b k)))
      (λ k lt. ap (λ (t : Bool). if t && in_atoms o n k then false else (world past).dirty (byte_at past b k)) a.cache ∙ sym (flush_dirty (byte_at past b k) (in_atoms o n k) (in_own b o n past flush_there k)))
      (λ k lt. sym (touched_by_flush past p (byte_at past b k) b o n is (in_atoms o n k) (in_own b o n past flush_there k))))
      (λ r e. record {
        unmade = λ none. ap is_some (flush_made r) ∙ none;
        owner = flush_owned r;
        defined = λ c own. flush_valued c;
        dirty = λ c own. flush_dirty c false (in_other b o n r c e own) ∙ ap (λ (t : Bool). if t then false else (world past).dirty c) (and-false (is_cached past b));
        touches = λ c own. touched_by_flush past p c b o n is false (in_other b o n r c e own);
      })

-- ---- an invalidation

module _ (past : Past) (p : Point) (clean : fault (p ∷ past) ≡ None) (b o : ℕ) (n : Length) (is : p.action ≡ Host (entry.Invalidate b o n)) where
  invalidation_made : (c : ℕ) → resource (p ∷ past) c ≡ resource past c
  invalidation_made c = rw is refl

  invalidation_owned : (c : ℕ) → (world (p ∷ past)).owner c ≡ (world past).owner c
  invalidation_owned c = ap (λ (e : Action). (after_action past p.queue e (world past)).owner c) is ∙ go (is_cached past b) where
    go : (t : Bool) → (if t then invalidated (reaches b o n) (world past) else world past).owner c ≡ (world past).owner c
    go true = refl
    go false = refl

  invalidation_valued : (c : Byte) (t : Bool) → reaches b o n c ≡ t → has_value (world (p ∷ past)) c ≡ (if is_cached past b && t && (world past).dirty c then false else has_value (world past) c)
  invalidation_valued c t e = ap (λ (e : Action). not (is_none ((after_action past p.queue e (world past)).value c))) is ∙ go (is_cached past b) where
    lost : (u : Bool) → not (is_none (let v : Option ℕ = if u then None else (world past).value c in v)) ≡ (if u then false else has_value (world past) c)
    lost true = refl
    lost false = refl

    go : (u : Bool) → not (is_none ((if u then invalidated (reaches b o n) (world past) else world past).value c)) ≡ (if u && t && (world past).dirty c then false else has_value (world past) c)
    go true = lost (reaches b o n c && (world past).dirty c) ∙ ap (λ (t : Bool). if t && (world past).dirty c then false else has_value (world past) c) e
    go false = refl

  invalidation_dirty : (c : Byte) (t : Bool) → reaches b o n c ≡ t → (world (p ∷ past)).dirty c ≡ (if is_cached past b && t then false else (world past).dirty c)
  invalidation_dirty c t e = ap (λ (e : Action). (after_action past p.queue e (world past)).dirty c) is ∙ go (is_cached past b) where
    go : (u : Bool) → (if u then invalidated (reaches b o n) (world past) else world past).dirty c ≡ (if u && t then false else (world past).dirty c)
    go true = ap (λ (t : Bool). if t then false else (world past).dirty c) e
    go false = refl

  none_lost : (t d : Bool) → (t && false && d) ≡ false
  none_lost true d = refl
  none_lost false d = refl

  module _ (x : ResourceAccess) (of : x.bytes ≡ bytes.Buffer b) (reads : x.access ≡ access.Read) (frontier : IsFrontier x.frontier.now (nodes past)) (new_node : IsNewNode (nodes past) (next_node past p (act_next p.action)) x.new_node.now) where
    -- what is answered of a byte is whether the invalidation sees its last write
    answer_is : (k : ℕ) (answer : Bool) → SeesWrite x k answer (touched past (in_buffer b k)) → holds (last_touch touch.Write past (in_buffer b k)) (λ v. seen.seen uncached (nodes (p ∷ past)) v (next_node past p (act_next p.action)) seen.Read (in_buffer b k)) ≡ answer
    answer_is k answer h = go (last_touch touch.Write past byte) refl where
      byte : Byte
      byte = in_buffer b k

      y : Node
      y = next_node past p (act_next p.action)

      now_too : nodes (p ∷ past) ≡ y ∷ nodes past
      now_too = ap (λ (l : List Act). with_acts p l (nodes past)) (ap acts is ∙ ap (λ (d : Action). act_next d ∷ []) (sym is))

      asked : is_answered uncached y.act seen.Read byte ≡ true
      asked = ap (λ (d : Action). is_answered uncached (act_next d) seen.Read byte) is

      seen_is : (v : Node) → last_touch touch.Write past byte ≡ Some v → answer ≡ seen.seen uncached (y ∷ nodes past) v y seen.Read byte
      seen_is v e =
          let w = writer_is past byte v e in
          let says : SaysSeen x k answer (spot_of past v) = h.some (spot_of past v) (ap (option_map (spot_of past)) e) in
          let here : order.SaysSeen x.frontier.now x.new_node.now (record { line = class_of v; place = place (nodes past) (class_of v) v.number }) v.number access.Read byte answer =
          subst (λ (a : Access). order.SaysSeen x.frontier.now x.new_node.now (record { line = class_of v; place = place (nodes past) (class_of v) v.number }) v.number a byte answer) reads
          (subst (λ (c : Bytes). order.SaysSeen x.frontier.now x.new_node.now (record { line = class_of v; place = place (nodes past) (class_of v) v.number }) v.number x.access (numbered_byte c k) answer) of says) in
          here (nodes past) y v uncached frontier new_node
          (record { there = w.there; uncached = rw (ap is_host w.runs) refl; limited = rw (ap is_element w.runs) refl })
          (ap (line_on v.point.queue) w.runs ∙ ap Some (sym (ap (class_on v.point.queue) w.runs))) refl (omega arith) asked

      go : (o : Option Node) → last_touch touch.Write past byte ≡ o → holds o (λ v. seen.seen uncached (nodes (p ∷ past)) v y seen.Read byte) ≡ answer
      go None e = sym (h.none (ap (option_map (spot_of past)) e))
      go (Some v) e = ap (λ ns. seen.seen uncached ns v y seen.Read byte) now_too ∙ sym (seen_is v e)

    dirty_is : (u : ResourceContents) → AreContentsOf u past b → (k : ℕ) → k < size_at past b → is_on u.dirty k ≡ (world past).dirty (byte_at past b k)
    dirty_is u a k lt = ap (λ (o : Option Bool). holds o (λ d. d)) (a.dirty k lt)

    there : is_some (buffer past b) ≡ true
    there = there_on_host past p clean (entry.Invalidate b o n) is b (contains-head _ [])

    -- the answer of a byte, by its number
    answered : (k : ℕ) (answer : Bool) → SeesWrite x k answer (touched past (byte_at past b k)) → holds (last_touch touch.Write past (byte_at past b k)) (λ v. seen.seen uncached (nodes (p ∷ past)) v (next_node past p (act_next p.action)) seen.Read (byte_at past b k)) ≡ answer
    answered k answer h =
        subst (λ (c : Byte). holds (last_touch touch.Write past c) (λ v. seen.seen uncached (nodes (p ∷ past)) v (next_node past p (act_next p.action)) seen.Read c) ≡ answer) (sym (byte_of_buffer past b there k))
        (answer_is k answer (subst (λ (c : Byte). SeesWrite x k answer (touched past c)) (byte_of_buffer past b there k) h))

    pub invalidation_change : (old new : Contents) → BecomesIn (λ u v. IsInvalidated (SeesWrite x) u v o n) (value_of old.resources b) (value_of new.resources b)
        → ((other : ℕ) → other ≢ b → value_of new.resources other ≡ value_of old.resources other) → AreContents old past → AreContents new (p ∷ past)
    invalidation_change old new here others = one_changed past p clean b (buffer_is_resource past b there) (λ u v. IsInvalidated (SeesWrite x) u v o n) old new
        here others
        (λ u v a h. next_of past p clean b u v u.owner (assigns (λ k. u.is_cached && in_atoms o n k && is_on u.dirty k) false) (assigns (λ k. u.is_cached && in_atoms o n k) false) (invalidating (in_atoms o n) (sees_at v.touches)) a h.changed (a.owner ∙ sym (ap holder_of (invalidation_owned b)))
        (λ k lt. ap (λ (d : Bool). if u.is_cached && in_atoms o n k && d then false else has_value (world past) (byte_at past b k)) (dirty_is u a k lt)
        ∙ ap (λ (t : Bool). if t && in_atoms o n k && (world past).dirty (byte_at past b k) then false else has_value (world past) (byte_at past b k)) a.cache ∙ sym (invalidation_valued (byte_at past b k) (in_atoms o n k) (in_own b o n past there k)))
        (λ k lt. ap (λ (t : Bool). if t && in_atoms o n k then false else (world past).dirty (byte_at past b k)) a.cache ∙ sym (invalidation_dirty (byte_at past b k) (in_atoms o n k) (in_own b o n past there k)))
        (λ k lt. sym (touched_by_invalidation past p (byte_at past b k) b o n is (in_atoms o n k) (sees_at v.touches k) (in_own b o n past there k) (λ reached. answered k (sees_at v.touches k) (h.answers k (touched past (byte_at past b k)) reached (a.touches k lt))))))
        (λ r e. record {
          unmade = λ none. ap is_some (invalidation_made r) ∙ none;
          owner = invalidation_owned r;
          defined = λ c own. invalidation_valued c false (in_other b o n r c e own) ∙ ap (λ (t : Bool). if t then false else has_value (world past) c) (none_lost (is_cached past b) ((world past).dirty c));
          dirty = λ c own. invalidation_dirty c false (in_other b o n r c e own) ∙ ap (λ (t : Bool). if t then false else (world past).dirty c) (and-false (is_cached past b));
          touches = λ c own. touched_by_invalidation past p c b o n is false false (in_other b o n r c e own) (λ bad. absurd cc);
        })
