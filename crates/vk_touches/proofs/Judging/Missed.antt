-- What an access and a new node say of the last node that touched a byte in each way.
use Rattle.std.proofs.Common.{◌≡◌, ◌≤◌, ℕ, List, [], ◌∷◌, Bool, true, false, not, ◌&&◌, ◌||◌, refl, ap, sym, ◌∙◌, subst, arith, Option, Some, None, ⊎_elim}
use Rattle.std.specs.Prelude.{Contains, IsTrue, is_some}
use Rattle.std.proofs.lemmas.Bool.{false_from_ne_true}
use Rattle.std.specs.Option.{option_map}
use Rattle.std.proofs.Math.Bool.{or-false, and-false}
use Rattle.vk_model.specs.declared.command.Cmd.{Cmd}
use Rattle.vk_model.specs.declared.command.Element.TheVariants as element
use Rattle.vk_model.specs.declared.command.ImageElement.{ImageElement}
use Rattle.vk_model.specs.Basics.{holds}
use Rattle.vk_model.specs.World.Bytes.{Byte, resource_at}
use Rattle.vk_model.specs.World.ByteWrites.{byte_writes}
use Rattle.vk_model.specs.Trace.Point.{Past, Point}
use Rattle.vk_model.specs.Trace.Objects.{is_cached}
use Rattle.vk_model.specs.Rules.Table.{fault}
use Rattle.vk_model.specs.Sync.Node.{Node, Act, Hosts, Waits, Signals, Runs, Depends, Barrier, nodes, acts}
use Rattle.vk_model.specs.Sync.Edge.{is_host, is_element}
use Rattle.vk_model.specs.Sync.Before.{before}
use Rattle.vk_model.specs.Sync.Seen.{Read, seen, flushes, invalidates}
use Rattle.vk_model.specs.Sync.Access.{is_seen}
use Rattle.vk_model.proofs.Lists.Members.{only_one}
use Rattle.vk_model.proofs.Lists.Truths.{clash}
use Rattle.vk_model.proofs.Sync.Growth.{growth}
use Rattle.vk_model.proofs.Sync.Numbers.{numbered, number_below}
use Rattle.vk_laws.proofs.Nodes.Points.{in_acts}
use Rattle.vk_order.specs.Lines.{line_of, line_on, class_of, class_on, place}
use Rattle.vk_order.specs.Wide.{is_wide, is_answered, access_of}
use Rattle.vk_order.specs.Limited.{IsWrite}
use Rattle.vk_order.specs.Frontiers.{IsFrontier, IsNewNode}
use Rattle.vk_order.specs.Cached.{uncached, IsFirstFlush, FlushedSeen, UnflushedSeen, InvalidatedSeen, UninvalidatedSeen}
use Rattle.vk_order.specs.declared.lines.Line.{Line}
use Rattle.vk_order.specs.declared.lines.Line.TheVariants.{Host as OfHost, Commands as OfCommands}
use Rattle.vk_order.specs.declared.new_node.NewNode.{NewNode}
use Rattle.vk_touches.specs.declared.accesses.ResourceAccess.{ResourceAccess}
use Rattle.vk_touches.specs.declared.touches.Spot.{Spot}
use Rattle.vk_touches.specs.declared.touches.Touch.{Touch}
use Rattle.vk_touches.specs.declared.touches.Touch.TheVariants as touch
use Rattle.vk_touches.specs.Bytes.{numbered_byte}
use Rattle.vk_touches.specs.Touched.{next_node, act_next, last_touch, last_place, last_spot, first_flush, last_transition, last_invalidation, is_invalidated, spot_of, touched}
use Rattle.vk_touches.specs.Conflicts.{MissesWrite, MissesFlush, MissesHostWrite, MissesTransition, HasEarlyCommand, HasEarlyTransition, IsRefused, SaysSeen, SaysFollows}
use Rattle.vk_touches.proofs.Touching.LastNodes.{next_there}
use Rattle.vk_touches.proofs.Touching.Flushing.{invalidation_is, invalidation_last}
use Rattle.vk_touches.proofs.Touching.FirstFlushes.{IsFirst, NoneAfter, Says, flush_is}
use Rattle.vk_touches.proofs.Touching.LastHazards.{nodes_with, older_there}
use Rattle.vk_touches.proofs.Touching.LastAccesses.{Touches, last_touch_is}

-- ---- what a new node says of the last one

twice : (t : Bool) → not (not t) ≡ t
twice true = refl
twice false = refl

pub in_turn : (a b c d : Bool) → (a || (b || (c || d))) ≡ (((a || b) || c) || d)
in_turn true b c d = refl
in_turn false true c d = refl
in_turn false false c d = refl

pub refused_is : {A : Type 0} (says : Bool → A → Type 0) (r : Bool) (o : Option Node) (f : Node → A) (good : Node → Bool) → IsRefused says r (option_map f o) → ((v : Node) → o ≡ Some v → says (not r) (f v) → not r ≡ good v) → holds o (λ v. not (good v)) ≡ r
refused_is says r None f good h is = sym (h.none refl)
refused_is says r (Some v) f good h is = ap not (sym (is v refl (h.some (f v) refl))) ∙ twice r

pub fused : (f : Node → Spot) (o : Option Node) → option_map (λ (s : Spot). s.place) (option_map f o) ≡ option_map (λ v. (f v).place) o
fused f None = refl
fused f (Some v) = refl

-- the line of a node is that of its act
pub last_line : (v : Node) (l : Line) → class_of v ≡ l → line_of v ≡ Some l → line_of v ≡ Some (class_of v)
last_line v l is on = on ∙ ap Some (sym is)

-- ---- transitions

-- a node is a transition of an image
pub record IsOnImage (past : Past) (v : Node) : Type 0 where
  pub there : Contains (nodes past) v
  pub changed : ImageElement
  pub act : v.act ≡ Depends Barrier (element.Image changed)

pub on_image_line : (past : Past) (v : Node) → IsOnImage past v → line_of v ≡ Some (class_of v)
on_image_line past v t = rw (ap (line_on v.point.queue) t.act, ap (class_on v.point.queue) t.act) refl

pub on_image_write : (past : Past) (v : Node) (cached : Byte → Bool) (b : Byte) → IsOnImage past v → IsWrite cached (nodes past) v b
on_image_write past v cached b t = record {
  there = t.there;
  uncached = ap (λ (a : Act). is_host a && cached b) t.act;
  limited = ap (λ (a : Act). is_element a && is_wide a) t.act;
}

-- ---- of a past without a fault and a point with one act

module _ (past : Past) (faultless : fault past ≡ None) (p : Point) (steady : (c : Cmd) → byte_writes (p ∷ past) c ≡ byte_writes past c) (alone : acts p.action ≡ act_next p.action ∷ []) where
  abbrev pub y : Node
  y = next_node past p (act_next p.action)

  abbrev pub cached : Byte → Bool
  cached c = is_cached (p ∷ past) (resource_at c)

  module _ (x : ResourceAccess) (front : IsFrontier x.frontier.now (nodes past)) (new_node : IsNewNode (nodes past) y x.new_node.now) where
    -- a write by a command
    pub write_missed : (k : ℕ) → IsTrue (is_answered cached (act_next p.action) (access_of x.access) (numbered_byte x.bytes k)) → (r : Bool) → MissesWrite x k r (touched past (numbered_byte x.bytes k))
        → holds (last_touch touch.Write past (numbered_byte x.bytes k)) (λ v. not (is_seen (p ∷ past) v y (access_of x.access) (numbered_byte x.bytes k))) ≡ r
    write_missed k answered r h = refused_is (SaysSeen x k) r (last_touch touch.Write past (numbered_byte x.bytes k)) (spot_of past) (λ v. is_seen (p ∷ past) v y (access_of x.access) (numbered_byte x.bytes k)) h (λ v is says.
        let l = last_touch_is past faultless p steady touch.Write v (numbered_byte x.bytes k) is in
        let wrote : IsWrite cached (nodes past) v (numbered_byte x.bytes k) = record {
          there = l.there;
          uncached = ap (λ (a : Act). is_host a && cached (numbered_byte x.bytes k)) l.does.1;
          limited = ap (λ (a : Act). is_element a && is_wide a) l.does.1;
        } in
        says (nodes past) y v cached front new_node wrote (last_line v (OfCommands v.point.queue) (ap (class_on v.point.queue) l.does.1) (ap (line_on v.point.queue) l.does.1)) refl (omega arith) answered
        ∙ sym (ap (λ ns. seen cached ns v y (access_of x.access) (numbered_byte x.bytes k)) (nodes_with past p (act_next p.action) alone)))

    -- a write by the host, of memory without a cache
    pub direct_missed : (k : ℕ) → cached (numbered_byte x.bytes k) ≡ false → IsTrue (is_answered cached (act_next p.action) (access_of x.access) (numbered_byte x.bytes k)) → (r : Bool) → IsRefused (SaysSeen x k) r (last_spot touch.HostWrite past (numbered_byte x.bytes k))
        → holds (last_touch touch.HostWrite past (numbered_byte x.bytes k)) (λ v. not (is_seen (p ∷ past) v y (access_of x.access) (numbered_byte x.bytes k))) ≡ r
    direct_missed k off answered r h = refused_is (SaysSeen x k) r (last_touch touch.HostWrite past (numbered_byte x.bytes k)) (spot_of past) (λ v. is_seen (p ∷ past) v y (access_of x.access) (numbered_byte x.bytes k)) h (λ v is says.
        let l = last_touch_is past faultless p steady touch.HostWrite v (numbered_byte x.bytes k) is in
        let wrote : IsWrite cached (nodes past) v (numbered_byte x.bytes k) = record {
          there = l.there;
          uncached = ap (λ (t : Bool). is_host v.act && t) off ∙ and-false (is_host v.act);
          limited = ap (λ (a : Act). is_element a && is_wide a) l.does.1;
        } in
        says (nodes past) y v cached front new_node wrote (last_line v OfHost (ap (class_on v.point.queue) l.does.1) (ap (line_on v.point.queue) l.does.1)) refl (omega arith) answered
        ∙ sym (ap (λ ns. seen cached ns v y (access_of x.access) (numbered_byte x.bytes k)) (nodes_with past p (act_next p.action) alone)))

    -- and of cached memory: its first flush is asked
    module _ (flushed_law : FlushedSeen) (unflushed_law : UnflushedSeen) (device : is_host (act_next p.action) ≡ false) (k : ℕ) (on : cached (numbered_byte x.bytes k) ≡ true) (answered : IsTrue (is_answered cached (act_next p.action) (access_of x.access) (numbered_byte x.bytes k))) where
      abbrev pub byte : Byte
      byte = numbered_byte x.bytes k

      abbrev pub sees : Node → Bool
      sees v = is_seen (p ∷ past) v y (access_of x.access) byte

      there_now : (v : Node) → Contains (nodes past) v → Contains (nodes (p ∷ past)) v
      there_now v c = older_there past p (act_next p.action) alone v c

      -- of the nodes with the point's only those before it flush
      flushes_old : (g : Node) → Contains (nodes (p ∷ past)) g → flushes g.act byte ≡ true → Contains (nodes past) g
      flushes_old g c f = ⊎_elim (λ old. old) (λ new. absurd (let one = only_one (act_next p.action) g.act (subst (λ (l : List Act). Contains l g.act) alone new.1) in clash f (by_device (act_next p.action) device g.act one))) (in_acts p (acts p.action) (nodes past) g c) where
        by_device : (a : Act) → is_host a ≡ false → (c : Act) → a ≡ c → flushes c byte ≡ false
        by_device (Hosts e) d c same = absurd cc
        by_device (Waits s) d c same = ap (λ (a : Act). flushes a byte) (sym same)
        by_device (Signals s) d c same = ap (λ (a : Act). flushes a byte) (sym same)
        by_device (Runs e) d c same = ap (λ (a : Act). flushes a byte) (sym same)
        by_device (Depends t e) d c same = ap (λ (a : Act). flushes a byte) (sym same)

      unflushed : (v : Node) → Contains (nodes past) v → is_host v.act ≡ true → NoneAfter past byte v → sees v ≡ false
      unflushed v c host none = unflushed_law (nodes (p ∷ past)) v y cached (access_of x.access) byte (numbered (p ∷ past)) (there_now v c) host on
          (λ g there lt. false_from_ne_true (flushes g.act byte) (λ f. clash f (none g (flushes_old g there f) lt)))

      asked : IsTrue (is_answered uncached (act_next p.action) (access_of x.access) byte)
      asked = by_act (act_next p.action) device answered where
        by_act : (a : Act) → is_host a ≡ false → IsTrue (is_answered cached a (access_of x.access) byte) → IsTrue (is_answered uncached a (access_of x.access) byte)
        by_act (Hosts e) d h = absurd cc
        by_act (Waits s) d h = absurd cc
        by_act (Signals s) d h = absurd cc
        by_act (Runs e) d h = refl
        by_act (Depends t e) d h = absurd cc

      through : (v f : Node) → Contains (nodes past) v → is_host v.act ≡ true → IsFirst past byte v f → (r : Bool) → SaysSeen x k (not r) (spot_of past f) → not r ≡ sees v
      through v f c host is r says =
          let first : IsFirstFlush (nodes (p ∷ past)) byte v f = record {
            there = there_now f is.there;
            flushing = is.flushing;
            later = is.later;
            first = λ g there flush lt. is.first g (flushes_old g there flush) flush lt;
          } in
          let wrote : IsWrite uncached (nodes past) f byte = record { there = is.there; uncached = and-false (is_host f.act); limited = ap (λ (a : Act). is_element a && is_wide a) is.hosts } in
          says (nodes past) y f uncached front new_node wrote (last_line f OfHost (ap (class_on f.point.queue) is.hosts) (ap (line_on f.point.queue) is.hosts)) refl (omega arith) asked
          ∙ sym (ap (λ ns. seen uncached ns f y (access_of x.access) byte) (nodes_with past p (act_next p.action) alone))
          ∙ sym (flushed_law (nodes (p ∷ past)) v f y cached (access_of x.access) byte (numbered (p ∷ past)) (there_now v c) (next_there past p (act_next p.action) alone) host device on first)

      flush_missed : (r : Bool) → MissesFlush x k r (touched past byte) → holds (last_touch touch.HostWrite past byte) (λ v. not (sees v)) ≡ r
      flush_missed r h = by_write (last_touch touch.HostWrite past byte) refl where
        by_flush : (v : Node) → last_touch touch.HostWrite past byte ≡ Some v → Contains (nodes past) v → is_host v.act ≡ true → (o : Option Node) → first_flush past byte ≡ o → Says past byte v o → not (sees v) ≡ r
        by_flush v is c host None e none = ap not (unflushed v c host none) ∙ sym (h.unflushed (spot_of past v) (ap (option_map (spot_of past)) is) (ap (option_map (spot_of past)) e))
        by_flush v is c host (Some f) e first = ap not (sym (through v f c host first r (h.flushed (spot_of past v) (spot_of past f) (ap (option_map (spot_of past)) is) (ap (option_map (spot_of past)) e)))) ∙ twice r

        by_write : (o : Option Node) → last_touch touch.HostWrite past byte ≡ o → holds o (λ v. not (sees v)) ≡ r
        by_write None e = sym (h.none (ap (option_map (spot_of past)) e))
        by_write (Some v) e = let l = last_touch_is past faultless p steady touch.HostWrite v byte e in by_flush v e l.there (ap is_host l.does.1) (first_flush past byte) refl (flush_is past byte v e)

    -- a write by the host
    pub host_missed : FlushedSeen → UnflushedSeen → is_host (act_next p.action) ≡ false → (c : Bool) (k : ℕ) → c ≡ cached (numbered_byte x.bytes k) → IsTrue (is_answered cached (act_next p.action) (access_of x.access) (numbered_byte x.bytes k)) → (r : Bool) → MissesHostWrite c x k r (touched past (numbered_byte x.bytes k))
        → holds (last_touch touch.HostWrite past (numbered_byte x.bytes k)) (λ v. not (is_seen (p ∷ past) v y (access_of x.access) (numbered_byte x.bytes k))) ≡ r
    host_missed flushed_law unflushed_law device false k is answered r h = direct_missed k (sym is) answered r h
    host_missed flushed_law unflushed_law device true k is answered r h = flush_missed flushed_law unflushed_law device k (sym is) answered r h

    -- a transition
    pub transition_missed : ((b : Byte) (v : Node) → last_transition past b ≡ Some v → IsOnImage past v) → (k : ℕ) → IsTrue (is_answered cached (act_next p.action) (access_of x.access) (numbered_byte x.bytes k)) → (r : Bool) → MissesTransition x k r (touched past (numbered_byte x.bytes k))
        → holds (last_transition past (numbered_byte x.bytes k)) (λ v. not (is_seen (p ∷ past) v y (access_of x.access) (numbered_byte x.bytes k))) ≡ r
    transition_missed of_images k answered r h = refused_is (SaysSeen x k) r (last_transition past (numbered_byte x.bytes k)) (spot_of past) (λ v. is_seen (p ∷ past) v y (access_of x.access) (numbered_byte x.bytes k)) h (λ v is says.
        let t = of_images (numbered_byte x.bytes k) v is in
        says (nodes past) y v cached front new_node (on_image_write past v cached (numbered_byte x.bytes k) t) (on_image_line past v t) refl (omega arith) answered
        ∙ sym (ap (λ ns. seen cached ns v y (access_of x.access) (numbered_byte x.bytes k)) (nodes_with past p (act_next p.action) alone)))

    -- a read by the host of cached memory: its last invalidation has to see the write
    module _ (invalidated_law : InvalidatedSeen) (uninvalidated_law : UninvalidatedSeen) (host : is_host (act_next p.action) ≡ true) (quiet : (b : Byte) → invalidates (act_next p.action) b ≡ false) (k : ℕ) (on : cached (numbered_byte x.bytes k) ≡ true) where
      abbrev pub read_byte : Byte
      read_byte = numbered_byte x.bytes k

      invalidates_old : (g : Node) → Contains (nodes (p ∷ past)) g → invalidates g.act read_byte ≡ true → Contains (nodes past) g
      invalidates_old g c f = ⊎_elim (λ old. old) (λ new. absurd (let one = only_one (act_next p.action) g.act (subst (λ (l : List Act). Contains l g.act) alone new.1) in clash f (ap (λ (a : Act). invalidates a read_byte) (sym one) ∙ quiet read_byte))) (in_acts p (acts p.action) (nodes past) g c)

      seen_is : (v : Node) → last_touch touch.Write past read_byte ≡ Some v → is_seen (p ∷ past) v y Read read_byte ≡ is_invalidated past read_byte
      seen_is v e =
          let l = last_touch_is past faultless p steady touch.Write v read_byte e in
          let newest : Contains (nodes (p ∷ past)) y = next_there past p (act_next p.action) alone in
          by (last_invalidation past read_byte) refl l.there (ap is_host l.does.1) newest ∙ sym (ap (λ (o : Option Node). holds o (λ v. holds (last_invalidation past read_byte) (λ f. seen uncached (nodes past) v f Read read_byte))) e)
        where
          by : (o : Option Node) → last_invalidation past read_byte ≡ o → Contains (nodes past) v → is_host v.act ≡ false → Contains (nodes (p ∷ past)) y → is_seen (p ∷ past) v y Read read_byte ≡ holds o (λ f. seen uncached (nodes past) v f Read read_byte)
          by None none c device newest = uninvalidated_law (nodes (p ∷ past)) v y cached read_byte (numbered (p ∷ past)) newest host on
              (λ g there lt. false_from_ne_true (invalidates g.act read_byte) (λ f. absurd (let h = invalidation_last past read_byte g (invalidates_old g there f) f in let bad : None ≡ Some h.node = sym none ∙ h.is in cc)))
          by (Some f) some c device newest =
              let is = invalidation_is past read_byte f some in
              let low = number_below (nodes past) (numbered past) f is.there in
              invalidated_law (nodes (p ∷ past)) v f y cached read_byte (numbered (p ∷ past)) (older_there past p (act_next p.action) alone v c) newest device host on
              (record {
                there = older_there past p (act_next p.action) alone f is.there;
                invalidating = is.invalidating;
                earlier = low;
                last = λ g there h lt. let last = invalidation_last past read_byte g (invalidates_old g there h) h in let same : f ≡ last.node = (let e : Some f ≡ Some last.node = sym some ∙ last.is in cc) in subst (λ (m : Node). g.number ≤ m.number) (sym same) last.not_before;
              })
              ∙ (growth past (p ∷ [])).visibilities uncached v f Read read_byte is.there

      pub read_missed : (r : Bool) → r ≡ (is_some (last_spot touch.Write past read_byte) && not (is_invalidated past read_byte)) → holds (last_touch touch.Write past read_byte) (λ v. not (is_seen (p ∷ past) v y Read read_byte)) ≡ r
      read_missed r h = by (last_touch touch.Write past read_byte) refl ∙ sym h where
        by : (o : Option Node) → last_touch touch.Write past read_byte ≡ o → holds o (λ v. not (is_seen (p ∷ past) v y Read read_byte)) ≡ (is_some (option_map (spot_of past) o) && not (is_invalidated past read_byte))
        by None e = refl
        by (Some v) e = ap not (seen_is v e)

  module _ (s : NewNode) (new_node : IsNewNode (nodes past) y s) where
    -- a read
    pub ahead_is : (t : Touch) (l : Line) (b : Byte) → ((v : Node) → Touches past faultless p steady t b v → (class_of v ≡ l) × (line_of v ≡ Some l)) → (r : Bool) → IsRefused (SaysFollows s l) r (last_place t past b)
        → holds (last_touch t past b) (λ v. not (before (nodes (p ∷ past)) v y)) ≡ r
    ahead_is t l b lined r h = refused_is (SaysFollows s l) r (last_touch t past b) (λ v. (spot_of past v).place) (λ v. before (nodes (p ∷ past)) v y)
        (subst (λ (o : Option ℕ). IsRefused (SaysFollows s l) r o) (fused (spot_of past) (last_touch t past b)) h) (λ v is says.
        let f = last_touch_is past faultless p steady t v b is in
        let on = lined v f.does in
        says (nodes past) y v new_node f.there on.1 (ap (λ (x : Line). place (nodes past) x v.number) (sym on.0))
        ∙ sym (ap (λ ns. before ns v y) (nodes_with past p (act_next p.action) alone)))

    pub queue_ahead : (q : ℕ) (b : Byte) (r : Bool) → IsRefused (SaysFollows s (OfCommands q)) r (last_place (touch.Read q) past b) → holds (last_touch (touch.Read q) past b) (λ v. not (before (nodes (p ∷ past)) v y)) ≡ r
    queue_ahead q b r h = ahead_is (touch.Read q) (OfCommands q) b (λ v d. (ap (class_on v.point.queue) d.1 ∙ ap OfCommands d.3, ap (line_on v.point.queue) d.1 ∙ ap (λ (x : ℕ). Some (OfCommands x)) d.3)) r h

    pub commands_ahead : (b : Byte) (r : Bool) → HasEarlyCommand s r (touched past b)
        → (holds (last_touch (touch.Read 0) past b) (λ v. not (before (nodes (p ∷ past)) v y)) || (holds (last_touch (touch.Read 1) past b) (λ v. not (before (nodes (p ∷ past)) v y)) || (holds (last_touch (touch.Read 2) past b) (λ v. not (before (nodes (p ∷ past)) v y)) || (holds (last_touch (touch.Read 3) past b) (λ v. not (before (nodes (p ∷ past)) v y)) || false)))) ≡ r
    commands_ahead b r h = rw (queue_ahead 0 b h.on_first h.first, queue_ahead 1 b h.on_second h.second, queue_ahead 2 b h.on_third h.third, queue_ahead 3 b h.on_fourth h.fourth) (ap (λ (t : Bool). h.on_first || (h.on_second || (h.on_third || t))) (or-false h.on_fourth) ∙ in_turn h.on_first h.on_second h.on_third h.on_fourth ∙ sym h.either)

    -- a transition
    pub transition_ahead : ((b : Byte) (v : Node) → last_transition past b ≡ Some v → IsOnImage past v) → (b : Byte) (r : Bool) → HasEarlyTransition s r (touched past b) → holds (last_transition past b) (λ v. not (before (nodes (p ∷ past)) v y)) ≡ r
    transition_ahead of_images b r h = refused_is (λ a w. SaysFollows s w.line a w.place) r (last_transition past b) (spot_of past) (λ v. before (nodes (p ∷ past)) v y) h (λ v is says.
        let t = of_images b v is in
        says (nodes past) y v new_node t.there (on_image_line past v t) refl
        ∙ sym (ap (λ ns. before ns v y) (nodes_with past p (act_next p.action) alone)))
