-- What is said of the last node that touched a byte in each way where an element of a barrier comes next, as if it came alone.
use Rattle.std.proofs.Common.{◌≡◌, ℕ, ◌∷◌, Bool, not, ◌&&◌, ◌||◌, false, refl, ap, sym, ◌∙◌, subst, arith, Option, Some, None}
use Rattle.std.proofs.Math.Bool.{or-false}
use Rattle.vk_model.specs.declared.command.Cmd.{Cmd}
use Rattle.vk_model.specs.Basics.{holds}
use Rattle.vk_model.specs.World.Bytes.{Byte}
use Rattle.vk_model.specs.World.ByteWrites.{byte_writes}
use Rattle.vk_model.specs.Trace.Point.{Past, Point}
use Rattle.vk_model.specs.Rules.Table.{fault}
use Rattle.vk_model.specs.Sync.Node.{Node, Act, nodes}
use Rattle.vk_model.specs.Sync.Edge.{is_host, is_element}
use Rattle.vk_model.specs.Sync.Before.{before, IsNumbered}
use Rattle.vk_model.specs.Sync.Seen.{Access, seen}
use Rattle.vk_order.specs.Lines.{line_of, line_on, class_of, class_on, place}
use Rattle.vk_order.specs.Wide.{is_wide}
use Rattle.vk_order.specs.Limited.{IsWrite}
use Rattle.vk_order.specs.Frontiers.{IsFrontier, IsNewNode}
use Rattle.vk_order.specs.Inner.Parts.{IsPart}
use Rattle.vk_order.specs.Inner.Tallies.{lines_of}
use Rattle.vk_order.specs.declared.lines.Line.{Line}
use Rattle.vk_order.specs.declared.lines.Line.TheVariants.{Host as OfHost, Commands as OfCommands}
use Rattle.vk_order.specs.declared.new_node.NewNode.{NewNode}
use Rattle.vk_touches.specs.declared.touches.Touch.{Touch}
use Rattle.vk_touches.specs.declared.touches.Touch.TheVariants as touch
use Rattle.vk_touches.specs.declared.transitions.TransitionAccess.{TransitionAccess}
use Rattle.vk_touches.specs.Bytes.{numbered_byte}
use Rattle.vk_touches.specs.Touched.{last_touch, last_place, last_transition, spot_of, touched}
use Rattle.vk_touches.specs.Conflicts.{HasEarlyCommand, HasEarlyTransition, IsRefused, SaysSeenAt, SaysFollows}
use Rattle.vk_touches.proofs.Touching.LastAccesses.{Touches, last_touch_is}
use Rattle.vk_touches.proofs.Judging.Missed.{refused_is, fused, in_turn, last_line, IsOnImage, on_image_line, on_image_write}

module _ (past : Past) (faultless : fault past ≡ None) (p : Point) (steady : (c : Cmd) → byte_writes (p ∷ past) c ≡ byte_writes past c) (n : Node) (of_images : (b : Byte) (v : Node) → last_transition past b ≡ Some v → IsOnImage past v) where
  -- ---- what the transition of an element sees

  module _ (x : TransitionAccess) (cached : Byte → Bool) (kind : Access) (numbered : IsNumbered (n ∷ nodes past)) (front : IsFrontier x.frontier.now (nodes past)) (part : IsPart (n ∷ nodes past) (lines_of x.frontier.now.tallies.items) n x.part.now) (k : ℕ) where
    -- of a write by a command
    pub write_unseen : (r : Bool) → IsRefused (SaysSeenAt x k) r (touched past (numbered_byte x.bytes k)).write
        → holds (last_touch touch.Write past (numbered_byte x.bytes k)) (λ v. not (seen cached (n ∷ nodes past) v n kind (numbered_byte x.bytes k))) ≡ r
    write_unseen r h = refused_is (SaysSeenAt x k) r (last_touch touch.Write past (numbered_byte x.bytes k)) (spot_of past) (λ v. seen cached (n ∷ nodes past) v n kind (numbered_byte x.bytes k)) h (λ v is says.
        let l = last_touch_is past faultless p steady touch.Write v (numbered_byte x.bytes k) is in
        let wrote : IsWrite cached (nodes past) v (numbered_byte x.bytes k) = record {
          there = l.there;
          uncached = ap (λ (a : Act). is_host a && cached (numbered_byte x.bytes k)) l.does.1;
          limited = ap (λ (a : Act). is_element a && is_wide a) l.does.1;
        } in
        says (nodes past) n v cached kind numbered front part wrote (last_line v (OfCommands v.point.queue) (ap (class_on v.point.queue) l.does.1) (ap (line_on v.point.queue) l.does.1)) refl (omega arith))

    -- of a transition
    pub transition_unseen : (r : Bool) → IsRefused (SaysSeenAt x k) r (touched past (numbered_byte x.bytes k)).transition
        → holds (last_transition past (numbered_byte x.bytes k)) (λ v. not (seen cached (n ∷ nodes past) v n kind (numbered_byte x.bytes k))) ≡ r
    transition_unseen r h = refused_is (SaysSeenAt x k) r (last_transition past (numbered_byte x.bytes k)) (spot_of past) (λ v. seen cached (n ∷ nodes past) v n kind (numbered_byte x.bytes k)) h (λ v is says.
        let t = of_images (numbered_byte x.bytes k) v is in
        says (nodes past) n v cached kind numbered front part (on_image_write past v cached (numbered_byte x.bytes k) t) (on_image_line past v t) refl (omega arith))

  -- ---- what comes before it

  module _ (s : NewNode) (new_node : IsNewNode (nodes past) n s) where
    last_ahead : (t : Touch) (l : Line) (b : Byte) → ((v : Node) → Touches past faultless p steady t b v → (class_of v ≡ l) × (line_of v ≡ Some l)) → (r : Bool) → IsRefused (SaysFollows s l) r (last_place t past b)
        → holds (last_touch t past b) (λ v. not (before (n ∷ nodes past) v n)) ≡ r
    last_ahead t l b lined r h = refused_is (SaysFollows s l) r (last_touch t past b) (λ v. (spot_of past v).place) (λ v. before (n ∷ nodes past) v n)
        (subst (λ (o : Option ℕ). IsRefused (SaysFollows s l) r o) (fused (spot_of past) (last_touch t past b)) h) (λ v is says.
        let f = last_touch_is past faultless p steady t v b is in
        let on = lined v f.does in
        says (nodes past) n v new_node f.there on.1 (ap (λ (x : Line). place (nodes past) x v.number) (sym on.0)))

    queue_before : (q : ℕ) (b : Byte) (r : Bool) → IsRefused (SaysFollows s (OfCommands q)) r (last_place (touch.Read q) past b) → holds (last_touch (touch.Read q) past b) (λ v. not (before (n ∷ nodes past) v n)) ≡ r
    queue_before q b r h = last_ahead (touch.Read q) (OfCommands q) b (λ v d. (ap (class_on v.point.queue) d.1 ∙ ap OfCommands d.3, ap (line_on v.point.queue) d.1 ∙ ap (λ (x : ℕ). Some (OfCommands x)) d.3)) r h

    -- reads by commands
    pub commands_before : (b : Byte) (r : Bool) → HasEarlyCommand s r (touched past b)
        → (holds (last_touch (touch.Read 0) past b) (λ v. not (before (n ∷ nodes past) v n)) || (holds (last_touch (touch.Read 1) past b) (λ v. not (before (n ∷ nodes past) v n)) || (holds (last_touch (touch.Read 2) past b) (λ v. not (before (n ∷ nodes past) v n)) || (holds (last_touch (touch.Read 3) past b) (λ v. not (before (n ∷ nodes past) v n)) || false)))) ≡ r
    commands_before b r h = rw (queue_before 0 b h.on_first h.first, queue_before 1 b h.on_second h.second, queue_before 2 b h.on_third h.third, queue_before 3 b h.on_fourth h.fourth) (ap (λ (t : Bool). h.on_first || (h.on_second || (h.on_third || t))) (or-false h.on_fourth) ∙ in_turn h.on_first h.on_second h.on_third h.on_fourth ∙ sym h.either)

    -- reads by the host
    pub host_before : (b : Byte) (r : Bool) → IsRefused (SaysFollows s OfHost) r (last_place touch.HostRead past b) → holds (last_touch touch.HostRead past b) (λ v. not (before (n ∷ nodes past) v n)) ≡ r
    host_before b r h = last_ahead touch.HostRead OfHost b (λ v d. (ap (class_on v.point.queue) d.1, ap (line_on v.point.queue) d.1)) r h

    -- a transition
    pub transition_before : (b : Byte) (r : Bool) → HasEarlyTransition s r (touched past b) → holds (last_transition past b) (λ v. not (before (n ∷ nodes past) v n)) ≡ r
    transition_before b r h = refused_is (λ a w. SaysFollows s w.line a w.place) r (last_transition past b) (spot_of past) (λ v. before (n ∷ nodes past) v n) h (λ v is says.
        let t = of_images b v is in
        says (nodes past) n v new_node t.there (on_image_line past v t) refl)
