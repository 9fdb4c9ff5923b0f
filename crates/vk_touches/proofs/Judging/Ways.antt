-- What an access and a new node say of the last nodes that touched a byte, all ways taken together.
use Rattle.std.proofs.Common.{◌≡◌, ◌∷◌, ℕ, [], Bool, true, false, not, ◌||◌, refl, ap, sym, ◌∙◌, subst, Option, Some, None, inl, inr}
use Rattle.std.specs.Prelude.{IsTrue}
use Rattle.std.proofs.Math.Bool.{or-false, or-true}
use Rattle.vk_model.specs.declared.command.Cmd.{Cmd}
use Rattle.vk_model.specs.Basics.{holds}
use Rattle.vk_model.specs.World.Bytes.{Byte, in_buffer, resource_at}
use Rattle.vk_model.specs.World.ByteWrites.{byte_writes}
use Rattle.vk_model.specs.Trace.Point.{Past, Point}
use Rattle.vk_model.specs.Trace.Objects.{is_cached}
use Rattle.vk_model.specs.Rules.Table.{fault}
use Rattle.vk_model.specs.Sync.Node.{Node, Depends, Barrier, nodes, acts}
use Rattle.vk_model.specs.Sync.Edge.{is_host}
use Rattle.vk_model.specs.Sync.Before.{before}
use Rattle.vk_model.specs.Sync.Seen.{Read, invalidates}
use Rattle.vk_model.specs.Sync.Seen as sync
use Rattle.vk_model.specs.Sync.Access.{is_seen, transition_bytes}
use Rattle.vk_model.proofs.Lists.Truths.{clash}
use Rattle.vk_order.specs.Lines.{class_on, line_on}
use Rattle.vk_order.specs.Wide.{is_answered, access_of}
use Rattle.vk_order.specs.Cached.{FlushedSeen, UnflushedSeen, InvalidatedSeen, UninvalidatedSeen}
use Rattle.vk_order.specs.Frontiers.{IsFrontier, IsNewNode}
use Rattle.vk_order.specs.declared.access.Access.{Access}
use Rattle.vk_order.specs.declared.access.Access.TheVariants as access
use Rattle.vk_order.specs.declared.lines.Line.TheVariants.{Host as OfHost}
use Rattle.vk_order.specs.declared.new_node.NewNode.{NewNode}
use Rattle.vk_touches.specs.declared.accesses.ResourceAccess.{ResourceAccess}
use Rattle.vk_touches.specs.declared.touches.Touch.TheVariants as touch
use Rattle.vk_touches.specs.Bytes.{numbered_byte}
use Rattle.vk_touches.specs.Touched.{next_node, act_next, last_touch, last_transition, touched}
use Rattle.vk_touches.specs.Conflicts.{Misses, MissesRead, MissesWrite, HasEarlyCommand, IsEarly}
use Rattle.vk_touches.proofs.Touching.AllTransitions.{last_transition_is, is_transition_node}
use Rattle.vk_touches.proofs.Touching.LastHazards.{StaysCached, some_last, write_ways, read_ways, unseen, early}
use Rattle.vk_touches.proofs.Touching.TransitionBytes.{moved, no_buffer}
use Rattle.vk_touches.proofs.Judging.Missed.{IsOnImage, write_missed, host_missed, transition_missed, read_missed, ahead_is, commands_ahead, transition_ahead}
use Rattle.vk_model.proofs.World.BytePlaces.{is_in_from}

third : (a b : Bool) → (a || (b || true)) ≡ true
third true b = refl
third false true = refl
third false false = refl

last_of_three : (a b c : Bool) → (a || (b || (c || false))) ≡ (a || (b || c))
last_of_three a b c = ap (λ (t : Bool). a || (b || t)) (or-false c)

module _ (past : Past) (faultless : fault past ≡ None) (p : Point) (steady : (c : Cmd) → byte_writes (p ∷ past) c ≡ byte_writes past c) where
  -- ---- the last transition of a byte

  -- is an element on an image
  pub of_images : (b : Byte) (v : Node) → last_transition past b ≡ Some v → IsOnImage past v
  of_images b v is =
      let l = last_transition_is past faultless p steady b v is in
      let t = is_transition_node past faultless p steady b v l.there l.does in
      let m = moved (t.at ∷ t.before_it) t.at.queue t.is_at.element b (is_in_from b (transition_bytes (t.at ∷ t.before_it) t.at.queue t.is_at.element) t.covers) in
      record {
        there = l.there;
        changed = m.of;
        act = ap (λ (n : Node). n.act) (sym t.is_at.node_is) ∙ ap (Depends Barrier) m.named;
      }

  -- a byte of a buffer has none
  pub none_of_buffer : (c k : ℕ) (f : Node → Bool) → holds (last_transition past (in_buffer c k)) f ≡ false
  none_of_buffer c k f = go (last_transition past (in_buffer c k)) refl where
    go : (o : Option Node) → last_transition past (in_buffer c k) ≡ o → holds o f ≡ false
    go None is = refl
    go (Some v) is =
        let l = last_transition_is past faultless p steady (in_buffer c k) v is in
        let t = is_transition_node past faultless p steady (in_buffer c k) v l.there l.does in
        clash t.covers (no_buffer (t.at ∷ t.before_it) t.at.queue t.is_at.element c k)

  -- ---- of a point with one act

  module _ (alone : acts p.action ≡ act_next p.action ∷ []) (still : StaysCached past p) where
    abbrev y : Node
    y = next_node past p (act_next p.action)

    abbrev cached : Byte → Bool
    cached c = is_cached (p ∷ past) (resource_at c)

    abbrev pub missed_by : sync.Access → Byte → Bool
    missed_by k b = some_last past (write_ways (is_host (act_next p.action))) (unseen past p y k) b

    abbrev pub early_by : Byte → Bool
    early_by b = some_last past (read_ways (is_host (act_next p.action))) (early past p y) b

    module _ (x : ResourceAccess) (front : IsFrontier x.frontier.now (nodes past)) (new_node : IsNewNode (nodes past) y x.new_node.now) (k : ℕ) where
      abbrev unseen_of : Option Node → Bool
      unseen_of o = holds o (λ v. not (is_seen (p ∷ past) v y (access_of x.access) (numbered_byte x.bytes k)))

      -- by a command
      pub command_misses : FlushedSeen → UnflushedSeen → is_host (act_next p.action) ≡ false → (c : Bool) → c ≡ is_cached past (resource_at (numbered_byte x.bytes k)) → IsTrue (is_answered cached (act_next p.action) (access_of x.access) (numbered_byte x.bytes k)) → (r : Bool)
          → Misses c x k r (touched past (numbered_byte x.bytes k)) → missed_by (access_of x.access) (numbered_byte x.bytes k) ≡ r
      command_misses f u device c is answered r h = rw device (last_of_three (unseen_of (last_touch touch.Write past (numbered_byte x.bytes k))) (unseen_of (last_touch touch.HostWrite past (numbered_byte x.bytes k))) (unseen_of (last_transition past (numbered_byte x.bytes k))) ∙ by r h) where
        host : c ≡ cached (numbered_byte x.bytes k)
        host = is ∙ sym (still (resource_at (numbered_byte x.bytes k)))

        by : (r : Bool) → Misses c x k r (touched past (numbered_byte x.bytes k)) → (unseen_of (last_touch touch.Write past (numbered_byte x.bytes k)) || (unseen_of (last_touch touch.HostWrite past (numbered_byte x.bytes k)) || unseen_of (last_transition past (numbered_byte x.bytes k)))) ≡ r
        by true (inl h) = rw (write_missed past faultless p steady alone x front new_node k answered true h) refl
        by true (inr (inl h)) = rw (host_missed past faultless p steady alone x front new_node f u device c k host answered true h) (or-true (unseen_of (last_touch touch.Write past (numbered_byte x.bytes k))))
        by true (inr (inr h)) = rw (transition_missed past faultless p steady alone x front new_node of_images k answered true h) (third (unseen_of (last_touch touch.Write past (numbered_byte x.bytes k))) (unseen_of (last_touch touch.HostWrite past (numbered_byte x.bytes k))))
        by false (h, g, t) = rw (write_missed past faultless p steady alone x front new_node k answered false h, host_missed past faultless p steady alone x front new_node f u device c k host answered false g, transition_missed past faultless p steady alone x front new_node of_images k answered false t) refl

      -- by the host, which accesses buffers alone
      module _ (host : is_host (act_next p.action) ≡ true) (b : ℕ) (of_buffer : numbered_byte x.bytes k ≡ in_buffer b k) where
        of_commands : (a : sync.Access) → missed_by a (numbered_byte x.bytes k) ≡ holds (last_touch touch.Write past (numbered_byte x.bytes k)) (λ v. not (is_seen (p ∷ past) v y a (numbered_byte x.bytes k)))
        of_commands a = rw host (ap (λ (t : Bool). holds (last_touch touch.Write past (numbered_byte x.bytes k)) (λ v. not (is_seen (p ∷ past) v y a (numbered_byte x.bytes k))) || (t || false))
            (ap (λ (c : Byte). holds (last_transition past c) (λ v. not (is_seen (p ∷ past) v y a (numbered_byte x.bytes k)))) of_buffer ∙ none_of_buffer b k (λ v. not (is_seen (p ∷ past) v y a (numbered_byte x.bytes k))))
            ∙ or-false (holds (last_touch touch.Write past (numbered_byte x.bytes k)) (λ v. not (is_seen (p ∷ past) v y a (numbered_byte x.bytes k)))))

        pub host_misses : IsTrue (is_answered cached (act_next p.action) (access_of x.access) (numbered_byte x.bytes k)) → (r : Bool) → MissesWrite x k r (touched past (numbered_byte x.bytes k)) → missed_by (access_of x.access) (numbered_byte x.bytes k) ≡ r
        host_misses answered r h = of_commands (access_of x.access) ∙ write_missed past faultless p steady alone x front new_node k answered r h

        pub host_reads : InvalidatedSeen → UninvalidatedSeen → ((c : Byte) → invalidates (act_next p.action) c ≡ false) → x.access ≡ access.Read → (c : Bool) → c ≡ is_cached past (resource_at (numbered_byte x.bytes k))
            → (cached (numbered_byte x.bytes k) ≡ false → IsTrue (is_answered cached (act_next p.action) (access_of x.access) (numbered_byte x.bytes k))) → (r : Bool) → MissesRead c x k r (touched past (numbered_byte x.bytes k)) → missed_by Read (numbered_byte x.bytes k) ≡ r
        host_reads i u quiet reads false is answered r h = subst (λ (a : Access). missed_by (access_of a) (numbered_byte x.bytes k) ≡ r) reads (host_misses (answered (still (resource_at (numbered_byte x.bytes k)) ∙ sym is)) r h)
        host_reads i u quiet reads true is answered r h = of_commands Read ∙ read_missed past faultless p steady alone x front new_node i u host quiet k (still (resource_at (numbered_byte x.bytes k)) ∙ sym is) r h

    module _ (s : NewNode) (new_node : IsNewNode (nodes past) y s) where
      abbrev ahead_of : Option Node → Bool
      ahead_of o = holds o (λ v. not (before (nodes (p ∷ past)) v y))

      abbrev by_commands : Byte → Bool
      by_commands b = ahead_of (last_touch (touch.Read 0) past b) || (ahead_of (last_touch (touch.Read 1) past b) || (ahead_of (last_touch (touch.Read 2) past b) || (ahead_of (last_touch (touch.Read 3) past b) || false)))

      -- the four queues' reads, and the transition after them
      grouped : (a b c d t : Bool) → (a || (b || (c || (d || (t || false))))) ≡ ((a || (b || (c || (d || false)))) || t)
      grouped true b c d t = refl
      grouped false true c d t = refl
      grouped false false true d t = refl
      grouped false false false true t = refl
      grouped false false false false t = or-false t

      after_commands : (b : Byte) → (ahead_of (last_touch (touch.Read 0) past b) || (ahead_of (last_touch (touch.Read 1) past b) || (ahead_of (last_touch (touch.Read 2) past b) || (ahead_of (last_touch (touch.Read 3) past b) || (ahead_of (last_transition past b) || false))))) ≡ (by_commands b || ahead_of (last_transition past b))
      after_commands b = grouped (ahead_of (last_touch (touch.Read 0) past b)) (ahead_of (last_touch (touch.Read 1) past b)) (ahead_of (last_touch (touch.Read 2) past b)) (ahead_of (last_touch (touch.Read 3) past b)) (ahead_of (last_transition past b))

      in_threes : (a b c : Bool) → (a || (b || c)) ≡ ((a || b) || c)
      in_threes true b c = refl
      in_threes false b c = refl

      pub command_early : is_host (act_next p.action) ≡ false → (b : Byte) (r : Bool) → IsEarly s r (touched past b) → early_by b ≡ r
      command_early device b r h =
          let host : ahead_of (last_touch touch.HostRead past b) ≡ h.of_host = ahead_is past faultless p steady alone s new_node touch.HostRead OfHost b (λ v d. (ap (class_on v.point.queue) d.1, ap (line_on v.point.queue) d.1)) h.of_host h.host in
          let commands : by_commands b ≡ h.of_commands = commands_ahead past faultless p steady alone s new_node b h.of_commands h.commands in
          let moving : ahead_of (last_transition past b) ≡ h.of_transition = transition_ahead past faultless p steady alone s new_node of_images b h.of_transition h.transition in
          rw device (ap (λ (t : Bool). ahead_of (last_touch touch.HostRead past b) || t) (after_commands b) ∙ rw (host, commands, moving) (in_threes h.of_host h.of_commands h.of_transition ∙ sym h.either))

      pub host_early : is_host (act_next p.action) ≡ true → (c k : ℕ) (r : Bool) → HasEarlyCommand s r (touched past (in_buffer c k)) → early_by (in_buffer c k) ≡ r
      host_early host c k r h = rw host (after_commands (in_buffer c k) ∙ ap (λ (t : Bool). by_commands (in_buffer c k) || t) (none_of_buffer c k (λ v. not (before (nodes (p ∷ past)) v y))) ∙ or-false (by_commands (in_buffer c k)) ∙ commands_ahead past faultless p steady alone s new_node (in_buffer c k) r h)
