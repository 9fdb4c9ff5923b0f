-- What the rules on accesses say of a point with one act, by the last nodes that touched each byte.
use Rattle.std.proofs.Common.{◌≡◌, ◌∷◌, ℕ, [], Bool, false, sym, subst}
use Rattle.std.specs.Prelude.{IsTrue}
use Rattle.std.specs.List.{list_any}
use Rattle.vk_model.specs.declared.command.Cmd.{Cmd}
use Rattle.vk_model.specs.World.Bytes.{Byte, resource_at}
use Rattle.vk_model.specs.World.ByteWrites.{byte_writes}
use Rattle.vk_model.specs.Trace.Point.{Past, Point}
use Rattle.vk_model.specs.Trace.Objects.{is_cached}
use Rattle.vk_model.specs.Sync.Node.{Node, nodes, acts}
use Rattle.vk_model.specs.Sync.Edge.{is_host}
use Rattle.vk_model.specs.Sync.Access.{reads, writes}
use Rattle.vk_model.specs.Rules.Hazards.{breaks_hazard_war, breaks_hazard_raw, breaks_hazard_waw}
use Rattle.vk_model.proofs.Rules.Fault.{unbroken_of_none}
use Rattle.vk_order.specs.Wide.{is_answered, access_of}
use Rattle.vk_order.specs.Frontiers.{IsNewNode}
use Rattle.vk_order.specs.Prefixes.{LinePrefix}
use Rattle.vk_order.specs.Visibility.{HostSeen}
use Rattle.vk_order.specs.Cached.{FlushedSeen, UnflushedSeen}
use Rattle.vk_order.specs.declared.access.Access.{Access}
use Rattle.vk_order.specs.declared.access.Access.TheVariants as access
use Rattle.vk_order.specs.declared.new_node.NewNode.{NewNode}
use Rattle.vk_touches.specs.declared.accesses.ResourceAccess.{ResourceAccess}
use Rattle.vk_touches.specs.declared.bytes.Bytes.{Bytes}
use Rattle.vk_touches.specs.Bytes.{numbered_byte}
use Rattle.vk_touches.specs.Conflicts.{IsAccess, Misses}
use Rattle.vk_touches.specs.Touched.{next_node, act_next, touched}
use Rattle.vk_touches.proofs.Touching.LastHazards.{StaysCached, OnQueues, raw_is, waw_is, war_is}
use Rattle.vk_touches.proofs.Judging.Ways as ways
use Rattle.vk_history.specs.Judged.{IsJudged}
use Rattle.vk_validate.proofs.Points.Queues.{queue_low}

-- a new node that an access has
pub new_node_of : (past : Past) (n : Node) (s : NewNode) (b : Bytes) (a : Access) (x : ResourceAccess) → IsAccess past s b a x → IsNewNode (nodes past) n s → IsNewNode (nodes past) n x.new_node.now
new_node_of past n s b a x by h = subst (λ (t : NewNode). IsNewNode (nodes past) n t) (sym by.new_node) h

module _ (past : Past) (judged : IsJudged past) (p : Point) (steady : (c : Cmd) → byte_writes (p ∷ past) c ≡ byte_writes past c) (alone : acts p.action ≡ act_next p.action ∷ []) (still : StaysCached past p) where
  abbrev y : Node
  y = next_node past p (act_next p.action)

  -- whether a last write isn't seen, and whether a last read doesn't come before
  abbrev pub missed_by : Access → Byte → Bool
  missed_by k b = ways.missed_by past judged.faultless p steady alone still (access_of k) b

  abbrev pub early_by : Byte → Bool
  early_by b = ways.early_by past judged.faultless p steady alone still b

  -- of a command
  pub missed_is : FlushedSeen → UnflushedSeen → is_host (act_next p.action) ≡ false → ((a : Access) (b : Byte) → IsTrue (is_answered (λ c. is_cached (p ∷ past) (resource_at c)) (act_next p.action) (access_of a) b)) → (s : NewNode) → IsNewNode (nodes past) y s
      → (x : ResourceAccess) (b : Bytes) (a : Access) → IsAccess past s b a x → (k : ℕ) (c : Bool) → c ≡ is_cached past (resource_at (numbered_byte b k)) → (r : Bool) → Misses c x k r (touched past (numbered_byte b k)) → missed_by a (numbered_byte b k) ≡ r
  missed_is f u device answered s new_node x b a by k =
      let Is : Bytes → Access → Type 0 = λ d e. (c : Bool) → c ≡ is_cached past (resource_at (numbered_byte d k)) → (r : Bool) → Misses c x k r (touched past (numbered_byte d k)) → missed_by e (numbered_byte d k) ≡ r in
      subst (λ (d : Bytes). Is d a) by.bytes (subst (λ (e : Access). Is x.bytes e) by.access
      (λ c is r h. ways.command_misses past judged.faultless p steady alone still x by.frontier (new_node_of past y s b a x by new_node) k f u device c is (answered x.access (numbered_byte x.bytes k)) r h))

  -- ---- the rules

  on_queues : OnQueues past
  on_queues x c there is = queue_low past (unbroken_of_none past judged.faultless) judged.ordered x c there is

  pub raw_rule : HostSeen → breaks_hazard_raw past p ≡ list_any (missed_by access.Read) (reads (p ∷ past) y)
  raw_rule law = raw_is past judged.faultless p steady (act_next p.action) alone law still

  pub waw_rule : HostSeen → breaks_hazard_waw past p ≡ list_any (missed_by access.Write) (writes (p ∷ past) y)
  waw_rule law = waw_is past judged.faultless p steady (act_next p.action) alone law still

  pub war_rule : LinePrefix → breaks_hazard_war past p ≡ list_any early_by (writes (p ∷ past) y)
  war_rule law = war_is past judged.faultless p steady (act_next p.action) alone law on_queues
