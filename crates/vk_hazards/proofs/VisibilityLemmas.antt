-- What makes a write visible to the host.
use Rattle.std.proofs.Common.{◌≡◌, ℕ, List, [], Bool, true, false, ◌&&◌, refl, sym, ap, ◌∙◌}
use Rattle.vk_model.specs.Trace.Point.{Past, Point}
use Rattle.vk_model.specs.World.Bytes.{Byte}
use Rattle.vk_model.specs.Sync.Node.{Node, Act, Hosts, Waits, Signals, Runs, Depends, nodes}
use Rattle.vk_model.specs.Sync.Edge.{is_host}
use Rattle.vk_model.specs.Sync.Seen.{Access, makes_writes_visible, to_host, host_mask}
use Rattle.vk_order.specs.declared.acts.Row.{Row}
use Rattle.vk_model.specs.Trace.PointViews.{point_of}
use Rattle.vk_order.specs.NodeViews.{act_of, node_of}
use Rattle.vk_order.specs.Edges as edges
use Rattle.vk_hazards.specs.Links.{cached, is_available_at, shows_host}

same_visible : (cached : Byte → Bool) (ns : List Node) (mask : ℕ) (b : Byte) (i j : ℕ) (p : Point) (own a : Act) → makes_writes_visible (λ c. false) [] mask b (record { number = i; point = p; act = own }) a ≡ makes_writes_visible cached ns mask b (record { number = j; point = p; act = own }) a
same_visible cached ns mask b i j p own (Depends r e) = refl
same_visible cached ns mask b i j p own (Signals s) = refl
same_visible cached ns mask b i j p own (Hosts x) = refl
same_visible cached ns mask b i j p own (Waits s) = refl
same_visible cached ns mask b i j p own (Runs c) = refl

pub shows_is : (past : Past) (w a : Node) (k : Access) (b : Byte) (i : ℕ) (r : Row) → is_host a.act ≡ true
    → ((to_host (act_of r.act) && edges.makes_visible (host_mask k) b (node_of 0 r)) && is_available_at past w b (node_of i r)) ≡ shows_host past w a k b (node_of i r)
shows_is past w a k b i r on_host =
    let n : Node = node_of i r in
    ap (λ (t : Bool). (to_host (act_of r.act) && t) && is_available_at past w b n) (same_visible (cached past) (nodes past) (host_mask k) b 0 i (point_of r.point) (act_of r.act) (act_of r.act))
    ∙ sym (ap (λ (t : Bool). t && (to_host n.act && makes_writes_visible (cached past) (nodes past) (host_mask k) b n n.act && is_available_at past w b n)) on_host)
