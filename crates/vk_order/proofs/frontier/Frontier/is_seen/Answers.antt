use Rattle.std.proofs.Common.{◌≡◌, ◌&&◌, ◌∷◌, inl, inr, IsTrue, true, refl, sym, ◌∙◌, subst}
use Rattle.std.proofs.lemmas.Bool.{and_parts, and_from}
use Rattle.vk_model.specs.Sync.Node.{Node}
use Rattle.vk_model.specs.Sync.Edge.{edge, is_command}
use Rattle.vk_model.specs.Sync.Seen.{seen, makes_writes_available}
use Rattle.vk_model.proofs.Lists.Truths.{bool_same, clash}
use Rattle.vk_model.specs.World.Bytes.{resource_at}
use Rattle.vk_order.specs.Bytes.{byte_of}
use Rattle.vk_order.specs.Wide.{access_of}
use Rattle.vk_order.specs.Limited.{IsMark}
use Rattle.vk_order.specs.Inner.Parts.{Serves}
use Rattle.vk_order.proofs.ServeLemmas.{seen_served, answered_any}
use Rattle.vk_order.proofs.frontier.Frontier.is_seen.Goals as goal
use Rattle.vk_order.proofs.PartLemmas.{from_slice}

pub returns-then-is_served : goal.returns-then-is_served
returns-then-is_served c = λ ns n w cached is new_node write on at le asked.
    let k = access_of c.args.access in
    let b = byte_of c.args.byte in
    let any = answered_any cached n.act k b asked in
    let parts = from_slice c.parts_of.ensures (is.parts.ordered (resource_at b)) c.parts_from-parts.ensures in
    let serves = (c.is_served.ensures ns n w cached c.args.from is new_node any parts le write.there on at).0 c.if-is_served.true in
    c.if-is_served.true ∙ sym ((seen_served ns n w cached k b new_node.numbers write asked).1 (w, inl refl, serves))

pub returns-else-is_served : goal.returns-else-is_served
returns-else-is_served c = λ ns n w cached is new_node write on at le asked.
    let k = access_of c.args.access in
    let b = byte_of c.args.byte in
    let any = answered_any cached n.act k b asked in
    let parts = from_slice c.parts_of.ensures (is.parts.ordered (resource_at b)) c.parts_from-parts.ensures in
    let law = seen_served ns n w cached k b new_node.numbers write asked in
    let served = c.is_served.ensures ns n w cached c.args.from is new_node any parts le write.there on at in
    let marked = c.is_marked.ensures ns n w cached c.args.from is new_node any parts le write.there on at in
    let into : (m : Node) → IsMark cached ns b w m → Serves cached ns n k b m → c.is_marked.result ≡ true = (λ m mark s. by_mark ns n w m cached k b (c.is_marked.result)
    (λ e. clash (served.1 (subst (λ (x : Node). Serves cached ns n k b x) e s)) c.if-is_served.false)
    (λ hm lim all. marked.1 (m, hm, lim, all, s)) mark) in
    bool_same c.is_marked.result (seen cached (n ∷ ns) w n k b)
    (λ e. let r = marked.0 e in
    let one = and_parts (is_command w.act && makes_writes_available cached ns r.0 b r.0.act) (edge ns w r.0) r.3 in
    let two = and_parts (is_command w.act) (makes_writes_available cached ns r.0 b r.0.act) one.0 in
    law.1 (r.0, inr (two.0, r.1, r.2, two.1, one.1), r.4))
    (λ h. let r = law.0 h in into r.0 r.1 r.2)
  where
    by_mark : (ns : Rattle.std.proofs.Common.List Node) (n w m : Node) (cached : Rattle.vk_model.specs.World.Bytes.Byte → Rattle.std.proofs.Common.Bool) (k : Rattle.vk_model.specs.Sync.Seen.Access) (b : Rattle.vk_model.specs.World.Bytes.Byte) (t : Rattle.std.proofs.Common.Bool)
        → (m ≡ w → t ≡ true) → (Rattle.std.specs.Prelude.Contains ns m → IsTrue (Rattle.vk_order.specs.Limited.is_limited m.act) → IsTrue (is_command w.act && makes_writes_available cached ns m b m.act && edge ns w m) → t ≡ true) → IsMark cached ns b w m → t ≡ true
    by_mark ns n w m cached k b t same other (inl e) = same e
    by_mark ns n w m cached k b t same other (inr (command, hm, lim, makes, e)) =
        other hm lim (and_from (is_command w.act && makes_writes_available cached ns m b m.act) (edge ns w m) (and_from (is_command w.act) (makes_writes_available cached ns m b m.act) command makes) e)
