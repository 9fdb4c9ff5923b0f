-- A submit is to the queue of its commands.
use Rattle.std.proofs.Common.{◌≡◌, ℕ, ◌∷◌, length, IsTrue, refl, ap, sym, ◌∙◌, subst}
use Rattle.std.specs.Prelude.{Contains}
use Rattle.std.proofs.lemmas.Bool.{eq-eqb}
use Rattle.vk_model.specs.declared.entry.Entry.{Entry}
use Rattle.vk_model.specs.declared.entry.Entry.TheVariants as entry
use Rattle.vk_model.specs.declared.command.Cmd.{Cmd}
use Rattle.vk_model.specs.Trace.Point.{Past, Point, Action, host_of, entries}
use Rattle.vk_model.specs.Trace.Order.{host}
use Rattle.vk_model.specs.Trace.Structure.{IsOfBatch, Follows, IsOrdered}
use Rattle.vk_model.specs.Sync.Node.{Node, Act, Hosts, Waits, Signals, Runs, Depends, nodes, acts}
use Rattle.vk_model.specs.Sync.Edge.{is_submit}
use Rattle.vk_laws.specs.TraceCaches.{submits_to}
use Rattle.vk_model.proofs.Lists.Members.{contains-head}
use Rattle.vk_model.proofs.Trace.Structure.{follows_at, is_of_batch}
use Rattle.vk_model.proofs.Trace.Once.{entry_once, was_before}
use Rattle.vk_laws.proofs.Nodes.Points.{AtPoint, at_point, comes_at, action_of}
use Rattle.vk_laws.proofs.Nodes.Actions.{host_action}
use Rattle.std.proofs.lemmas.List.Elements.{Contains-append_right}

pub in_past : (all : Past) (n : Node) (s : AtPoint all n) → Contains all s.at
in_past all n s = subst (λ (l : Past). Contains l s.at) (sym s.whole) (Contains-append_right s.newer (s.at ∷ s.past) s.at (contains-head s.at s.past))

pub submits_there : (all : Past) → IsOrdered all → (q y : Node) (c : Cmd) → Contains (nodes all) q → Contains (nodes all) y → IsTrue (is_submit q.act) → y.act ≡ Runs c → q.point.entry ≡ y.point.entry → IsTrue (submits_to q.act y.point.queue)
submits_there all ordered q y c cq cy submit is_y same = go q.act refl submit
  where
    sq : AtPoint all q
    sq = at_point all q cq

    sy : AtPoint all y
    sy = at_point all y cy

    by_entry : (x : Entry) → q.act ≡ Hosts x → IsTrue (is_submit (Hosts x)) → IsTrue (submits_to (Hosts x) y.point.queue)
    by_entry (entry.Submit k bs) act h =
        let dq = host_action sq.at.action (entry.Submit k bs) (subst (λ (a : Act). Contains (acts sq.at.action) a) act sq.acted) in
        let dy = action_of sy.at.action c (subst (λ (a : Act). Contains (acts sy.at.action) a) is_y sy.acted) in
        let is_host : sq.at ≡ host (length (entries sq.past)) (entry.Submit k bs) = subst (λ (d : Action). Follows sq.past sq.at d) dq (follows_at all sq.past sq.at ordered (comes_at all q sq)).0 in
        let of_y : IsOfBatch sy.past sy.at = is_of_batch sy.past sy.at sy.at.action (ap host_of dy) (follows_at all sy.past sy.at ordered (comes_at all y sy)).0 in
        let places : length (entries sq.past) ≡ sy.at.entry = ap (λ (p : Point). p.entry) (sym is_host) ∙ ap (λ (p : Point). p.entry) (sym sq.pointed) ∙ same ∙ ap (λ (p : Point). p.entry) sy.pointed in
        let first : Contains all (host sy.at.entry (entry.Submit k bs)) = subst (λ (e : ℕ). Contains all (host e (entry.Submit k bs))) places (subst (λ (p : Point). Contains all p) is_host (in_past all q sq)) in
        let second : Contains all (host sy.at.entry (entry.Submit sy.at.queue of_y.batches)) = was_before all sy.past sy.at _ (comes_at all y sy) of_y.submitted in
        let one : entry.Submit k bs ≡ entry.Submit sy.at.queue of_y.batches = entry_once all ordered sy.at.entry _ _ first second in
        let queues : k ≡ sy.at.queue = cc in
        eq-eqb k y.point.queue (queues ∙ ap (λ (p : Point). p.queue) (sym sy.pointed))
    by_entry _ act h = absurd cc

    go : (a : Act) → q.act ≡ a → IsTrue (is_submit a) → IsTrue (submits_to a y.point.queue)
    go (Hosts x) act h = by_entry x act h
    go (Runs d) act h = absurd cc
    go (Waits s) act h = absurd cc
    go (Signals s) act h = absurd cc
    go (Depends r e) act h = absurd cc
