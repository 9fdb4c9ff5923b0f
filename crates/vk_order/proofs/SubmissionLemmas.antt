-- What is before a command is before each later one of its queue, where commands come after their submits.
use Rattle.std.proofs.Common.{◌≡◌, ◌⊎◌, inl, inr, ⊎_elim, ℕ, ◌<◌, ◌≤◌, List, [], ◌∷◌, length, true, false, ◌||◌, IsTrue, None, Some, refl, ap, sym, ◌∙◌, subst, arith}
use Rattle.std.specs.Prelude.{Contains, ◌==◌}
use Rattle.std.specs.List.{enumerate_from}
use Rattle.std.proofs.lemmas.Bool.{and_parts, and_from, or_left, or_right, or_cases, eqb-true, eq-eqb, cases_lt}
use Rattle.vk_model.specs.declared.command.Cmd.{Cmd}
use Rattle.vk_model.specs.declared.command.Cmd.TheVariants as cmd
use Rattle.vk_model.specs.declared.command.Dependency.{Dependency}
use Rattle.vk_model.specs.declared.command.Element.TheVariants as element
use Rattle.vk_model.specs.declared.entry.Entry.{Entry}
use Rattle.vk_model.specs.declared.entry.Entry.TheVariants as entry
use Rattle.vk_model.specs.Trace.Point.{Past, Point, Action, Host, Wait, Run, Signal, host_of, entries}
use Rattle.vk_model.specs.Trace.Order.{host}
use Rattle.vk_model.specs.Trace.Structure.{IsEarlier, by_entry, by_batch, by_turn, by_place, Follows, IsOrdered}
use Rattle.vk_model.specs.Sync.Node.{Node, Act, Hosts, Runs, Depends, Barrier, SetOf, AwaitOf, acts, command_acts, nodes, with_acts}
use Rattle.vk_model.specs.Sync.Edge.{edge, is_submit, is_command}
use Rattle.vk_model.specs.Sync.Before.{before, Path, direct, longer, IsNumbered}
use Rattle.vk_model.proofs.Lists.Members.{none_in, contains-cons, contains-head, only_one, mapped_from}
use Rattle.vk_model.proofs.Lists.Truths.{no}
use Rattle.vk_model.proofs.Sync.Numbers.{number_below, numbered, unique}
use Rattle.vk_model.proofs.Sync.Paths.{edge_forward, path_of_before, before_of_path, target, joined}
use Rattle.vk_model.proofs.Sync.HostActs.{submit_host}
use Rattle.vk_model.proofs.Sync.NewNodes.{with_acts_keeps}
use Rattle.vk_model.proofs.Trace.Structure.{entry_below, is_of_batch}
use Rattle.vk_model.proofs.Trace.Older.{comes_has}
use Rattle.vk_order.specs.declared.lines.Line.TheVariants.{Commands as OfCommands}
use Rattle.vk_order.specs.Lines.{line_of}
use Rattle.vk_order.specs.Prefixes.{submits, to_commands}
use Rattle.vk_order.specs.Submission.{AreSubmitted}
use Rattle.vk_order.proofs.LinePrefixes.{linked, of_linked, to_linked, node, command_line, host_edge}
use Rattle.vk_order.proofs.NodeEdges.{into_command}
use Rattle.vk_order.proofs.ElementPlaces.{with_member, member_point}

-- ---- what leads to a command, leads to the next one of its queue

to_command : (ns : List Node) (k d : Node) (y : Cmd) → d.act ≡ Runs y → linked ns k d ≡ (submits d.point.entry k || to_commands d.point.queue k)
to_command ns k d y is = subst (λ (t : Act). linked ns k (node d.number d.point t) ≡ (submits d.point.entry k || to_commands d.point.queue k)) (sym is) (into_command ns k.number d.number k.point d.point k.act y)

module _ (ns : List Node) (numbers : IsNumbered ns) (submitted : AreSubmitted ns) (c d : Node) (x y : Cmd) (ec : c.act ≡ Runs x) (ed : d.act ≡ Runs y) (q : c.point.queue ≡ d.point.queue) (hc : Contains ns c) (hd : Contains ns d) (lt : c.number < d.number) where
  -- the submit of the one leads to the submit of the other, or is it
  by_submit : (k : Node) → Contains ns k → IsTrue (submits c.point.entry k) → k.number < c.number → Path ns k d
  by_submit k hk is less =
      let parts = and_parts (is_submit k.act) _ is in
      let own = submitted.submitted d hd (ap is_command ed) in
      let s : Node = own.0 in
      let two = and_parts (is_submit s.act) _ own.2 in
      let at_k : k.point.entry ≡ c.point.entry = eqb-true k.point.entry c.point.entry parts.1 in
      let at_s : s.point.entry ≡ d.point.entry = eqb-true s.point.entry d.point.entry two.1 in
      let up = submitted.commands c d hc hd (ap is_command ec) (ap is_command ed) q lt in
      let le = submitted.submits k s hk own.1 parts.0 two.0 (omega arith) in
      let last : IsTrue (edge ns s d) = of_linked ns s d own.3 (to_command ns s d y ed ∙ or_left (submits d.point.entry s) (to_commands d.point.queue s) own.2) in
      ⊎_elim
      (λ first. longer (direct hk own.1 (host_edge ns k s first (submit_host k.act parts.0) (submit_host s.act two.0))) hd last)
      (λ high. direct hk hd (subst (λ (n : Node). IsTrue (edge ns n d)) (unique ns numbers s k own.1 hk (let a = high in omega arith)) last))
      (cases_lt k.number s.number)

  next_edge : (k : Node) → Contains ns k → IsTrue (edge ns k c) → Path ns k d
  next_edge k hk e =
      let less = edge_forward ns k c e in
      ⊎_elim
      (λ is. by_submit k hk is less)
      (λ is. direct hk hd (of_linked ns k d (omega arith) (to_command ns k d y ed ∙ or_right (submits d.point.entry k) (to_commands d.point.queue k) (ap (λ (r : ℕ). to_commands r k) (sym q) ∙ is))))
      (or_cases (submits c.point.entry k) (to_commands c.point.queue k) (sym (to_command ns k c x ec) ∙ to_linked ns k c e))

  next_path : (m : Node) → Path ns m c → Path ns m d
  next_path m p = go c refl p
    where
      go : (n : Node) → n ≡ c → Path ns m n → Path ns m d
      go n e (direct hm hn is) = next_edge m hm (subst (λ (n : Node). IsTrue (edge ns m n)) e is)
      go n e (longer {k = k} p hn is) = joined ns m k d p (next_edge k (target ns m k p) (subst (λ (n : Node). IsTrue (edge ns k n)) e is))

pub follow : (ns : List Node) → IsNumbered ns → AreSubmitted ns → (q : ℕ) (m c d : Node) → Contains ns m → Contains ns c → Contains ns d
    → line_of c ≡ Some (OfCommands q) → line_of d ≡ Some (OfCommands q) → c.number < d.number → IsTrue (before ns m c) → IsTrue (before ns m d)
follow ns numbers submitted q m c d hm hc hd lc ld lt h =
    let a = command_line c.point.queue q c.act lc in
    let b = command_line d.point.queue q d.act ld in
    before_of_path ns numbers m d hm hd (next_path ns numbers submitted c d a.0 b.0 a.1 b.1 (a.2 ∙ sym b.2) hc hd lt m (path_of_before ns numbers m c hm hc h))

-- ---- the nodes of an ordered past

-- an entry of a past has a node
entry_node : (past : Past) (e : ℕ) (x : Entry) → Contains past (host e x) → (s : Node) × Contains (nodes past) s × (s.point ≡ host e x) × (s.act ≡ Hosts x)
entry_node [] e x h = absurd (none_in _ h)
entry_node (p ∷ past) e x h = ⊎_elim
    (λ same. subst (λ (p : Point). (s : Node) × Contains (nodes (p ∷ past)) s × (s.point ≡ host e x) × (s.act ≡ Hosts x)) (sym same) (
      record { number = length (nodes past); point = host e x; act = Hosts x },
      contains-head _ (nodes past),
      refl,
      refl,
    ))
    (λ old. let found = entry_node past e x old in (found.0, with_acts_keeps p (acts p.action) (nodes past) found.0 found.1, found.2, found.3))
    (contains-cons p past (host e x) h)

point_there : (past : Past) (m : Node) → Contains (nodes past) m → Contains past m.point × Contains (acts m.point.action) m.act
point_there past m h = let found = member_point past m h in (comes_has past found.0 m.point found.1, found.2)

-- commands are of commands, and submits of the host
command_of : (d : Action) (a : Act) → Contains (acts d) a → is_command a ≡ true → host_of d ≡ None
command_of (Host x) a at is = ⊎_elim (λ same. absurd (let bad : is_command a ≡ false = ap is_command (sym same) in cc)) (λ later. absurd (none_in a later)) (contains-cons _ [] a at)
command_of (Wait s) a at is = refl
command_of (Run s) a at is = refl
command_of (Signal s) a at is = refl

no_submit : (x : Cmd) (a : Act) → Contains (command_acts x) a → is_submit a ≡ false
no_submit (cmd.Barrier es) a at = let of = mapped_from (Depends Barrier) es a at in ap is_submit (sym of.2)
no_submit (cmd.Set v ms) a at = let of = mapped_from (λ (p : ℕ × Dependency). Depends (SetOf v p.0) (element.Memory p.1)) (enumerate_from 0 ms) a at in ap is_submit (sym of.2)
no_submit (cmd.Await v ms) a at = let of = mapped_from (λ (p : ℕ × Dependency). Depends (AwaitOf v p.0) (element.Memory p.1)) (enumerate_from 0 ms) a at in ap is_submit (sym of.2)
no_submit _ a at = ap is_submit (sym (only_one _ a at))

submit_of : (d : Action) (a : Act) → Contains (acts d) a → is_submit a ≡ true → (x : Entry) × (d ≡ Host x)
submit_of (Host x) a at is = (x, refl)
submit_of (Wait s) a at is = no (ap is_submit (only_one _ a at) ∙ is)
submit_of (Run x) a at is = no (sym (no_submit x a at) ∙ is)
submit_of (Signal s) a at is = no (ap is_submit (only_one _ a at) ∙ is)

entry_up : (q p : Point) → IsEarlier q p → q.entry ≤ p.entry
entry_up q p (by_entry e) = omega arith
entry_up q p (by_batch e b) = omega arith
entry_up q p (by_turn e b t) = omega arith
entry_up q p (by_place e b t k) = omega arith

module _ (p : Point) (past : Past) (ordered : IsOrdered (p ∷ past)) (known : AreSubmitted (nodes past)) where
  abbrev IsNew : Node → Type 0
  IsNew n = (n.point ≡ p) × Contains (acts p.action) n.act × (length (nodes past) ≤ n.number)

  old_or_new : (n : Node) → Contains (nodes (p ∷ past)) n → Contains (nodes past) n ⊎ IsNew n
  old_or_new n h = with_member p (acts p.action) (nodes past) n h

  low : (n : Node) → Contains (nodes past) n → n.number < length (nodes past)
  low n h = number_below (nodes past) (numbered past) n h

  more_submitted : (d : Node) → IsTrue (is_command d.act) → Contains (nodes past) d ⊎ IsNew d → (s : Node) × Contains (nodes (p ∷ past)) s × IsTrue (submits d.point.entry s) × (s.number < d.number)
  more_submitted d is (inl h) = let s = known.submitted d h is in (s.0, with_acts_keeps p (acts p.action) (nodes past) s.0 s.1, s.2, s.3)
  more_submitted d is (inr new) =
      let of = is_of_batch past p p.action (command_of p.action d.act new.1 is) ordered.0 in
      let s = entry_node past p.entry (entry.Submit p.queue of.batches) of.submitted in
      let less = low s.0 s.1 in
      let le = new.2 in (
        s.0,
        with_acts_keeps p (acts p.action) (nodes past) s.0 s.1,
        and_from (is_submit s.0.act) (s.0.point.entry == d.point.entry) (ap is_submit s.3) (eq-eqb s.0.point.entry d.point.entry (ap (λ (m : Point). m.entry) s.2 ∙ ap (λ (m : Point). m.entry) (sym new.0))),
        omega arith,
      )

  more_commands : (c d : Node) → IsTrue (is_command c.act) → IsTrue (is_command d.act) → c.point.queue ≡ d.point.queue → c.number < d.number
      → Contains (nodes past) c ⊎ IsNew c → Contains (nodes past) d ⊎ IsNew d → c.point.entry ≤ d.point.entry
  more_commands c d ic id q lt (inl a) (inl b) = known.commands c d a b ic id q lt
  more_commands c d ic id q lt (inr a) (inl b) = absurd (let less = low d b in let le = a.2 in omega arith)
  more_commands c d ic id q lt (inr a) (inr b) = let e : c.point.entry ≡ d.point.entry = ap (λ (m : Point). m.entry) (a.0 ∙ sym b.0) in omega arith
  more_commands c d ic id q lt (inl a) (inr b) =
      let there = point_there past c a in
      let of = is_of_batch past p p.action (command_of p.action d.act b.1 id) ordered.0 in
      let up = entry_up c.point p (of.in_order c.point there.0 (command_of c.point.action c.act there.1 ic) (q ∙ ap (λ (m : Point). m.queue) b.0)) in
      let e : d.point.entry ≡ p.entry = ap (λ (m : Point). m.entry) b.0 in
      omega arith

  more_submits : (j k : Node) → IsTrue (is_submit j.act) → IsTrue (is_submit k.act) → j.point.entry ≤ k.point.entry → Contains (nodes (p ∷ past)) j → Contains (nodes (p ∷ past)) k
      → Contains (nodes past) j ⊎ IsNew j → Contains (nodes past) k ⊎ IsNew k → j.number ≤ k.number
  more_submits j k ij ik le hj hk (inl a) (inl b) = known.submits j k a b ij ik le
  more_submits j k ij ik le hj hk (inl a) (inr b) = let less = low j a in let high = b.2 in omega arith
  more_submits j k ij ik le hj hk (inr a) (inl b) =
      let of = submit_of p.action j.act a.1 ij in
      let f : p ≡ host (length (entries past)) of.0 = subst (λ (d : Action). Follows past p d) of.1 ordered.0 in
      let less = entry_below past ordered.1 k.point (point_there past k b).0 in
      let e : j.point.entry ≡ length (entries past) = ap (λ (m : Point). m.entry) (a.0 ∙ f) in
      absurd (omega arith)
  more_submits j k ij ik le hj hk (inr a) (inr b) =
      let of = submit_of p.action j.act a.1 ij in
      let last : Node = record { number = length (nodes past); point = p; act = Hosts of.0 } in
      let one = subst (λ (d : Action). Contains (with_acts p (acts d) (nodes past)) j) of.1 hj in
      let at_j : j.number ≡ length (nodes past) = newest_number j a.2 (contains-cons last (nodes past) j one) in
      let le_k = b.2 in
      omega arith
    where
      newest_number : (n : Node) → length (nodes past) ≤ n.number → (record { number = length (nodes past); point = p; act = Hosts (submit_of p.action j.act a.1 ij).0 } ≡ n) ⊎ Contains (nodes past) n → n.number ≡ length (nodes past)
      newest_number n le (inl same) = ap (λ (m : Node). m.number) (sym same)
      newest_number n le (inr old) = absurd (let less = low n old in omega arith)

pub ordered_submitted : (past : Past) → IsOrdered past → AreSubmitted (nodes past)
ordered_submitted [] o = record { submitted = λ d h. absurd (none_in d h); submits = λ j k h. absurd (none_in j h); commands = λ c d h. absurd (none_in c h) }
ordered_submitted (p ∷ past) o =
    let known = ordered_submitted past o.1 in
    record {
      submitted = λ d h is. more_submitted p past o known d is (old_or_new p past o known d h);
      submits = λ j k hj hk ij ik le. more_submits p past o known j k ij ik le hj hk (old_or_new p past o known j hj) (old_or_new p past o known k hk);
      commands = λ c d hc hd ic id q lt. more_commands p past o known c d ic id q lt (old_or_new p past o known c hc) (old_or_new p past o known d hd);
    }
