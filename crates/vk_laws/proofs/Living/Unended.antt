-- A piece that hasn't run is of a command whose resources haven't ended.
use Rattle.std.proofs.Common.{◌≡◌, ◌⊎◌, inl, inr, ⊎_elim, ℕ, ◌<◌, List, [], ◌∷◌, ◌++◌, length, Bool, false, not, ◌&&◌, IsTrue, refl, ap, sym, ◌∙◌, subst, append_assoc, Some}
use Rattle.std.specs.Prelude.{Contains, nat_lt, ◌==◌}
use Rattle.std.specs.List.{list_all, enumerate_from}
use Rattle.std.proofs.lemmas.Bool.{eqb-true, eq-eqb, false_from_ne_true, and_parts, and_from, or_left, or_right}
use Rattle.vk_model.specs.declared.command.Cmd.{Cmd}
use Rattle.vk_model.specs.declared.command.Cmd.TheVariants as cmd
use Rattle.vk_model.specs.declared.entry.Entry.{Entry}
use Rattle.vk_model.specs.declared.entry.Entry.TheVariants as entry
use Rattle.vk_model.specs.declared.rule.Rule.{Rule}
use Rattle.vk_model.specs.declared.rule.At.TheVariants as at
use Rattle.vk_model.specs.Basics.{holds, among}
use Rattle.vk_model.specs.Trace.Point.{Past, Point, Action, Host, Wait, Run, Signal, host_of, label, at_of}
use Rattle.vk_model.specs.Trace.Objects.{made, ended, ended_by, live}
use Rattle.vk_model.specs.Trace.Order.{host, order}
use Rattle.vk_model.specs.Trace.Structure.{IsOfBatch, Follows, IsOrdered}
use Rattle.vk_model.specs.World.Ownership.{uses}
use Rattle.vk_model.specs.Rules.Fault.{Comes, older}
use Rattle.vk_model.specs.Rules.Ids.{asked_by, asked_by_command, is_buffer, is_image, is_resource, until}
use Rattle.vk_model.specs.Rules.Table.{breaks}
use Rattle.vk_model.specs.Run.Pieces.{pieces}
use Rattle.vk_model.specs.Run.Runs.{is_done, Stage}
use Rattle.vk_model.specs.Sync.Node.{Node, Act, Hosts, Waits, Signals, Runs, nodes, acts, command_acts, same_place}
use Rattle.vk_model.specs.Sync.Before.{before}
use Rattle.vk_model.specs.Sync.Complete.{named_by_act, names, nodes_for, is_complete, is_busy, submitted}
use Rattle.vk_model.proofs.Lists.Members.{contains-cons, contains-head, only_one, member_passes, all_passes, filtered, filter_has}
use Rattle.vk_model.proofs.Lists.Truths.{clash, unless}
use Rattle.vk_model.proofs.Trace.Structure.{follows_at, is_of_batch}
use Rattle.vk_model.proofs.Trace.Once.{come_once}
use Rattle.vk_laws.specs.Machine.{Task}
use Rattle.vk_laws.proofs.Nodes.Steady.{IsNew, new_ids, live_ids, comes_within, made_up}
use Rattle.vk_laws.proofs.Nodes.Points.{AtPoint as OfPoint, at_point, comes_at, action_of, not_mapped}
use Rattle.vk_laws.proofs.Nodes.Submits.{in_past}
use Rattle.vk_laws.proofs.Nodes.NoHazard.{split_at, before_in_all}
use Rattle.vk_laws.proofs.Running.Stages.{ordered_past}
use Rattle.vk_laws.proofs.Running.StageTasks.{Known}
use Rattle.vk_laws.proofs.Running.AtStage.{AtPoint, grows}
use Rattle.vk_laws.proofs.Living.Ran.{ran_before}
use Rattle.vk_laws.proofs.Living.Coming.{which_first, comes_on, point_within, node_within, until_there}
use Rattle.vk_laws.proofs.Living.Submitted.{is_submitted}
use Rattle.vk_laws.proofs.Living.Alive.{IsAlive, is_alive, Ending, ending, has_ended, batch_names_live}
use Rattle.vk_laws.proofs.Living.Ends.{host_node, host_node_there, Ended, idle, other, when_ended}

-- ---- what a command that runs names

-- it is one of the resources used, and asked for as such
pub record IsUsed (us : List ℕ) (r : ℕ) (kind : Entry → Bool) : Type 0 where
  pub used : IsTrue (among r us)
  pub kinds : (y : Entry) → IsTrue (kind y) → IsTrue (is_resource y)

buffers : (y : Entry) → IsTrue (is_buffer y) → IsTrue (is_resource y)
buffers (entry.Buffer i b) h = refl
buffers _ h = absurd cc

images : (y : Entry) → IsTrue (is_image y) → IsTrue (is_resource y)
images (entry.Image i m) h = refl
images _ h = absurd cc

first : (e : ℕ) (k : Entry → Bool) (us : List ℕ) → ((y : Entry) → IsTrue (k y) → IsTrue (is_resource y)) → (r : ℕ) (kind : Entry → Bool) → ◌≡◌ {A = ℕ × (Entry → Bool)} (e, k) (r, kind) → IsUsed (e ∷ us) r kind
first e k us fits r kind same = record {
  used = or_left (r == e) (among r us) (eq-eqb r e (sym (ap (λ (p : ℕ × (Entry → Bool)). p.0) same)));
  kinds = subst (λ (p : ℕ × (Entry → Bool)). (y : Entry) → IsTrue (p.1 y) → IsTrue (is_resource y)) same fits;
}

two : (e : ℕ) (k : Entry → Bool) (d : ℕ) (l : Entry → Bool) → ((y : Entry) → IsTrue (k y) → IsTrue (is_resource y)) → ((y : Entry) → IsTrue (l y) → IsTrue (is_resource y)) → (r : ℕ) (kind : Entry → Bool)
    → Contains {X = ℕ × (Entry → Bool)} ((e, k) ∷ (d, l) ∷ []) (r, kind) → IsUsed (e ∷ d ∷ []) r kind
two e k d l fits too r kind c = ⊎_elim
    (λ same. first e k (d ∷ []) fits r kind same)
    (λ later. let u : IsUsed (d ∷ []) r kind = first d l [] too r kind (only_one (d, l) (r, kind) later) in record { used = or_right (r == e) (among r (d ∷ [])) u.used; kinds = u.kinds })
    (contains-cons (e, k) ((d, l) ∷ []) (r, kind) c)

pub named_used : (c : Cmd) → Contains (command_acts c) (Runs c) → (r : ℕ) (kind : Entry → Bool) → Contains (asked_by_command c) (r, kind) → IsUsed (uses c) r kind
named_used (cmd.Fill b o n w) runs r kind h = first b is_buffer [] buffers r kind (only_one (b, is_buffer) (r, kind) h)
named_used (cmd.Update b o bytes) runs r kind h = first b is_buffer [] buffers r kind (only_one (b, is_buffer) (r, kind) h)
named_used (cmd.Copy s d gs) runs r kind h = two s is_buffer d is_buffer buffers buffers r kind h
named_used (cmd.Clear i l color rs) runs r kind h = first i is_image [] images r kind (only_one (i, is_image) (r, kind) h)
named_used (cmd.CopyIn b i l gs) runs r kind h = two b is_buffer i is_image buffers images r kind h
named_used (cmd.CopyOut i l b gs) runs r kind h = two i is_image b is_buffer images buffers r kind h
named_used (cmd.CopyImage s l d m gs) runs r kind h = two s is_image d is_image images images r kind h
named_used (cmd.Barrier es) runs r kind h = absurd (not_mapped _ (cmd.Barrier es) (λ x e. cc) es runs)
named_used (cmd.Set v ms) runs r kind h = absurd (not_mapped _ (cmd.Set v ms) (λ x e. cc) (enumerate_from 0 ms) runs)
named_used (cmd.Await v ms) runs r kind h = absurd (not_mapped _ (cmd.Await v ms) (λ x e. cc) (enumerate_from 0 ms) runs)

-- what names a resource is of a command's point
pub runs_of : (d : Action) (a : Act) → Contains (acts d) a → (r : ℕ) → IsTrue (among r (named_by_act a)) → (c : Cmd) × (d ≡ Run c)
runs_of (Run c) a ca r h = (c, refl)
runs_of (Host x) a ca r h = let no : IsTrue (among r (named_by_act (Hosts x))) = subst (λ (b : Act). IsTrue (among r (named_by_act b))) (sym (only_one (Hosts x) a ca)) h in absurd cc
runs_of (Wait x) a ca r h = let no : IsTrue (among r (named_by_act (Waits x))) = subst (λ (b : Act). IsTrue (among r (named_by_act b))) (sym (only_one (Waits x) a ca)) h in absurd cc
runs_of (Signal x) a ca r h = let no : IsTrue (among r (named_by_act (Signals x))) = subst (λ (b : Act). IsTrue (among r (named_by_act b))) (sym (only_one (Signals x) a ca)) h in absurd cc

-- two commands at one place are reported alike
pub alike : (p q m : Point) → m ≡ q → IsTrue (same_place m p) → (c d : Cmd) → p.action ≡ Run c → q.action ≡ Run d → at_of q ≡ at_of p
alike p q m same h c d is_p is_q =
    let parts = and_parts (m.entry == p.entry && m.batch == p.batch) (m.place == p.place) h in
    let first = and_parts (m.entry == p.entry) (m.batch == p.batch) parts.0 in
    let entries : q.entry ≡ p.entry = ap (λ (x : Point). x.entry) (sym same) ∙ eqb-true m.entry p.entry first.0 in
    let batches : q.batch ≡ p.batch = ap (λ (x : Point). x.batch) (sym same) ∙ eqb-true m.batch p.batch first.1 in
    let places : q.place ≡ p.place = ap (λ (x : Point). x.place) (sym same) ∙ eqb-true m.place p.place parts.1 in
    ap (label q) is_q ∙ (λ i. at.Command (entries i) (batches i) (places i)) ∙ sym (ap (label p) is_p)

pub some_in : {X : Type 0} (xs : List X) → IsTrue (nat_lt 0 (length xs)) → (x : X) × Contains xs x
some_in [] h = absurd cc
some_in (x ∷ xs) h = (x, contains-head x xs)

submit_ends_none : (x y : Entry) (r : ℕ) → Host x ≡ Host y → ended_by x ≡ [] → IsTrue (among r (ended_by y)) → ⊥
submit_ends_none x y r same none h =
    let one : x ≡ y = cc in
    let no : IsTrue (among r []) = subst (λ (l : List ℕ). IsTrue (among r l)) (ap ended_by (sym one) ∙ none) h in
    cc

-- ---- a piece of a stage that hasn't run

module _ {t : List Entry} (known : Known t) (s : Stage) (did : List Task) (i : AtPoint known s did) where
  abbrev past : Past
  past = s.front.past

  pub comes : (b : Past) (q : Point) → Comes past b q → Comes (order t) b q
  comes b q h = let g = grows known s did i in comes_within (order t) g.newer past g.whole b q h

  pub sound : (b : Past) (q : Point) → Comes past b q → (k : Rule) → IsTrue (breaks k b q) → ⊥
  sound b q c k h = known.sound b q k (comes b q c, h)

  pub new : IsNew past
  new b q h = new_ids (order t) known.sound b q (comes b q h)

  ordered : IsOrdered past
  ordered = ordered_past known.keeps t s i.placed

  -- what was made stays the same object
  pub made_on : (b : Past) (q : Point) → Comes past b q → (r : ℕ) (x : Entry) → made b r ≡ Some x → made past r ≡ Some x
  made_on b q c r x is =
      let f = split_at past b q c in
      let whole : past ≡ (f.0 ++ q ∷ []) ++ b = f.1 ∙ sym (append_assoc f.0 (q ∷ []) b) in
      ap (λ (l : Past). made l r) whole ∙ made_up (f.0 ++ q ∷ []) b r x (subst (λ (l : Past). IsNew l) whole new) is

  module _ (n : Node) (c : Cmd) (k : ℕ) (cn : Contains (nodes past) n) (runs : n.act ≡ Runs c) (lt : k < length (pieces past c)) (left : is_done s.done (n.number, k) ≡ false) where
    pub a : OfPoint past n
    a = at_point past n cn

    pub run : a.at.action ≡ Run c
    run = action_of a.at.action c (subst (λ (x : Act). Contains (acts a.at.action) x) runs a.acted)

    pub here : Comes past a.past a.at
    here = comes_at past n a

    pub follows : Follows a.past a.at a.at.action × IsOrdered a.past
    follows = follows_at past a.past a.at ordered here

    pub of_batch : IsOfBatch a.past a.at
    of_batch = is_of_batch a.past a.at a.at.action (ap host_of run) follows.0

    abbrev pub submit : Point
    submit = host a.at.entry (entry.Submit a.at.queue of_batch.batches)

    abbrev pub judged : Past
    judged = until a.at.entry a.past

    pub submit_comes : Comes a.past judged submit
    submit_comes = until_there a.past follows.1 a.at.entry (entry.Submit a.at.queue of_batch.batches) of_batch.submitted

    -- so at a host entry after the submit its command is busy
    module _ (b : Past) (q : Point) (y : Entry) (cq : Comes past b q) (is : q.action ≡ Host y) (later : Comes b judged submit) (r : ℕ) (used : IsTrue (among r (uses c))) (free : is_busy b (nodes (q ∷ b)) (host_node b q y) r ≡ false) where
      abbrev ns : List Node
      ns = nodes (q ∷ b)

      abbrev h : Node
      h = host_node b q y

      named : IsTrue (names r a.at.action)
      named = member_passes (λ d. among r (named_by_act d)) (acts a.at.action) n.act a.acted (subst (λ (d : Act). IsTrue (among r (named_by_act d))) (sym runs) used)

      complete : IsTrue (is_complete ns h a.at r)
      complete = unless (is_complete ns h a.at r) (λ yet.
          clash (member_passes (λ p. names r p.action && not (is_complete ns h p r)) (submitted b) a.at (is_submitted b judged a.past a.at c of_batch run later) (and_from (names r a.at.action) (not (is_complete ns h a.at r)) named yet)) free)

      parts : IsTrue (nat_lt 0 (length (nodes_for ns a.at r))) × IsTrue (list_all (λ m. before ns m h) (nodes_for ns a.at r))
      parts = and_parts (nat_lt 0 (length (nodes_for ns a.at r))) (list_all (λ m. before ns m h) (nodes_for ns a.at r)) complete

      -- its node isn't newer than that entry
      not_newer : Comes a.past b q → ⊥
      not_newer c_before =
          let m = some_in (nodes_for ns a.at r) parts.0 in
          let f = filtered (λ m. same_place m.point a.at && among r (named_by_act m.act)) ns m.0 m.1 in
          let its = and_parts (same_place m.0.point a.at) (among r (named_by_act m.0.act)) f.1 in
          let e : OfPoint (q ∷ b) m.0 = at_point (q ∷ b) m.0 f.0 in
          let d = runs_of e.at.action m.0.act e.acted r its.1 in
          come_once past a.past a.at e.at ordered here (point_within a.past b q e.at c_before (in_past (q ∷ b) m.0 e)) (alike a.at e.at m.0.point e.pointed its.0 c d.0 run d.1)

      -- and so all its pieces have run
      not_older : Comes b a.past a.at → ⊥
      not_older c_before =
          let cn_then : Contains ns n = node_within known.keeps (q ∷ b) a.past a.at n (older c_before) a.here in
          let place : IsTrue (same_place n.point a.at) = subst (λ (p : Point). IsTrue (same_place p a.at)) (sym a.pointed) (rw (eq-eqb a.at.entry a.at.entry refl, eq-eqb a.at.batch a.at.batch refl, eq-eqb a.at.place a.at.place refl) refl) in
          let its : IsTrue (among r (named_by_act n.act)) = subst (λ (d : Act). IsTrue (among r (named_by_act d))) (sym runs) used in
          let listed : Contains (nodes_for ns a.at r) n = filter_has (λ m. same_place m.point a.at && among r (named_by_act m.act)) ns n cn_then (and_from (same_place n.point a.at) (among r (named_by_act n.act)) place its) in
          let first : IsTrue (before ns n h) = all_passes (λ m. before ns m h) (nodes_for ns a.at r) n parts.1 listed in
          let ch : Contains ns h = host_node_there b q y is in
          let first_on = before_in_all known.keeps past b q cq n h ch first in
          clash (ran_before known s did i n h c y k cn (node_within known.keeps past b q h cq ch) runs refl first_on lt) left

      pub never_free : ⊥
      never_free = go (which_first past a.past b a.at q here cq)
        where
          go : Comes a.past b q ⊎ Comes b a.past a.at ⊎ ((a.past ≡ b) × (a.at ≡ q)) → ⊥
          go (inl e) = not_newer e
          go (inr (inl e)) = not_older e
          go (inr (inr e)) = let no : Run c ≡ Host y = sym run ∙ ap (λ (p : Point). p.action) e.1 ∙ is in cc

    pub submit_here : Comes past judged submit
    submit_here = comes_on past a.past judged a.at submit here submit_comes

    -- what it names was live when it was submitted
    pub named_alive : (r : ℕ) (kind : Entry → Bool) → Contains (asked_by_command c) (r, kind) → IsAlive judged r kind
    named_alive r kind asked = is_alive judged r kind (batch_names_live a.past a.at (ap host_of run) (live_ids (order t) known.sound a.past a.at (comes a.past a.at here)) r kind (subst (λ (d : Action). Contains (asked_by d) (r, kind)) (sym run) asked))

    pub unended : (r : ℕ) (kind : Entry → Bool) → Contains (asked_by_command c) (r, kind) → ended past r ≡ false
    unended r kind asked = false_from_ne_true (ended past r) (λ e. refute (ending past r e))
      where
        its : IsUsed (uses c) r kind
        its = named_used c (subst (λ (d : Action). Contains (acts d) (Runs c)) run (subst (λ (x : Act). Contains (acts a.at.action) x) runs a.acted)) r kind asked

        alive : IsAlive judged r kind
        alive = named_alive r kind asked

        refute : Ending past r → ⊥
        refute e = go (which_first past judged e.before submit e.at submit_here e.comes)
          where
            by_end : Comes e.before judged submit → Ended e.before e.at e.by e.is_host r → ⊥
            by_end later (idle live free) = never_free e.before e.at e.by e.comes e.is_host later r its.used free
            by_end later (other asked_as was apart) =
                let both : Some alive.object ≡ Some was.object = sym (made_on judged submit submit_here r alive.object alive.made_it) ∙ made_on e.before e.at e.comes r was.object was.made_it in
                let same : alive.object ≡ was.object = cc in
                apart was.object was.is_kind (subst (λ (y : Entry). IsTrue (is_resource y)) same (its.kinds alive.object alive.is_kind))

            go : Comes judged e.before e.at ⊎ Comes e.before judged submit ⊎ ((judged ≡ e.before) × (submit ≡ e.at)) → ⊥
            go (inl c) = clash (has_ended judged e.before e.at e.by r c e.is_host e.ends) alive.unended
            go (inr (inl later)) = by_end later (when_ended e.before e.at e.by e.is_host (λ k h. sound e.before e.at e.comes k h) r e.ends)
            go (inr (inr same)) = submit_ends_none (entry.Submit a.at.queue of_batch.batches) e.by r (ap (λ (p : Point). p.action) same.1 ∙ e.is_host) refl e.ends

    -- so it is live
    pub named_live : (r : ℕ) (kind : Entry → Bool) → Contains (asked_by_command c) (r, kind) → IsTrue (holds (live past r) kind)
    named_live r kind asked = let was = named_alive r kind asked in rw (unended r kind asked, made_on judged submit submit_here r was.object was.made_it) was.is_kind
