-- Of the nodes of a line the earlier ones lead wherever a later one leads.
use Rattle.std.proofs.Common.{◌≡◌, ℕ, ◌<◌, List, Bool, true, false, ◌&&◌, ◌||◌, not, IsTrue, Some, refl, ap, sym, ◌∙◌, arith}
use Rattle.std.specs.Prelude.{nat_lt, Contains, ◌==◌}
use Rattle.std.proofs.lemmas.Bool.{lt-ltb, and_parts, and_from, or_right, eq-eqb, or_left}
use Rattle.vk_model.specs.declared.command.Cmd.{Cmd}
use Rattle.vk_model.specs.declared.command.Element.{Element}
use Rattle.vk_model.specs.declared.entry.Entry.{Entry}
use Rattle.vk_model.specs.declared.entry.SemaphoreSubmit.{SemaphoreSubmit}
use Rattle.vk_model.specs.Basics.{has_bits, holds}
use Rattle.vk_model.specs.World.Ownership.{dependency_of}
use Rattle.vk_model.specs.Trace.Point.{Point}
use Rattle.vk_model.specs.Sync.Node.{Node, Act, Role, Hosts, Waits, Signals, Runs, Depends, Barrier, SetOf, AwaitOf, same_place}
use Rattle.vk_model.specs.Sync.Edge.{edge, earlier, by_host, by_stages, by_signal, by_all_commands, pairs, by_semaphore, meet, first_scope, is_host, is_element, is_signal, signals_all, siblings, all_commands}
use Rattle.vk_model.specs.Sync.Before.{before, Path, direct, longer, IsNumbered}
use Rattle.vk_order.specs.declared.lines.Line.{Line}
use Rattle.vk_order.specs.declared.lines.Line.TheVariants.{Host as OfHost, Commands as OfCommands, Signals as OfSignals, Elements as OfElements, Sets as OfSets, Waits as OfWaits}
use Rattle.vk_order.specs.Lines.{has_transfer, has_host, line_on, line_of, IsPlaced}
use Rattle.vk_model.proofs.Lists.Truths.{no}
use Rattle.vk_model.proofs.Sync.Paths.{path_of_before, before_of_path, joined, edge_forward}

-- ---- edges, but for the order of numbers

-- Whether some kind of edge leads from m to n.
abbrev pub linked : List Node → Node → Node → Bool
linked ns m n = by_host m n || by_stages m n || by_signal m n || by_all_commands m n || pairs m.act n.act || by_semaphore (earlier n ns) m n

pub of_linked : (ns : List Node) (m n : Node) → m.number < n.number → linked ns m n ≡ true → IsTrue (edge ns m n)
unfolding edge
of_linked ns m n lt h = rw (lt-ltb m.number n.number lt) h

pub to_linked : (ns : List Node) (m n : Node) → IsTrue (edge ns m n) → linked ns m n ≡ true
unfolding edge
to_linked ns m n h = (and_parts (nat_lt m.number n.number) (linked ns m n) h).1

abbrev pub node : ℕ → Point → Act → Node
node i p a = record { number = i; point = p; act = a }

-- ---- what a node of each line leads to

command_linked : (ns : List Node) (i j : ℕ) (p q : Point) (x y : Cmd) (n : Node) → p.queue ≡ q.queue → linked ns (node i p (Runs x)) n ≡ linked ns (node j q (Runs y)) n
command_linked ns i j p q x y n e = rw e refl

abbrev elements_queue : Node → ℕ → Bool
elements_queue n queue = not (is_host n.act) && queue == n.point.queue

scopes_form : Bool → Bool → Act → Bool
scopes_form transfer host a = holds (first_scope a) (λ b. transfer && has_transfer b || host && has_host b)

wait_form : ℕ → Bool → Bool → Bool → Node → Bool
wait_form queue transfer host all n =
    elements_queue n queue && true && true && scopes_form transfer host n.act || elements_queue n queue && is_signal n.act && false || elements_queue n queue && (all && is_element n.act) || false || false

wait_role : (ns : List Node) (i : ℕ) (p : Point) (x : SemaphoreSubmit) (n : Node)
    → linked ns (node i p (Waits x)) n ≡ wait_form p.queue (has_transfer x.stages.0) (has_host x.stages.0) (has_bits x.stages.0 all_commands) n
unfolding wait_form scopes_form meet
wait_role ns i p x n = refl

wait_linked : (ns : List Node) (i j : ℕ) (p q : Point) (x y : SemaphoreSubmit) (n : Node) → p.queue ≡ q.queue
    → has_transfer x.stages.0 ≡ has_transfer y.stages.0 → has_host x.stages.0 ≡ has_host y.stages.0 → has_bits x.stages.0 all_commands ≡ has_bits y.stages.0 all_commands
    → linked ns (node i p (Waits x)) n ≡ linked ns (node j q (Waits y)) n
wait_linked ns i j p q x y n e t h a =
    let same : wait_form p.queue (has_transfer x.stages.0) (has_host x.stages.0) (has_bits x.stages.0 all_commands) n ≡ wait_form q.queue (has_transfer y.stages.0) (has_host y.stages.0) (has_bits y.stages.0 all_commands) n = rw (e, t, h, a) refl in
    wait_role ns i p x n ∙ same ∙ sym (wait_role ns j q y n)

-- ---- elements: those of one command have no edges among themselves

element_form : ℕ → Bool → Bool → Bool → Node → Bool
element_form queue sibling transfer host n =
    elements_queue n queue && not sibling && true && scopes_form transfer host n.act || elements_queue n queue && is_signal n.act && host || elements_queue n queue && (signals_all n.act || false) || false || false

role_form : (ns : List Node) (i : ℕ) (p : Point) (r : Role) (x : Element) (n : Node) (l : Line) → line_on p.queue (Depends r x) ≡ Some l
    → linked ns (node i p (Depends r x)) n ≡ element_form p.queue (is_element n.act && same_place p n.point) (has_transfer (dependency_of x).destination_stages.0) (has_host (dependency_of x).destination_stages.0) n
unfolding element_form scopes_form meet
role_form ns i p Barrier x n l e = refl
role_form ns i p (AwaitOf v k) x n l e = refl
role_form ns i p (SetOf v k) x n l e = absurd cc

-- fewer siblings, more edges
drop : (q s t u r z : Bool) → (t ≡ true → s ≡ true) → (q && not s && u && r || z) ≡ true → (q && not t && u && r || z) ≡ true
drop false s t u r z imp h = h
drop true false false u r z imp h = h
drop true true false u r z imp h = or_right (u && r) z h
drop true true true u r z imp h = h
drop true false true u r z imp h = no (imp refl)

or_more : (a b z : Bool) → (a ≡ true → b ≡ true) → (a || z) ≡ true → (b || z) ≡ true
or_more true b z imp h = rw (imp refl) refl
or_more false b z imp h = or_right b z h

fewer : (queue : ℕ) (s t : Bool) (transfer host : Bool) (n : Node) → (t ≡ true → s ≡ true) → element_form queue s transfer host n ≡ true → element_form queue t transfer host n ≡ true
unfolding element_form
fewer queue s t transfer host n imp h =
    let r = scopes_form transfer host n.act in
    let q = elements_queue n queue in
    let b = q && is_signal n.act && host in
    let c = q && (signals_all n.act || false) in
    or_more (q && not s && true && r || b || c || false) (q && not t && true && r || b || c || false) false
    (or_more (q && not s && true && r || b || c) (q && not t && true && r || b || c) false
    (or_more (q && not s && true && r || b) (q && not t && true && r || b) c
    (drop q s t true r b imp))) h

element_linked : (ns : List Node) (i j : ℕ) (p q : Point) (r s : Role) (x y : Element) (n : Node) (l : Line)
    → line_on p.queue (Depends r x) ≡ Some l → line_on q.queue (Depends s y) ≡ Some l → p.queue ≡ q.queue
    → has_transfer (dependency_of x).destination_stages.0 ≡ has_transfer (dependency_of y).destination_stages.0 → has_host (dependency_of x).destination_stages.0 ≡ has_host (dependency_of y).destination_stages.0
    → ((is_element n.act && same_place p n.point) ≡ true → (is_element n.act && same_place q n.point) ≡ true)
    → linked ns (node j q (Depends s y)) n ≡ true → linked ns (node i p (Depends r x)) n ≡ true
element_linked ns i j p q r s x y n l lp lq e t h imp is =
    let here = is_element n.act && same_place q n.point in
    let far : element_form q.queue here (has_transfer (dependency_of y).destination_stages.0) (has_host (dependency_of y).destination_stages.0) n ≡ true = sym (role_form ns j q s y n l lq) ∙ is in
    let near : element_form p.queue here (has_transfer (dependency_of x).destination_stages.0) (has_host (dependency_of x).destination_stages.0) n ≡ true = rw (e, t, h) far in
    role_form ns i p r x n l lp ∙ fewer p.queue here (is_element n.act && same_place p n.point) (has_transfer (dependency_of x).destination_stages.0) (has_host (dependency_of x).destination_stages.0) n imp near

-- ---- which act a line has

pub host_line : (q : ℕ) (a : Act) → line_on q a ≡ Some OfHost → (x : Entry) × (a ≡ Hosts x)
host_line q (Hosts x) e = (x, refl)
host_line q (Waits s) e = absurd cc
host_line q (Signals s) e = absurd cc
host_line q (Runs c) e = absurd cc
host_line q (Depends Barrier x) e = absurd cc
host_line q (Depends (SetOf v k) x) e = absurd cc
host_line q (Depends (AwaitOf v k) x) e = absurd cc

pub command_line : (q r : ℕ) (a : Act) → line_on q a ≡ Some (OfCommands r) → (x : Cmd) × (a ≡ Runs x) × (q ≡ r)
command_line q r (Hosts x) e = absurd cc
command_line q r (Waits s) e = absurd cc
command_line q r (Signals s) e = absurd cc
command_line q r (Runs c) e = (c, refl, cc)
command_line q r (Depends Barrier x) e = absurd cc
command_line q r (Depends (SetOf v k) x) e = absurd cc
command_line q r (Depends (AwaitOf v k) x) e = absurd cc

pub signal_line : (q r : ℕ) (a : Act) → line_on q a ≡ Some (OfSignals r) → (x : SemaphoreSubmit) × (a ≡ Signals x) × (q ≡ r)
signal_line q r (Hosts x) e = absurd cc
signal_line q r (Waits s) e = absurd cc
signal_line q r (Signals s) e = (s, refl, cc)
signal_line q r (Runs c) e = absurd cc
signal_line q r (Depends Barrier x) e = absurd cc
signal_line q r (Depends (SetOf v k) x) e = absurd cc
signal_line q r (Depends (AwaitOf v k) x) e = absurd cc

pub wait_line : (q r : ℕ) (t h all : Bool) (a : Act) → line_on q a ≡ Some (OfWaits r t h all)
    → (x : SemaphoreSubmit) × (a ≡ Waits x) × (q ≡ r) × (has_transfer x.stages.0 ≡ t) × (has_host x.stages.0 ≡ h) × (has_bits x.stages.0 all_commands ≡ all)
wait_line q r t h all (Hosts x) e = absurd cc
wait_line q r t h all (Waits s) e = (s, refl, cc, cc, cc, cc)
wait_line q r t h all (Signals s) e = absurd cc
wait_line q r t h all (Runs c) e = absurd cc
wait_line q r t h all (Depends Barrier x) e = absurd cc
wait_line q r t h all (Depends (SetOf v k) x) e = absurd cc
wait_line q r t h all (Depends (AwaitOf v k) x) e = absurd cc

pub element_line : (q r : ℕ) (t h : Bool) (a : Act) → line_on q a ≡ Some (OfElements r t h)
    → (role : Role) × (x : Element) × (a ≡ Depends role x) × (q ≡ r) × (has_transfer (dependency_of x).destination_stages.0 ≡ t) × (has_host (dependency_of x).destination_stages.0 ≡ h)
element_line q r t h (Hosts x) e = absurd cc
element_line q r t h (Waits s) e = absurd cc
element_line q r t h (Signals s) e = absurd cc
element_line q r t h (Runs c) e = absurd cc
element_line q r t h (Depends Barrier x) e = (Barrier, x, refl, cc, cc, cc)
element_line q r t h (Depends (SetOf v k) x) e = absurd cc
element_line q r t h (Depends (AwaitOf v k) x) e = (AwaitOf v k, x, refl, cc, cc, cc)

pub no_set_line : (q r : ℕ) (a : Act) → line_on q a ≡ Some (OfSets r) → ⊥
no_set_line q r (Hosts x) e = cc
no_set_line q r (Waits s) e = cc
no_set_line q r (Signals s) e = cc
no_set_line q r (Runs c) e = cc
no_set_line q r (Depends Barrier x) e = cc
no_set_line q r (Depends (SetOf v k) x) e = cc
no_set_line q r (Depends (AwaitOf v k) x) e = cc

-- ---- paths

module _ (ns : List Node) (numbers : IsNumbered ns) (c d n : Node) (cc' : Contains ns c) (cd : Contains ns d) (cn : Contains ns n) where
  -- what leads on as d does is before what d is before
  lead : ((k : Node) → Contains ns k → IsTrue (edge ns d k) → IsTrue (edge ns c k)) → (k : Node) → Path ns d k → Path ns c k
  lead edges k (direct e f h) = direct cc' f (edges k f h)
  lead edges k (longer {k = m} p f h) = longer (lead edges m p) f h

  by_edges : ((k : Node) → Contains ns k → IsTrue (edge ns d k) → IsTrue (edge ns c k)) → IsTrue (before ns d n) → IsTrue (before ns c n)
  by_edges edges h = before_of_path ns numbers c n cc' cn (lead edges n (path_of_before ns numbers d n cd cn h))

  by_first : IsTrue (edge ns c d) → IsTrue (before ns d n) → IsTrue (before ns c n)
  by_first e h = before_of_path ns numbers c n cc' cn (joined ns c d n (direct cc' cd e) (path_of_before ns numbers d n cd cn h))

-- ---- edges of two nodes of a line

module _ (ns : List Node) (c d : Node) (lt : c.number < d.number) where
  later_than : (n : Node) → IsTrue (edge ns d n) → c.number < n.number
  later_than n h = let on = edge_forward ns d n h in omega arith

  as_linked : (n : Node) → (linked ns d n ≡ true → linked ns c n ≡ true) → IsTrue (edge ns d n) → IsTrue (edge ns c n)
  as_linked n imp h = of_linked ns c n (later_than n h) (imp (to_linked ns d n h))

  pub command_edges : (x y : Cmd) → c.act ≡ Runs x → d.act ≡ Runs y → c.point.queue ≡ d.point.queue → (n : Node) → IsTrue (edge ns d n) → IsTrue (edge ns c n)
  command_edges x y ec ed q n =
      as_linked n (λ h. ap (λ (a : Act). linked ns (node c.number c.point a) n) ec ∙ command_linked ns c.number d.number c.point d.point x y n q
      ∙ ap (λ (a : Act). linked ns (node d.number d.point a) n) (sym ed) ∙ h)

  wait_edges : (x y : SemaphoreSubmit) → c.act ≡ Waits x → d.act ≡ Waits y → c.point.queue ≡ d.point.queue
      → has_transfer x.stages.0 ≡ has_transfer y.stages.0 → has_host x.stages.0 ≡ has_host y.stages.0 → has_bits x.stages.0 all_commands ≡ has_bits y.stages.0 all_commands
      → (n : Node) → IsTrue (edge ns d n) → IsTrue (edge ns c n)
  wait_edges x y ec ed q t h a n =
      as_linked n (λ is. ap (λ (a : Act). linked ns (node c.number c.point a) n) ec ∙ wait_linked ns c.number d.number c.point d.point x y n q t h a
      ∙ ap (λ (a : Act). linked ns (node d.number d.point a) n) (sym ed) ∙ is)

  element_edges : (r s : Role) (x y : Element) (l : Line) → c.act ≡ Depends r x → d.act ≡ Depends s y → line_of c ≡ Some l → line_of d ≡ Some l → c.point.queue ≡ d.point.queue
      → has_transfer (dependency_of x).destination_stages.0 ≡ has_transfer (dependency_of y).destination_stages.0 → has_host (dependency_of x).destination_stages.0 ≡ has_host (dependency_of y).destination_stages.0
      → IsPlaced ns → Contains ns c → Contains ns d → (n : Node) → Contains ns n → IsTrue (edge ns d n) → IsTrue (edge ns c n)
  element_edges r s x y l ec ed lc ld q t h placed hc hd n hn e =
      as_linked n (λ is. ap (λ (a : Act). linked ns (node c.number c.point a) n) ec
      ∙ element_linked ns c.number d.number c.point d.point r s x y n l (ap (λ (a : Act). line_on c.point.queue a) (sym ec) ∙ lc) (ap (λ (a : Act). line_on d.point.queue a) (sym ed) ∙ ld) q t h kin
      (ap (λ (a : Act). linked ns (node d.number d.point a) n) (sym ed) ∙ is)) e
    where
      kin : (is_element n.act && same_place c.point n.point) ≡ true → (is_element n.act && same_place d.point n.point) ≡ true
      kin f =
          let on = edge_forward ns d n e in
          let parts = and_parts (is_element n.act) (same_place c.point n.point) f in
          let first : IsTrue (siblings c n) = rw (ec, parts.0, parts.1) refl in
          let middle : IsTrue (is_element d.act) = rw ed refl in
          let r : IsTrue (siblings d n) = placed.together c d n hc hd hn lt on middle first in
          and_from (is_element n.act) (same_place d.point n.point) parts.0 (and_parts (is_element d.act && is_element n.act) (same_place d.point n.point) r).1

  pub host_edge : IsTrue (is_host c.act) → IsTrue (is_host d.act) → IsTrue (edge ns c d)
  unfolding edge
  host_edge hc hd = rw (lt-ltb c.number d.number lt, hc, hd) refl

  pub signal_edge : (x y : SemaphoreSubmit) → c.act ≡ Signals x → d.act ≡ Signals y → c.point.queue ≡ d.point.queue → IsTrue (edge ns c d)
  signal_edge x y ec ed q =
      let same : (c.point.queue == d.point.queue) ≡ true = eq-eqb c.point.queue d.point.queue q in
      let is : by_signal c d ≡ true = rw (ec, ed, same) refl in
      of_linked ns c d lt (or_left _ (by_semaphore (earlier d ns) c d) (or_left _ (pairs c.act d.act) (or_left _ (by_all_commands c d) (or_right (by_host c d || by_stages c d) (by_signal c d) is))))

-- ---- the law

module _ (ns : List Node) (c d n : Node) (numbers : IsNumbered ns) (placed : IsTrue (is_element c.act) → IsPlaced ns) (hc : Contains ns c) (hd : Contains ns d) (hn : Contains ns n) (lt : c.number < d.number) where
  pub prefix : (l : Line) → line_of c ≡ Some l → line_of d ≡ Some l → IsTrue (before ns d n) → IsTrue (before ns c n)
  prefix OfHost lc ld =
      let a = host_line c.point.queue c.act lc in
      let b = host_line d.point.queue d.act ld in
      by_first ns numbers c d n hc hd hn (host_edge ns c d lt (rw a.1 refl) (rw b.1 refl))
  prefix (OfCommands q) lc ld =
      let a = command_line c.point.queue q c.act lc in
      let b = command_line d.point.queue q d.act ld in
      by_edges ns numbers c d n hc hd hn (λ k hk. command_edges ns c d lt a.0 b.0 a.1 b.1 (a.2 ∙ sym b.2) k)
  prefix (OfSignals q) lc ld =
      let a = signal_line c.point.queue q c.act lc in
      let b = signal_line d.point.queue q d.act ld in
      by_first ns numbers c d n hc hd hn (signal_edge ns c d lt a.0 b.0 a.1 b.1 (a.2 ∙ sym b.2))
  prefix (OfElements q t h) lc ld =
      let a = element_line c.point.queue q t h c.act lc in
      let b = element_line d.point.queue q t h d.act ld in
      by_edges ns numbers c d n hc hd hn (λ k hk. element_edges ns c d lt a.0 b.0 a.1 b.1 (OfElements q t h) a.2 b.2 lc ld (a.3 ∙ sym b.3) (a.4 ∙ sym b.4) (a.5 ∙ sym b.5) (placed (rw a.2 refl)) hc hd k hk)
  prefix (OfSets q) lc ld = absurd (no_set_line c.point.queue q c.act lc)
  prefix (OfWaits q t h all) lc ld =
      let a = wait_line c.point.queue q t h all c.act lc in
      let b = wait_line d.point.queue q t h all d.act ld in
      by_edges ns numbers c d n hc hd hn (λ k hk. wait_edges ns c d lt a.0 b.0 a.1 b.1 (a.2 ∙ sym b.2) (a.3 ∙ sym b.3) (a.4 ∙ sym b.4) (a.5 ∙ sym b.5) k)
