-- What the line of a node says of it, and which nodes lead to another.
use Rattle.std.proofs.Common.{◌≡◌, ℕ, List, ◌∷◌, Bool, false, not, ◌&&◌, ◌||◌, refl, ap, ◌∙◌, arith}
use Rattle.std.specs.Prelude.{Contains, ◌==◌}
use Rattle.vk_model.specs.declared.command.Cmd.{Cmd}
use Rattle.vk_model.specs.declared.command.Element.{Element}
use Rattle.vk_model.specs.declared.entry.Entry.{Entry}
use Rattle.vk_model.specs.declared.entry.SemaphoreSubmit.{SemaphoreSubmit}
use Rattle.vk_model.specs.Trace.Point.{Point}
use Rattle.vk_model.specs.Sync.Node.{Node, Act, Role, Hosts, Waits, Signals, Runs, Depends, Barrier, SetOf, AwaitOf}
use Rattle.vk_model.specs.Sync.Edge.{edge, is_host, is_submit, pairs, by_semaphore, siblings, signaled_by, signals_all}
use Rattle.vk_model.specs.Sync.Before.{IsNumbered}
use Rattle.vk_order.specs.declared.lines.Line.{Line}
use Rattle.vk_order.specs.Lines.{class_on, class_of}
use Rattle.vk_order.specs.Prefixes.{submits, to_transfer, to_commands, to_hosts, signals_on, elements_on, elements_to_host, waits_all_on, by_scopes, from_transfer, from_host}
use Rattle.vk_order.specs.Inner.Leads.{is_of_commands, is_of_elements, is_of_host, ends_in_transfer, ends_in_host, waits_for_all, leads_to_signals, line_leads}
use Rattle.vk_order.specs.Inner.Links.{by_name}
use Rattle.vk_order.proofs.Arrange.{holds-false}
use Rattle.vk_order.proofs.LinePrefixes.{node}
use Rattle.vk_order.proofs.NodeEdges.{pairs-host, pairs-wait, pairs-signal, pairs-command, pairs-barrier, pairs-set}
use Rattle.vk_order.proofs.ByEdges.{edge_host, edge_wait, edge_signal, edge_command, edge_barrier, edge_set, edge_await}
use Rattle.std.proofs.Math.Bool.{and-true, and-false, or-false}

-- ---- each test, by the line

module _ (q : ℕ) where
  transfers : (i : ℕ) (p : Point) (a : Act) → to_transfer q (node i p a) ≡ (is_of_commands q (class_on p.queue a) || ends_in_transfer q (class_on p.queue a))
  transfers i p (Hosts x) = first_of (cc, simp (and-true, and-false, or-false))
  transfers i p (Waits s) = first_of (cc, simp (and-true, and-false, or-false))
  transfers i p (Signals s) = first_of (cc, simp (and-true, and-false, or-false))
  transfers i p (Runs c) = first_of (cc, simp (and-true, and-false, or-false))
  transfers i p (Depends Barrier e) = first_of (cc, simp (and-true, and-false, or-false))
  transfers i p (Depends (SetOf v k) e) = first_of (cc, simp (and-true, and-false, or-false))
  transfers i p (Depends (AwaitOf v k) e) = first_of (cc, simp (and-true, and-false, or-false))

  commands : (i : ℕ) (p : Point) (a : Act) → to_commands q (node i p a) ≡ ends_in_transfer q (class_on p.queue a)
  commands i p (Hosts x) = first_of (cc, simp (and-true, and-false, or-false))
  commands i p (Waits s) = first_of (cc, simp (and-true, and-false, or-false))
  commands i p (Signals s) = first_of (cc, simp (and-true, and-false, or-false))
  commands i p (Runs c) = first_of (cc, simp (and-true, and-false, or-false))
  commands i p (Depends Barrier e) = first_of (cc, simp (and-true, and-false, or-false))
  commands i p (Depends (SetOf v k) e) = first_of (cc, simp (and-true, and-false, or-false))
  commands i p (Depends (AwaitOf v k) e) = first_of (cc, simp (and-true, and-false, or-false))

  hosts : (i : ℕ) (p : Point) (a : Act) → to_hosts q (node i p a) ≡ ends_in_host q (class_on p.queue a)
  hosts i p (Hosts x) = first_of (cc, simp (and-true, and-false, or-false))
  hosts i p (Waits s) = first_of (cc, simp (and-true, and-false, or-false))
  hosts i p (Signals s) = first_of (cc, simp (and-true, and-false, or-false))
  hosts i p (Runs c) = first_of (cc, simp (and-true, and-false, or-false))
  hosts i p (Depends Barrier e) = first_of (cc, simp (and-true, and-false, or-false))
  hosts i p (Depends (SetOf v k) e) = first_of (cc, simp (and-true, and-false, or-false))
  hosts i p (Depends (AwaitOf v k) e) = first_of (cc, simp (and-true, and-false, or-false))

  signals : (i : ℕ) (p : Point) (a : Act) → (signals_on q (node i p a) || elements_to_host q (node i p a)) ≡ leads_to_signals q (class_on p.queue a)
  signals i p (Hosts x) = first_of (cc, simp (and-true, and-false, or-false))
  signals i p (Waits s) = first_of (cc, simp (and-true, and-false, or-false))
  signals i p (Signals s) = first_of (cc, simp (and-true, and-false, or-false))
  signals i p (Runs c) = first_of (cc, simp (and-true, and-false, or-false))
  signals i p (Depends Barrier e) = first_of (cc, simp (and-true, and-false, or-false))
  signals i p (Depends (SetOf v k) e) = first_of (cc, simp (and-true, and-false, or-false))
  signals i p (Depends (AwaitOf v k) e) = first_of (cc, simp (and-true, and-false, or-false))

  elements : (i : ℕ) (p : Point) (a : Act) → elements_on q (node i p a) ≡ is_of_elements q (class_on p.queue a)
  elements i p (Hosts x) = first_of (cc, simp (and-true, and-false, or-false))
  elements i p (Waits s) = first_of (cc, simp (and-true, and-false, or-false))
  elements i p (Signals s) = first_of (cc, simp (and-true, and-false, or-false))
  elements i p (Runs c) = first_of (cc, simp (and-true, and-false, or-false))
  elements i p (Depends Barrier e) = first_of (cc, simp (and-true, and-false, or-false))
  elements i p (Depends (SetOf v k) e) = first_of (cc, simp (and-true, and-false, or-false))
  elements i p (Depends (AwaitOf v k) e) = first_of (cc, simp (and-true, and-false, or-false))

  all_waits : (i : ℕ) (p : Point) (a : Act) → waits_all_on q (node i p a) ≡ waits_for_all q (class_on p.queue a)
  all_waits i p (Hosts x) = first_of (cc, simp (and-true, and-false, or-false))
  all_waits i p (Waits s) = first_of (cc, simp (and-true, and-false, or-false))
  all_waits i p (Signals s) = first_of (cc, simp (and-true, and-false, or-false))
  all_waits i p (Runs c) = first_of (cc, simp (and-true, and-false, or-false))
  all_waits i p (Depends Barrier e) = first_of (cc, simp (and-true, and-false, or-false))
  all_waits i p (Depends (SetOf v k) e) = first_of (cc, simp (and-true, and-false, or-false))
  all_waits i p (Depends (AwaitOf v k) e) = first_of (cc, simp (and-true, and-false, or-false))

entries : (q : ℕ) (a : Act) → is_host a ≡ is_of_host (class_on q a)
entries q (Hosts x) = refl
entries q (Waits s) = refl
entries q (Signals s) = refl
entries q (Runs c) = refl
entries q (Depends Barrier e) = refl
entries q (Depends (SetOf v k) e) = refl
entries q (Depends (AwaitOf v k) e) = refl

-- ---- which nodes lead to another that isn't a sibling

submit_is_host : (a : Act) (b : Bool) → (is_host a || (is_submit a && b)) ≡ is_host a
submit_is_host (Hosts x) b = refl
submit_is_host (Waits s) b = refl
submit_is_host (Signals s) b = refl
submit_is_host (Runs c) b = refl
submit_is_host (Depends r e) b = refl

for_host : (h s p w : Bool) → (h || s) ≡ h → p ≡ false → (h || w) ≡ (h || (s || (p || w)))
for_host h s p w e f = grind arith

for_wait : (s p w : Bool) → p ≡ false → (s || w) ≡ (false || (s || (p || w)))
for_wait s p w f = grind arith

for_command : (s t l p w : Bool) → t ≡ l → p ≡ false → w ≡ false → (s || t) ≡ (l || (s || (p || w)))
for_command s t l p w e f g = grind arith

for_signal : (s a b t h e ft fh all la lc lt lh le p w : Bool) → (a || b) ≡ la → t ≡ (lc || lt) → h ≡ lh → e ≡ le → p ≡ false → w ≡ false
    → (s || (a || (b || (ft && t || (fh && h || all && e))))) ≡ ((la || (ft && (lc || lt) || fh && lh || all && le)) || (s || (p || w)))
for_signal s a b t h e ft fh all la lc lt lh le p w f g i j k l = grind arith

for_element : (s v t h b ft fh lv lc lt lh p w : Bool) → v ≡ lv → t ≡ (lc || lt) → h ≡ lh → b ≡ false → p ≡ false → w ≡ false
    → (s || (v || (ft && (t && not b) || fh && (h && not b)))) ≡ ((lv || (ft && (lc || lt) || fh && lh)) || (s || (p || w)))
for_element s v t h b ft fh lv lc lt lh p w f g i j k l = grind arith

for_await : (s v lv p w : Bool) → v ≡ lv → w ≡ false → (s || (v || p)) ≡ ((lv || false) || (s || (p || w)))
for_await s v lv p w e f = grind arith

module _ (n : Node) (ns : List Node) (numbers : IsNumbered (n ∷ ns)) (k : Node) (c : Contains ns k) (apart : siblings k n ≡ false) where
  abbrev q : ℕ
  q = n.point.queue

  abbrev line : Line
  line = class_of k

  abbrev submit : Bool
  submit = submits n.point.entry k

  -- what holds for the act
  abbrev Split : Act → Type 0
  Split a = edge ns k n ≡ (line_leads q a line || by_name ns k n)

  no_wait : (a : Act) → n.act ≡ a → by_semaphore ns k (node n.number n.point a) ≡ false → by_semaphore ns k n ≡ false
  no_wait a is none = ap (λ (b : Act). by_semaphore ns k (node n.number n.point b)) is ∙ none

  split_host : (x : Entry) → n.act ≡ Hosts x → Split (Hosts x)
  split_host x is =
      edge_host n ns numbers x is k c
      ∙ for_host (is_host k.act) submit (pairs k.act n.act) (by_semaphore ns k n) (submit_is_host k.act (k.point.entry == n.point.entry)) (ap (pairs k.act) is ∙ pairs-host k.act x)
      ∙ ap (λ (t : Bool). t || by_name ns k n) (entries k.point.queue k.act)

  split_wait : (s : SemaphoreSubmit) → n.act ≡ Waits s → Split (Waits s)
  split_wait s is =
      edge_wait n ns numbers s is k c
      ∙ for_wait submit (pairs k.act n.act) (by_semaphore ns k n) (ap (pairs k.act) is ∙ pairs-wait k.act s)

  split_signal : (s : SemaphoreSubmit) → n.act ≡ Signals s → Split (Signals s)
  split_signal s is =
      edge_signal n ns numbers s is k c
      ∙ for_signal submit (signals_on q k) (elements_to_host q k) (to_transfer q k) (to_hosts q k) (elements_on q k) (from_transfer n.act) (from_host n.act) (signals_all n.act)
      (leads_to_signals q line) (is_of_commands q line) (ends_in_transfer q line) (ends_in_host q line) (is_of_elements q line) (pairs k.act n.act) (by_semaphore ns k n)
      (signals q k.number k.point k.act) (transfers q k.number k.point k.act) (hosts q k.number k.point k.act) (elements q k.number k.point k.act)
      (ap (pairs k.act) is ∙ pairs-signal k.act s) (no_wait (Signals s) is (holds-false (signaled_by k.act)))
      ∙ ap (λ (a : Act). (leads_to_signals q line || (from_transfer a && (is_of_commands q line || ends_in_transfer q line) || from_host a && ends_in_host q line || signals_all a && is_of_elements q line)) || by_name ns k n) is

  split_command : (x : Cmd) → n.act ≡ Runs x → Split (Runs x)
  split_command x is =
      edge_command n ns numbers x is k c
      ∙ for_command submit (to_commands q k) (ends_in_transfer q line) (pairs k.act n.act) (by_semaphore ns k n) (commands q k.number k.point k.act)
      (ap (pairs k.act) is ∙ pairs-command k.act x) (no_wait (Runs x) is (holds-false (signaled_by k.act)))

  split_scopes : (r : Role) (e : Element) → n.act ≡ Depends r e → pairs k.act (Depends r e) ≡ false → edge ns k n ≡ (submit || (waits_all_on q k || by_scopes n k))
      → edge ns k n ≡ ((waits_for_all q line || (from_transfer (Depends r e) && (is_of_commands q line || ends_in_transfer q line) || from_host (Depends r e) && ends_in_host q line)) || by_name ns k n)
  split_scopes r e is none h =
      h
      ∙ for_element submit (waits_all_on q k) (to_transfer q k) (to_hosts q k) (siblings k n) (from_transfer n.act) (from_host n.act)
      (waits_for_all q line) (is_of_commands q line) (ends_in_transfer q line) (ends_in_host q line) (pairs k.act n.act) (by_semaphore ns k n)
      (all_waits q k.number k.point k.act) (transfers q k.number k.point k.act) (hosts q k.number k.point k.act) apart
      (ap (pairs k.act) is ∙ none) (no_wait (Depends r e) is (holds-false (signaled_by k.act)))
      ∙ ap (λ (a : Act). (waits_for_all q line || (from_transfer a && (is_of_commands q line || ends_in_transfer q line) || from_host a && ends_in_host q line)) || by_name ns k n) is

  split_element : (r : Role) (e : Element) → n.act ≡ Depends r e → Split (Depends r e)
  split_element Barrier e is = split_scopes Barrier e is (pairs-barrier k.act e) (edge_barrier n ns numbers e is k c)
  split_element (SetOf v i) e is = split_scopes (SetOf v i) e is (pairs-set k.act v i e) (edge_set n ns numbers v i e is k c)
  split_element (AwaitOf v i) e is =
      edge_await n ns numbers v i e is k c
      ∙ for_await submit (waits_all_on q k) (waits_for_all q line) (pairs k.act n.act) (by_semaphore ns k n) (all_waits q k.number k.point k.act) (no_wait (Depends (AwaitOf v i) e) is (holds-false (signaled_by k.act)))

  by_act : (a : Act) → n.act ≡ a → Split a
  by_act (Hosts x) is = split_host x is
  by_act (Waits s) is = split_wait s is
  by_act (Signals s) is = split_signal s is
  by_act (Runs x) is = split_command x is
  by_act (Depends r e) is = split_element r e is

  -- an edge is by the line or by a name
  pub edge_split : edge ns k n ≡ (line_leads n.point.queue n.act (class_of k) || by_name ns k n)
  edge_split = by_act n.act refl
