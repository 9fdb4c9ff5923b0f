-- What leads to a node of each kind.
use Rattle.std.proofs.Common.{◌≡◌, ℕ, List, Bool, false, ◌&&◌, ◌||◌, refl, ◌∙◌}
use Rattle.std.specs.Prelude.{◌==◌}
use Rattle.vk_model.specs.declared.command.Cmd.{Cmd}
use Rattle.vk_model.specs.declared.command.Element.{Element}
use Rattle.vk_model.specs.declared.entry.Entry.{Entry}
use Rattle.vk_model.specs.declared.entry.SemaphoreSubmit.{SemaphoreSubmit}
use Rattle.vk_model.specs.Basics.{holds}
use Rattle.vk_model.specs.Trace.Point.{Point}
use Rattle.vk_model.specs.Sync.Node.{Node, Act, Role, Hosts, Waits, Signals, Runs, Depends, Barrier, SetOf, AwaitOf, same_place}
use Rattle.vk_model.specs.Sync.Edge.{earlier, by_host, by_stages, by_signal, by_all_commands, pairs, by_semaphore, signaled_by, is_host, is_submit, is_element, is_signal, second_scope, signals_all, meet}
use Rattle.vk_order.specs.Lines.{has_transfer, has_host}
use Rattle.vk_order.specs.Prefixes.{submits, on_queue, to_transfer, to_commands, to_hosts, signals_on, elements_on, elements_to_host, waits_all_on, but_siblings, only, from_transfer, from_host, by_scopes}
use Rattle.vk_order.proofs.LinePrefixes.{linked, node}
use Rattle.vk_order.proofs.Arrange.{holds-false, scopes, stages_apart, stages, spread, turned, for_element, for_signal, for_two}
use Rattle.std.proofs.Math.Bool.{and-true, and-false, or-false}

-- ---- elements

module _ (ns : List Node) (k : Node) (j : ℕ) (q : Point) (r : Role) (e : Element) where
  abbrev element : Node
  element = node j q (Depends r e)

  element_stages : by_stages k element ≡ (only (from_transfer element.act) (but_siblings element (to_transfer q.queue)) k || only (from_host element.act) (but_siblings element (to_hosts q.queue)) k)
  element_stages =
      simp (and-true, and-false, scopes)
      (stages_apart (on_queue q.queue k) (is_element k.act && same_place k.point q) (holds (second_scope k.act) has_transfer) (from_transfer element.act) (holds (second_scope k.act) has_host) (from_host element.act))

  pub into_element : linked ns k element ≡ (submits q.entry k || (waits_all_on q.queue k || (only (from_transfer element.act) (but_siblings element (to_transfer q.queue)) k
      || (only (from_host element.act) (but_siblings element (to_hosts q.queue)) k || pairs k.act element.act))))
  into_element = for_element (by_host k element) (by_stages k element) (by_signal k element) (by_all_commands k element) (pairs k.act element.act) (by_semaphore (earlier element ns) k element)
      (submits q.entry k) (only (from_transfer element.act) (but_siblings element (to_transfer q.queue)) k) (only (from_host element.act) (but_siblings element (to_hosts q.queue)) k) (waits_all_on q.queue k)
      (simp and-false) element_stages (simp and-false) (simp (and-true, and-false)) (holds-false (signaled_by k.act))

-- ---- pairs of a set and its await

pub pairs-barrier : (a : Act) (e : Element) → pairs a (Depends Barrier e) ≡ false
pairs-barrier (Hosts x) e = refl
pairs-barrier (Waits t) e = refl
pairs-barrier (Signals t) e = refl
pairs-barrier (Runs c) e = refl
pairs-barrier (Depends Barrier d) e = refl
pairs-barrier (Depends (SetOf v k) d) e = refl
pairs-barrier (Depends (AwaitOf v k) d) e = refl

pub pairs-set : (a : Act) (u l : ℕ) (e : Element) → pairs a (Depends (SetOf u l) e) ≡ false
pairs-set (Hosts x) u l e = refl
pairs-set (Waits t) u l e = refl
pairs-set (Signals t) u l e = refl
pairs-set (Runs c) u l e = refl
pairs-set (Depends Barrier d) u l e = refl
pairs-set (Depends (SetOf v k) d) u l e = refl
pairs-set (Depends (AwaitOf v k) d) u l e = refl

without_last : (s w a b p : Bool) → p ≡ false → (s || (w || (a || (b || p)))) ≡ (s || (w || (a || b)))
without_last s w a b p e = rw (e, or-false b) refl

pub into_barrier : (ns : List Node) (k : Node) (j : ℕ) (q : Point) (e : Element)
    → linked ns k (node j q (Depends Barrier e)) ≡ (submits q.entry k || (waits_all_on q.queue k || by_scopes (node j q (Depends Barrier e)) k))
into_barrier ns k j q e = into_element ns k j q Barrier e
    ∙ (let n = node j q (Depends Barrier e) in without_last (submits q.entry k) (waits_all_on q.queue k) (only (from_transfer n.act) (but_siblings n (to_transfer q.queue)) k) (only (from_host n.act) (but_siblings n (to_hosts q.queue)) k) (pairs k.act n.act) (pairs-barrier k.act e))

pub into_set : (ns : List Node) (k : Node) (j : ℕ) (q : Point) (v i : ℕ) (e : Element)
    → linked ns k (node j q (Depends (SetOf v i) e)) ≡ (submits q.entry k || (waits_all_on q.queue k || by_scopes (node j q (Depends (SetOf v i) e)) k))
into_set ns k j q v i e = into_element ns k j q (SetOf v i) e
    ∙ (let n = node j q (Depends (SetOf v i) e) in without_last (submits q.entry k) (waits_all_on q.queue k) (only (from_transfer n.act) (but_siblings n (to_transfer q.queue)) k) (only (from_host n.act) (but_siblings n (to_hosts q.queue)) k) (pairs k.act n.act) (pairs-set k.act v i e))

pub into_await : (ns : List Node) (k : Node) (j : ℕ) (q : Point) (v i : ℕ) (e : Element)
    → linked ns k (node j q (Depends (AwaitOf v i) e)) ≡ (submits q.entry k || (waits_all_on q.queue k || pairs k.act (Depends (AwaitOf v i) e)))
into_await ns k j q v i e = into_element ns k j q (AwaitOf v i) e

-- ---- commands

pub pairs-command : (a : Act) (x : Cmd) → pairs a (Runs x) ≡ false
pairs-command (Hosts y) x = refl
pairs-command (Waits t) x = refl
pairs-command (Signals t) x = refl
pairs-command (Runs c) x = refl
pairs-command (Depends Barrier d) x = refl
pairs-command (Depends (SetOf v k) d) x = refl
pairs-command (Depends (AwaitOf v k) d) x = refl

pub into_command : (ns : List Node) (i j : ℕ) (p q : Point) (a : Act) (x : Cmd) → linked ns (node i p a) (node j q (Runs x)) ≡ (submits q.entry (node i p a) || to_commands q.queue (node i p a))
unfolding meet
into_command ns i j p q (Hosts y) x = simp (and-true, and-false, or-false, holds-false)
into_command ns i j p q (Waits s) x = simp (and-true, and-false, or-false, holds-false)
into_command ns i j p q (Signals s) x = simp (and-true, and-false, or-false, holds-false)
into_command ns i j p q (Runs c) x = simp (and-true, and-false, or-false, holds-false)
into_command ns i j p q (Depends Barrier e) x = simp (and-true, and-false, or-false, holds-false)
into_command ns i j p q (Depends (SetOf v k) e) x = simp (and-true, and-false, or-false, holds-false)
into_command ns i j p q (Depends (AwaitOf v k) e) x = simp (and-true, and-false, or-false, holds-false)

-- ---- signals, waits and host entries

pub pairs-signal : (a : Act) (s : SemaphoreSubmit) → pairs a (Signals s) ≡ false
pairs-signal (Hosts x) s = refl
pairs-signal (Waits t) s = refl
pairs-signal (Signals t) s = refl
pairs-signal (Runs c) s = refl
pairs-signal (Depends Barrier e) s = refl
pairs-signal (Depends (SetOf v k) e) s = refl
pairs-signal (Depends (AwaitOf v k) e) s = refl

pub pairs-wait : (a : Act) (s : SemaphoreSubmit) → pairs a (Waits s) ≡ false
pairs-wait (Hosts x) s = refl
pairs-wait (Waits t) s = refl
pairs-wait (Signals t) s = refl
pairs-wait (Runs c) s = refl
pairs-wait (Depends Barrier e) s = refl
pairs-wait (Depends (SetOf v k) e) s = refl
pairs-wait (Depends (AwaitOf v k) e) s = refl

pub pairs-host : (a : Act) (x : Entry) → pairs a (Hosts x) ≡ false
pairs-host (Hosts y) x = refl
pairs-host (Waits t) x = refl
pairs-host (Signals t) x = refl
pairs-host (Runs c) x = refl
pairs-host (Depends Barrier e) x = refl
pairs-host (Depends (SetOf v k) e) x = refl
pairs-host (Depends (AwaitOf v k) e) x = refl

host_or_submit : (a : Act) (b : Bool) → (is_host a || is_submit a && b) ≡ is_host a
host_or_submit (Hosts x) b = refl
host_or_submit (Waits s) b = refl
host_or_submit (Signals s) b = refl
host_or_submit (Runs c) b = refl
host_or_submit (Depends r e) b = refl

module _ (ns : List Node) (k : Node) (j : ℕ) (q : Point) (s : SemaphoreSubmit) where
  abbrev signal : Node
  signal = node j q (Signals s)

  pub into_signal : linked ns k signal ≡ (submits q.entry k || (signals_on q.queue k || (elements_to_host q.queue k || (only (from_transfer signal.act) (to_transfer q.queue) k
      || (only (from_host signal.act) (to_hosts q.queue) k || only (signals_all signal.act) (elements_on q.queue) k)))))
  into_signal = for_signal (by_host k signal) (by_stages k signal) (by_signal k signal) (by_all_commands k signal) (pairs k.act signal.act) (by_semaphore (earlier signal ns) k signal)
      (submits q.entry k) (only (from_transfer signal.act) (to_transfer q.queue) k) (only (from_host signal.act) (to_hosts q.queue) k) (signals_on q.queue k) (elements_to_host q.queue k) (only (signals_all signal.act) (elements_on q.queue) k)
      (simp and-false)
      (simp (and-true, and-false, scopes) (stages (on_queue q.queue k) (holds (second_scope k.act) has_transfer) (from_transfer signal.act) (holds (second_scope k.act) has_host) (from_host signal.act)))
      (simp and-true (spread (on_queue q.queue k) (is_signal k.act) (is_element k.act) (holds (second_scope k.act) has_host)))
      (simp (and-true, and-false, or-false) (turned (on_queue q.queue k) (is_element k.act) (signals_all signal.act)))
      (pairs-signal k.act s) (holds-false (signaled_by k.act))

  abbrev wait : Node
  wait = node j q (Waits s)

  pub into_wait : linked ns k wait ≡ (submits q.entry k || by_semaphore (earlier wait ns) k wait)
  into_wait = for_two (by_host k wait) (by_stages k wait) (by_signal k wait) (by_all_commands k wait) (pairs k.act wait.act) (by_semaphore (earlier wait ns) k wait)
      (submits q.entry k) (by_semaphore (earlier wait ns) k wait)
      (simp and-false) (simp (scopes, and-false)) (simp and-false) (simp and-false) (pairs-wait k.act s) refl

module _ (ns : List Node) (k : Node) (j : ℕ) (q : Point) (x : Entry) where
  abbrev entry_node : Node
  entry_node = node j q (Hosts x)

  pub into_host : linked ns k entry_node ≡ (is_host k.act || by_semaphore (earlier entry_node ns) k entry_node)
  into_host = for_two (by_host k entry_node) (by_stages k entry_node) (by_signal k entry_node) (by_all_commands k entry_node) (pairs k.act entry_node.act) (by_semaphore (earlier entry_node ns) k entry_node)
      (is_host k.act) (by_semaphore (earlier entry_node ns) k entry_node)
      (simp and-true (host_or_submit k.act (k.point.entry == q.entry))) (simp and-false) (simp and-false) (simp and-false) (pairs-host k.act x) refl
