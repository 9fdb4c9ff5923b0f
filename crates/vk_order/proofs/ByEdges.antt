-- What leads to a new node leads by the source of its last edge.
use Rattle.std.proofs.Common.{◌≡◌, inl, inr, ℕ, ◌<◌, List, [], ◌∷◌, length, Bool, ◌||◌, IsTrue, refl, ap, sym, ◌∙◌, subst, arith}
use Rattle.std.specs.Prelude.{Contains}
use Rattle.std.proofs.lemmas.Bool.{lt-ltb}
use Rattle.vk_model.specs.declared.command.Cmd.{Cmd}
use Rattle.vk_model.specs.declared.command.Element.{Element}
use Rattle.vk_model.specs.declared.entry.Entry.{Entry}
use Rattle.vk_model.specs.declared.entry.SemaphoreSubmit.{SemaphoreSubmit}
use Rattle.vk_model.specs.Sync.Node.{Node, Act, Hosts, Waits, Signals, Runs, Depends, Barrier, SetOf, AwaitOf}
use Rattle.vk_model.specs.Sync.Edge.{edge, earlier, pairs, by_semaphore, is_host, signals_all}
use Rattle.vk_model.specs.Sync.Before.{before, Path, direct, longer, IsNumbered}
use Rattle.vk_model.proofs.Lists.Members.{contains-head, contains-tail}
use Rattle.vk_model.proofs.Sync.Numbers.{number_below, in_rest, edge-new}
use Rattle.vk_model.proofs.Sync.Growth.{before-older}
use Rattle.vk_model.proofs.Sync.Paths.{edge_forward, source, path_of_before, before_of_path}
use Rattle.vk_order.specs.Prefixes.{Leads, IsAfter, submits, signals_on, elements_on, elements_to_host, to_transfer, to_commands, to_hosts, waits_all_on, by_scopes, only, from_transfer, from_host}
use Rattle.vk_order.proofs.LinePrefixes.{linked, node}
use Rattle.vk_order.proofs.NodeEdges.{into_host, into_wait, into_signal, into_command, into_barrier, into_set, into_await}

-- ---- the last edge of a path

module _ (n : Node) (ns : List Node) (numbers : IsNumbered (n ∷ ns)) where
  low : (k : Node) → Contains ns k → k.number < length ns
  low k c = number_below ns numbers.1 k c

  pub old_before : (x y : Node) → Contains ns y → before (n ∷ ns) x y ≡ before ns x y
  old_before x y c = before-older n ns numbers.0 x y (low y c)

  -- what leads to the new node leads by the source of its last edge
  pub by_last : (m : Node) → Contains ns m → IsTrue (before (n ∷ ns) m n) → Leads ns (λ k. edge ns k n) m
  by_last m c h = go n refl (path_of_before (n ∷ ns) numbers m n (contains-tail n ns m c) (contains-head n ns) h)
    where
      go : (y : Node) → y ≡ n → Path (n ∷ ns) m y → Leads ns (λ k. edge ns k n) m
      go y e (direct f g is) = (m, c, sym (edge-new n ns m) ∙ subst (λ (x : Node). IsTrue (edge (n ∷ ns) m x)) e is, inl refl)
      go y e (longer {k = k} p g is) =
          let last : IsTrue (edge (n ∷ ns) k n) = subst (λ (x : Node). IsTrue (edge (n ∷ ns) k x)) e is in
          let lt = edge_forward (n ∷ ns) k n last in
          let there : Contains ns k = in_rest n ns numbers.0 k (Rattle.vk_model.proofs.Sync.Paths.target (n ∷ ns) m k p) (let at = numbers.0 in omega arith) in
          let first = before_of_path (n ∷ ns) numbers m k (contains-tail n ns m c) (contains-tail n ns k there) p in
          (k, there, sym (edge-new n ns k) ∙ last, inr (sym (old_before m k there) ∙ first))

  pub by_edge : (m : Node) → Contains ns m → Leads ns (λ k. edge ns k n) m → IsTrue (before (n ∷ ns) m n)
  by_edge m c (k, there, is, inl e) =
      before_of_path (n ∷ ns) numbers m n (contains-tail n ns m c) (contains-head n ns)
      (direct (contains-tail n ns m c) (contains-head n ns) (edge-new n ns m ∙ subst (λ (x : Node). IsTrue (edge ns x n)) (sym e) is))
  by_edge m c (k, there, is, inr h) =
      let first = path_of_before (n ∷ ns) numbers m k (contains-tail n ns m c) (contains-tail n ns k there) (old_before m k there ∙ h) in
      before_of_path (n ∷ ns) numbers m n (contains-tail n ns m c) (contains-head n ns) (longer first (contains-head n ns) (edge-new n ns k ∙ is))

  -- ---- tests that say which nodes lead to the new one

  pub edge_linked : (k : Node) → Contains ns k → edge ns k n ≡ linked ns k n
  unfolding edge
  edge_linked k c = rw (lt-ltb k.number n.number (let lt = low k c in let at = numbers.0 in omega arith)) refl

  pub after : (test : Node → Bool) → ((k : Node) → Contains ns k → edge ns k n ≡ test k) → IsAfter ns n test
  after test same m c = (
    (λ h. let r = by_last m c h in (r.0, r.1, sym (same r.0 r.1) ∙ r.2, r.3)),
    (λ (k, there, is, way). by_edge m c (k, there, same k there ∙ is, way)),
  )

  pub all_earlier : earlier n ns ≡ ns
  all_earlier = go ns (λ k c. let lt = low k c in let at = numbers.0 in omega arith)
    where
      go : (ks : List Node) → ((k : Node) → Contains ks k → k.number < n.number) → earlier n ks ≡ ks
      go [] less = refl
      go (m ∷ ks) less = rw (lt-ltb m.number n.number (less m (contains-head m ks)), go ks (λ k c. less k (contains-tail m ks k c))) refl

  -- ---- each kind of node

  pub edge_host : (x : Entry) → n.act ≡ Hosts x → (k : Node) → Contains ns k → edge ns k n ≡ (is_host k.act || by_semaphore ns k n)
  edge_host x is k c =
      edge_linked k c
      ∙ subst (λ (t : Act). linked ns k (node n.number n.point t) ≡ (is_host k.act || by_semaphore (earlier (node n.number n.point t) ns) k (node n.number n.point t))) (sym is) (into_host ns k n.number n.point x)
      ∙ ap (λ (l : List Node). is_host k.act || by_semaphore l k n) all_earlier

  pub edge_wait : (s : SemaphoreSubmit) → n.act ≡ Waits s → (k : Node) → Contains ns k → edge ns k n ≡ (submits n.point.entry k || by_semaphore ns k n)
  edge_wait s is k c =
      edge_linked k c
      ∙ subst (λ (t : Act). linked ns k (node n.number n.point t) ≡ (submits n.point.entry k || by_semaphore (earlier (node n.number n.point t) ns) k (node n.number n.point t))) (sym is) (into_wait ns k n.number n.point s)
      ∙ ap (λ (l : List Node). submits n.point.entry k || by_semaphore l k n) all_earlier

  pub edge_signal : (s : SemaphoreSubmit) → n.act ≡ Signals s → (k : Node) → Contains ns k
      → edge ns k n ≡ (submits n.point.entry k || (signals_on n.point.queue k || (elements_to_host n.point.queue k || (only (from_transfer n.act) (to_transfer n.point.queue) k
      || (only (from_host n.act) (to_hosts n.point.queue) k || only (signals_all n.act) (elements_on n.point.queue) k)))))
  edge_signal s is k c =
      edge_linked k c
      ∙ subst (λ (t : Act). linked ns k (node n.number n.point t) ≡ (submits n.point.entry k || (signals_on n.point.queue k || (elements_to_host n.point.queue k || (only (from_transfer t) (to_transfer n.point.queue) k
      || (only (from_host t) (to_hosts n.point.queue) k || only (signals_all t) (elements_on n.point.queue) k)))))) (sym is) (into_signal ns k n.number n.point s)

  pub edge_command : (x : Cmd) → n.act ≡ Runs x → (k : Node) → Contains ns k → edge ns k n ≡ (submits n.point.entry k || to_commands n.point.queue k)
  edge_command x is k c =
      edge_linked k c
      ∙ subst (λ (t : Act). linked ns k (node n.number n.point t) ≡ (submits n.point.entry k || to_commands n.point.queue k)) (sym is) (into_command ns k.number n.number k.point n.point k.act x)

  pub edge_barrier : (e : Element) → n.act ≡ Depends Barrier e → (k : Node) → Contains ns k → edge ns k n ≡ (submits n.point.entry k || (waits_all_on n.point.queue k || by_scopes n k))
  edge_barrier e is k c =
      edge_linked k c
      ∙ subst (λ (t : Act). linked ns k (node n.number n.point t) ≡ (submits n.point.entry k || (waits_all_on n.point.queue k || by_scopes (node n.number n.point t) k))) (sym is) (into_barrier ns k n.number n.point e)

  pub edge_set : (v i : ℕ) (e : Element) → n.act ≡ Depends (SetOf v i) e → (k : Node) → Contains ns k → edge ns k n ≡ (submits n.point.entry k || (waits_all_on n.point.queue k || by_scopes n k))
  edge_set v i e is k c =
      edge_linked k c
      ∙ subst (λ (t : Act). linked ns k (node n.number n.point t) ≡ (submits n.point.entry k || (waits_all_on n.point.queue k || by_scopes (node n.number n.point t) k))) (sym is) (into_set ns k n.number n.point v i e)

  pub edge_await : (v i : ℕ) (e : Element) → n.act ≡ Depends (AwaitOf v i) e → (k : Node) → Contains ns k → edge ns k n ≡ (submits n.point.entry k || (waits_all_on n.point.queue k || pairs k.act n.act))
  edge_await v i e is k c =
      edge_linked k c
      ∙ subst (λ (t : Act). linked ns k (node n.number n.point t) ≡ (submits n.point.entry k || (waits_all_on n.point.queue k || pairs k.act t))) (sym is) (into_await ns k n.number n.point v i e)
