-- What dependencies, waits and signals make memory catch up with, by the commands that wrote.
use Rattle.std.proofs.Common.{◌≡◌, ℕ, List, [], ◌∷◌, Bool, true, false, ◌&&◌, ◌||◌, Option, Some, None, IsTrue, not, reverse, refl, ap, sym, ◌∙◌, subst}
use Rattle.std.specs.Prelude.{Contains, ◌==◌, nat_lt, if◌then◌else◌}
use Rattle.std.specs.List.{fold}
use Rattle.std.proofs.lemmas.Bool.{eq-eqb, eqb-true}
use Rattle.vk_model.specs.declared.command.Cmd.{Cmd}
use Rattle.vk_model.specs.Basics.{holds}
use Rattle.vk_model.specs.Trace.Point.{Past, Point}
use Rattle.vk_model.specs.World.Bytes.{Byte}
use Rattle.vk_model.specs.Sync.Node.{Node, Act, Hosts, Waits, Signals, Runs, Depends, nodes}
use Rattle.vk_model.specs.Sync.Edge.{edge}
use Rattle.vk_model.specs.Sync.Seen.{makes_writes_available, available_by}
use Rattle.vk_model.specs.Run.Caches.{Held, Cell, queue_agent, written_back, dropped}
use Rattle.vk_model.specs.Run.Runs.{Name, Stage}
use Rattle.vk_model.specs.Run.CachedRuns.{Cells, is_synchronization, makes_last_available, makes_byte_visible, after_node, happening, after_nodes, node_happened}
use Rattle.vk_model.proofs.Lists.Members.{contains-head, contains-tail, filtered}
use Rattle.vk_laws.specs.DirectRuns.{HostMemory}
use Rattle.vk_laws.specs.WriteBacks.{follows_commands, frees_byte}
use Rattle.vk_cache_laws.specs.InPlace.{Behind, IsTold, AreTold, caught_up}
use Rattle.vk_cache_laws.specs.LateRuns.{LateByte, Late, behind_of, lag_of, caught_by, late_after_node, late_after_nodes, IsWriter}
use Rattle.vk_cache_laws.proofs.Told.{told_back, told_drop}
use Rattle.vk_cache_laws.proofs.InPlaceSteps.{still}

-- ---- an edge from a command

only : (b : Bool) → (false || b || false || false || false || false) ≡ b
only true = refl
only false = refl

-- a command comes before a dependency, wait or signal behind it whose first scope has commands of its queue
edge_to : (ns : List Node) (i j : ℕ) (p q : Point) (x : Cmd) (a : Act) → is_synchronization a ≡ true → p.queue ≡ q.queue
    → edge ns (record { number = i; point = p; act = Runs x }) (record { number = j; point = q; act = a }) ≡ (nat_lt i j && follows_commands a)
unfolding edge
edge_to ns i j p q x (Waits s) kind same = let e = eq-eqb p.queue q.queue same in rw e refl
edge_to ns i j p q x (Signals s) kind same = let e = eq-eqb p.queue q.queue same in rw e (ap (λ (b : Bool). nat_lt i j && b) (only (follows_commands (Signals s))))
edge_to ns i j p q x (Depends r d) kind same = let e = eq-eqb p.queue q.queue same in rw e (ap (λ (b : Bool). nat_lt i j && b) (only (follows_commands (Depends r d))))
edge_to ns i j p q x (Runs c) kind same = absurd cc
edge_to ns i j p q x (Hosts z) kind same = absurd cc

-- ---- one node

turned_round : (l f m : Bool) → ((l && f) && m) ≡ ((f && m) && l)
turned_round true true true = refl
turned_round true true false = refl
turned_round true false m = refl
turned_round false true true = refl
turned_round false true false = refl
turned_round false false m = refl

no_one : (a b : Bool) → (a && false) ≡ (b && false)
no_one true true = refl
no_one true false = refl
no_one false true = refl
no_one false false = refl

-- memory that catches up, told
back : {value : ℕ} {host : Option Held} (behind : Option Behind) {cell : Cell} → IsTold value host behind cell → (q : ℕ) (makes : Bool) → IsTold value host (caught_up q makes behind) (if makes then written_back (queue_agent q) cell else cell)
back behind i q true = told_back behind i q
back behind i q false = still behind i q

module _ (past : Past) (done : List Name) (n : Node) (kind : is_synchronization n.act ≡ true) where
  abbrev makes : Byte → Bool
  makes c = makes_last_available past done n c

  -- a node makes the last write available by its writer
  by_writer : (c : Byte) (l : LateByte) → IsWriter past done c l → (l.queue == n.point.queue) ≡ true → makes c ≡ (frees_byte past n c && nat_lt l.node n.number)
  by_writer c l w mine =
      ap (λ (o : Option Node). holds o (λ k. available_by (λ b. false) (nodes past) k k.act c n)) w.last
      ∙ ap (λ (b : Act). available_by (λ b. false) (nodes past) w.node b c n) w.act
      ∙ ap (λ (b : Bool). b && makes_writes_available (λ b. false) (nodes past) n c n.act) (ap (λ (m : Node). edge (nodes past) m n) whole ∙ edge_to (nodes past) w.node.number n.number w.node.point n.point w.command n.act kind queue)
      ∙ turned_round (nat_lt w.node.number n.number) (follows_commands n.act) (makes_writes_available (λ b. false) (nodes past) n c n.act)
      ∙ ap (λ (k : ℕ). frees_byte past n c && nat_lt k n.number) w.number
    where
      whole : w.node ≡ record { number = w.node.number; point = w.node.point; act = Runs w.command }
      whole = λ i. record { number = w.node.number; point = w.node.point; act = w.act i }

      queue : w.node.point.queue ≡ n.point.queue
      queue = w.queue ∙ eqb-true l.queue n.point.queue mine

  -- so memory catches up with the same bytes
  caught_same : (late : Late) → ((c : Byte) (l : LateByte) → late c ≡ Some l → IsWriter past done c l) → (c : Byte) → behind_of (late_after_node past n late c) ≡ caught_up n.point.queue (makes c) (behind_of (late c))
  caught_same late writers c = go (late c) refl
    where
      by_test : (l : LateByte) (a b : Bool) → a ≡ b → behind_of (if a then None else Some l) ≡ (if b then None else behind_of (Some l))
      by_test l true true e = refl
      by_test l false false e = refl
      by_test l true false e = absurd cc
      by_test l false true e = absurd cc

      same_test : (l : LateByte) → late c ≡ Some l → (mine : Bool) → (l.queue == n.point.queue) ≡ mine → ((frees_byte past n c && nat_lt l.node n.number) && mine) ≡ (makes c && mine)
      same_test l is true e = ap (λ (b : Bool). b && true) (sym (by_writer c l (writers c l is) e))
      same_test l is false e = no_one (frees_byte past n c && nat_lt l.node n.number) (makes c)

      go : (o : Option LateByte) → late c ≡ o → behind_of (caught_by n (frees_byte past n c) o) ≡ caught_up n.point.queue (makes c) (behind_of o)
      go None is = refl
      go (Some l) is = by_test l _ _ (same_test l is (l.queue == n.point.queue) refl)

  node_late : (m : HostMemory) (late : Late) (cells : Cells) → ((c : Byte) (l : LateByte) → late c ≡ Some l → IsWriter past done c l) → AreTold m (lag_of late) cells → AreTold m (lag_of (late_after_node past n late)) (after_node past done n cells)
  node_late m late cells writers told c =
      subst (λ (b : Option Behind). IsTold (m.region c) (m.host c) b (after_node past done n cells c)) (sym (caught_same late writers c)) (go (makes_byte_visible past n c))
    where
      go : (shows : Bool) → IsTold (m.region c) (m.host c) (caught_up n.point.queue (makes c) (behind_of (late c)))
          (let b = if makes c then written_back (queue_agent n.point.queue) (cells c) else cells c in if shows then dropped (queue_agent n.point.queue) b else b)
      go true = told_drop (back (behind_of (late c)) (told c) n.point.queue (makes c)) n.point.queue
      go false = back (behind_of (late c)) (told c) n.point.queue (makes c)

-- memory is behind by no more bytes, and by the same writes
pub node_less : (past : Past) (n : Node) (late : Late) (c : Byte) (l : LateByte) → late_after_node past n late c ≡ Some l → late c ≡ Some l
node_less past n late c l e = go (late c) e
  where
    by_test : (k : LateByte) (b : Bool) → (if b then None else Some k) ≡ Some l → Some k ≡ Some l
    by_test k true e = absurd cc
    by_test k false e = e

    go : (o : Option LateByte) → caught_by n (frees_byte past n c) o ≡ Some l → o ≡ Some l
    go None e = absurd cc
    go (Some k) e = by_test k ((frees_byte past n c && nat_lt k.node n.number) && k.queue == n.point.queue) e

-- ---- all that happen

pub nodes_less : (past : Past) (ns : List Node) (late : Late) (c : Byte) (l : LateByte) → fold (λ l n. late_after_node past n l) late ns c ≡ Some l → late c ≡ Some l
nodes_less past [] late c l e = e
nodes_less past (n ∷ ns) late c l e = node_less past n late c l (nodes_less past ns (late_after_node past n late) c l e)

all_late : (past : Past) (done : List Name) (ns : List Node) → ((n : Node) → Contains ns n → is_synchronization n.act ≡ true) → (m : HostMemory) (late : Late) (cells : Cells) → ((c : Byte) (l : LateByte) → late c ≡ Some l → IsWriter past done c l)
    → AreTold m (lag_of late) cells → AreTold m (lag_of (fold (λ l n. late_after_node past n l) late ns)) (fold (λ cs n. after_node past done n cs) cells ns)
all_late past done [] kinds m late cells writers told = told
all_late past done (n ∷ ns) kinds m late cells writers told =
    all_late past done ns (λ k c. kinds k (contains-tail n ns k c)) m (late_after_node past n late) (after_node past done n cells) (λ c l e. writers c l (node_less past n late c l e))
    (node_late past done n (kinds n (contains-head n ns)) m late cells writers told)

pub nodes_late : (s e : Stage) (m : HostMemory) (late : Late) (cells : Cells) → ((c : Byte) (l : LateByte) → late c ≡ Some l → IsWriter e.front.past e.done c l) → AreTold m (lag_of late) cells
    → AreTold m (lag_of (late_after_nodes s e late)) (after_nodes s e cells)
nodes_late s e m late cells writers told = all_late e.front.past e.done (happening s e) kinds m late cells writers told
  where
    first_true : (a b d : Bool) → IsTrue (a && b && d) → a ≡ true
    first_true true b d h = refl
    first_true false b d h = absurd cc

    kinds : (n : Node) → Contains (happening s e) n → is_synchronization n.act ≡ true
    kinds n c = first_true (is_synchronization n.act) (node_happened e n) (not (node_happened s n)) (filtered (λ k. is_synchronization k.act && node_happened e k && not (node_happened s k)) (reverse (nodes e.front.past)) n c).1
