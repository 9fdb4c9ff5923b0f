-- The edges from a node, as a walk over the rows finds them.
use Rattle.std.proofs.Common.{◌≡◌, ℕ, ◌+◌, ◌<◌, ◌≤◌, List, [], ◌∷◌, ◌++◌, map, length, take, drop, get_or, add-one, reverse, Bool, true, false, ◌&&◌, ◌||◌, cond, Option, ◌⊎◌, inl, inr, refl, ap, sym, ◌∙◌, subst, arith}
use Rattle.std.specs.Prelude.{nat_lt, Contains}
use Rattle.std.specs.List.{filter}
use Rattle.std.proofs.lemmas.Bool.{lt-ltb, le-ltb}
use Rattle.std.proofs.Math.Bool.{and-false}
use Rattle.std.proofs.lemmas.List.{take-append-drop, take_all, reverse-append}
use Rattle.std.proofs.Math.Seq.{take-suc}
use Rattle.vk_model.specs.Sync.Node as sync
use Rattle.vk_model.specs.Sync.Edge.{edge, by_semaphore}
use Rattle.vk_model.specs.Sync.Before.{IsNumbered}
use Rattle.vk_model.proofs.Lists.Members.{contains-head, contains-tail}
use Rattle.vk_model.proofs.Sync.Numbers.{edge-older, edge-new, unique}
use Rattle.vk_order.specs.declared.awaiting.Reach.{Reach}
use Rattle.vk_order.specs.declared.acts.Row.{Row}
use Rattle.vk_order.specs.NodeViews.{node_of, nodes_after}
use Rattle.vk_order.specs.Queries.{led_to}
use Rattle.vk_order.specs.Edges.{unsignaled}
use Rattle.vk_order.specs.Inner.Reaches.{Reaches}
use Rattle.vk_order.proofs.ByEdges.{all_earlier}
use Rattle.vk_order.proofs.RowLemmas.{nodes_after-append, length-nodes_after, numbered_after}

-- ---- the first rows

abbrev pub first_nodes : ℕ → List Row → List sync.Node
first_nodes k rows = nodes_after [] (take k rows)

pub length-first : (k : ℕ) (rows : List Row) → k ≤ length rows → length (first_nodes k rows) ≡ k
length-first k rows le = let e = length-nodes_after [] (take k rows) in let f = Rattle.std.proofs.lemmas.List.length-take k rows in omega arith

pub first-numbered : (k : ℕ) (rows : List Row) → IsNumbered (first_nodes k rows)
first-numbered k rows = numbered_after [] (take k rows) tt

pub first-step : (k : ℕ) (rows : List Row) (d : Row) → k < length rows → first_nodes (k + 1) rows ≡ node_of k (get_or rows k d) ∷ first_nodes k rows
first-step k rows d lt =
    rw (add-one, take-suc rows k d lt, nodes_after-append [] (take k rows) (get_or rows k d ∷ []))
    (ap (λ (i : ℕ). node_of i (get_or rows k d) ∷ first_nodes k rows) (length-first k rows (omega arith)))

pub first-all : (k : ℕ) (rows : List Row) → length rows ≤ k → first_nodes k rows ≡ nodes_after [] rows
first-all k rows le = rw (take_all k rows le) refl

-- all nodes are the first ones and those that came after
pub first-rest : (k : ℕ) (rows : List Row) → nodes_after [] rows ≡ nodes_after (first_nodes k rows) (drop k rows)
first-rest k rows = ap (nodes_after []) (sym (take-append-drop k rows)) ∙ nodes_after-append [] (take k rows) (drop k rows)

pub older_there : (ns : List sync.Node) (ys : List Row) (m : sync.Node) → Contains ns m → Contains (nodes_after ns ys) m
older_there ns [] m c = c
older_there ns (y ∷ ys) m c = older_there (node_of (length ns) y ∷ ns) ys m (contains-tail (node_of (length ns) y) ns m c)

-- a row is one of the nodes
pub row_there : (k : ℕ) (rows : List Row) (d : Row) → k < length rows → Contains (nodes_after [] rows) (node_of k (get_or rows k d))
row_there k rows d lt =
    subst (λ (ns : List sync.Node). Contains ns (node_of k (get_or rows k d))) (sym (first-rest (k + 1) rows))
    (older_there (first_nodes (k + 1) rows) (drop (k + 1) rows) (node_of k (get_or rows k d))
    (subst (λ (ns : List sync.Node). Contains ns (node_of k (get_or rows k d))) (sym (first-step k rows d lt)) (contains-head (node_of k (get_or rows k d)) (first_nodes k rows))))

-- a node of a number is that of the row
pub row_is : (k : ℕ) (rows : List Row) (d : Row) → k < length rows → (m : sync.Node) → Contains (nodes_after [] rows) m → m.number ≡ k → m ≡ node_of k (get_or rows k d)
row_is k rows d lt m c e = unique (nodes_after [] rows) (numbered_after [] rows tt) m (node_of k (get_or rows k d)) c (row_there k rows d lt) e

-- ---- edges

edge-more : (ns : List sync.Node) (ys : List Row) (m n : sync.Node) → n.number < length ns → edge (nodes_after ns ys) m n ≡ edge ns m n
edge-more ns [] m n lt = refl
edge-more ns (y ∷ ys) m n lt = edge-more (node_of (length ns) y ∷ ns) ys m n (omega arith) ∙ edge-older (node_of (length ns) y) ns refl m n lt

edge-last : (n : sync.Node) (ns : List sync.Node) (m : sync.Node) → IsNumbered (n ∷ ns) → edge ns m n ≡ (nat_lt m.number n.number && (unsignaled m n || by_semaphore ns m n))
unfolding edge
edge-last n ns m numbers = ap (λ (l : List sync.Node). nat_lt m.number n.number && (unsignaled m n || by_semaphore l m n)) (all_earlier n ns numbers)

pub edge-at : (rows : List Row) (k : ℕ) (d : Row) (m : sync.Node) → k < length rows
    → edge (nodes_after [] rows) m (node_of k (get_or rows k d)) ≡ (nat_lt m.number k && (unsignaled m (node_of k (get_or rows k d)) || by_semaphore (first_nodes k rows) m (node_of k (get_or rows k d))))
edge-at rows k d m lt =
    let n : sync.Node = node_of k (get_or rows k d) in
    let long : length (first_nodes (k + 1) rows) ≡ k + 1 = length-first (k + 1) rows (omega arith) in
    let step : first_nodes (k + 1) rows ≡ n ∷ first_nodes k rows = first-step k rows d lt in
    let numbers : IsNumbered (n ∷ first_nodes k rows) = (sym (length-first k rows (omega arith)), first-numbered k rows) in
    ap (λ (l : List sync.Node). edge l m n) (first-rest (k + 1) rows)
    ∙ edge-more (first_nodes (k + 1) rows) (drop (k + 1) rows) m n (omega arith)
    ∙ ap (λ (l : List sync.Node). edge l m n) step
    ∙ edge-new n (first_nodes k rows) m
    ∙ edge-last n (first_nodes k rows) m numbers

-- ---- the walk

-- the numbers that were found among the first rows
abbrev pub found_so_far : List Row → sync.Node → ℕ → List ℕ
found_so_far rows m k = reverse (map (λ n. n.number) (filter (λ n. edge (nodes_after [] rows) m n) (first_nodes k rows)))

pub found-step : (rows : List Row) (m : sync.Node) (k : ℕ) (d : Row) → k < length rows
    → found_so_far rows m (k + 1) ≡ cond (nat_lt m.number k && (unsignaled m (node_of k (get_or rows k d)) || by_semaphore (first_nodes k rows) m (node_of k (get_or rows k d)))) (found_so_far rows m k ++ k ∷ []) (found_so_far rows m k)
found-step rows m k d lt = ap (λ (l : List sync.Node). reverse (map (λ n. n.number) (filter (λ n. edge (nodes_after [] rows) m n) l))) (first-step k rows d lt)
    ∙ go (edge (nodes_after [] rows) m (node_of k (get_or rows k d))) _ (edge-at rows k d m lt)
  where
    rest : List sync.Node
    rest = filter (λ n. edge (nodes_after [] rows) m n) (first_nodes k rows)

    go : (s t : Bool) → s ≡ t → reverse (map (λ n. n.number) (cond s (node_of k (get_or rows k d) ∷ filter (λ n. edge (nodes_after [] rows) m n) (first_nodes k rows)) (filter (λ n. edge (nodes_after [] rows) m n) (first_nodes k rows))))
        ≡ cond t (found_so_far rows m k ++ k ∷ []) (found_so_far rows m k)
    go true true e = reverse-append (k ∷ []) (map (λ n. n.number) (filter (λ n. edge (nodes_after [] rows) m n) (first_nodes k rows)))
    go false false e = refl
    go true false e = absurd cc
    go false true e = absurd cc

pub found-all : (rows : List Row) (m : sync.Node) (k : ℕ) → length rows ≤ k → found_so_far rows m k ≡ led_to (nodes_after [] rows) m
found-all rows m k le = ap (λ (l : List sync.Node). reverse (map (λ n. n.number) (filter (λ n. edge (nodes_after [] rows) m n) l))) (first-all k rows le)

-- what the walk knows before row k
pub record IsWalked (rows : List Row) (m : sync.Node) (later : List ℕ) (reach : Option Reach) (k : ℕ) : Type 0 where
  pub found : later ≡ found_so_far rows m k
  pub reaches : Reaches (first_nodes k rows) m reach

-- what one row adds
module _ (rows : List Row) (m : sync.Node) (later : List ℕ) (reach passed : Option Reach) (k : ℕ) (d : Row) (lt : k < length rows) (w : IsWalked rows m later reach k)
    (on : Reaches (first_nodes k rows) m reach → Reaches (node_of k (get_or rows k d) ∷ first_nodes k rows) m passed)
    (leads : Bool) (is : Reaches (first_nodes k rows) m reach → leads ≡ (unsignaled m (node_of k (get_or rows k d)) || by_semaphore (first_nodes k rows) m (node_of k (get_or rows k d)))) where
  next_reaches : Reaches (first_nodes (k + 1) rows) m passed
  next_reaches = subst (λ (ns : List sync.Node). Reaches ns m passed) (sym (first-step k rows d lt)) (on w.reaches)

  pub walked-on : leads ≡ true → m.number < k → IsWalked rows m (later ++ k ∷ []) passed (k + 1)
  walked-on e low = record {
    found = sym (found-step rows m k d lt ∙ rw (lt-ltb m.number k low, sym (is w.reaches), e) (ap (λ (l : List ℕ). l ++ k ∷ []) (sym w.found)));
    reaches = next_reaches;
  }

  pub walked-past : (leads ≡ false) ⊎ (k ≤ m.number) → IsWalked rows m later passed (k + 1)
  walked-past (inl e) = record {
    found = sym (found-step rows m k d lt ∙ rw (sym (is w.reaches), e, and-false (nat_lt m.number k)) (sym w.found));
    reaches = next_reaches;
  }
  walked-past (inr high) = record {
    found = sym (found-step rows m k d lt ∙ rw (le-ltb m.number k high) (sym w.found));
    reaches = next_reaches;
  }
