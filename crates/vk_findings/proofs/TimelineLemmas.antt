-- Commands that aren't known complete, by the rows of their nodes.
use Rattle.std.proofs.Common.{◌≡◌, ⊎_elim, ◌<◌, ◌+◌, ℕ, List, [], ◌∷◌, length, take, get_or, slice_get, Some, Bool, true, false, not, ◌&&◌, refl, ap, sym, ◌∙◌, subst, arith}
use Rattle.std.specs.Prelude.{Contains, is_some, nat_lt}
use Rattle.std.specs.List.{filter, list_any, list_all}
use Rattle.std.proofs.lemmas.Bool.{le-leb, lt-ltb, and_from, false_from_ne_true}
use Rattle.std.proofs.lemmas.Option.{slice_get_read, get_or_from_slice_get}
use Rattle.std.proofs.Math.Bool.{and-false}
use Rattle.vk_model.specs.declared.entry.Entry.{Entry}
use Rattle.vk_model.specs.Basics.{among}
use Rattle.vk_model.specs.Trace.Point.{Past, Point, Host, host_of}
use Rattle.vk_model.specs.Trace.Structure.{IsOrdered}
use Rattle.vk_model.specs.Rules.Fault.{Comes}
use Rattle.vk_model.specs.declared.point.Point.{Point as ProgramPoint}
use Rattle.vk_model.specs.Trace.PointViews.{point_of}
use Rattle.vk_model.specs.Sync.Node.{Node, acts, nodes, with_acts, next_nodes, same_place}
use Rattle.vk_model.specs.Sync.Before.{before}
use Rattle.vk_model.specs.Sync.Complete.{named_by_act, nodes_for, is_complete}
use Rattle.vk_model.proofs.Lists.Members.{only_one, contains-head, contains-tail, contains-cons, filter_has, filtered, all_passes, each_of, member_passes, some_member, place_has}
use Rattle.vk_model.proofs.Lists.Truths.{clash}
use Rattle.vk_model.proofs.Sync.Numbers.{numbered, number_below}
use Rattle.vk_model.proofs.Sync.NewNodes.{low_numbers}
use Rattle.vk_order.specs.declared.acts.Row.{Row}
use Rattle.vk_order.specs.Queries.{IsNew}
use Rattle.vk_queues.specs.PointViews.{past_of}
use Rattle.vk_queues.proofs.NewPoints.{ordered_new, comes_at}
use Rattle.vk_order.specs.NodeViews.{node_of, nodes_after}
use Rattle.vk_order.proofs.NamedLemmas.{node_there}
use Rattle.vk_order.proofs.BeforeLemmas.{node_row}
use Rattle.vk_order.proofs.RowLemmas.{length-nodes_after}
use Rattle.vk_findings.specs.declared.named.Spot.{Spot}
use Rattle.vk_findings.specs.declared.timeline.Timeline.{Timeline}
use Rattle.vk_findings.specs.Inner.Uses.{AreBeforeTo, IsAt, IsComplete, IsIncomplete, IsTimeline, at_spot, uses_at}
use Rattle.vk_laws.proofs.Living.Ends.{host_node, host_node_there}

-- ---- the node of a host entry that comes next

-- it is the only one
pub host_next : (past : Past) (p : Point) (x : Entry) → p.action ≡ Host x → next_nodes past p ≡ host_node past p x ∷ []
host_next past p x is =
    let all : nodes (p ∷ past) ≡ host_node past p x ∷ nodes past = ap (λ a. with_acts p (acts a) (nodes past)) is in
    let low = low_numbers (length (nodes past)) (nodes past) (numbered past) (omega arith) in
    rw (all, le-leb (length (nodes past)) (length (nodes past)) (omega arith), low) refl

-- it comes before the others
host_nodes : (past : Past) (p : Point) (x : Entry) → p.action ≡ Host x → nodes (p ∷ past) ≡ host_node past p x ∷ nodes past
host_nodes past p x is = ap (λ a. with_acts p (acts a) (nodes past)) is

-- ---- the nodes of a command

-- the test of a node for a command that is at a place
same_use : (s : Spot) (q : Point) (r : ℕ) (m : Node) → IsAt s q → (same_place m.point q && among r (named_by_act m.act)) ≡ uses_at s r m
same_use s q r m is = rw (is.entry, is.batch, is.place) refl

some_item : {X : Type 0} (xs : List X) (x : X) → Contains xs x → true ≡ nat_lt 0 (length xs)
some_item xs x c = sym (lt-ltb 0 (length xs) (let lt = c.1 in omega arith))

module _ (past : Past) (p : Point) (s : Spot) (r : ℕ) where
  -- one that isn't before the next node
  pub late_use : (x : Entry) → p.action ≡ Host x → (m : Node) → Contains (nodes (p ∷ past)) m → uses_at s r m ≡ true → before (nodes (p ∷ past)) m (host_node past p x) ≡ false → IsIncomplete past p s r true
  late_use x is m there used late q is_at =
      let ns = nodes (p ∷ past) in
      let own : Contains (nodes_for ns q r) m = filter_has (λ k. same_place k.point q && among r (named_by_act k.act)) ns m there (same_use s q r m is_at ∙ used) in (
        λ n c.
            let same : host_node past p x ≡ n = only_one (host_node past p x) n (subst (λ (l : List Node). Contains l n) (host_next past p x is) c) in
            let late_n : before ns m n ≡ false = subst (λ (k : Node). before ns m k ≡ false) same late in
            let all : list_all (λ k. before ns k n) (nodes_for ns q r) ≡ false = false_from_ne_true _ (λ h. clash (all_passes (λ k. before ns k n) (nodes_for ns q r) m h own) late_n) in
            ap (λ (b : Bool). nat_lt 0 (length (nodes_for ns q r)) && b) all ∙ and-false _,
        some_item (nodes_for ns q r) m own,
      )

  -- where there is none
  pub no_use : (x : Entry) → p.action ≡ Host x → ((m : Node) → Contains (nodes past) m → uses_at s r m ≡ false) → IsIncomplete past p s r false
  no_use x is none q is_at =
      let ns = nodes (p ∷ past) in
      let empty : nodes_for ns q r ≡ [] = filtered_none (λ k. same_place k.point q && among r (named_by_act k.act)) ns (λ m c. same_use s q r m is_at ∙ also x m (subst (λ (l : List Node). Contains l m) (host_nodes past p x is) c) none) in
      (λ n c. ap (λ (l : List Node). nat_lt 0 (length l) && list_all (λ k. before ns k n) l) empty, sym (ap (λ (l : List Node). nat_lt 0 (length l)) empty))
    where
      also : (x : Entry) (m : Node) → Contains (host_node past p x ∷ nodes past) m → ((k : Node) → Contains (nodes past) k → uses_at s r k ≡ false) → uses_at s r m ≡ false
      also x m c none = ⊎_elim (λ (same : host_node past p x ≡ m). subst (λ (k : Node). uses_at s r k ≡ false) same (and-false (at_spot s p))) (λ older. none m older) (contains-cons (host_node past p x) (nodes past) m c)

      filtered_none : (f : Node → Bool) (xs : List Node) → ((m : Node) → Contains xs m → f m ≡ false) → filter f xs ≡ []
      filtered_none f [] fails = refl
      filtered_none f (x ∷ xs) fails = rw (fails x (contains-head x xs)) (filtered_none f xs (λ m c. fails m (contains-tail x xs m c)))

-- ---- rows

-- no row of a list passes a test, so no node does
pub no_row : (ns : List Node) (rows : List Row) (f : Node → Bool) → nodes_after [] rows ≡ ns → ((i j : ℕ) (q : Row) → f (node_of i q) ≡ f (node_of j q)) → list_any (λ q. f (node_of 0 q)) rows ≡ false → (m : Node) → Contains ns m → f m ≡ false
no_row ns rows f are steady none m c =
    let row = node_row rows m m.number (subst (λ (l : List Node). Contains l m) (sym are) c) refl in
    ap f row.2 ∙ steady m.number 0 row.0 ∙ false_from_ne_true _ (λ h. clash (member_passes (λ q. f (node_of 0 q)) rows row.0 (place_has rows m.number row.0 row.1) h) none)

pub row_node : (ns : List Node) (rows : List Row) (i : ℕ) (q : Row) → nodes_after [] rows ≡ ns → i < length rows → q ≡ get_or rows i q → Contains ns (node_of i q)
row_node ns rows i q are lt is = subst (λ (l : List Node). Contains l (node_of i q)) are (node_there rows i q (slice_get_read rows (length rows) i q refl lt is))

-- a row of a timeline whose node isn't before the last one
pub late_row : (t : Timeline) (past : Past) (p : Point) (x : Entry) (s : Spot) (r k : ℕ) (row : Row) (result : Bool) → p.action ≡ Host x → IsTimeline t past p → k < length t.rows.items → row ≡ get_or t.rows.items k row
    → uses_at s r (node_of k row) ≡ true → ((m n : Node) → Contains t.order m → Contains t.order n → m.number ≡ k → n.number ≡ t.last → result ≡ before t.order m n) → not result ≡ true → IsIncomplete past p s r true
late_row t past p x s r k row result is line lt at used order late =
    let m = node_of k row in
    let n = host_node past p x in
    let there : Contains (nodes (p ∷ past)) m = subst (λ (l : List Node). Contains l m) (sym (host_nodes past p x is)) (contains-tail (host_node past p x) (nodes past) m (row_node (nodes past) t.rows.items k row line.rows lt at)) in
    let number : length (nodes past) ≡ t.last = sym line.last in
    let answer : result ≡ before t.order m n = order m n
    (subst (λ (l : List Node). Contains l m) (sym line.order) there)
    (subst (λ (l : List Node). Contains l n) (sym line.order) (host_node_there past p x is)) refl number in
    late_use past p s r x is m there used (ap (λ (l : List Node). before l m n) (sym line.order) ∙ sym answer ∙ untrue result late)
  where
    untrue : (b : Bool) → not b ≡ true → b ≡ false
    untrue true e = absurd cc
    untrue false e = refl

-- ---- how far a command has come

module _ (t : Timeline) (past : Past) (p : Point) (x : Entry) (host : p.action ≡ Host x) (line : IsTimeline t past p) (m : Node) (there : Contains (nodes past) m) where
  still_there : Contains (nodes (p ∷ past)) m
  still_there = subst (λ (l : List Node). Contains l m) (sym (host_nodes past p x host)) (contains-tail (host_node past p x) (nodes past) m there)

  -- its number and that of the host entry's node are below the count
  pub within_count : (m.number < length t.order) × (t.last < length t.order)
  within_count =
      let below = number_below (nodes past) (numbered past) m there in
      let count : length t.order ≡ length (nodes past) + 1 = ap length (line.order ∙ host_nodes past p x host) ∙ (let more : length (host_node past p x ∷ nodes past) ≡ length (nodes past) + 1 = omega arith in more) in
      let last = line.last in
      (omega (arith, below, count), omega (arith, count, last))

  -- by the order of the timeline
  pub row_before : (k : ℕ) (b : Bool) → ((m n : Node) → Contains t.order m → Contains t.order n → m.number ≡ k → n.number ≡ t.last → b ≡ before t.order m n) → b ≡ true → m.number ≡ k → before (nodes (p ∷ past)) m (host_node past p x) ≡ true
  row_before k b order is number =
      let n = host_node past p x in
      let answer : b ≡ before t.order m n = order m n
      (subst (λ (l : List Node). Contains l m) (sym line.order) still_there)
      (subst (λ (l : List Node). Contains l n) (sym line.order) (host_node_there past p x host)) number (sym line.last) in
      ap (λ (l : List Node). before l m n) (sym line.order) ∙ sym answer ∙ is

  -- by its row
  pub row_uses : (s : Spot) (r k : ℕ) (row : Row) → row ≡ get_or t.rows.items k row → m.number ≡ k → uses_at s r m ≡ uses_at s r (node_of k row)
  row_uses s r k row at number =
      let own = node_row t.rows.items m k (subst (λ (l : List Node). Contains l m) (sym line.rows) there) number in
      let same : row ≡ own.0 = at ∙ get_or_from_slice_get t.rows.items k own.0 row own.1 in
      ap (uses_at s r) (own.2 ∙ ap (node_of k) (sym same))

-- a command with a node, each of whose nodes comes before, is complete
pub complete_use : (t : Timeline) (past : Past) (p : Point) (x : Entry) (s : Spot) (r : ℕ) → p.action ≡ Host x → IsTimeline t past p → list_any (uses_at s r) (nodes past) ≡ true → AreBeforeTo t s r (length t.rows.items) → IsComplete past p s r
complete_use t past p x s r is line some are q is_at n c =
    let ns = nodes (p ∷ past) in
    let h = host_node past p x in
    let m = some_member (uses_at s r) (nodes past) some in
    let own : Contains (nodes_for ns q r) m.0 = filter_has (λ k. same_place k.point q && among r (named_by_act k.act)) ns m.0 (still_there t past p x is line m.0 m.1) (same_use s q r m.0 is_at ∙ m.2) in
    let each : list_all (λ k. before ns k h) (nodes_for ns q r) ≡ true = each_of (λ k. before ns k h) (nodes_for ns q r) (λ k c.
    let part = filtered (λ k. same_place k.point q && among r (named_by_act k.act)) ns k c in
    let used : uses_at s r k ≡ true = sym (same_use s q r k is_at) ∙ part.1 in
    ⊎_elim (λ (same : h ≡ k). clash used (subst (λ (k : Node). uses_at s r k ≡ false) same (and-false (at_spot s p))))
    (λ older. are k.number (below k older) past p x is line k older refl used)
    (contains-cons h (nodes past) k (subst (λ (l : List Node). Contains l k) (host_nodes past p x is) part.0))) in
    let same : h ≡ n = only_one h n (subst (λ (l : List Node). Contains l n) (host_next past p x is) c) in
    subst (λ (k : Node). is_complete ns k q r ≡ true) same (and_from _ _ (sym (some_item (nodes_for ns q r) m.0 own)) each)
  where
    below : (k : Node) → Contains (nodes past) k → k.number < length t.rows.items
    below k c =
        let count : length (nodes past) ≡ length t.rows.items = ap length (sym line.rows) ∙ (let all = length-nodes_after [] t.rows.items in let same : length (nodes_after [] t.rows.items) ≡ length t.rows.items = omega (arith, all) in same) in
        let lt = number_below (nodes past) (numbered past) k c in
        omega (arith, count, lt)

-- one with none waits
pub waiting_use : (past : Past) (p : Point) (x : Entry) (s : Spot) (r : ℕ) → p.action ≡ Host x → list_any (uses_at s r) (nodes past) ≡ false → IsIncomplete past p s r false
waiting_use past p x s r is none = no_use past p s r x is (λ m c. false_from_ne_true (uses_at s r m) (λ h. clash (member_passes (uses_at s r) (nodes past) m c h) none))

-- ---- the points of an ordered past

-- each is new after the ones before it
pub ordered_points : (past : Past) (ps : List ProgramPoint) (k : ℕ) (p : ProgramPoint) → past_of ps ≡ past → IsOrdered past → slice_get ps k ≡ Some p → IsNew (point_of p) (nodes (past_of (take k ps)))
ordered_points past ps k p is ordered at = ordered_new past (past_of (take k ps)) (point_of p) ordered (subst (λ (q : Past). Comes q (past_of (take k ps)) (point_of p)) is (comes_at [] ps k p at))

-- a host entry is new
pub host_new : (p : Point) (ns : List Node) → is_some (host_of p.action) ≡ true → IsNew p ns
host_new p ns h c run = absurd (let none : is_some (host_of p.action) ≡ false = ap (λ a. is_some (host_of a)) run in clash h none)
