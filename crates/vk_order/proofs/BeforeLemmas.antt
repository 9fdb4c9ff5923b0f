-- What is before what, by places and clocks, and by the first edge of a path.
use Rattle.std.proofs.Common.{◌≡◌, ◌⊎◌, inl, inr, ⊎_elim, ℕ, ◌<◌, List, [], length, false, IsTrue, Option, Some, None, refl, ap, sym, ◌∙◌, subst, arith}
use Rattle.std.specs.Prelude.{nat_lt, Contains, slice_get, slice_index_or}
use Rattle.std.proofs.lemmas.Bool.{lt-ltb, ltb-true}
use Rattle.vk_model.specs.Sync.Node.{Node}
use Rattle.vk_model.specs.Sync.Edge.{edge}
use Rattle.vk_model.specs.Sync.Before.{before, Path, direct, longer, IsNumbered}
use Rattle.vk_model.proofs.Lists.Truths.{bool_same}
use Rattle.vk_model.proofs.Sync.Paths.{path_of_before, before_of_path, target}
use Rattle.vk_order.specs.declared.acts.Row.{Row}
use Rattle.vk_order.specs.declared.clocks.Stamp.{Stamp}
use Rattle.vk_order.specs.declared.lines.Line.{Line}
use Rattle.vk_order.specs.NodeViews.{node_of, nodes_after}
use Rattle.vk_order.specs.Lines.{line_of}
use Rattle.vk_order.specs.Inner.Kept.{clock_at, IsStamped}
use Rattle.vk_order.specs.Inner.Places.{index_in}
use Rattle.std.proofs.lemmas.Option.{get_or_from_slice_get}
use Rattle.vk_model.proofs.Sync.Numbers.{number_below}
use Rattle.vk_order.proofs.RowLemmas.{numbered_after, length-nodes_after}
use Rattle.vk_order.proofs.EdgeLemmas.{row_is}
use Rattle.vk_order.proofs.NamedLemmas.{node_there}
use Rattle.vk_model.proofs.Lists.Items.{item_at}

-- the place of one against the clock of the other
pub counted : (rows : List Row) (stamps : List Stamp) (ts : List Line) (i j : ℕ) (q r : Row) (s t : Stamp) (l : Line) → IsStamped rows stamps ts → slice_get rows i ≡ Some q → slice_get rows j ≡ Some r → slice_get stamps i ≡ Some s → slice_get stamps j ≡ Some t
    → line_of (node_of i q) ≡ Some l → nat_lt s.place (clock_at (ts) t.clock.items l) ≡ before (nodes_after [] rows) (node_of i q) (node_of j r)
counted rows stamps ts i j q r s t l kept at_i at_j stamp_i stamp_j on =
    let one = kept.stamped i q s at_i stamp_i in
    let two = kept.stamped j r t at_j stamp_j in
    let iff = two.clock.counts l (node_of i q) (node_there rows i q at_i) on in
    let place = one.place l on in
    bool_same _ _
    (λ h. iff.1 (let lt = ltb-true s.place (clock_at (ts) t.clock.items l) h in omega arith))
    (λ h. lt-ltb s.place (clock_at (ts) t.clock.items l) (let lt = iff.0 h in omega arith))

pub counted_at : (rows : List Row) (stamps : List Stamp) (ts : List Line) (i j at : ℕ) (q r : Row) (s t : Stamp) (l : Line) → IsStamped rows stamps ts → slice_get rows i ≡ Some q → slice_get rows j ≡ Some r → slice_get stamps i ≡ Some s → slice_get stamps j ≡ Some t
    → line_of (node_of i q) ≡ Some l → index_in (ts) l ≡ Some at → nat_lt s.place (slice_index_or t.clock.items at 0) ≡ before (nodes_after [] rows) (node_of i q) (node_of j r)
counted_at rows stamps ts i j at q r s t l kept at_i at_j stamp_i stamp_j on found =
    ap (λ (o : Option ℕ). nat_lt s.place (Rattle.std.specs.Option.option_map_or (λ k. slice_index_or t.clock.items k 0) o 0)) (sym found)
    ∙ counted rows stamps ts i j q r s t l kept at_i at_j stamp_i stamp_j on

pub uncounted : (rows : List Row) (stamps : List Stamp) (ts : List Line) (i j : ℕ) (q r : Row) (s t : Stamp) (l : Line) → IsStamped rows stamps ts → slice_get rows i ≡ Some q → slice_get rows j ≡ Some r → slice_get stamps i ≡ Some s → slice_get stamps j ≡ Some t
    → line_of (node_of i q) ≡ Some l → index_in (ts) l ≡ None → false ≡ before (nodes_after [] rows) (node_of i q) (node_of j r)
uncounted rows stamps ts i j q r s t l kept at_i at_j stamp_i stamp_j on none =
    sym (rw none (zero_least s.place)) ∙ counted rows stamps ts i j q r s t l kept at_i at_j stamp_i stamp_j on
  where
    zero_least : (k : ℕ) → nat_lt k 0 ≡ false
    zero_least k = Rattle.std.proofs.lemmas.Bool.le-ltb k 0 (omega arith)

-- ---- the first edge of a path

abbrev pub Starts : List Node → Node → Node → Type 0
Starts ns m n = (k : Node) × Contains ns k × IsTrue (edge ns m k) × ((k ≡ n) ⊎ IsTrue (before ns k n))

module _ (ns : List Node) (numbers : IsNumbered ns) (m : Node) (cm : Contains ns m) where
  first_of_path : (n : Node) → Path ns m n → Starts ns m n
  first_of_path n (direct c d e) = (n, d, e, inl refl)
  first_of_path n (longer {k = k} p d e) = further (first_of_path k p)
    where
      further : Starts ns m k → Starts ns m n
      further s = (
        s.0,
        s.1,
        s.2,
        inr (⊎_elim
            (λ same. before_of_path ns numbers s.0 n s.1 d (direct s.1 d (ap (λ (x : Node). edge ns x n) same ∙ e)))
            (λ h. before_of_path ns numbers s.0 n s.1 d (longer (path_of_before ns numbers s.0 k s.1 (target ns m k p) h) d e)) s.3),
      )

  pub by_first : (n : Node) → Contains ns n → IsTrue (before ns m n) → Starts ns m n
  by_first n cn h = first_of_path n (path_of_before ns numbers m n cm cn h)

  pub from_first : (n : Node) → Contains ns n → Starts ns m n → IsTrue (before ns m n)
  from_first n cn s = before_of_path ns numbers m n cm cn (⊎_elim
      (λ same. direct cm cn (subst (λ (x : Node). IsTrue (edge ns m x)) same s.2))
      (λ h. Rattle.vk_model.proofs.Sync.Paths.joined ns m s.0 n (direct cm s.1 s.2) (path_of_before ns numbers s.0 n s.1 cn h)) s.3)

-- ---- the row of a node

pub node_row : (rows : List Row) (m : Node) (i : ℕ) → Contains (nodes_after [] rows) m → m.number ≡ i → (q : Row) × (slice_get rows i ≡ Some q) × (m ≡ node_of i q)
node_row rows m i c e =
    let lt : i < length rows = (let a = number_below (nodes_after [] rows) (numbered_after [] rows tt) m c in let b = length-nodes_after [] rows in omega arith) in
    let found = item_at rows i lt in
    (found.0, found.1, row_is i rows found.0 lt m c e ∙ ap (node_of i) (get_or_from_slice_get rows i found.0 found.0 found.1))
