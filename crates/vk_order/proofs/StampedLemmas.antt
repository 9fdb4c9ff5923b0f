-- Rows with stamps: more lines, and one row more.
use Rattle.std.proofs.Common.{◌≡◌, ◌⊎◌, inl, inr, ⊎_elim, ℕ, List, [], ◌∷◌, ◌++◌, length, length-append, IsTrue, Some, refl, ap, sym, ◌∙◌, subst, arith}
use Rattle.std.specs.Prelude.{Contains, slice_get, is_some}
use Rattle.std.proofs.lemmas.Option.{slice_get_within}
use Rattle.vk_model.specs.Sync.Node.{Node}
use Rattle.vk_model.specs.Sync.Edge.{edge}
use Rattle.vk_model.specs.Sync.Before.{IsNumbered}
use Rattle.vk_model.proofs.Lists.Members.{contains-cons}
use Rattle.vk_order.specs.declared.acts.Row.{Row}
use Rattle.vk_order.specs.declared.clocks.Stamp.{Stamp}
use Rattle.vk_order.specs.declared.fronts.Front.{Front}
use Rattle.vk_order.specs.declared.lines.Line.{Line}
use Rattle.vk_order.specs.NodeViews.{act_of, node_of, nodes_after}
use Rattle.vk_order.specs.Lines.{class_of, class_on, place}
use Rattle.vk_order.specs.Inner.Places.{index_in}
use Rattle.vk_order.specs.Inner.Kept.{clock_at, IsStamp, IsStamped, IsLonger}
use Rattle.vk_order.specs.Inner.Fronts.{clock_in, IsFront}
use Rattle.vk_order.proofs.RowLemmas.{nodes_after-append, length-nodes_after, numbered_after}
use Rattle.vk_order.proofs.NamedLemmas.{node_there}
use Rattle.vk_order.proofs.ClockLemmas.{clock_stays, edges_join, place-older}
use Rattle.vk_order.proofs.KeptLemmas.{clock_as, line_class}
use Rattle.vk_model.proofs.Lists.Items.{push_cases}

pub stamped_longer : (rows : List Row) (stamps : List Stamp) (ls more : List Line) → IsLonger ls more → IsStamped rows stamps ls → IsStamped rows stamps more
stamped_longer rows stamps ls more longer is = record {
  lengths = is.lengths;
  stamped = λ i r s at there. let one = is.stamped i r s at there in record {
    clock = clock_as (nodes_after [] rows) (node_of i r) (clock_at ls s.clock.items) (clock_at more s.clock.items) (longer.same s.clock.items one.short) one.clock;
    place = one.place;
    short = let a = one.short in let b = longer.long in omega arith;
  };
  listed = λ k c. longer.listed (class_of k) (is.listed k c);
}

module _ (rows : List Row) (stamps : List Stamp) (ls : List Line) (r : Row) (s : Stamp) (f : Front) (is : IsStamped rows stamps ls)
    (front : IsFront (nodes_after [] rows) ls (λ k. edge (nodes_after [] rows) k (node_of (length (nodes_after [] rows)) r)) f) (clock : s.clock.items ≡ clock_in f)
    (count : s.place ≡ place (nodes_after [] rows) (class_on r.point.queue (act_of r.act)) (length (nodes_after [] rows))) (on : IsTrue (is_some (index_in ls (class_on r.point.queue (act_of r.act))))) where
  abbrev ns : List Node
  ns = nodes_after [] rows

  abbrev n : Node
  n = node_of (length (nodes_after [] rows)) r

  long : length (nodes_after [] rows) ≡ length rows
  long = let e = length-nodes_after [] rows in omega arith

  numbers : IsNumbered (n ∷ ns)
  numbers = (refl, numbered_after [] rows tt)

  all_is : nodes_after [] (rows ++ r ∷ []) ≡ n ∷ ns
  all_is = nodes_after-append [] rows (r ∷ [])

  old_stamp : (i : ℕ) (q : Row) (t : Stamp) → slice_get rows i ≡ Some q → slice_get stamps i ≡ Some t → IsStamp (n ∷ ns) ls (node_of i q) t
  old_stamp i q t at there =
      let one = is.stamped i q t at there in
      let low = slice_get_within rows i q at in record {
        clock = clock_stays n ns numbers (node_of i q) (clock_at ls t.clock.items) (node_there rows i q at) one.clock;
        place = λ l of. one.place l of ∙ sym (place-older n ns refl l i (let e = long in omega arith));
        short = one.short;
      }

  new_stamp : IsStamp (n ∷ ns) ls n s
  new_stamp = record {
    clock = subst (λ (c : List ℕ). Rattle.vk_order.specs.Inner.Clocks.IsClock (n ∷ ns) n (clock_at ls c)) (sym clock) (edges_join n ns numbers (clock_at ls (clock_in f)) front.clock.join);
    place = λ l of. count ∙ ap (λ (m : Line). place ns m (length ns)) (line_class n l of) ∙ sym (place-older n ns refl l (length ns) (omega arith));
    short = let e = ap length clock in let le = front.clock.short in omega arith;
  }

  pub stamped_one : IsStamped (rows ++ r ∷ []) (stamps ++ s ∷ []) ls
  stamped_one = record {
    lengths = let e = is.lengths in let a = length-append stamps (s ∷ []) in let b = length-append rows (r ∷ []) in omega arith;
    stamped = λ i q t a b. rw all_is (each i q t (push_cases rows r q i a) (push_cases stamps s t i b));
    listed = λ k c. ⊎_elim
        (λ e. ap (λ (m : Node). is_some (index_in ls (class_of m))) (sym e) ∙ on)
        (λ old. is.listed k old)
        (contains-cons n ns k (subst (λ (l : List Node). Contains l k) all_is c));
  }
    where
      each : (i : ℕ) (q : Row) (t : Stamp) → (slice_get rows i ≡ Some q) ⊎ ((i ≡ length rows) × (r ≡ q)) → (slice_get stamps i ≡ Some t) ⊎ ((i ≡ length stamps) × (s ≡ t)) → IsStamp (n ∷ ns) ls (node_of i q) t
      each i q t (inl a) (inl b) = old_stamp i q t a b
      each i q t (inl a) (inr b) = absurd (let low = slice_get_within rows i q a in let e = b.0 in let f = is.lengths in omega arith)
      each i q t (inr a) (inl b) = absurd (let low = slice_get_within stamps i t b in let e = a.0 in let f = is.lengths in omega arith)
      each i q t (inr a) (inr b) =
          let here : length (nodes_after [] rows) ≡ i = long ∙ sym a.0 in
          subst (λ (x : Row). IsStamp (n ∷ ns) ls (node_of i x) t) a.1
          (subst (λ (j : ℕ). IsStamp (n ∷ ns) ls (node_of j r) t) here (subst (λ (x : Stamp). IsStamp (n ∷ ns) ls n x) b.1 new_stamp))
