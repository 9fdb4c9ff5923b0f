-- The rows of a point come one after another: how many commands are before each, and how much is finished.
use Rattle.std.proofs.Common.{◌≡◌, ◌⊎◌, inl, inr, ℕ, zero, suc, ◌+◌, ◌<◌, ◌≤◌, List, [], ◌∷◌, map, length, take, drop, Bool, true, false, ◌&&◌, nat_lt, IsTrue, refl, ap, sym, ◌∙◌, subst, arith, Some}
use Rattle.std.specs.Prelude.{Contains, Option, slice_get, slice_index}
use Rattle.std.proofs.lemmas.Bool.{eq-eqb, and_parts}
use Rattle.std.proofs.lemmas.List.{take-append-drop}
use Rattle.vk_model.specs.declared.point.Point.{Point}
use Rattle.vk_model.specs.Trace.PointViews.{action_of, point_of}
use Rattle.vk_model.specs.Basics.{holds}
use Rattle.vk_model.specs.Sync.Node.{Node, Act, Hosts, Waits, Signals, Runs, Depends, acts}
use Rattle.vk_model.specs.Sync.Edge.{is_command}
use Rattle.vk_model.specs.Sync.Before.{before, IsNumbered}
use Rattle.vk_model.specs.Run.CachedRuns.{is_synchronization}
use Rattle.vk_model.proofs.Lists.Members.{contains-cons, contains-tail}
use Rattle.vk_model.proofs.Lists.Items.{some_same}
use Rattle.vk_model.proofs.Sync.Numbers.{number_below}
use Rattle.vk_order.specs.declared.acts.Row.{Row}
use Rattle.vk_order.specs.declared.lines.Line.{Line}
use Rattle.vk_order.specs.declared.lines.Line.TheVariants.{Commands as OfCommands}
use Rattle.vk_order.specs.Lines.{line_of, place, on_line, same_line}
use Rattle.vk_order.specs.NodeViews.{act_of, node_of, nodes_after}
use Rattle.vk_order.specs.Queries.{IsNew}
use Rattle.vk_order.proofs.PlaceLemmas.{place-older, place-grows, place-top}
use Rattle.vk_order.proofs.RowLemmas.{nodes_after-append, numbered_after}
use Rattle.vk_events.specs.Happens.{CountsBefore, AreFronts}
use Rattle.vk_offers.specs.Inner.Rows.{AreCounted, Follow}
use Rattle.vk_offers.proofs.Commands.{on_queue, of_line, place_next}
use Rattle.vk_offers.proofs.RowsAlone.{still_there, same_before, kin_at, early_plain, late_plain, row_apart}

-- ---- parts of a list

take_at : {X : Type 0} (i : ℕ) (xs : List X) (j : ℕ) (x : X) → slice_get (take i xs) j ≡ Some x → (j < i) × (slice_get xs j ≡ Some x)
take_at zero xs j x e = absurd cc
take_at (suc i) [] j x e = absurd cc
take_at (suc i) (y ∷ xs) zero x e = (omega arith, e)
take_at (suc i) (y ∷ xs) (suc j) x e = let r = take_at i xs j x e in (let lt = r.0 in omega (arith, lt), r.1)

drop_at : {X : Type 0} (i : ℕ) (xs : List X) (j : ℕ) (x : X) → slice_get (drop i xs) j ≡ Some x → slice_get xs (i + j) ≡ Some x
drop_at zero [] j x e = absurd cc
drop_at zero (y ∷ xs) j x e = let same : 0 + j ≡ j = omega arith in ap (λ (k : ℕ). slice_get (y ∷ xs) k) same ∙ e
drop_at (suc i) [] j x e = absurd cc
drop_at (suc i) (y ∷ xs) j x e = let same : suc i + j ≡ suc (i + j) = omega arith in ap (λ (k : ℕ). slice_get (y ∷ xs) k) same ∙ drop_at i xs j x e

-- ---- nodes of rows

-- with one row more
pub next_row : (ns : List Node) (rows : List Row) (i : ℕ) (r : Row) → slice_get rows i ≡ Some r → nodes_after ns (take (suc i) rows) ≡ node_of (length (nodes_after ns (take i rows))) r ∷ nodes_after ns (take i rows)
next_row ns [] i r e = absurd cc
next_row ns (y ∷ rows) zero r e = ap (λ (x : Row). node_of (length ns) x ∷ ns) (some_same y r e)
next_row ns (y ∷ rows) (suc i) r e = next_row (node_of (length ns) y ∷ ns) rows i r e

-- none goes
pub grown_length : (ns : List Node) (ys : List Row) → length ns ≤ length (nodes_after ns ys)
grown_length ns [] = omega arith
grown_length ns (y ∷ ys) = let le = grown_length (node_of (length ns) y ∷ ns) ys in omega (arith, le)

-- a node that is there is an older one or that of a row
of_rows : (ns : List Node) (ys : List Row) (m : Node) → Contains (nodes_after ns ys) m → Contains ns m ⊎ ((j : ℕ) × (y : Row) × (slice_get ys j ≡ Some y) × (m.act ≡ act_of y.act))
of_rows ns [] m c = inl c
of_rows ns (y ∷ ys) m c = elim (of_rows (node_of (length ns) y ∷ ns) ys m c) [
  | inl there ↦ elim (contains-cons (node_of (length ns) y) ns m there) [
    | inl same ↦ inr (0, y, refl, ap (λ (k : Node). k.act) (sym same))
    | inr old ↦ inl old
  ]
  | inr late ↦ inr (suc late.0, late.1, late.2, late.3)
]

-- places of older nodes stay
places_stay : (ns : List Node) (ys : List Row) (l : Line) (k : ℕ) → k ≤ length ns → place (nodes_after ns ys) l k ≡ place ns l k
places_stay ns [] l k le = refl
places_stay ns (y ∷ ys) l k le = places_stay (node_of (length ns) y ∷ ns) ys l k (omega (arith, le)) ∙ place-older (node_of (length ns) y) ns refl l k le

-- where no command comes there are as many
plain_more : (n : Node) (ns : List Node) (q : ℕ) → IsNumbered (n ∷ ns) → is_command n.act ≡ false → place (n ∷ ns) (OfCommands q) (length (n ∷ ns)) ≡ place ns (OfCommands q) (length ns)
plain_more n ns q numbers plain =
    let more = place_next n ns (OfCommands q) (suc (length ns)) false (let e = numbers.0 in omega (arith, e)) (of_line q n ∙ ap (λ (t : Bool). t && on_queue q n) plain) in
    let top = place-top ns numbers.1 (OfCommands q) (suc (length ns)) (omega arith) in
    omega (arith, more, top)

all_plain : (ns : List Node) (ys : List Row) (q : ℕ) → IsNumbered ns → ((j : ℕ) (y : Row) → slice_get ys j ≡ Some y → is_command (act_of y.act) ≡ false)
    → place (nodes_after ns ys) (OfCommands q) (length (nodes_after ns ys)) ≡ place ns (OfCommands q) (length ns)
all_plain ns [] q numbers plain = refl
all_plain ns (y ∷ ys) q numbers plain =
    all_plain (node_of (length ns) y ∷ ns) ys q (refl, numbers) (λ j z e. plain (suc j) z e)
    ∙ plain_more (node_of (length ns) y) ns q (refl, numbers) (plain 0 y refl)

-- a command's line says that it is one, and its queue
pub of_command : (m : Node) (q : ℕ) → line_of m ≡ Some (OfCommands q) → IsTrue (is_command m.act) × IsTrue (on_queue q m)
of_command m q line =
    let on : on_line (OfCommands q) m ≡ true = ap (λ (o : Option Line). holds o (same_line (OfCommands q))) line ∙ eq-eqb q q refl in
    and_parts (is_command m.act) (on_queue q m) (sym (of_line q m) ∙ on)

-- ---- what is finished of the first rows

fronts_of_first : (ns : List Node) (ys : List Row) (finished : Node → Bool) (fronts : List ℕ) → IsNumbered ns → ((j : ℕ) (y : Row) → slice_get ys j ≡ Some y → is_command (act_of y.act) ≡ false)
    → AreFronts (nodes_after ns ys) finished fronts → AreFronts ns finished fronts
fronts_of_first ns ys finished fronts numbers plain is = record {
  first = λ m q on c line lt. is.first m q on (still_there ns ys m c) line (let same = stays m q c in omega (arith, lt, same));
  next = λ m q on c line at. is.next m q on (still_there ns ys m c) line (stays m q c ∙ at);
  there = λ q on. let le = is.there q on in let same = all_plain ns ys q numbers plain in omega (arith, le, same);
  commands = λ m c e. is.commands m (still_there ns ys m c) e;
}
  where
    stays : (m : Node) (q : ℕ) → Contains ns m → place (nodes_after ns ys) (OfCommands q) m.number ≡ place ns (OfCommands q) m.number
    stays m q c = places_stay ns ys (OfCommands q) m.number (let lt = number_below ns numbers m c in omega (arith, lt))

-- ---- each row may follow

module _ (ns : List Node) (numbers : IsNumbered ns) (p : Point) (rows : List Row) (points : (i : ℕ) (r : Row) → slice_get rows i ≡ Some r → r.point ≡ p) (are : map (λ r. act_of r.act) rows ≡ acts (action_of p.action))
    (new : IsNew (point_of p) ns) where
  module _ (i : ℕ) (r : Row) (at : slice_get rows i ≡ Some r) where
    abbrev all : List Node
    all = nodes_after ns (take i rows)

    abbrev n : Node
    n = node_of (length (nodes_after ns (take i rows))) r

    abbrev alone : Node
    alone = node_of (length ns) r

    now : IsNumbered (node_of (length (nodes_after ns (take i rows))) r ∷ nodes_after ns (take i rows))
    now = (refl, numbered_after ns (take i rows) numbers)

    counts_now : (counts : List ℕ) → is_command (act_of r.act) ≡ false → CountsBefore (alone ∷ ns) alone counts → CountsBefore (n ∷ all) n counts
    counts_now counts plain is = record { first = first; there = there }
      where
        first : (m : Node) (q : ℕ) → q < 4 → Contains (n ∷ all) m → line_of m ≡ Some (OfCommands q) → before (n ∷ all) m n ≡ nat_lt (place (n ∷ all) (OfCommands q) m.number) (slice_index counts q)
        first m q on c line = elim (contains-cons n all m c) [
          | inl own ↦ absurd (let is = (of_command m q line).0 in let e : is_command m.act ≡ false = ap (λ (k : Node). is_command k.act) (sym own) ∙ plain in cc)
          | inr there ↦ elim (of_rows ns (take i rows) m there) [
            | inl old ↦ (
                let lt = number_below ns numbers m old in
                same_before ns numbers (take i rows) r (λ j y e. let s = take_at i rows j y e in kin_at p rows points are j i y r s.0 s.1 at) m old
                ∙ is.first m q on (contains-tail alone ns m old) line
                ∙ ap (λ (k : ℕ). nat_lt k (slice_index counts q))
                (place-older alone ns refl (OfCommands q) m.number (omega (arith, lt))
                ∙ sym (place-older n all refl (OfCommands q) m.number (let a = number_below all now.1 m there in omega (arith, a)) ∙ places_stay ns (take i rows) (OfCommands q) m.number (omega (arith, lt)))))
            | inr early ↦ absurd (
                let s = take_at i rows early.0 early.1 early.2 in
                let is = (of_command m q line).0 in
                let e : is_command m.act ≡ false = ap is_command early.3 ∙ early_plain p rows points are early.0 i early.1 r s.0 s.1 at in
                cc)
          ]
        ]

        there : (q : ℕ) → q < 4 → slice_index counts q ≤ place (n ∷ all) (OfCommands q) n.number
        there q on =
            let le = is.there q on in
            let a = place-older alone ns refl (OfCommands q) (length ns) (omega arith) in
            let b = place-older n all refl (OfCommands q) (length all) (omega arith) in
            let c = places_stay ns (take i rows) (OfCommands q) (length ns) (omega arith) in
            let d = place-grows all (OfCommands q) (length ns) (length all) (grown_length ns (take i rows)) in
            omega (arith, le, a, b, c, d)

    fronts_now : (finished : Node → Bool) (fronts : List ℕ) → AreFronts (nodes_after ns rows) finished fronts → AreFronts (n ∷ all) finished fronts
    fronts_now finished fronts is =
        fronts_of_first (n ∷ all) (drop (suc i) rows) finished fronts now
        (λ j y e. late_plain p rows points are i (suc i + j) r y (omega arith) at (drop_at (suc i) rows j y e))
        (subst (λ (os : List Node). AreFronts os finished fronts) whole is)
      where
        whole : nodes_after ns rows ≡ nodes_after (n ∷ all) (drop (suc i) rows)
        whole = ap (λ (ys : List Row). nodes_after ns ys) (sym (take-append-drop (suc i) rows)) ∙ nodes_after-append ns (take (suc i) rows) (drop (suc i) rows)
            ∙ ap (λ (os : List Node). nodes_after os (drop (suc i) rows)) (next_row ns rows i r at)

  pub follow : (counts : List (List ℕ)) (finished : Node → Bool) (fronts : List ℕ) → p.queue < 4 → AreCounted ns rows counts → AreFronts (nodes_after ns rows) finished fronts → Follow ns rows counts finished fronts
  follow counts finished fronts low counted is i r c at own = record {
    queue = subst (λ (q : Point). q.queue < 4) (sym (points i r at)) low;
    same = λ m there. refl;
    counted = λ sync. counts_now i r at c (plain (act_of r.act) sync) (counted i r c at own sync (row_apart p rows points are ns new i r at));
    are_fronts = fronts_now i r at finished fronts is;
  }
    where
      plain : (a : Act) → IsTrue (is_synchronization a) → is_command a ≡ false
      plain (Runs d) is = absurd cc
      plain (Hosts x) is = refl
      plain (Waits s) is = refl
      plain (Signals s) is = refl
      plain (Depends r e) is = refl
