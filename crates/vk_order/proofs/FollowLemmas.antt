-- Rows of one point that come next, and what comes after each.
use Rattle.std.proofs.Common.{◌≡◌, ℕ, zero, suc, ◌+◌, ◌<◌, List, [], ◌∷◌, length, take, get_or, add-one, Bool, false, ◌||◌, Some, refl, ap, sym, ◌∙◌, arith, ◌≤◌}
use Rattle.std.specs.Prelude.{Contains, slice_get}
use Rattle.std.proofs.lemmas.Option.{slice_get_within}
use Rattle.std.proofs.Math.Seq.{take-suc}
use Rattle.vk_model.specs.Sync.Node.{Node}
use Rattle.vk_model.specs.Sync.Edge.{edge, siblings, pairs}
use Rattle.vk_model.specs.Sync.Before.{IsNumbered}
use Rattle.vk_order.specs.declared.acts.Row.{Row}
use Rattle.vk_order.specs.declared.fronts.Front.{Front}
use Rattle.vk_order.specs.declared.lines.Line.{Line}
use Rattle.vk_order.specs.NodeViews.{act_of, node_of, nodes_after}
use Rattle.vk_order.specs.Lines.{class_of}
use Rattle.vk_order.specs.Prefixes.{submits}
use Rattle.vk_order.specs.Inner.Leads.{line_leads}
use Rattle.vk_order.specs.Inner.Links.{by_name}
use Rattle.vk_order.specs.Inner.Fronts.{IsFront}
use Rattle.vk_order.specs.Inner.Tallies.{CanFollow}
use Rattle.vk_order.proofs.RowLemmas.{nodes_after-append, length-nodes_after, numbered_after}
use Rattle.vk_order.proofs.EdgeLemmas.{older_there}
use Rattle.vk_order.proofs.LineTests.{edge_split}
use Rattle.vk_order.proofs.WaitLemmas.{no_wait}
use Rattle.vk_order.proofs.FrontLemmas.{front_same, front_stays}

take_get : {A : Type 0} (i : ℕ) (xs : List A) (j : ℕ) (x : A) → slice_get (take i xs) j ≡ Some x → (j < i) × (slice_get xs j ≡ Some x)
take_get zero xs j x e = absurd cc
take_get (suc i) [] j x e = absurd cc
take_get (suc i) (y ∷ xs) zero x e = (omega arith, e)
take_get (suc i) (y ∷ xs) (suc j) x e = let r = take_get i xs j x e in (let lt = r.0 in omega arith, r.1)

take_long : {A : Type 0} (i : ℕ) (xs : List A) → i ≤ length xs → length (take i xs) ≡ i
take_long zero xs le = refl
take_long (suc i) [] le = absurd (omega arith)
take_long (suc i) (y ∷ xs) le = let e = take_long i xs (omega arith) in omega arith

-- a front over old nodes is one when nodes come that fail its test
front_after : (ys : List Row) (ns : List Node) (ls : List Line) → IsNumbered ns → (test : Node → Bool) (x : Front) → IsFront ns ls test x → ((j : ℕ) (y : Row) → slice_get ys j ≡ Some y → test (node_of (length ns + j) y) ≡ false) → IsFront (nodes_after ns ys) ls test x
front_after [] ns ls numbers test x is fails = is
front_after (y ∷ ys) ns ls numbers test x is fails =
    let here : length ns + 0 ≡ length ns = omega arith in
    let off : test (node_of (length ns) y) ≡ false = ap (λ (i : ℕ). test (node_of i y)) (sym here) ∙ fails 0 y refl in
    front_after ys (node_of (length ns) y ∷ ns) ls (refl, numbers) test x (front_stays ns ls test (node_of (length ns) y) (refl, numbers) x off is)
    (λ j z e. let at : length (node_of (length ns) y ∷ ns) + j ≡ length ns + suc j = omega arith in ap (λ (i : ℕ). test (node_of i z)) at ∙ fails (suc j) z e)

pub next_nodes : (ns : List Node) (fresh : List Row) (i : ℕ) (d : Row) → i < length fresh
    → nodes_after ns (take (i + 1) fresh) ≡ node_of (length (nodes_after ns (take i fresh))) (get_or fresh i d) ∷ nodes_after ns (take i fresh)
next_nodes ns fresh i d lt = rw (add-one, take-suc fresh i d lt) (nodes_after-append ns (take i fresh) (get_or fresh i d ∷ []))

module _ (ns : List Node) (fresh : List Row) (can : CanFollow ns fresh) (numbers : IsNumbered ns) (i : ℕ) (r : Row) (at : slice_get fresh i ≡ Some r) where
  low : i < length fresh
  low = slice_get_within fresh i r at

  abbrev all : List Node
  all = nodes_after ns (take i fresh)

  abbrev n : Node
  n = node_of (length (nodes_after ns (take i fresh))) r

  count : length (nodes_after ns (take i fresh)) ≡ length ns + i
  count = let a = length-nodes_after ns (take i fresh) in let b = take_long i fresh (let lt = low in omega arith) in omega arith

  n_is : n ≡ node_of (length ns + i) r
  n_is = ap (λ (k : ℕ). node_of k r) count

  now : IsNumbered (n ∷ all)
  now = (refl, numbered_after ns (take i fresh) numbers)

  same_names : (k : Node) → by_name all k n ≡ by_name ns k n
  same_names k = go i refl
    where
      go : (j : ℕ) → i ≡ j → by_name all k n ≡ by_name ns k n
      go zero e = ap (λ (m : ℕ). by_name (nodes_after ns (take m fresh)) k n) e
      go (suc j) e =
          let none = can.later i r at (omega arith) in
          ap (λ (t : Bool). submits n.point.entry k || (pairs k.act n.act || t)) (no_wait all k n none ∙ sym (no_wait ns k n none))

  old_edges : (k : Node) → Contains ns k → (line_leads r.point.queue (act_of r.act) (class_of k) || by_name ns k n) ≡ edge all k n
  old_edges k c =
      ap (λ (t : Bool). line_leads r.point.queue (act_of r.act) (class_of k) || t) (sym (same_names k))
      ∙ sym (edge_split n all now k (older_there ns (take i fresh) k c) (ap (siblings k) n_is ∙ can.apart i r at k c))

  new_edges : (j : ℕ) (y : Row) → slice_get (take i fresh) j ≡ Some y → edge all (node_of (length ns + j) y) n ≡ false
  new_edges j y e = let s = take_get i fresh j y e in ap (edge all (node_of (length ns + j) y)) n_is ∙ can.quiet j i y r s.1 at s.0 all

  pub front_now : (ls : List Line) (f : Front) → IsFront ns ls (λ k. line_leads r.point.queue (act_of r.act) (class_of k) || by_name ns k (node_of (length (nodes_after ns (take i fresh))) r)) f
      → IsFront (nodes_after ns (take i fresh)) ls (λ k. edge (nodes_after ns (take i fresh)) k (node_of (length (nodes_after ns (take i fresh))) r)) f
  front_now ls f is =
      front_after (take i fresh) ns ls numbers (λ k. edge all k n) f
      (front_same ns ls (λ k. line_leads r.point.queue (act_of r.act) (class_of k) || by_name ns k n) (λ k. edge all k n) f old_edges is) new_edges
