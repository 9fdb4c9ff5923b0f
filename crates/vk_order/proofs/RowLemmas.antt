-- Nodes of rows, one after another.
use Rattle.std.proofs.Common.{◌≡◌, ℕ, ◌+◌, ◌<◌, ◌≤◌, List, [], ◌∷◌, ◌++◌, map, length, drop, get_or, add-one, drop-cons, refl, arith, append_assoc, zero, suc, ap, sym, ◌∙◌}
use Rattle.std.proofs.lemmas.List.{drop_all, map-append, append-nil}
use Rattle.vk_model.specs.Trace.Point as spec
use Rattle.vk_model.specs.Sync.Node as sync
use Rattle.vk_model.specs.Sync.Before.{IsNumbered}
use Rattle.vk_order.specs.declared.act.Act.{Act}
use Rattle.vk_order.specs.declared.acts.Row.{Row}
use Rattle.vk_model.specs.Trace.PointViews.{point_of}
use Rattle.vk_order.specs.NodeViews.{act_of, node_of, nodes_after}

pub nodes_after-append : (ns : List sync.Node) (xs ys : List Row) → nodes_after ns (xs ++ ys) ≡ nodes_after (nodes_after ns xs) ys
nodes_after-append ns [] ys = refl
nodes_after-append ns (x ∷ xs) ys = nodes_after-append (node_of (length ns) x ∷ ns) xs ys

pub length-nodes_after : (ns : List sync.Node) (xs : List Row) → length (nodes_after ns xs) ≡ length ns + length xs
length-nodes_after ns [] = omega arith
length-nodes_after ns (x ∷ xs) = let e = length-nodes_after (node_of (length ns) x ∷ ns) xs in omega arith

pub numbered_after : (ns : List sync.Node) (xs : List Row) → IsNumbered ns → IsNumbered (nodes_after ns xs)
numbered_after ns [] numbers = numbers
numbered_after ns (x ∷ xs) numbers = numbered_after (node_of (length ns) x ∷ ns) xs (refl, numbers)

-- what is left of the acts of a point
pub rows-step : (p : spec.Point) (acts : List Act) (k : ℕ) (d : Act) (ns : List sync.Node) (rows : List Row) (r : Row) → k < length acts → point_of r.point ≡ p → r.act ≡ get_or acts k d
    → sync.with_acts p (map act_of (drop (k + 1) acts)) (nodes_after ns (rows ++ r ∷ [])) ≡ sync.with_acts p (map act_of (drop k acts)) (nodes_after ns rows)
rows-step p acts k d ns rows r lt at is =
    let e : drop k acts ≡ get_or acts k d ∷ drop (k + 1) acts = rw (add-one, drop-cons acts k d) refl in
    rw (nodes_after-append ns rows (r ∷ []), e, at, is) refl

pub rows-end : (p : spec.Point) (acts : List Act) (k : ℕ) (ns : List sync.Node) → length acts ≤ k → sync.with_acts p (map act_of (drop k acts)) ns ≡ ns
rows-end p acts k ns le = rw (drop_all k acts le) refl

pub ruleset appended = (nodes_after-append, length-nodes_after)

-- the acts of the rows, and what is left
pub row_acts-step : (acts : List Act) (k : ℕ) (d : Act) (rows : List Row) (r : Row) → k < length acts → r.act ≡ get_or acts k d
    → map (λ (x : Row). act_of x.act) (rows ++ r ∷ []) ++ map act_of (drop (k + 1) acts) ≡ map (λ (x : Row). act_of x.act) rows ++ map act_of (drop k acts)
row_acts-step acts k d rows r lt is =
    let e : drop k acts ≡ get_or acts k d ∷ drop (k + 1) acts = rw (add-one, drop-cons acts k d) refl in
    rw (map-append (λ (x : Row). act_of x.act) rows (r ∷ []), e, is) (append_assoc (map (λ (x : Row). act_of x.act) rows) _ _)

pub row_acts-end : (acts : List Act) (k : ℕ) (rows : List Row) → length acts ≤ k → map (λ (x : Row). act_of x.act) rows ++ map act_of (drop k acts) ≡ map (λ (x : Row). act_of x.act) rows
row_acts-end acts k rows le = rw (drop_all k acts le) (append-nil (map (λ (x : Row). act_of x.act) rows))

-- what holds of each item of a list, and of one more
pub row_push : (p : Rattle.vk_model.specs.declared.point.Point.Point) (rows : List Row) (r : Row) → ((i : ℕ) (x : Row) → Rattle.std.specs.Prelude.slice_get rows i ≡ Rattle.std.proofs.Common.Some x → x.point ≡ p) → r.point ≡ p
    → (i : ℕ) (x : Row) → Rattle.std.specs.Prelude.slice_get (rows ++ r ∷ []) i ≡ Rattle.std.proofs.Common.Some x → x.point ≡ p
row_push p [] r all is zero x e = let same : r ≡ x = cc in ap (λ (y : Row). y.point) (sym same) ∙ is
row_push p [] r all is (suc i) x e = absurd cc
row_push p (y ∷ rows) r all is zero x e = all zero x e
row_push p (y ∷ rows) r all is (suc i) x e = row_push p rows r (λ j z f. all (suc j) z f) is i x e

pub ruleset rows_pushed = (rows-step, rows-end, row_acts-step, row_acts-end, row_push)
