-- The rows that are kept are the nodes of the past.
use Rattle.std.proofs.Common.{◌≡◌, ◌⊎◌, inl, inr, ⊎_elim, ℕ, ◌+◌, ◌<◌, ◌≤◌, Bool, true, false, List, [], length, get_or, Some, refl, sym, ap, ◌∙◌, subst, arith}
use Rattle.std.specs.Prelude.{Contains, slice_get, nat_lt}
use Rattle.std.proofs.lemmas.Bool.{ltb-true, ltb-false}
use Rattle.std.proofs.lemmas.Option.{slice_get_read}
use Rattle.vk_model.specs.Trace.Point.{Past}
use Rattle.vk_model.specs.Sync.Node.{Node, nodes}
use Rattle.vk_order.specs.declared.acts.Row.{Row}
use Rattle.vk_order.specs.NodeViews.{node_of, nodes_after}
use Rattle.vk_order.proofs.RowLemmas.{length-nodes_after}
use Rattle.vk_order.proofs.NamedLemmas.{node_there}
use Rattle.vk_order.proofs.BeforeLemmas.{node_row}
use Rattle.vk_model.proofs.Lists.Items.{item_at}

-- what holds of each of the first rows, and of one more
pub one_more : (P : Row → Type 0) (rows : List Row) (i : ℕ) (q : Row) → i < length rows → q ≡ get_or rows i q
    → ((j : ℕ) (r : Row) → j < i → slice_get rows j ≡ Some r → P r) → P q → (j : ℕ) (r : Row) → j < i + 1 → slice_get rows j ≡ Some r → P r
one_more P rows i q lt is before here j r low at = ⊎_elim
    (λ (less : j < i). before j r less at)
    (λ (same : j ≡ i). let e : slice_get rows i ≡ Some q = slice_get_read rows (length rows) i q refl lt is in let f : slice_get rows i ≡ Some r = ap (slice_get rows) (sym same) ∙ at in let s : q ≡ r = cc in subst P s here)
    (let split : (j < i) ⊎ (j ≡ i) = last j i low in split)
  where
    last : (j i : ℕ) → j < i + 1 → (j < i) ⊎ (j ≡ i)
    last j i low = go (nat_lt j i) refl
      where
        go : (b : Bool) → nat_lt j i ≡ b → (j < i) ⊎ (j ≡ i)
        go true e = inl (ltb-true j i e)
        go false e = inr (let le : i ≤ j = ltb-false j i e in omega arith)

module _ (past now : Past) (rows : List Row) (listed : nodes_after [] rows ≡ nodes past) (view : past ≡ now) where
  are : nodes_after [] rows ≡ nodes now
  are = listed ∙ ap nodes view

  pub of_node : (n : Node) → Contains (nodes now) n → (q : Row) × (slice_get rows n.number ≡ Some q) × (n ≡ node_of n.number q)
  of_node n c = node_row rows n n.number (subst (λ (l : List Node). Contains l n) (sym are) c) refl

  pub of_row : (i : ℕ) (q : Row) → slice_get rows i ≡ Some q → Contains (nodes now) (node_of i q)
  of_row i q e = subst (λ (l : List Node). Contains l (node_of i q)) are (node_there rows i q e)

  pub row_count : length rows ≡ length (nodes now)
  row_count = let a = length-nodes_after [] rows in let b : length (nodes_after [] rows) ≡ length (nodes now) = ap length are in omega arith

  pub at_row : (i : ℕ) (q : Row) → i < length (nodes now) → q ≡ get_or rows i q → Contains (nodes now) (node_of i q)
  at_row i q lt is = of_row i q (slice_get_read rows (length rows) i q refl (omega (arith, row_count)) is)

  -- a node of a number is that of the row there
  pub same_row : (i : ℕ) (q : Row) (n : Node) → i < length (nodes now) → q ≡ get_or rows i q → Contains (nodes now) n → n.number ≡ i → node_of i q ≡ n
  same_row i q n lt is c e =
      let of = of_node n c in
      let here : slice_get rows i ≡ Some of.0 = ap (slice_get rows) (sym e) ∙ of.1 in
      let there : slice_get rows i ≡ Some q = slice_get_read rows (length rows) i q refl (omega (arith, row_count)) is in
      let same : q ≡ of.0 = cc in
      ap (λ (r : Row). node_of i r) same ∙ ap (λ (k : ℕ). node_of k of.0) (sym e) ∙ sym of.2

  -- there is a node of each number below the count
  pub some_node : (i : ℕ) → i < length (nodes now) → (n : Node) × Contains (nodes now) n × (n.number ≡ i)
  some_node i lt = let q = item_at rows i (omega (arith, row_count)) in (node_of i q.0, of_row i q.0 q.1, refl)
