-- What a change of an end does to a map's entries, and the edges of a range.
use Rattle.std.proofs.Common.{◌≡◌, ◌≢◌, ◌<◌, ◌≤◌, ◌+◌, ℕ, List, [], ◌∷◌, ◌++◌, refl, sym, ap, ◌∙◌, subst, Bool, true, false, Option, Some, None, inl, inr, arith, append_assoc}
use Rattle.std.specs.Ordering.{nat_cmp}
use Rattle.std.specs.Map.{remove_entry, set_value}
use Rattle.std.specs.BTreeMap.{insert_entry, is_at}
use Rattle.vk_ranges.specs.declared.changes.Edge.{Edge}
use Rattle.vk_ranges.specs.declared.changes.Edge.TheVariants.{Stays, Goes, Becomes, New}
use Rattle.vk_ranges.specs.Runs.{IsTiling, after, upto}
use Rattle.vk_ranges.specs.Inner.Joins.{EndsApart, JoinsTo, Closes}
use Rattle.vk_ranges.specs.Inner.Plans.{edged, CanBeUndone}
use Rattle.vk_ranges.specs.Inner.Edges.{first_value, IsBefore, IsEdgeBefore, IsEdgeAfter, right_of, EndsAt, IsClosed}
use Rattle.vk_ranges.proofs.TilingLemmas.{tiling_upto, upto_none, after_here, after_later}
use Rattle.vk_ranges.proofs.OrderLemmas.{less, same, more, after_all}
use Rattle.vk_ranges.proofs.JoinLemmas.{apart_push}

module _ {T : Type 0} where
  -- All of the runs end below an index.
  abbrev pub Below : ℕ → List (ℕ × T) → Type 0
  Below at [] = Unit {0}
  Below at (run ∷ runs) = (run.0 < at) × Below at runs

  -- The first of the runs, if there is one, ends above an index.
  abbrev pub IsAbove : ℕ → List (ℕ × T) → Type 0
  IsAbove at [] = Unit {0}
  IsAbove at (run ∷ runs) = at < run.0

  pub below_weaker : (low high : ℕ) (runs : List (ℕ × T)) → low ≤ high → Below low runs → Below high runs
  below_weaker low high [] le below = tt
  below_weaker low high (run ∷ runs) le below = let lt = below.0 in ((omega arith), below_weaker low high runs le below.1)

  pub below_append : (at : ℕ) (xs ys : List (ℕ × T)) → Below at xs → Below at ys → Below at (xs ++ ys)
  below_append at [] ys below more = more
  below_append at (x ∷ xs) ys below more = (below.0, below_append at xs ys below.1 more)

  pub below_tiling : (start end at : ℕ) (runs : List (ℕ × T)) → IsTiling start end runs → end < at → (start < at) × Below at runs
  below_tiling start end at [] t lt = ((omega arith), tt)
  below_tiling start end at (run ∷ runs) t lt = let low = t.0 in let rest = below_tiling run.0 end at runs t.1 lt in let le = rest.0 in ((omega arith), rest)

  pub above_tiling : (start end at : ℕ) (runs : List (ℕ × T)) → IsTiling start end runs → at ≤ start → IsAbove at runs
  above_tiling start end at [] t le = tt
  above_tiling start end at (run ∷ runs) t le = let lt = t.0 in omega arith

  pub above_append : (start end at : ℕ) (xs ys : List (ℕ × T)) → IsTiling start end xs → at ≤ start → IsAbove at ys → IsAbove at (xs ++ ys)
  above_append start end at [] ys t le above = above
  above_append start end at (x ∷ xs) ys t le above = let lt = t.0 in omega arith

  -- runs before a last one end below its end
  below_last : (start at : ℕ) (runs : List (ℕ × T)) (value : T) → IsTiling start at (runs ++ (at, value) ∷ []) → (start < at) × Below at runs
  below_last start at [] value t = (t.0, tt)
  below_last start at (run ∷ runs) value t = let low = t.0 in let rest = below_last run.0 at runs value t.1 in let lt = rest.0 in ((omega arith), rest)

  -- ---- one end

  insert_at : (at : ℕ) (xs ys : List (ℕ × T)) (value : T) → Below at xs → IsAbove at ys → insert_entry nat_cmp (xs ++ ys) at value ≡ xs ++ (at, value) ∷ ys
  insert_at at [] [] value below above = refl
  insert_at at [] (y ∷ ys) value below above = rw (less at y.0 above) refl
  insert_at at (x ∷ xs) ys value below above = rw (more at x.0 below.0) (ap (λ (rest : List (ℕ × T)). x ∷ rest) (insert_at at xs ys value below.1 above))

  remove_at : (at : ℕ) (xs : List (ℕ × T)) (run : ℕ × T) (ys : List (ℕ × T)) → Below at xs → at ≡ run.0 → remove_entry (is_at (nat_cmp at)) (xs ++ run ∷ ys) ≡ xs ++ ys
  remove_at at [] run ys below is = rw (same at run.0 is) refl
  remove_at at (x ∷ xs) run ys below is = rw (more at x.0 below.0) (ap (λ (rest : List (ℕ × T)). x ∷ rest) (remove_at at xs run ys below.1 is))

  set_at : (at : ℕ) (xs : List (ℕ × T)) (run : ℕ × T) (ys : List (ℕ × T)) (value : T) → Below at xs → at ≡ run.0 → set_value (is_at (nat_cmp at)) (xs ++ run ∷ ys) value ≡ xs ++ (at, value) ∷ ys
  set_at at [] run ys value below is = rw (same at run.0 is) (ap (λ (n : ℕ). (n, value) ∷ ys) (sym is))
  set_at at (x ∷ xs) run ys value below is = rw (more at x.0 below.0) (ap (λ (rest : List (ℕ × T)). x ∷ rest) (set_at at xs run ys value below.1 is))

  -- ---- the low edge

  pub record LowDone (low : ℕ) (old : List (ℕ × T)) (first : T) (edge : Edge T) : Type 0 where
    pub front : List (ℕ × T)
    pub kept : List (ℕ × T)
    pub whole : old ≡ front ++ after low old
    pub front_below : Below (low + 1) front
    pub kept_below : Below (low + 1) kept
    pub does : (runs : List (ℕ × T)) → IsAbove low runs → edged low edge (front ++ runs) ≡ kept ++ runs
    pub joins : JoinsTo low (upto 0 low old) first kept

  module _ (low len : ℕ) (old : List (ℕ × T)) (t : IsTiling 0 len old) (le : low ≤ len) (first : T) where
    at_start : low ≡ 0 → LowDone low old first Stays
    at_start is =
        let none : [] ≡ upto 0 low old = sym (upto_none 0 low old (omega arith)) in
        record {
          front = [];
          kept = [];
          whole = sym (after_all 0 len low old t (omega arith));
          front_below = tt;
          kept_below = tt;
          does = λ runs above. refl;
          joins = inl (none, subst (λ (xs : List (ℕ × T)). EndsApart xs first) none tt);
        }

    module _ (front : List (ℕ × T)) (value : T) (left_is : upto 0 low old ≡ front ++ (low, value) ∷ []) where
      left_tiling : IsTiling 0 low (front ++ (low, value) ∷ [])
      left_tiling = subst (λ (xs : List (ℕ × T)). IsTiling 0 low xs) left_is (tiling_upto 0 low len old t (omega arith) le)

      left_below : Below (low + 1) (front ++ (low, value) ∷ [])
      left_below = (below_tiling 0 low (low + 1) (front ++ (low, value) ∷ []) left_tiling (omega arith)).1

      front_below : Below low front
      front_below = (below_last 0 low front value left_tiling).1

      weaker : Below (low + 1) front
      weaker = below_weaker low (low + 1) front (omega arith) front_below

      apart : value ≢ first → JoinsTo low (upto 0 low old) first (front ++ (low, value) ∷ [])
      apart ne = inl (sym left_is, subst (λ (xs : List (ℕ × T)). EndsApart xs first) (sym left_is) (apart_push front (low, value) first ne))

      equal : value ≡ first → JoinsTo low (upto 0 low old) first front
      equal is = inr (record { last = value; is = left_is; same = is })

      stays_at_end : old ≡ front ++ (low, value) ∷ after low old → value ≢ first → LowDone low old first Stays
      stays_at_end whole ne =
          record {
            front = front ++ (low, value) ∷ [];
            kept = front ++ (low, value) ∷ [];
            whole = whole ∙ sym (append_assoc front ((low, value) ∷ []) (after low old));
            front_below = left_below;
            kept_below = left_below;
            does = λ runs above. refl;
            joins = apart ne;
          }

      goes : old ≡ front ++ (low, value) ∷ after low old → value ≡ first → LowDone low old first Goes
      goes whole is =
          record {
            front = front ++ (low, value) ∷ [];
            kept = front;
            whole = whole ∙ sym (append_assoc front ((low, value) ∷ []) (after low old));
            front_below = left_below;
            kept_below = weaker;
            does = λ runs above.
                ap (remove_entry (is_at (nat_cmp low))) (append_assoc front ((low, value) ∷ []) runs) ∙ remove_at low front (low, value) runs front_below refl;
            joins = equal is;
          }

      stays_within : old ≡ front ++ after low old → value ≡ first → LowDone low old first Stays
      stays_within whole is = record { front = front; kept = front; whole = whole; front_below = weaker; kept_below = weaker; does = λ runs above. refl; joins = equal is }

      is_new : old ≡ front ++ after low old → (other : T) → value ≡ other → other ≢ first → LowDone low old first (New other)
      is_new whole other is ne =
          record {
            front = front;
            kept = front ++ (low, value) ∷ [];
            whole = whole;
            front_below = weaker;
            kept_below = left_below;
            does = λ runs above.
                insert_at low front runs other front_below above ∙ ap (λ (v : T). front ++ (low, v) ∷ runs) (sym is) ∙ sym (append_assoc front ((low, value) ∷ []) runs);
            joins = apart (λ e. ne (sym is ∙ e));
          }

    pub low_done : (left : Option T) (is_end : Bool) (front : List (ℕ × T)) (edge : Edge T) → IsBefore low old left is_end front → IsEdgeBefore is_end left first edge → LowDone low old first edge
    low_done None is_end front Stays before edge_is = at_start before.0
    low_done None is_end front Goes before edge_is = let e = edge_is.1 in absurd cc
    low_done None is_end front (Becomes value) before edge_is = absurd edge_is
    low_done None is_end front (New value) before edge_is = let e = edge_is.1 in absurd cc
    low_done (Some value) true front Stays before edge_is = stays_at_end front value before.0 before.1 (λ e. edge_is.0 refl (ap Some e))
    low_done (Some value) true front Goes before edge_is = let e = edge_is.1 in goes front value before.0 before.1 cc
    low_done (Some value) true front (Becomes other) before edge_is = absurd edge_is
    low_done (Some value) true front (New other) before edge_is = let e = edge_is.0 in absurd cc
    low_done (Some value) false front Stays before edge_is = let e = edge_is.1 refl in stays_within front value before.0 before.1 cc
    low_done (Some value) false front Goes before edge_is = let e = edge_is.0 in absurd cc
    low_done (Some value) false front (Becomes other) before edge_is = absurd edge_is
    low_done (Some value) false front (New other) before edge_is = let e = edge_is.1 in is_new front value before.0 before.1 other (cc) edge_is.2

  -- ---- the high edge

  pub record HighDone (high : ℕ) (run : ℕ × T) (rest : List (ℕ × T)) (edge : Edge T) (last : T) : Type 0 where
    pub back : List (ℕ × T)
    pub tail : List (ℕ × T)
    pub back_is : after high (run ∷ rest) ≡ back
    pub does : (xs : List (ℕ × T)) → Below high xs → edged high edge (xs ++ run ∷ rest) ≡ xs ++ tail
    pub above : (low : ℕ) → low < high → IsAbove low tail
    pub closes : (xs : List (ℕ × T)) → Closes high (xs ++ (high, last) ∷ []) back (xs ++ tail)
    pub undone : (xs : List (ℕ × T)) → Below high xs → CanBeUndone high edge (xs ++ run ∷ rest)

  closes_apart : (high : ℕ) (last : T) (xs back : List (ℕ × T)) → first_value back ≢ Some last → Closes high (xs ++ (high, last) ∷ []) back (xs ++ (high, last) ∷ back)
  closes_apart high last xs [] apart = refl
  closes_apart high last xs (next ∷ back) apart =
      record {
        kept = xs ++ (high, last) ∷ [];
        is = sym (append_assoc xs ((high, last) ∷ []) (next ∷ back));
        joins = inl (refl, apart_push xs (high, last) next.1 (λ e. apart (ap Some (sym e))));
      }

  closes_same : (high : ℕ) (last : T) (xs back : List (ℕ × T)) → first_value back ≡ Some last → Closes high (xs ++ (high, last) ∷ []) back (xs ++ back)
  closes_same high last xs [] is = absurd cc
  closes_same high last xs (next ∷ back) is = record { kept = xs; is = refl; joins = inr (record { last = last; is = refl; same = cc }) }

  module _ (high cursor len : ℕ) (run : ℕ × T) (rest : List (ℕ × T)) (t : IsTiling cursor len (run ∷ rest)) (last : T) where
    ended : run.0 ≡ high → after high (run ∷ rest) ≡ rest
    ended is = after_later high run rest (omega arith) ∙ after_all run.0 len high rest t.1 (omega arith)

    by_edge : (is_end : Bool) (edge : Edge T) → EndsAt high run.0 is_end → IsEdgeAfter is_end (right_of is_end run rest) last edge → HighDone high run rest edge last
    by_edge true Stays ends edge_is = let e = edge_is.0 in absurd cc
    by_edge true Goes ends edge_is =
        record {
          back = rest;
          tail = rest;
          back_is = ended ends;
          does = λ xs below. remove_at high xs run rest below (sym ends);
          above = λ low lt. above_tiling run.0 len low rest t.1 (omega arith);
          closes = λ xs. closes_same high last xs rest edge_is.1;
          undone = λ xs below. tt;
        }
    by_edge true (Becomes value) ends edge_is =
        record {
          back = rest;
          tail = (high, last) ∷ rest;
          back_is = ended ends;
          does = λ xs below. set_at high xs run rest value below (sym ends) ∙ ap (λ (v : T). xs ++ (high, v) ∷ rest) edge_is.1;
          above = λ low lt. lt;
          closes = λ xs. closes_apart high last xs rest edge_is.2;
          undone = λ xs below. tt;
        }
    by_edge true (New value) ends edge_is = let e = edge_is.0 in absurd cc
    by_edge false Stays ends edge_is =
        record {
          back = run ∷ rest;
          tail = run ∷ rest;
          back_is = after_here high run rest ends;
          does = λ xs below. refl;
          above = λ low lt. omega arith;
          closes = λ xs. closes_same high last xs (run ∷ rest) edge_is.1;
          undone = λ xs below. tt;
        }
    by_edge false Goes ends edge_is = let e = edge_is.0 in absurd cc
    by_edge false (Becomes value) ends edge_is = let e = edge_is.0 in absurd cc
    by_edge false (New value) ends edge_is =
        record {
          back = run ∷ rest;
          tail = (high, last) ∷ run ∷ rest;
          back_is = after_here high run rest ends;
          does = λ xs below. insert_at high xs (run ∷ rest) value below ends ∙ ap (λ (v : T). xs ++ (high, v) ∷ run ∷ rest) edge_is.1;
          above = λ low lt. lt;
          closes = λ xs. closes_apart high last xs (run ∷ rest) edge_is.2;
          undone = λ xs below. ap (remove_entry (is_at (nat_cmp high))) (insert_at high xs (run ∷ rest) value below ends) ∙ remove_at high xs (high, value) (run ∷ rest) below refl;
        }

    pub high_done : (edge : Edge T) → IsClosed high run rest last edge → HighDone high run rest edge last
    high_done edge closed = by_edge closed.is_end edge closed.ends closed.edge_is
