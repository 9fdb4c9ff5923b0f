use Rattle.std.proofs.Common.{◌≡◌, ⊎_elim, ◌∷◌, ◌++◌, ◌+◌, ◌<◌, ◌≤◌, ℕ, [], List, Some, None, Option, Bool, false, IsTrue, refl, ap, sym, ◌∙◌, subst, length, arith, rules}
use Rattle.std.specs.Prelude.{slice_get, Contains, IfSome}
use Rattle.std.proofs.lemmas.Bool.{cases_lt}
use Rattle.std.proofs.lemmas.List.Elements.{Contains-append_left, Contains-append_right, Contains-append_cases}
use Rattle.std.proofs.lemmas.Option.{slice_get_read, slice_get_within}
use Rattle.vk_model.specs.Sync.Node.{Node}
use Rattle.vk_model.proofs.Lists.Members.{contains-head, only_one}
use Rattle.vk_order.specs.declared.acts.Row.{Row}
use Rattle.vk_order.specs.declared.writes.First.{First}
use Rattle.vk_order.specs.NodeViews.{act_of, node_of, nodes_after}
use Rattle.vk_order.specs.Lines.{line_of}
use Rattle.vk_order.specs.Inner.Availability.{makes_write_available, is_marked, is_set_element, HasSets}
use Rattle.vk_order.proofs.writes.Write.firsts.Goals.{in-Some+in_ok-push, in_default}
use Rattle.vk_order.proofs.writes.Write.firsts.Goals as goal
use Rattle.vk_model.proofs.Lists.Items.{some_same}

-- one row more
abbrev Each : List Row → (Node → Bool) → List First → Type 0
Each rows test firsts = (f : First) → Contains firsts f → (x : Row) × (slice_get rows f.number ≡ Some x) × (line_of (node_of f.number x) ≡ Some f.line) × IsTrue (test (node_of f.number x))

abbrev Found : List First → ℕ → Row → Type 0
Found firsts j x = (f : First) × Contains firsts f × (line_of (node_of j x) ≡ Some f.line) × (f.number ≤ j)

abbrev AllBelow : List Row → (Node → Bool) → List First → ℕ → Type 0
AllBelow rows test firsts k = (j : ℕ) (x : Row) → slice_get rows j ≡ Some x → j < k → IsTrue (test (node_of j x)) → is_set_element (act_of x.act) ≡ false → Found firsts j x

module _ (rows : List Row) (test : Node → Bool) (firsts : List First) (k : ℕ) (row : Row) (at : slice_get rows k ≡ Some row) where
  more_below : AllBelow rows test firsts k → (IsTrue (test (node_of k row)) → is_set_element (act_of row.act) ≡ false → Found firsts k row) → AllBelow rows test firsts (k + 1)
  more_below below here j x e lt t plain = ⊎_elim
      (λ low. below j x e low t plain)
      (λ high. let same : j ≡ k = omega arith in
      let is : x ≡ row = some_same x row (sym e ∙ ap (slice_get rows) same ∙ at) in
      let found = here (subst (λ (y : Row). IsTrue (test (node_of k y))) is (subst (λ (i : ℕ). IsTrue (test (node_of i x))) same t)) (ap (λ (y : Row). is_set_element (act_of y.act)) (sym is) ∙ plain) in
      (found.0, found.1, ap (λ (y : Row). line_of (node_of j y)) is ∙ found.2, let le = found.3 in omega arith))
      (cases_lt j k)

  module _ (own : First) (number : own.number ≡ k) where
    each_more : Each rows test firsts → (line_of (node_of k row) ≡ Some own.line) × IsTrue (test (node_of k row)) → Each rows test (firsts ++ own ∷ [])
    each_more each known f has = ⊎_elim
        (λ old. each f old)
        (λ new. let same : own ≡ f = only_one own f new in
        subst (λ (f : First). (x : Row) × (slice_get rows f.number ≡ Some x) × (line_of (node_of f.number x) ≡ Some f.line) × IsTrue (test (node_of f.number x))) same
        (row, ap (slice_get rows) number ∙ at, known.0, subst (λ (i : ℕ). IsTrue (test (node_of i row))) (sym number) known.1))
        (Contains-append_cases firsts (own ∷ []) f has)

    all_more : AllBelow rows test firsts k → line_of (node_of k row) ≡ Some own.line → AllBelow rows test (firsts ++ own ∷ []) (k + 1)
    all_more below line j x e lt t plain = ⊎_elim
        (λ low. let found = below j x e low t plain in (found.0, Contains-append_left firsts (own ∷ []) found.0 found.1, found.2, found.3))
        (λ high. let same : j ≡ k = omega arith in
        let is : x ≡ row = some_same x row (sym e ∙ ap (slice_get rows) same ∙ at) in
        (own, Contains-append_right firsts (own ∷ []) own (contains-head own []), ap (λ (y : Row). line_of (node_of j y)) is ∙ line, omega arith))
        (cases_lt j k)

some_at : (P : First → Type 0) (o : Option First) (f : First) → o ≡ Some f → IfSome o P → P f
some_at P o f e h = subst (λ (o : Option First). IfSome o P) e h

pub loop-number-preserved : goal.loop-number-preserved
loop-number-preserved c =
    let rows = c.args.rows.now in
    let k = c.loop-number.number in
    let row = c.index-rows-number.result in
    let old = c.loop-number.firsts.items in
    let test = is_marked (nodes_after [] rows) (makes_write_available c.args.self.now) in
    let lt = c.loop-number-test.true in
    let at : slice_get rows k ≡ Some row = slice_get_read rows (length rows) k row refl lt c.index-rows-number.is in
    elim c.match-first_at.branch [
      | in-Some+in_ok-push w ↦
          let own : First = w.in-Some.own in
          let is : c.first_at.result ≡ Some own = search rules in
          let number : own.number ≡ k = some_at (λ f. f.number ≡ k) c.first_at.result own is c.first_at.ensures.number in
          let items : c.match-first_at.firsts.items ≡ old ++ own ∷ [] = search rules in
          let some = some_at (λ f. HasSets rows (makes_write_available c.args.self.now) c.args.sets.now → (line_of (node_of k row) ≡ Some f.line) × IsTrue (test (node_of k row))) c.first_at.result own is c.first_at.ensures.some in
          record {
            within = λ f has. ⊎_elim (λ low. let less = c.loop-number.invariant.within f low in omega arith) (λ new. let same : own.number ≡ f.number = ap (λ (f : First). f.number) (only_one own f new) in omega arith)
                (Contains-append_cases old (own ∷ []) f (subst (λ (l : List First). Contains l f) items has));
            each = λ quiet. subst (λ (l : List First). Each rows test l) (sym items) (each_more rows test old k row at own number (c.loop-number.invariant.each quiet) (some quiet));
            all = λ quiet. subst (λ (l : List First). AllBelow rows test l (k + 1)) (sym items) (all_more rows test old k row at own number (c.loop-number.invariant.all quiet) (some quiet).0);
          }
      | in_default w ↦
          let is : c.first_at.result ≡ None = search rules in
          let items : c.match-first_at.firsts.items ≡ old = search rules in
          let slice : c.as_slice.result.now ≡ old = search rules in
          record {
            within = λ f has. let less = c.loop-number.invariant.within f (subst (λ (l : List First). Contains l f) items has) in omega arith;
            each = λ quiet. subst (λ (l : List First). Each rows test l) (sym items) (c.loop-number.invariant.each quiet);
            all = λ quiet. subst (λ (l : List First). AllBelow rows test l (k + 1)) (sym items)
                (more_below rows test old k row at (c.loop-number.invariant.all quiet)
                (λ t plain. let found = c.first_at.ensures.none is quiet t plain in
                let has : Contains old found.0 = subst (λ (l : List First). Contains l found.0) slice found.1 in
                let less = c.loop-number.invariant.within found.0 has in
                (found.0, has, found.2, omega arith)));
          }
    ]

pub returns-clause-within : goal.returns-clause-within
returns-clause-within c = λ f has. let less = c.loop-number.invariant.within f has in let le = c.loop-number.auto.number-end in omega arith

pub returns-clause-firsts : goal.returns-clause-firsts
returns-clause-firsts c = λ quiet. record {
  each = c.loop-number.invariant.each quiet;
  all = λ j x e t plain. c.loop-number.invariant.all quiet j x e (let lt = slice_get_within c.args.rows.now j x e in let le = c.loop-number-test.false in omega arith) t plain;
}
