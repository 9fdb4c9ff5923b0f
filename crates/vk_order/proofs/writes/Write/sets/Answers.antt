use Rattle.std.proofs.Common.{◌≡◌, ◌&&◌, ◌++◌, ◌∷◌, [], List, Some, ℕ, ⊎_elim, refl, ap, sym, ◌∙◌, subst, length, arith, rules}
use Rattle.std.specs.Prelude.{slice_get, Contains}
use Rattle.std.proofs.lemmas.Bool.{cases_lt}
use Rattle.std.proofs.lemmas.List.Elements.{Contains-append_left, Contains-append_right, Contains-append_cases}
use Rattle.std.proofs.lemmas.Option.{slice_get_read, slice_get_within}
use Rattle.vk_model.proofs.Lists.Members.{contains-head, only_one}
use Rattle.vk_model.proofs.Lists.Truths.{clash}
use Rattle.vk_order.specs.declared.acts.Row.{Row}
use Rattle.vk_order.specs.NodeViews.{act_of, node_of}
use Rattle.vk_order.specs.Inner.Availability.{makes_write_available, is_set_element}
use Rattle.vk_order.proofs.writes.Write.sets.Goals.{then-is_made_available_by_set+in_ok-push, else-is_made_available_by_set}
use Rattle.vk_order.proofs.writes.Write.sets.Goals as goal
use Rattle.vk_model.proofs.Lists.Items.{some_same}

pub loop-number-preserved : goal.loop-number-preserved
loop-number-preserved c =
    let rows = c.args.rows.now in
    let k = c.loop-number.number in
    let row = c.index-rows-number.result in
    let old = c.loop-number.sets.items in
    let at : slice_get rows k ≡ Some row = slice_get_read rows (length rows) k row refl c.loop-number-test.true c.index-rows-number.is in
    elim c.if-is_made_available_by_set.branch [
      | then-is_made_available_by_set+in_ok-push w ↦
          let items : c.if-is_made_available_by_set.sets.items ≡ old ++ k ∷ [] = search rules in
          record {
            within = λ s has. ⊎_elim (λ low. let less = c.loop-number.invariant.within s low in omega arith) (λ new. let same = only_one k s new in omega arith)
                (Contains-append_cases old (k ∷ []) s (subst (λ (l : List ℕ). Contains l s) items has));
            all = λ j x e lt t. subst (λ (l : List ℕ). Contains l j) (sym items) (⊎_elim
                (λ low. Contains-append_left old (k ∷ []) j (c.loop-number.invariant.all j x e low t))
                (λ high. let same : k ≡ j = omega arith in subst (λ (i : ℕ). Contains (old ++ k ∷ []) i) same (Contains-append_right old (k ∷ []) k (contains-head k [])))
                (cases_lt j k));
          }
      | else-is_made_available_by_set w ↦
          let items : c.if-is_made_available_by_set.sets.items ≡ old = search rules in
          record {
            within = λ s has. let less = c.loop-number.invariant.within s (subst (λ (l : List ℕ). Contains l s) items has) in omega arith;
            all = λ j x e lt t. subst (λ (l : List ℕ). Contains l j) (sym items) (⊎_elim
                (λ low. c.loop-number.invariant.all j x e low t)
                (λ high. let same : j ≡ k = omega arith in
                let is : x ≡ row = some_same x row (sym e ∙ ap (slice_get rows) same ∙ at) in
                clash (ap (λ (i : ℕ). is_set_element (act_of x.act) && makes_write_available c.args.self.now (node_of i x)) (sym same) ∙ t)
                (ap (λ (y : Row). is_set_element (act_of y.act) && makes_write_available c.args.self.now (node_of k y)) is ∙ sym c.is_made_available_by_set.ensures ∙ w.if-is_made_available_by_set.false))
                (cases_lt j k));
          }
    ]

pub returns-clause-within : goal.returns-clause-within
returns-clause-within c = λ s has. let less = c.loop-number.invariant.within s has in let le = c.loop-number.auto.number-end in omega arith

pub returns-clause-sets : goal.returns-clause-sets
returns-clause-sets c = λ j x e t. c.loop-number.invariant.all j x e (let lt = slice_get_within c.args.rows.now j x e in let le = c.loop-number-test.false in omega arith) t
