use Rattle.std.proofs.Common.{◌≡◌, ◌∷◌, ◌||◌, [], List, Some, ⊎_elim, refl, ap, sym, ◌∙◌, subst, length, length-append, arith}
use Rattle.std.specs.Prelude.{slice_get}
use Rattle.std.proofs.lemmas.Option.{slice_get_read}
use Rattle.vk_order.specs.declared.acts.Row.{Row}
use Rattle.vk_order.specs.declared.fronts.Front.{Front}
use Rattle.vk_order.specs.NodeViews.{act_of, node_of}
use Rattle.vk_order.specs.Lines.{class_of}
use Rattle.vk_order.specs.Inner.Leads.{line_leads}
use Rattle.vk_order.specs.Inner.Links.{by_name}
use Rattle.vk_order.specs.Inner.Fronts.{IsFront}
use Rattle.vk_order.specs.Inner.Tallies.{lines_of}
use Rattle.vk_order.proofs.frontier.Frontier.fronts_of.Goals as goal
use Rattle.vk_model.proofs.Lists.Items.{push_cases}

same_row : (q r : Row) → Some q ≡ Some r → q ≡ r
same_row q r e = cc

pub loop-row-preserved : goal.loop-row-preserved
loop-row-preserved c =
    let rows = c.args.rows.now in
    let k = c.loop-row.row-index in
    let row = c.row-item.result in
    let old = c.loop-row.fronts.items in
    let ls = lines_of c.args.self.now.tallies.items in
    let at : slice_get rows k ≡ Some row = slice_get_read rows (length rows) k row refl c.loop-row-test.true c.row-item.is in
    record {
      lengths = ap length c.in_ok-push.ensures.items ∙ (let a = length-append old (c.in_ok-front.front ∷ []) in let b = c.loop-row.invariant.lengths in omega arith);
      fronts = λ ns is i r f e g j. ⊎_elim
          (λ h. c.loop-row.invariant.fronts ns is i r f e h j)
          (λ h. let here : i ≡ k = h.0 ∙ c.loop-row.invariant.lengths in
          let same : row ≡ r = same_row row r (sym at ∙ ap (slice_get rows) (sym here) ∙ e) in
          subst (λ (x : Front). IsFront ns ls (λ m. line_leads r.point.queue (act_of r.act) (class_of m) || by_name ns m (node_of j r)) x) h.1
          (subst (λ (x : Row). IsFront ns ls (λ m. line_leads x.point.queue (act_of x.act) (class_of m) || by_name ns m (node_of j x)) c.in_ok-front.front) same (c.in_ok-front.ensures ns j is)))
          (push_cases old c.in_ok-front.front f i (ap (λ (l : List Front). slice_get l i) (sym c.in_ok-push.ensures.items) ∙ g));
    }
