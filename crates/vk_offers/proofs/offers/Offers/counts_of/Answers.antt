use Rattle.std.proofs.Common.{◌≡◌, ◌∷◌, [], ℕ, List, Some, IsTrue, ⊎_elim, refl, ap, sym, ◌∙◌, subst, length, length-append, arith}
use Rattle.std.specs.Prelude.{slice_get}
use Rattle.std.proofs.lemmas.Option.{slice_get_read}
use Rattle.vk_model.specs.Sync.Node.{nodes}
use Rattle.vk_model.specs.Run.CachedRuns.{is_synchronization}
use Rattle.vk_model.proofs.Lists.Items.{push_cases, some_same}
use Rattle.vk_order.specs.declared.acts.Row.{Row}
use Rattle.vk_order.specs.NodeViews.{act_of, node_of}
use Rattle.vk_order.specs.Wide.{IsApartFrom}
use Rattle.vk_offers.specs.IsOffers.{CountsBefore}
use Rattle.vk_offers.proofs.offers.Offers.counts_of.Goals as goal

pub loop-row-preserved : goal.loop-row-preserved
loop-row-preserved c =
    let rows = c.args.rows.now in
    let k = c.loop-row.row-index in
    let row = c.row-item.result in
    let old = c.loop-row.counts.items in
    let at : slice_get rows k ≡ Some row = slice_get_read rows (length rows) k row refl c.loop-row-test.true c.row-item.is in
    record {
      lengths = ap length c.in_ok-push.ensures.items ∙ (let a = length-append old (c.in_ok-before.before ∷ []) in let b = c.loop-row.invariant.lengths in omega arith);
      counted = λ past done is i r d e g sync apart. ⊎_elim
          (λ h. c.loop-row.invariant.counted past done is i r d e h sync apart)
          (λ h. let here : i ≡ k = h.0 ∙ c.loop-row.invariant.lengths in
          let same : row ≡ r = some_same row r (sym at ∙ ap (slice_get rows) (sym here) ∙ e) in
          let ns = nodes past in
          subst (λ (x : List ℕ). CountsBefore (node_of (length ns) r ∷ ns) (node_of (length ns) r) x) h.1
          (subst (λ (x : Row). IsTrue (is_synchronization (act_of x.act)) → IsApartFrom ns (node_of (length ns) x) → CountsBefore (node_of (length ns) x ∷ ns) (node_of (length ns) x) c.in_ok-before.before) same
          (c.in_ok-before.ensures past done is) sync apart))
          (push_cases old c.in_ok-before.before d i (ap (λ (l : List (List ℕ)). slice_get l i) (sym c.in_ok-push.ensures.items) ∙ g));
    }
