use Rattle.std.proofs.Common.{◌≡◌, ◌<◌, List, length, take, get_or, refl, ap, sym, ◌∙◌, subst, arith}
use Rattle.std.specs.List.{list_any}
use Rattle.std.proofs.lemmas.List.{take_all}
use Rattle.vk_model.specs.Sync.Node.{nodes}
use Rattle.vk_model.proofs.Lists.Members.{member_passes, none_passes_any}
use Rattle.vk_order.specs.declared.acts.Row.{Row}
use Rattle.vk_order.specs.NodeViews.{node_of}
use Rattle.vk_findings.specs.Inner.Uses.{uses_at}
use Rattle.vk_findings.proofs.ListSteps.{test_more}
use Rattle.vk_findings.proofs.TimelineLemmas.{no_row, row_node}
use Rattle.vk_findings.proofs.timeline.Timeline.has_use.Goals as goal

pub loop-row-preserved : goal.loop-row-preserved
loop-row-preserved c =
    test_more (λ q. uses_at c.args.spot c.args.resource (node_of 0 q)) c.as_slice-row-items.result.now c.loop-row.row-index c.row-item.result c.loop-row-test.true c.row-item.is c.loop-row.invariant (sym c.if-is_use.false ∙ c.is_use.ensures 0)

pub returns : goal.returns
returns c = λ past p is.
    let s = c.args.spot in
    let r = c.args.resource in
    let rows = c.as_slice-row-items.result.now in
    let k = c.loop-row.row-index in
    let all : take k rows ≡ rows = take_all k rows (omega arith) in
    let none = ap (λ (l : List Row). list_any (λ q. uses_at s r (node_of 0 q)) l) (sym c.as_slice-row-items.ensures.value ∙ sym all) ∙ c.loop-row.invariant in
    sym (none_passes_any (uses_at s r) (nodes past) (no_row (nodes past) c.args.self.now.rows.items (uses_at s r) is.rows (λ i j q. refl) none))

pub returns-then-is_use : goal.returns-then-is_use
returns-then-is_use c = λ past p is.
    let s = c.args.spot in
    let r = c.args.resource in
    let k = c.loop-row.row-index in
    let row = c.row-item.result in
    let lt = subst (λ (l : List Row). k < length l) c.as_slice-row-items.ensures.value c.loop-row-test.true in
    let at = subst (λ (l : List Row). row ≡ get_or l k row) c.as_slice-row-items.ensures.value c.row-item.is in
    sym (member_passes (uses_at s r) (nodes past) (node_of k row) (row_node (nodes past) c.args.self.now.rows.items k row is.rows lt at) (sym (c.is_use.ensures k) ∙ c.if-is_use.true))
