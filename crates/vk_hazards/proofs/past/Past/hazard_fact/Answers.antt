use Rattle.std.proofs.Common.{◌≡◌, ℕ, length, ◌∙◌, subst, arith}
use Rattle.vk_model.specs.Sync.Node.{nodes}
use Rattle.vk_hazards.specs.Latest.{IsBest}
use Rattle.vk_hazards.proofs.HazardLemmas.{fewer}
use Rattle.vk_hazards.proofs.RowNodes.{row_count, some_node}
use Rattle.vk_hazards.proofs.past.Past.hazard_fact.Goals as goal

pub loop-later-init : goal.loop-later-init
loop-later-init c = λ x y cx cy lo hi. absurd (omega arith)

pub latest_with-requires : goal.latest_with-requires
latest_with-requires c = omega (arith, c.loop-later-test.true, c.len-count.ensures, row_count _ c.args.self.now c.self.inside.rows.items c.self.invariant.listed c.self.view_is, c.self.inside.rows.ok.0)

pub loop-later-preserved : goal.loop-later-preserved
loop-later-preserved c =
    let count = row_count _ c.args.self.now c.self.inside.rows.items c.self.invariant.listed c.self.view_is in
    let node = some_node _ c.args.self.now c.self.inside.rows.items c.self.invariant.listed c.self.view_is c.loop-later.later (omega (arith, c.loop-later-test.true, c.len-count.ensures, count, c.self.inside.rows.ok.0)) in
    c.later_one-found.ensures c.args.self.now c.args.hazard c.self.inside.before c.loop-later.later node.0 c.loop-later.invariant node.1 node.2 c.loop-later.auto.later (c.in_ok-latest.ensures node.0 node.1 node.2)

pub returns : goal.returns
returns c = λ past p is.
    let now = c.args.self.now in
    let count = row_count _ now c.self.inside.rows.items c.self.invariant.listed c.self.view_is in
    let first : c.self.inside.before ≡ length (nodes past) = c.self.invariant.before past p (c.self.view_is ∙ is) in
    subst (λ (n : ℕ). IsBest now c.args.hazard n (length (nodes now)) c.loop-later.found) first
    (fewer now c.args.hazard c.self.inside.before c.loop-later.later (length (nodes now)) c.loop-later.found (omega (arith, c.loop-later-test.false, c.len-count.ensures, count, c.self.inside.rows.ok.0)) c.loop-later.invariant)
