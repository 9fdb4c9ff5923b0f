use Rattle.std.proofs.Common.{◌≡◌, Bool, true, false, not, refl, sym, ◌∙◌, arith}
use Rattle.vk_model.proofs.Lists.Truths.{clash}
use Rattle.vk_findings.proofs.TimelineLemmas.{late_row, within_count, row_before, row_uses}
use Rattle.vk_findings.proofs.timeline.Timeline.is_late_use.Goals as goal
use Rattle.vk_findings.proofs.timeline.Timeline.is_late_use.Goals.{then-node-count-via-then-node-count, then-node-count-via-else-node-count+then-self-count}

pub returns-then-node-count-clause-before : goal.returns-then-node-count-clause-before
returns-then-node-count-clause-before c = λ no past p x is line m there number used.
    let within = within_count c.args.self.now past p x is line m there in
    elim c.then-node-count.branch [
      | then-node-count-via-then-node-count w ↦ absurd (let low = within.0 in omega (arith, low, number, c.len-count.ensures, w.if-node-count.true))
      | then-node-count-via-else-node-count+then-self-count w ↦ absurd (let last = within.1 in omega (arith, last, c.len-count.ensures, w.if-self-count.true))
    ]

pub returns-then-is_use-clause-late : goal.returns-then-is_use-clause-late
returns-then-is_use-clause-late c = λ late past p x is line.
    late_row c.args.self.now past p x c.args.spot c.args.resource c.args.node c.index.result.now c.before-then-is_use.result is line c.requires c.index.ensures (sym (c.is_use.ensures c.args.node) ∙ c.if-is_use.true) c.before-then-is_use.ensures late

pub returns-then-is_use-clause-before : goal.returns-then-is_use-clause-before
returns-then-is_use-clause-before c = λ no past p x is line m there number used.
    row_before c.args.self.now past p x is line m there c.args.node c.before-then-is_use.result c.before-then-is_use.ensures (holds c.before-then-is_use.result no) number
  where
    holds : (b : Bool) → not b ≡ false → b ≡ true
    holds true e = refl
    holds false e = absurd cc

pub returns-else-is_use-clause-before : goal.returns-else-is_use-clause-before
returns-else-is_use-clause-before c = λ no past p x is line m there number used.
    clash (sym (row_uses c.args.self.now past p x is line m there c.args.spot c.args.resource c.args.node c.index.result.now c.index.ensures number) ∙ used) (sym (c.is_use.ensures c.args.node) ∙ c.if-is_use.false)
