use Rattle.std.proofs.Common.{ℕ, sym, ap, ◌∙◌}
use Rattle.std.specs.Prelude.{nat_lt}
use Rattle.std.specs.List.{find}
use Rattle.vk_model.specs.Trace.Point.{Past, on_host}
use Rattle.vk_model.specs.Rules.Mapping.{mapping, maps, unmaps, count_for}
use Rattle.vk_queues.specs.PointViews.{past_of}
use Rattle.vk_history.specs.PointViews.{past}
use Rattle.vk_findings.specs.Inner.Mapping.{counted, moves}
use Rattle.vk_findings.proofs.mappings.with_moves.Goals as goal

pub returns-clause-moves : goal.returns-clause-moves
returns-clause-moves c = λ so.
    let before = past c.args.history.now in
    let seen = past_of c.happened-points.result.now in
    let r = c.args.found.resource in
    let its = c.mapping_of-mapping.ensures in
    let all = c.happened-points.ensures in
    let mapped = c.count.ensures ∙ ap (λ (k : ℕ). counted before maps k seen) its ∙ ap (counted before maps (mapping before r)) all in
    let unmapped = c.count-2.ensures ∙ ap (λ (k : ℕ). counted before unmaps k seen) its ∙ ap (counted before unmaps (mapping before r)) all in
    record {
      maps = mapped;
      unmaps = unmapped;
      mapped = so.1 ∙ ap (λ (n : ℕ). nat_lt n (count_for before r maps)) (sym unmapped) ∙ ap (λ (n : ℕ). nat_lt c.count-2.result n) (sym mapped);
      since = c.last_move.ensures ∙ ap (λ (k : ℕ). find (on_host (moves before k)) seen) its ∙ ap (λ (ps : Past). find (on_host (moves before (mapping before r))) ps) all;
    }
