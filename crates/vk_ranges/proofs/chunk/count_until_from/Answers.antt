use Rattle.std.proofs.Common.{◌-◌, arith}
use Rattle.vk_ranges.proofs.RisingLemmas.{rest_from, reads_above, reads_up_to}
use Rattle.vk_ranges.proofs.chunk.count_until_from.Goals as goal
use Rattle.vk_ranges.proofs.chunk.count_until_from.Goals.{then-loop-place-test+else-runs-place, else-loop-place-test}

pub loop-place-2-init : goal.loop-place-2-init
loop-place-2-init g c =
    record {
      within = c.loop-place.invariant;
      above = elim c.loop-place-test.branch [
        | then-loop-place-test+else-runs-place w ↦ reads_above c.args.index c.loop-place.place c.args.runs.now w.index-runs-place.result w.if-runs-place.false
        | else-loop-place-test w ↦ λ d lt. absurd (omega arith)
      ];
    }

pub loop-place-2-preserved : goal.loop-place-2-preserved
loop-place-2-preserved g c =
    let within = c.loop-place-2.invariant.within in
    record {
      within = omega arith;
      above = reads_above c.args.index (c.loop-place-2.place - 1) c.args.runs.now c.index-runs-place-in-loop-place-2.result c.if-runs-place-2.true;
    }

pub returns-else-runs-place-2-clause-rest : goal.returns-else-runs-place-2-clause-rest
returns-else-runs-place-2-clause-rest g c =
    let sorted = c.requires.sorted in
    let place = c.loop-place-2.place in
    let within = c.loop-place-2.invariant.within in
    rest_from sorted.0 sorted.1 c.args.index place c.args.runs.now sorted.2 within
    (λ d some. reads_up_to c.args.index (place - 1) c.args.runs.now c.index-runs-place-in-loop-place-2.result c.if-runs-place-2.false d (omega arith)) c.loop-place-2.invariant.above

pub returns-after-loop-place-2-clause-rest : goal.returns-after-loop-place-2-clause-rest
returns-after-loop-place-2-clause-rest g c =
    let sorted = c.requires.sorted in
    let none = c.loop-place-2-test.false in
    rest_from sorted.0 sorted.1 c.args.index c.loop-place-2.place c.args.runs.now sorted.2 c.loop-place-2.invariant.within
    (λ d some. absurd (omega arith)) c.loop-place-2.invariant.above
