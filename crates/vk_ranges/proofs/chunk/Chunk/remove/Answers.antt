use Rattle.std.proofs.Common.{◌<◌, ℕ, List, length, arith, subst, ◌∙◌}
use Rattle.vk_ranges.specs.Inner.Chunks.{IsPlaceOf}
use Rattle.vk_ranges.proofs.RisingLemmas.{IsMissing, missing_read, missing_end, remove_found, remove_missing}
use Rattle.vk_ranges.proofs.chunk.Chunk.remove.Goals as goal
use Rattle.vk_ranges.proofs.chunk.Chunk.remove.Goals.{else-place-len-via-then-place-len+else-index-end, else-place-len-via-else-place-len}

pub returns-then-index-end-clause-runs : goal.returns-then-index-end-clause-runs
returns-then-index-end-clause-runs g c =
    let runs = c.args.self.now.runs.items in
    let place = c.place_near-place.result in
    let is = subst (λ (xs : List (ℕ × g.row.T.Denot)). IsPlaceOf c.args.end place xs) c.deref.ensures.value c.place_near-place.ensures in
    let lt : place < length runs = omega arith in
    c.remove.ensures.items ∙ remove_found c.args.end place runs c.index.result.now is lt c.index.ensures c.if-index-end.true

pub returns-else-place-len-clause-runs : goal.returns-else-place-len-clause-runs
returns-else-place-len-clause-runs g c =
    let runs = c.args.self.now.runs.items in
    let place = c.place_near-place.result in
    let is = subst (λ (xs : List (ℕ × g.row.T.Denot)). IsPlaceOf c.args.end place xs) c.deref.ensures.value c.place_near-place.ensures in
    let missing : IsMissing c.args.end place runs = elim c.else-place-len.branch [
      | else-place-len-via-then-place-len+else-index-end w ↦ missing_read c.args.end place runs w.index.result.now w.index.ensures w.if-index-end.false
      | else-place-len-via-else-place-len w ↦ missing_end c.args.end place runs (omega arith)
    ] in
    remove_missing c.args.end place c.requires.0 c.requires.1 runs c.requires.2 is missing
