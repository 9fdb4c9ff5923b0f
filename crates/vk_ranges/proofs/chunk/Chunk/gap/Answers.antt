use Rattle.std.proofs.Common.{◌<◌, ℕ, List, length, get_or, arith, subst}
use Rattle.vk_ranges.specs.Inner.Chunks.{IsPlaceOf}
use Rattle.vk_ranges.proofs.RisingLemmas.{gap_is, above_read}
use Rattle.vk_ranges.proofs.chunk.Chunk.gap.Goals as goal
use Rattle.vk_ranges.proofs.chunk.Chunk.gap.Goals.{else-place-len-via-then-place-len+else-index-high, else-place-len-via-else-place-len}

pub returns-clause-gap : goal.returns-clause-gap
returns-clause-gap g c =
    let runs = c.args.self.now.runs.items in
    let place = c.place_near-place.result in
    let is = subst (λ (xs : List (ℕ × g.row.T.Denot)). IsPlaceOf c.args.low place xs) c.deref.ensures.value c.place_near-place.ensures in
    let above : (d : ℕ × g.row.T.Denot) → place < length runs → c.args.high < (get_or runs place d).0 = elim c.else-place-len.branch [
      | else-place-len-via-then-place-len+else-index-high w ↦ above_read c.args.high place runs w.index.result.now w.index.ensures (omega arith)
      | else-place-len-via-else-place-len w ↦ λ d lt. absurd (omega arith)
    ] in
    gap_is c.args.low c.args.high place runs is above
