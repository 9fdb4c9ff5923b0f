use Rattle.std.proofs.Common.{◌≤◌, ◌<◌, ◌-◌, ℕ, length, get_or, ltb-true, arith}
use Rattle.vk_ranges.proofs.RisingLemmas.{place_here, reads_from, reads_below}
use Rattle.vk_ranges.proofs.chunk.is_place.Goals as goal
use Rattle.vk_ranges.proofs.chunk.is_place.Goals.{else-place-runs-via-then-place-runs+else-runs-place, else-place-runs-via-else-place-runs}

pub returns-else-place-eq0 : goal.returns-else-place-eq0
returns-else-place-eq0 g c = λ holds.
    let runs = c.args.runs.now in
    let place = c.args.place in
    let front = c.index-runs-place-else-place-eq0.result in
    let less = ltb-true _ _ holds in
    let rest : (d : ℕ × g.row.T.Denot) → place < length runs → c.args.index ≤ (get_or runs place d).0 = elim c.else-place-runs.branch [
      | else-place-runs-via-then-place-runs+else-runs-place w ↦ reads_from c.args.index place runs w.index-runs-place.result w.if-runs-place.false
      | else-place-runs-via-else-place-runs w ↦ λ d lt. absurd (omega arith)
    ] in
    place_here c.requires.sorted.0 c.requires.sorted.1 c.args.index place runs c.requires.sorted.2 c.requires.within
    (λ d some. reads_below c.args.index (place - 1) runs front less d (omega arith))
    rest
