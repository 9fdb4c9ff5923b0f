use Rattle.std.proofs.Common.{◌≡◌, [], ap}
use Rattle.vk_ranges.specs.Overlaps.{with_starts, pieces_left}
use Rattle.vk_ranges.proofs.TilingLemmas.{upto_none}
use Rattle.vk_ranges.proofs.runs.OverlappingIterator.next.Goals as goal

pub returns-then-self-clause-steps : goal.returns-then-self-clause-steps
returns-then-self-clause-steps g c =
    let left = c.args.self.now in
    let none : pieces_left left ≡ [] = ap (with_starts left.start) (upto_none left.start left.end left.runs c.if-self.true) in
    (none, none)
