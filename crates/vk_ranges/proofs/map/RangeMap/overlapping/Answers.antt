use Rattle.vk_ranges.proofs.Reading.{pieces_are}
use Rattle.vk_ranges.proofs.map.RangeMap.overlapping.Goals as goal

pub returns : goal.returns
returns g c =
    let fields = c.self.inside in
    rw (c.overlapping.ensures.left, c.narrow-low.ensures, c.narrow-high.ensures) (pieces_are fields.len fields.runs c.args.self.now c.self.invariant c.self.view_is c.args.low c.args.high c.requires.order c.requires.within)
