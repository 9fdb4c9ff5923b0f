use Rattle.std.proofs.Common.{arith}
use Rattle.vk_ranges.proofs.Reading.{length_is}
use Rattle.vk_ranges.proofs.map.RangeMap.narrow.Goals as goal

pub returns : goal.returns
returns g c = let fields = c.self.inside in let len = length_is fields.len fields.runs c.args.self.now c.self.invariant c.self.view_is in let within = c.requires in omega (arith, c.min.ensures, c.from.ensures)
