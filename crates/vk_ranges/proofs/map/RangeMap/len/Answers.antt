use Rattle.std.proofs.Common.{sym, ◌∙◌}
use Rattle.vk_ranges.proofs.Reading.{length_is}
use Rattle.vk_ranges.proofs.map.RangeMap.len.Goals as goal

pub returns : goal.returns
returns g c = let fields = c.self.inside in c.from.ensures ∙ sym (length_is fields.len fields.runs c.args.self.now c.self.invariant c.self.view_is)
