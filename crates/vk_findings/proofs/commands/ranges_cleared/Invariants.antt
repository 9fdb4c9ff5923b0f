use Rattle.std.proofs.Common.{◌≡◌, map, take}
use Rattle.vk_model.specs.World.Areas as spec
use Rattle.vk_findings.specs.Inner.Areas.{area_of}
use Rattle.vk_findings.proofs.commands.ranges_cleared.Given as goal

abbrev pub invariant-loop-range : goal.invariant-loop-range
invariant-loop-range l = map area_of l.areas.items ≡ map (spec.Subresources l.image) (take l.range-index l.ranges)
