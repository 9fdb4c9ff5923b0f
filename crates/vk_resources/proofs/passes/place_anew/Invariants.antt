use Rattle.std.proofs.Common.{take}
use Rattle.vk_resources.specs.Inner.PassEnds.{PlacesAnew}
use Rattle.vk_resources.proofs.passes.place_anew.Given as goal

abbrev pub invariant-loop-id : goal.invariant-loop-id
invariant-loop-id l = PlacesAnew l.backing (take l.id-index l.ids) l.fn.resources.entries l.resources.entries
