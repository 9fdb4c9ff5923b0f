use Rattle.std.proofs.Common.{List, length, ap, arith}
use Rattle.vk_map_cache.specs.declared.mark.Mark.{Mark}
use Rattle.vk_map_cache.proofs.HoldingLemmas.{room_of}
use Rattle.vk_map_cache.proofs.object.ObjectCache.len.Goals as goal

pub returns : goal.returns
returns c = omega (arith, ap (λ (l : List Mark). length l) c.as_slice.ensures.value, room_of c.self.inside.marks.items c.self.inside.values.items c.args.self.now c.self.view_is c.self.invariant)
