use Rattle.std.proofs.Common.{◌∙◌}
use Rattle.vk_touches.proofs.TouchMaps.{others_len}
use Rattle.vk_touches.proofs.map.TouchMap.len.Goals as goal

pub returns : goal.returns
returns c = c.len.ensures ∙ others_len c.self.invariant c.self.view_is
