use Rattle.std.proofs.Common.{◌≡◌, ◌&&◌, true, false, take}
use Rattle.vk_model.specs.World.Bytes.{Byte}
use Rattle.vk_model.specs.Sync.Node.{Node}
use Rattle.vk_hazards.specs.Areas.{has, have}
use Rattle.vk_hazards.specs.Hazards.{is_missing}
use Rattle.vk_hazards.specs.Inner.Pairs.{IsPair}
use Rattle.vk_hazards.proofs.past.Past.missing_among.Given as goal

abbrev pub invariant-loop-second : goal.invariant-loop-second
invariant-loop-second l = (x y : Node) → IsPair l.self l.pair x y → (b : Byte) → (has l.first b && have (take l.second-index l.areas) b) ≡ true → is_missing l.self l.hazard x y b ≡ false
