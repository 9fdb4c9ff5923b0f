use Rattle.std.proofs.Common.{◌≡◌, ◌&&◌, true, false, take}
use Rattle.vk_model.specs.World.Bytes.{Byte}
use Rattle.vk_model.specs.Sync.Node.{Node}
use Rattle.vk_hazards.specs.Areas.{have}
use Rattle.vk_hazards.specs.Hazards.{is_missing}
use Rattle.vk_hazards.specs.Inner.Pairs.{IsPair}
use Rattle.vk_hazards.proofs.past.Past.missing_of.Given as goal

abbrev pub invariant-loop-first : goal.invariant-loop-first
invariant-loop-first l = (x y : Node) → IsPair l.self l.pair x y → (b : Byte) → (have (take l.first-index l.own) b && have l.areas b) ≡ true → is_missing l.self l.hazard x y b ≡ false
