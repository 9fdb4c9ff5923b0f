use Rattle.std.proofs.Common.{◌≡◌, ℕ, ◌<◌, ◌≤◌, false}
use Rattle.vk_model.specs.Sync.Node.{Node}
use Rattle.vk_model.specs.World.Bytes.{in_image}
use Rattle.vk_hazards.specs.Hazards.{is_missing}
use Rattle.vk_hazards.specs.Inner.Pairs.{IsPair}
use Rattle.vk_hazards.proofs.past.Past.missing_in_texels.Given as goal

abbrev pub invariant-loop-layer : goal.invariant-loop-layer
invariant-loop-layer l = (x y : Node) → IsPair l.self l.pair x y → (k : ℕ) → l.texels.first_layer ≤ k → k < l.layer → is_missing l.self l.hazard x y (in_image l.texels.image l.texels.level k l.texels.left l.texels.top 0) ≡ false
