use Rattle.vk_hazards.proofs.HazardLemmas.{none_of_texels}
use Rattle.vk_hazards.proofs.past.Past.missing_in_texels.Goals as goal

pub returns : goal.returns
returns c = λ x y pair b has_it. none_of_texels c.args.self.now c.args.hazard x y c.args.texels.now c.loop-layer.layer c.loop-layer-test.false (c.loop-layer.invariant x y pair) b has_it
