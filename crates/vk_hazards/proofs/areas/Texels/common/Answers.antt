use Rattle.std.proofs.Common.{refl, sym}
use Rattle.vk_hazards.proofs.AreaLemmas.{boxes_apart, boxes_meet}
use Rattle.vk_hazards.proofs.areas.Texels.common.Goals as goal
use Rattle.vk_hazards.proofs.areas.Texels.common.Goals.{then-self-other-via-then-self-other, then-self-other-via-else-self-other+then-self-other-2}

pub returns-then-self-other-clause-none : goal.returns-then-self-other-clause-none
returns-then-self-other-clause-none c = λ e. boxes_apart c.args.self.now c.args.other.now
    (elim c.then-self-other.branch [
      | then-self-other-via-then-self-other w ↦ λ a b. w.if-self-other.true a
      | then-self-other-via-else-self-other+then-self-other-2 w ↦ λ a b. w.if-self-other-2.true b
    ])

pub returns-clause-some : goal.returns-clause-some
returns-clause-some c = boxes_meet c.args.self.now c.args.other.now _ (record {
  image = refl;
  level = refl;
  other_image = sym c.if-self-other.false;
  other_level = sym c.if-self-other-2.false;
  first_layer = c.max.ensures;
  end_layer = c.min.ensures;
  left = c.max-2.ensures;
  right = c.min-2.ensures;
  top = c.max-3.ensures;
  bottom = c.min-3.ensures;
  texel = c.min-4.ensures;
})
