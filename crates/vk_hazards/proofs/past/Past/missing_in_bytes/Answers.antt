use Rattle.std.proofs.Common.{⊎_elim, ◌<◌, ◌≤◌, ◌∙◌, refl, sym, arith}
use Rattle.vk_model.specs.World.Bytes.{in_buffer}
use Rattle.vk_hazards.proofs.AlikeLemmas.{below_or_from}
use Rattle.vk_hazards.proofs.SeenAlike.{missing_same}
use Rattle.vk_hazards.proofs.past.Past.missing_in_bytes.Goals as goal

pub loop-at-preserved : goal.loop-at-preserved
loop-at-preserved c = record {
  low = omega (arith, c.loop-at.invariant.low, c.alike_until-at.ensures.further);
  none = λ x y pair k le lt. ⊎_elim
      (λ (early : k < c.loop-at.at). c.loop-at.invariant.none x y pair k le early)
      (λ (late : c.loop-at.at ≤ k).
      missing_same c.args.self.now c.args.hazard x y (in_buffer c.args.buffer k) (in_buffer c.args.buffer c.loop-at.at) (c.alike_until-at.ensures.alike k late lt) refl
      ∙ sym (c.in_ok-is_missing.ensures x y pair) ∙ c.if-branch.false)
      (below_or_from k c.loop-at.at);
}
