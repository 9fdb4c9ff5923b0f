use Rattle.std.proofs.Common.{◌∙◌, slice_get}
use Rattle.vk_history.proofs.Kept.Stretches.{define_last}
use Rattle.vk_history.proofs.stretches.define_all.Goals as goal

pub loop-stretch-preserved : goal.loop-stretch-preserved
loop-stretch-preserved c = record {
  len = c.in_ok-define_stretch.ensures.len ∙ c.loop-stretch.invariant.len;
  values = λ k. define_last c.pop.new.self.items c.in-Some.stretch c.loop-stretch.stretches.items c.in-Some.ensures.items k (slice_get c.loop-stretch.defined k) (slice_get c.define_stretch.new.defined k) (c.in_ok-define_stretch.ensures.values k) ∙ c.loop-stretch.invariant.values k;
}
