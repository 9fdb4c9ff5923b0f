use Rattle.std.proofs.Common.{refl, arith, rules}
use Rattle.vk_touches.specs.Remembered.{with_transition}
use Rattle.vk_touches.specs.TouchMaps.{without_reads, others_of}
use Rattle.vk_touches.specs.TouchedRanges.{is_between}
use Rattle.vk_touches.proofs.PartChanges.{on_three, updated_where}
use Rattle.vk_touches.proofs.TouchMaps.{others_len, others_changed_len, others_updated}
use Rattle.vk_touches.proofs.ranges.touch_transition.Goals as goal

pub update-requires-clause-within : goal.update-requires-clause-within
update-requires-clause-within c = omega (arith, others_len c.touches.invariant c.touches.view_is)

pub returns-clause-len : goal.returns-clause-len
returns-clause-len c = others_changed_len c.touches.invariant c.touches.view_is c.update.new.self c.update.ensures.len

pub returns-clause-values : goal.returns-clause-values
returns-clause-values c = on_three c.update.result c.update.ensures.inside c.update.ensures.before c.update.ensures.after (λ inside before after.
    others_updated c.touches.invariant c.touches.view_is (λ t. with_transition t c.args.spot) (is_between c.args.low c.args.high) (λ w t. refl) (λ t. others_of (with_transition (without_reads t) c.args.spot)) (λ t h. refl) c.update.new.self
    (updated_where (λ t. others_of (with_transition (without_reads t) c.args.spot)) (is_between c.args.low c.args.high) c.touches.inside.others c.update.new.self c.args.low c.args.high
    (omega (arith, others_len c.touches.invariant c.touches.view_is)) (λ k lt. refl) before after _ (λ a b h. search rules) inside))
