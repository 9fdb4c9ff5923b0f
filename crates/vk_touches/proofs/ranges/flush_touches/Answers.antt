use Rattle.std.proofs.Common.{◌∙◌, ◌≡◌, length, sym, refl, arith, rules}
use Rattle.vk_model.specs.World.Effect.{in_atoms}
use Rattle.vk_touches.specs.Remembered.{with_flush}
use Rattle.vk_touches.specs.TouchMaps.{without_reads, others_of}
use Rattle.vk_touches.proofs.PartChanges.{on_three, updated_where}
use Rattle.vk_touches.proofs.TouchMaps.{others_len, others_changed_len, others_updated}
use Rattle.vk_touches.proofs.ranges.flush_touches.Goals as goal

pub update-requires-clause-within : goal.update-requires-clause-within
update-requires-clause-within c =
    let within = c.of_atoms-part.ensures.within in
    let all = c.len.ensures in
    omega (arith, within, all, others_len c.touches.invariant c.touches.view_is)

pub returns-clause-len : goal.returns-clause-len
returns-clause-len c = others_changed_len c.touches.invariant c.touches.view_is c.update.new.self c.update.ensures.len

pub returns-clause-values : goal.returns-clause-values
returns-clause-values c = on_three c.update.result c.update.ensures.inside c.update.ensures.before c.update.ensures.after (λ inside before after.
    let all : length c.touches.inside.others ≡ c.len.result = others_len c.touches.invariant c.touches.view_is ∙ sym c.len.ensures in
    others_updated c.touches.invariant c.touches.view_is (λ t. with_flush t c.args.spot) (in_atoms c.args.offset c.args.size) (λ w t. refl) (λ t. others_of (with_flush (without_reads t) c.args.spot)) (λ t h. refl) c.update.new.self
    (updated_where (λ t. others_of (with_flush (without_reads t) c.args.spot)) (in_atoms c.args.offset c.args.size) c.touches.inside.others c.update.new.self c.of_atoms-part.result.low c.of_atoms-part.result.high
    (rw all c.of_atoms-part.ensures.within) (rw all c.of_atoms-part.ensures.reached) before after _ (λ a b h. search rules) inside))
