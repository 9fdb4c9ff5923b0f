use Rattle.std.proofs.Common.{◌<◌, length, refl, ◌∙◌, arith}
use Rattle.std.proofs.lemmas.List.{get_or_default}
use Rattle.vk_events.proofs.HookLemmas.{IfNone_then}
use Rattle.vk_events.proofs.HangingLemmas.{in_pairs}
use Rattle.vk_events.proofs.hanging.take_from.Goals as goal

pub returns-clause-none : goal.returns-clause-none
returns-clause-none c = IfNone_then c.pop_within.result c.pop_within.ensures.none (λ f.
    let lt : c.args.queue < length c.args.hooks.now = let four = c.told-hooks in let on = c.requires in omega arith in
    let same = f.0 ∙ get_or_default c.args.hooks.now c.args.queue c.index-hooks-queue.result c.pop_within.new.self lt in
    (c.pop_within.new.self, same, refl, λ x there. f.1 x (in_pairs c.args.hooks.now c.args.queue c.index-hooks-queue.result lt x there)))
