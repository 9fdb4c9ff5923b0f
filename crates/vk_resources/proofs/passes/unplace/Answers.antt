use Rattle.std.proofs.Common.{ℕ, List, subst}
use Rattle.std.proofs.lemmas.List.{take_all}
use Rattle.vk_model.proofs.Lists.Keys.{other_key}
use Rattle.vk_resources.specs.Inner.PassEnds.{LeavesOut}
use Rattle.vk_resources.proofs.PuttingAnew.{more_left, none_left}
use Rattle.vk_resources.proofs.passes.unplace.Goals as goal

pub loop-id-init : goal.loop-id-init
loop-id-init c = none_left c.args.resources.now.entries

pub loop-id-preserved : goal.loop-id-preserved
loop-id-preserved c = let u = c.remove.ensures.updates in more_left c.args.resources.now.entries c.loop-id.resources.entries c.remove.new.self.entries c.args.ids.now c.loop-id.id-index c.loop-id-test.true c.loop-id.invariant u.1 (λ i other. u.2 i (other_key _ i other))

pub returns : goal.returns
returns c = subst (λ (l : List ℕ). LeavesOut c.args.resources.now.entries c.loop-id.resources.entries l) (take_all c.loop-id.id-index c.args.ids.now c.loop-id-test.false) c.loop-id.invariant
