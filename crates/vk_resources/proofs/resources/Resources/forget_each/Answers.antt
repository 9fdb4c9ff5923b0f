use Rattle.std.proofs.Common.{ℕ, List, subst}
use Rattle.std.proofs.lemmas.List.{take_all}
use Rattle.vk_resources.specs.Inner.PassEnds.{ForgetsEach}
use Rattle.vk_resources.proofs.PuttingAnew.{more_forgotten, none_forgotten}
use Rattle.vk_resources.proofs.resources.Resources.forget_each.Goals as goal

pub loop-id-init : goal.loop-id-init
loop-id-init c = none_forgotten c.args.self.now

pub loop-id-preserved : goal.loop-id-preserved
loop-id-preserved c =
    let f = c.forget.ensures in
    more_forgotten c.args.self.now c.loop-id.self c.forget.new.self c.args.ids.now c.loop-id.id-index c.loop-id-test.true c.loop-id.invariant f.memory f.backed f.resources f.shapes f.forgets

pub returns-clause-forgets : goal.returns-clause-forgets
returns-clause-forgets c = subst (λ (l : List ℕ). ForgetsEach l c.args.self.now c.loop-id.self) (take_all c.loop-id.id-index c.args.ids.now c.loop-id-test.false) c.loop-id.invariant
