use Rattle.std.proofs.Common.{sym, subst, refl, Some}
use Rattle.vk_model.specs.World.Bytes.{Family}
use Rattle.vk_model.specs.World.Effect.{transitioned}
use Rattle.vk_history.proofs.Kept.PassSteps.{owner_at}
use Rattle.vk_model.specs.declared.command.Element.TheVariants as element
use Rattle.vk_layouts.specs.Owned.{transfer_of}
use Rattle.vk_layouts.specs.declared.ownership.Transfer.{Transfer}
use Rattle.vk_history.specs.Inner.Passing.{IsHandedOver}
use Rattle.vk_history.proofs.resource_contents.ResourceContents.hand_over.Goals as goal

pub returns-in_ok-release-in-Release : goal.returns-in_ok-release-in-Release
returns-in_ok-release-in-Release c =
    subst (λ (t : Transfer). IsHandedOver c.args.family (transfer_of t) c.args.element.now c.args.self.now c.release.new.self) (sym c.in-Release.is) (λ past w t good a. c.in_ok-release-in-Release.ensures past w t c.args.element.now.image (element.Image c.args.element.now) a)

pub returns-in_ok-use_by_transition-in-Stays : goal.returns-in_ok-use_by_transition-in-Stays
returns-in_ok-use_by_transition-in-Stays c =
    subst (λ (t : Transfer). IsHandedOver c.args.family (transfer_of t) c.args.element.now c.args.self.now c.use_by_transition.new.self) (sym c.in-Stays.is) (λ past w t good a. c.in_ok-use_by_transition-in-Stays.ensures past w t good a)

pub returns-in_ok-transition-in-Acquire : goal.returns-in_ok-transition-in-Acquire
returns-in_ok-transition-in-Acquire c =
    let mid = c.transition.new.self in
    subst (λ (t : Transfer). IsHandedOver c.args.family (transfer_of t) c.args.element.now c.args.self.now (record mid { owner = Some c.args.family })) (sym c.in-Acquire.is)
    (λ past w t good a. owner_at past c.args.element.now.image (transitioned c.args.element.now w) t (Family c.args.family) mid (record mid { owner = Some c.args.family }) (Some c.args.family) refl refl (c.in_ok-transition-in-Acquire.ensures past w t good a))
