use Rattle.std.proofs.Common.{ℕ, Bool, ap, subst, ◌∙◌, ◌≡◌, not, ◌&&◌}
use Rattle.vk_model.specs.World.Ownership.{family_of, is_transition, releases, Transfer, transfer}
use Rattle.vk_layouts.specs.Owned.{transfer_of}
use Rattle.vk_history.specs.Inner.Passing.{IsHandedOver, IsMarked}
use Rattle.vk_history.proofs.Kept.ImageSteps.{passed_at}
use Rattle.vk_history.proofs.resource_contents.ResourceContents.pass_image.Goals as goal

pub returns : goal.returns
returns c =
    let e = c.args.element.now in
    let q = c.args.queue in
    let done : transfer_of c.of-transfer.result ≡ transfer (family_of q) e.families = c.of-transfer.ensures ∙ ap (λ (f : ℕ). transfer f e.families) c.family_of-family.ensures in
    passed_at q e c.args.spot c.args.self.now c.hand_over.new.self c.mark.new.self
    (subst (λ (x : Transfer). IsHandedOver (family_of q) x e c.args.self.now c.hand_over.new.self) done
    (subst (λ (f : ℕ). IsHandedOver f (transfer_of c.of-transfer.result) e c.args.self.now c.hand_over.new.self) c.family_of-family.ensures c.in_ok-hand_over.ensures))
    (subst (λ (u : Bool). IsMarked u e.range c.args.spot c.hand_over.new.self c.mark.new.self) (c.moves.ensures ∙ ap (λ (x : Transfer). is_transition e && not (releases x)) done) c.in_ok-mark.ensures)
