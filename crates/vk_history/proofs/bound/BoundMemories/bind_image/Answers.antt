use Rattle.std.proofs.Common.{◌≡◌, sym, ◌∙◌, refl, ap}
use Rattle.vk_model.specs.declared.resource.ImageInfo.{ImageInfo}
use Rattle.vk_model.specs.Memory.Addresses.{need_of}
use Rattle.vk_model.specs.Trace.Objects.{of_image}
use Rattle.vk_history.proofs.Living.Counting.{on_both}
use Rattle.vk_history.proofs.Living.Bound.{bound_by}
use Rattle.vk_history.proofs.bound.BoundMemories.bind_image.Goals as goal

pub returns-in-Ok : goal.returns-in-Ok
returns-in-Ok c =
    let i = c.args.info.now in
    let shape_is : c.in-Ok.shape ≡ i = (rw c.in-Ok.is at c.of.ensures).1 in
    let need_is : c.requirements.result ≡ need_of (of_image i) = c.requirements.ensures.need ∙ ap (λ (s : ImageInfo). need_of (of_image s)) shape_is in
    on_both c.bind.result c.bind.ensures.here c.bind.ensures.others (λ here others. bound_by c.args.self.now c.bind.new.self (of_image i) c.in-Some.memory c.in-Some.offset c.requirements.result _ (sym c.bound_at.ensures ∙ c.in-Some.is) need_is refl here others)
