use Rattle.std.proofs.Common.{ℕ, ap, sym, subst, ◌∙◌, IsTrue}
use Rattle.vk_ids.specs.Ids.{value_of}
use Rattle.vk_model.specs.declared.command.Element.{Element}
use Rattle.vk_model.specs.World.Effect.{after_element}
use Rattle.vk_model.specs.World.Ownership.{family_of, Transfer, transfer}
use Rattle.vk_layouts.specs.Owned.{transfer_of}
use Rattle.vk_history.specs.Contents.{AreAllAt, BecomesIn}
use Rattle.vk_history.specs.Inner.Passing.{IsPassed, is_on_resource, touched_by}
use Rattle.vk_touches.proofs.PartChanges.{on_three}
use Rattle.vk_history.proofs.Kept.PassSteps.{passed_buffer, passed_image}
use Rattle.vk_history.proofs.contents.Contents.pass.Goals as goal

pub returns-in-Buffer : goal.returns-in-Buffer
returns-in-Buffer c = on_three c.pass_buffer.result c.pass_buffer.ensures.here c.pass_buffer.ensures.others c.pass_buffer.ensures.here (λ here others more past w t there are.
    let old = c.args.self.now in
    let new = c.pass_buffer.new.self in
    let e = c.in-Buffer.range in
    subst (λ (x : Element). AreAllAt new past (after_element past (family_of c.args.queue) w x) (touched_by past c.args.queue x c.args.spot t)) (sym c.in-Buffer.is)
    (passed_buffer past (family_of c.args.queue) e _ w t old new (subst (λ (x : Element). IsTrue (is_on_resource past x)) c.in-Buffer.is there)
    (subst (λ (x : Transfer). BecomesIn (IsPassed (family_of c.args.queue) x) (value_of old.resources e.buffer) (value_of new.resources e.buffer)) (c.of-transfer.ensures ∙ ap (λ (f : ℕ). transfer f e.families) c.family_of-family.ensures)
    (subst (λ (f : ℕ). BecomesIn (IsPassed f (transfer_of c.of-transfer.result)) (value_of old.resources e.buffer) (value_of new.resources e.buffer)) c.family_of-family.ensures here)) others are))

pub returns-in-Image : goal.returns-in-Image
returns-in-Image c = on_three c.pass_image.result c.pass_image.ensures.here c.pass_image.ensures.others c.pass_image.ensures.here (λ here others more past w t there are.
    let old = c.args.self.now in
    let new = c.pass_image.new.self in
    let e = c.in-Image.on_image in
    subst (λ (x : Element). AreAllAt new past (after_element past (family_of c.args.queue) w x) (touched_by past c.args.queue x c.args.spot t)) (sym c.in-Image.is)
    (passed_image past c.args.queue e c.args.spot w t old new (subst (λ (x : Element). IsTrue (is_on_resource past x)) c.in-Image.is there) here others are))
