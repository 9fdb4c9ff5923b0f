use Rattle.std.proofs.Common.{◌∙◌, ap, sym, Some}
use Rattle.std.specs.Prelude.{option_and_then, option_map}
use Rattle.vk_model.specs.Trace.Objects.{image_in}
use Rattle.vk_touches.proofs.PartChanges.{on_three}
use Rattle.vk_model.proofs.Lists.Failing.{none_there}
use Rattle.vk_history.proofs.Transitions.Keeping.{room_made}
use Rattle.vk_history.proofs.layouts.CurrentLayouts.make_room.Goals as goal

pub returns-in-Some-Image : goal.returns-in-Some-Image
returns-in-Some-Image c = on_three c.make.result c.make.ensures.here c.make.ensures.present c.make.ensures.others (λ here present others past objects.
    room_made c.args.self.now c.make.new.self past c.args.id c.in-Some-Image.info (ap (option_and_then image_in) (sym (c.made.ensures past objects) ∙ ap (option_map (λ x. x.now)) c.in-Some-Image.is ∙ ap Some c.in-Some-Image.field-0-is)) (none_there _ (sym c.contains_key.ensures ∙ c.if-contains_key.false)) here present others)
