use Rattle.vk_history.proofs.Transitions.Keeping.{transition_kept, image_there}
use Rattle.vk_history.proofs.layouts.CurrentLayouts.transition.Goals as goal

pub returns : goal.returns
returns c = λ past w objects there kept.
    let room = c.in_ok-make_room.ensures past objects in
    transition_kept past c.args.element.now there c.make_room.new.self c.set.new.self w (room.kept w.layout kept) c.set.ensures.others (room.there (image_there past c.args.element.now there)) c.set.ensures.here
