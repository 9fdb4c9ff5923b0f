use Rattle.std.proofs.Common.{◌≡◌, ◌≤◌, ◌-◌, List, length, ap, sym, ◌∙◌, arith}
use Rattle.vk_map_cache.specs.declared.mark.Mark.{Mark}
use Rattle.std.proofs.lemmas.Grind.{common_steps}
use Rattle.vk_map_cache.specs.Inner.Marks.{mark_at}
use Rattle.vk_map_cache.proofs.HoldingLemmas.{room_of, held_of, length-holdings_of, same_with_room, more_marks}
use Rattle.vk_map_cache.proofs.object.ObjectCache.make_room.Goals as goal

pub returns-in_err-resize-2-clause-same : goal.returns-in_err-resize-2-clause-same
returns-in_err-resize-2-clause-same c = λ k.
    let marks = c.self.inside.marks.items in
    let values = c.self.inside.values.items in
    let room = room_of marks values c.args.self.now c.self.view_is c.self.invariant in
    same_with_room marks c.resize-2.new.self.items values c.resize.new.self.items c.args.size (c.args.size - c.self.inside.values.len) k c.self.invariant (grind arith) (omega (arith, c.requires, room))
    c.in_ok-resize.ensures.items (λ j. ap (λ (l : List Mark). mark_at l j) c.in_err-resize-2.ensures.items)
    ∙ sym (held_of marks values c.args.self.now c.self.view_is c.self.invariant k)

pub returns-clause-len : goal.returns-clause-len
returns-clause-len c =
    let long : length c.resize-2.new.self.items ≡ c.args.size = omega (arith, c.in_ok-resize-2.ensures.len) in
    length-holdings_of c.resize-2.new.self.items c.resize.new.self.items (omega (arith, long, c.in_ok-resize.ensures.len)) ∙ long

pub returns-clause-same : goal.returns-clause-same
returns-clause-same c = λ k.
    let marks = c.self.inside.marks.items in
    let values = c.self.inside.values.items in
    let room = room_of marks values c.args.self.now c.self.view_is c.self.invariant in
    let fits : length marks ≤ c.args.size = omega (arith, c.requires, room) in
    same_with_room marks c.resize-2.new.self.items values c.resize.new.self.items c.args.size (c.args.size - c.self.inside.values.len) k c.self.invariant (grind (arith, common_steps)) fits
    c.in_ok-resize.ensures.items (λ j. ap (λ (l : List Mark). mark_at l j) c.in_ok-resize-2.ensures.items ∙ more_marks marks c.args.size (c.args.size - c.self.inside.marks.len) j fits)
    ∙ sym (held_of marks values c.args.self.now c.self.view_is c.self.invariant k)
