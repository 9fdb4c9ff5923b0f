use Rattle.std.proofs.Common.{◌≤◌, length, get_or, refl, sym, ◌∙◌, arith}
use Rattle.vk_map_cache.proofs.HoldingLemmas.{room_of, length-holdings_of}
use Rattle.vk_map_cache.proofs.TurnLemmas.{byte_left, run_turned}
use Rattle.vk_map_cache.proofs.queue_object.QueueObject.leave_run.Goals as goal

pub run-run-requires-clause-room : goal.run-run-requires-clause-room
run-run-requires-clause-room c =
    let i = c.self.inside in
    let same : length i.marks ≤ length i.values = omega (arith, c.self.invariant) in
    let room = room_of i.marks i.values c.args.self.now c.self.view_is same in
    omega (arith, c.requires.room, room)

pub turn-requires-clause-room : goal.turn-requires-clause-room
turn-requires-clause-room c =
    let i = c.self.inside in
    let same : length i.marks ≤ length i.values = omega (arith, c.self.invariant) in
    let room = room_of i.marks i.values c.args.self.now c.self.view_is same in
    omega (arith, c.requires.room, room, c.run-run.ensures.within)

pub returns-clause-len : goal.returns-clause-len
returns-clause-len c =
    let i = c.self.inside in
    let same : length i.marks ≤ length i.values = omega (arith, c.self.invariant) in
    let room = room_of i.marks i.values c.args.self.now c.self.view_is same in
    length-holdings_of c.turn.new.self i.values (omega (arith, same, c.turn.ensures.len)) ∙ c.turn.ensures.len ∙ sym room

pub returns-clause-bytes : goal.returns-clause-bytes
returns-clause-bytes c = λ a k value cell was.
    let i = c.self.inside in
    let same : length i.marks ≤ length i.values = omega (arith, c.self.invariant) in
    let same' : length c.turn.new.self ≤ length i.values = omega (arith, same, c.turn.ensures.len) in
    let m = c.run-run.result.mark in
    run_turned c.args.turn i.marks c.turn.new.self i.values i.values c.args.self.now c.self.view_is same same' c.args.low c.run-run.result.end m c.run-run.ensures.alike c.turn.ensures.marks (λ j is. refl)
    a k value value cell (λ is. refl) (λ is here. byte_left a c.args.turn c.requires.leaves m (get_or i.values k 0) value cell here) was
