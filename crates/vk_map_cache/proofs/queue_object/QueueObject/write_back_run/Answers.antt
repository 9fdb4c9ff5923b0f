use Rattle.std.proofs.Common.{◌≤◌, length, get_or, refl, ap, sym, ◌∙◌, arith, Bool, if◌then◌else◌}
use Rattle.vk_map_cache.specs.declared.marks.Turn.TheVariants as turn
use Rattle.vk_map_cache.specs.Inner.Marks.{value_back}
use Rattle.vk_map_cache.proofs.CellLemmas.{same_cell}
use Rattle.vk_map_cache.proofs.HoldingLemmas.{room_of, length-holdings_of}
use Rattle.vk_map_cache.proofs.TurnLemmas.{byte_back, run_turned}
use Rattle.vk_map_cache.proofs.queue_object.QueueObject.write_back_run.Goals as goal

pub run-run-requires-clause-room : goal.run-run-requires-clause-room
run-run-requires-clause-room c =
    let i = c.self.inside in
    let same : length i.marks ≤ length i.values = omega (arith, c.self.invariant) in
    let room = room_of i.marks i.values c.args.self.now c.self.view_is same in
    omega (arith, c.requires.room, room)

pub copy_dirty-requires-clause-room : goal.copy_dirty-requires-clause-room
copy_dirty-requires-clause-room c =
    let i = c.self.inside in
    let same : length i.marks ≤ length i.values = omega (arith, c.self.invariant) in
    let room = room_of i.marks i.values c.args.self.now c.self.view_is same in
    omega (arith, c.requires.room, room, c.run-run.ensures.within, c.self.invariant)

pub turn-requires-clause-room : goal.turn-requires-clause-room
turn-requires-clause-room c =
    let i = c.self.inside in
    let same : length i.marks ≤ length i.values = omega (arith, c.self.invariant) in
    let room = room_of i.marks i.values c.args.self.now c.self.view_is same in
    omega (arith, c.requires.room, room, c.run-run.ensures.within)

pub returns-clause-len : goal.returns-clause-len
returns-clause-len c =
    let i = c.self.inside in
    let same : length i.marks ≤ length i.values = omega (arith, c.self.invariant) in
    let room = room_of i.marks i.values c.args.self.now c.self.view_is same in
    length-holdings_of c.turn.new.self i.values (omega (arith, same, c.turn.ensures.len)) ∙ c.turn.ensures.len ∙ sym room

pub returns-clause-bytes : goal.returns-clause-bytes
returns-clause-bytes c = λ a k cell was.
    let i = c.self.inside in
    let same : length i.marks ≤ length i.values = omega (arith, c.self.invariant) in
    let same' : length c.turn.new.self ≤ length i.values = omega (arith, same, c.turn.ensures.len) in
    let m = c.run-run.result.mark in
    let v = get_or i.values k 0 in
    let r = get_or c.args.region.now k 0 in
    let byte = c.copy_dirty.ensures.bytes k in
    run_turned turn.WriteBack i.marks c.turn.new.self i.values i.values c.args.self.now c.self.view_is same same' c.args.low c.run-run.result.end m c.run-run.ensures.alike c.turn.ensures.marks (λ j is. refl)
    a k r (get_or c.copy_dirty.new.region k 0) cell
    (λ is. byte ∙ ap (λ (b : Bool). if b then value_back m v r else r) is)
    (λ is here. same_cell refl (sym (byte ∙ ap (λ (b : Bool). if b then value_back m v r else r) is)) (byte_back a m v r cell here)) was
