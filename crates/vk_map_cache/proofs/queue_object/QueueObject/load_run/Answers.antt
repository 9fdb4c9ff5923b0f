use Rattle.std.proofs.Common.{◌≤◌, ℕ, length, get_or, refl, ap, sym, ◌∙◌, arith, Bool, if◌then◌else◌}
use Rattle.vk_map_cache.specs.declared.marks.Turn.TheVariants as turn
use Rattle.vk_map_cache.specs.Inner.Marks.{holding_of, mark_after, value_loaded}
use Rattle.vk_map_cache.proofs.CellLemmas.{same_cell}
use Rattle.vk_map_cache.proofs.HoldingLemmas.{room_of, length-holdings_of}
use Rattle.vk_map_cache.proofs.TurnLemmas.{byte_loaded, run_turned}
use Rattle.vk_map_cache.proofs.queue_object.QueueObject.load_run.Goals as goal

pub run-run-requires-clause-room : goal.run-run-requires-clause-room
run-run-requires-clause-room c =
    let i = c.self.inside in
    let same : length i.marks ≤ length i.values = omega (arith, c.self.invariant) in
    let room = room_of i.marks i.values c.args.self.now c.self.view_is same in
    omega (arith, c.requires.room, room)

pub copy_absent-requires-clause-room : goal.copy_absent-requires-clause-room
copy_absent-requires-clause-room c =
    let i = c.self.inside in
    let same : length i.marks ≤ length i.values = omega (arith, c.self.invariant) in
    let room = room_of i.marks i.values c.args.self.now c.self.view_is same in
    omega (arith, c.requires.room, room, c.run-run.ensures.within, c.self.invariant)

pub turn-requires-clause-room : goal.turn-requires-clause-room
turn-requires-clause-room c =
    let i = c.self.inside in
    let same : length i.marks ≤ length i.values = omega (arith, c.self.invariant) in
    let room = room_of i.marks i.values c.args.self.now c.self.view_is same in
    omega (arith, c.requires.room, room, c.run-run.ensures.within)

pub returns-clause-len : goal.returns-clause-len
returns-clause-len c =
    let i = c.self.inside in
    let same : length i.marks ≤ length i.values = omega (arith, c.self.invariant) in
    let room = room_of i.marks i.values c.args.self.now c.self.view_is same in
    length-holdings_of c.turn.new.self c.copy_absent.new.values (omega (arith, same, c.turn.ensures.len, c.copy_absent.ensures.size)) ∙ c.turn.ensures.len ∙ sym room

pub returns-clause-bytes : goal.returns-clause-bytes
returns-clause-bytes c = λ a k cell was.
    let i = c.self.inside in
    let same : length i.marks ≤ length i.values = omega (arith, c.self.invariant) in
    let same' : length c.turn.new.self ≤ length c.copy_absent.new.values = omega (arith, same, c.turn.ensures.len, c.copy_absent.ensures.size) in
    let m = c.run-run.result.mark in
    let byte = c.copy_absent.ensures.bytes in
    let v = λ (j : ℕ). get_or i.values j 0 in
    let r = λ (j : ℕ). get_or c.args.region.now j 0 in
    run_turned turn.Load i.marks c.turn.new.self i.values c.copy_absent.new.values c.args.self.now c.self.view_is same same' c.args.low c.run-run.result.end m c.run-run.ensures.alike c.turn.ensures.marks
    (λ j is. byte j ∙ ap (λ (b : Bool). if b then value_loaded m (v j) (r j) else v j) is)
    a k (r k) (r k) cell (λ is. refl)
    (λ is here. same_cell (ap (λ (x : ℕ). holding_of (mark_after turn.Load m) x) (sym (byte k ∙ ap (λ (b : Bool). if b then value_loaded m (v k) (r k) else v k) is))) refl (byte_loaded a m (v k) (r k) cell here)) was
