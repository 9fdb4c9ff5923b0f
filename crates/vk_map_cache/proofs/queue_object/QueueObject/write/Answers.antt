use Rattle.std.proofs.Common.{◌≤◌, ◌+◌, ◌-◌, ℕ, List, length, get_or, refl, ap, sym, ◌∙◌, arith, inl, inr, Bool, if◌then◌else◌}
use Rattle.vk_heap.proofs.SpliceLemmas.{length-splice, splice-in, splice-out}
use Rattle.vk_map_cache.specs.declared.mark.Mark.TheVariants.{Dirty}
use Rattle.vk_map_cache.specs.Holdings.{given}
use Rattle.vk_map_cache.specs.Inner.Marks.{mark_at}
use Rattle.vk_map_cache.proofs.CellLemmas.{same_cell, given-inside, given-outside}
use Rattle.vk_map_cache.proofs.HoldingLemmas.{room_of, held_of, same_holding, length-holdings_of, held_in-holdings_of, in_range_or}
use Rattle.vk_map_cache.proofs.TurnLemmas.{byte_written, byte_unwritten}
use Rattle.vk_map_cache.proofs.queue_object.QueueObject.write.Goals as goal

pub write-requires : goal.write-requires
write-requires c =
    let i = c.self.inside in
    let same : length i.marks ≤ length i.values = omega (arith, c.self.invariant) in
    let room = room_of i.marks i.values c.args.self.now c.self.view_is same in
    omega (arith, c.requires, room, c.self.invariant)

pub overflow_add-at : goal.overflow_add-at
overflow_add-at c =
    let i = c.self.inside in
    let same : length i.marks ≤ length i.values = omega (arith, c.self.invariant) in
    let room = room_of i.marks i.values c.args.self.now c.self.view_is same in
    omega (arith, c.requires, room, c.self.invariant, c.size-size.ensures)

pub set_all-requires-clause-room : goal.set_all-requires-clause-room
set_all-requires-clause-room c =
    let i = c.self.inside in
    let same : length i.marks ≤ length i.values = omega (arith, c.self.invariant) in
    let room = room_of i.marks i.values c.args.self.now c.self.view_is same in
    omega (arith, c.requires, room)

pub invariant_of-self : goal.invariant_of-self
invariant_of-self c =
    let i = c.self.inside in
    let same : length i.marks ≤ length i.values = omega (arith, c.self.invariant) in
    let room = room_of i.marks i.values c.args.self.now c.self.view_is same in
    let fits : c.args.at + length c.args.bytes.now ≤ length i.values = omega (arith, c.requires, room, c.self.invariant) in
    c.set_all.ensures.len ∙ c.self.invariant ∙ sym (ap (λ (l : List ℕ). length l) c.write.ensures ∙ length-splice i.values c.args.bytes.now c.args.at fits)

pub returns-clause-len : goal.returns-clause-len
returns-clause-len c =
    let i = c.self.inside in
    let same : length i.marks ≤ length i.values = omega (arith, c.self.invariant) in
    let room = room_of i.marks i.values c.args.self.now c.self.view_is same in
    let fits : c.args.at + length c.args.bytes.now ≤ length i.values = omega (arith, c.requires, room, c.self.invariant) in
    let long = ap (λ (l : List ℕ). length l) c.write.ensures ∙ length-splice i.values c.args.bytes.now c.args.at fits in
    length-holdings_of c.set_all.new.self c.write.new.self (omega (arith, same, c.set_all.ensures.len, long)) ∙ c.set_all.ensures.len ∙ sym room

pub returns-clause-bytes : goal.returns-clause-bytes
returns-clause-bytes c = λ a k value cell was.
    let i = c.self.inside in
    let same : length i.marks ≤ length i.values = omega (arith, c.self.invariant) in
    let room = room_of i.marks i.values c.args.self.now c.self.view_is same in
    let at = c.args.at in
    let bytes = c.args.bytes.now in
    let fits : at + length bytes ≤ length i.values = omega (arith, c.requires, room, c.self.invariant) in
    let long = ap (λ (l : List ℕ). length l) c.write.ensures ∙ length-splice i.values bytes at fits in
    let now = held_in-holdings_of c.set_all.new.self c.write.new.self k (omega (arith, same, c.set_all.ensures.len, long)) in
    let marked = c.set_all.ensures.marks k in
    let byte = ap (λ (l : List ℕ). get_or l k 0) c.write.ensures in
    elim (in_range_or at (at + length bytes) k) [
      | inl (is, ge, lt) ↦
          byte_written a (get_or bytes (k - at) 0) _ value (given at bytes k) cell (given-inside at bytes k ge lt)
          (now ∙ same_holding (marked ∙ ap (λ (b : Bool). if b then Dirty else mark_at i.marks k) is) (byte ∙ splice-in i.values bytes at fits k ge lt)) was.region
      | inr (is, out) ↦
          byte_unwritten a _ value (given at bytes k) cell (given-outside at bytes k out)
          (same_cell (held_of i.marks i.values c.args.self.now c.self.view_is same k
          ∙ sym (now ∙ same_holding (marked ∙ ap (λ (b : Bool). if b then Dirty else mark_at i.marks k) is) (byte ∙ splice-out i.values bytes at fits k out))) refl was)
    ]
