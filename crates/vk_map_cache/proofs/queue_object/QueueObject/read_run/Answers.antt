use Rattle.std.proofs.Common.{◌≡◌, ◌≤◌, ◌+◌, ◌-◌, ℕ, List, length, take, drop, get_or, ap, sym, ◌∙◌, arith, Option}
use Rattle.std.proofs.lemmas.List.{get_or_append_left, get_or-append_right, get_or-drop, length-take-le}
use Rattle.vk_model.specs.Run.Caches.{Held, value_through}
use Rattle.vk_map_cache.specs.declared.mark.Mark.{Mark}
use Rattle.vk_map_cache.specs.Inner.Marks.{holding_of}
use Rattle.vk_map_cache.proofs.HoldingLemmas.{room_of, held_of, get_or-part}
use Rattle.vk_map_cache.proofs.TurnLemmas.{through_held}
use Rattle.vk_map_cache.proofs.queue_object.QueueObject.read_run.Goals as goal

pub overflow_add-at : goal.overflow_add-at
overflow_add-at c =
    let i = c.self.inside in
    let same : length i.marks ≤ length i.values = omega (arith, c.self.invariant) in
    let room = room_of i.marks i.values c.args.self.now c.self.view_is same in
    omega (arith, c.requires.room, room, c.self.invariant, c.size-size.ensures)

pub run-run-requires-clause-room : goal.run-run-requires-clause-room
run-run-requires-clause-room c =
    let i = c.self.inside in
    let same : length i.marks ≤ length i.values = omega (arith, c.self.invariant) in
    let room = room_of i.marks i.values c.args.self.now c.self.view_is same in
    omega (arith, c.requires.room, room)

pub returns-in-Absent-clause-bytes : goal.returns-in-Absent-clause-bytes
returns-in-Absent-clause-bytes c = λ k lt.
    let i = c.self.inside in
    let same : length i.marks ≤ length i.values = omega (arith, c.self.invariant) in
    let at = c.args.at + k in
    let absent = c.run-run.ensures.alike at (omega arith) (omega (arith, lt, c.run-run.ensures.some)) ∙ c.in-Absent.is in
    sym (ap (λ (h : Option Held). value_through h (get_or c.args.out.now k 0)) (held_of i.marks i.values c.args.self.now c.self.view_is same at ∙ ap (λ (m : Mark). holding_of m (get_or i.values at 0)) absent))

pub returns-in_default : goal.returns-in_default
returns-in_default c =
    let i = c.self.inside in
    let same : length i.marks ≤ length i.values = omega (arith, c.self.invariant) in
    let room = room_of i.marks i.values c.args.self.now c.self.view_is same in
    let out = c.args.out.now in
    let count = c.run-run.result.end - c.args.at in
    let within : count ≤ length out = omega (arith, c.run-run.ensures.within) in
    let part : length (take count out) ≡ count = length-take-le count out within in
    let long : length c.read.new.out ≡ count = c.read.auto.out ∙ part in
    let m = c.run-run.result.mark in
    record {
      some = omega (arith, c.run-run.ensures.some);
      within = within;
      bytes = λ k lt.
          let at = c.args.at + k in
          let alike = c.run-run.ensures.alike at (omega arith) (omega (arith, lt, c.run-run.ensures.some)) in
          get_or_append_left c.read.new.out (drop count out) 0 k (omega (arith, lt, long))
          ∙ ap (λ (l : List ℕ). get_or l k 0) c.read.ensures ∙ get_or-part 0 i.values c.args.at (length (take count out)) k (omega (arith, lt, part))
          ∙ sym (ap (λ (h : Option Held). value_through h (get_or out k 0)) (held_of i.marks i.values c.args.self.now c.self.view_is same at ∙ ap (λ (x : Mark). holding_of x (get_or i.values at 0)) alike)
          ∙ through_held m (get_or i.values at 0) (get_or out k 0) c.in_default.not-Absent);
      rest = λ k ge.
          let index : count + (k - count) ≡ k = omega (arith, ge) in
          get_or-append_right c.read.new.out (drop count out) count k 0 long ge ∙ get_or-drop count out (k - count) 0 ∙ ap (λ (j : ℕ). get_or out j 0) index;
    }
