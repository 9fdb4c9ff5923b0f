use Rattle.std.proofs.Common.{◌≡◌, ◌≤◌, ◌+◌, ◌-◌, ℕ, List, length, take, drop, ap, sym, ◌∙◌, arith, inl, inr, get_or, Option, None}
use Rattle.std.proofs.lemmas.Bool.{cases_lt}
use Rattle.std.proofs.lemmas.List.{get_or_past, get_or_append_left, get_or-append_right, get_or-drop, get_or-take, length-take-le}
use Rattle.vk_model.specs.Run.Caches.{Held, value_through}
use Rattle.vk_map_cache.specs.declared.mark.Mark.{Mark}
use Rattle.vk_map_cache.specs.Holdings.{held_in}
use Rattle.vk_map_cache.proofs.HoldingLemmas.{room_of, held_of_part}
use Rattle.vk_map_cache.proofs.object.ObjectCache.read.Goals as goal

pub returns-then-at-as_slice : goal.returns-then-at-as_slice
returns-then-at-as_slice c = λ k lt.
    let room = room_of c.self.inside.marks.items c.self.inside.values.items c.args.self.now c.self.view_is c.self.invariant in
    let past : held_in c.args.self.now (c.args.at + k) ≡ None = get_or_past c.args.self.now (c.args.at + k) None (omega (arith, room, ap (λ (l : List Mark). length l) c.as_slice.ensures.value, c.if-at-as_slice.true)) in
    sym (ap (λ (h : Option Held). value_through h (get_or c.args.out.now k 0)) past)

pub returns : goal.returns
returns c = λ k lt.
    let marks = c.self.inside.marks.items in
    let values = c.self.inside.values.items in
    let held = c.args.self.now in
    let out = c.args.out.now in
    let at = c.args.at in
    let count = c.min-count.result in
    let n = at + count - at in
    let room = room_of marks values held c.self.view_is c.self.invariant in
    let len = ap (λ (l : List Mark). length l) c.as_slice-2.ensures.value in
    let within : count ≤ length out = omega (arith, c.min-count.ensures) in
    let long : length c.read_through.new.out ≡ count = c.read_through.auto.out ∙ length-take-le count out within in
    elim (cases_lt k count) [
      | inl less ↦
          let fits : at + n ≤ length c.deref.result.now = omega (arith, ap (λ (l : List Mark). length l) c.deref.ensures.value, len, c.min-count.ensures, c.if-at-as_slice.false, ap (λ (l : List Mark). length l) c.as_slice.ensures.value) in
          get_or_append_left c.read_through.new.out (drop count out) 0 k (omega (arith, less, long))
          ∙ c.read_through.ensures k (omega (arith, less, length-take-le count out within))
          ∙ ap (λ (h : Option Held). value_through h (get_or (take count out) k 0)) (held_of_part marks values held c.self.view_is c.self.invariant c.deref.result.now c.deref-2.result.now c.deref.ensures.value c.deref-2.ensures.value at n fits k (omega (arith, less)))
          ∙ ap (λ (v : ℕ). value_through (held_in held (at + k)) v) (get_or-take count out k 0 less)
      | inr more ↦
          let past : held_in held (at + k) ≡ None = get_or_past held (at + k) None (omega (arith, room, len, c.min-count.ensures, more, lt)) in
          let index : count + (k - count) ≡ k = omega (arith, more) in
          get_or-append_right c.read_through.new.out (drop count out) count k 0 long more
          ∙ get_or-drop count out (k - count) 0
          ∙ ap (λ (i : ℕ). get_or out i 0) index
          ∙ sym (ap (λ (h : Option Held). value_through h (get_or out k 0)) past)
    ]
