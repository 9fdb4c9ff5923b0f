use Rattle.std.proofs.Common.{◌≡◌, ◌<◌, ◌≤◌, ◌+◌, ◌-◌, ◌⊎◌, ℕ, List, length, refl, ap, sym, ◌∙◌, arith, inl, inr}
use Rattle.vk_map_cache.specs.declared.mark.Mark.{Mark}
use Rattle.vk_map_cache.specs.Holdings.{held_in}
use Rattle.vk_map_cache.proofs.CellLemmas.{same_cell}
use Rattle.vk_map_cache.proofs.HoldingLemmas.{room_of, length-part, held_of_part, length-anew, anew_in, anew_out}
use Rattle.vk_map_cache.proofs.object.ObjectCache.change.Goals as goal

pub slice_bounds-change_bytes-end : goal.slice_bounds-change_bytes-end
slice_bounds-change_bytes-end c =
    let room = room_of c.self.inside.marks.items c.self.inside.values.items c.args.self.now c.self.view_is c.self.invariant in
    omega (arith, c.requires, ap (λ (l : List Mark). length l) c.deref_mut.ensures.value, room)

pub slice_bounds-change_bytes-end-2 : goal.slice_bounds-change_bytes-end-2
slice_bounds-change_bytes-end-2 c =
    let room = room_of c.self.inside.marks.items c.self.inside.values.items c.args.self.now c.self.view_is c.self.invariant in
    omega (arith, c.requires, ap (λ (l : List ℕ). length l) c.deref_mut-2.ensures.value, room, c.self.invariant)

pub returns-clause-len : goal.returns-clause-len
returns-clause-len c =
    let marks = c.self.inside.marks in
    let values = c.self.inside.values in
    let xs = c.deref_mut.result.now in
    let ws = c.deref_mut-2.result.now in
    let at = c.args.at in
    let n = at + length c.args.region.now - at in
    let room = room_of marks.items values.items c.args.self.now c.self.view_is c.self.invariant in
    let fits : at + n ≤ length xs = omega (arith, c.requires, ap (λ (l : List Mark). length l) c.deref_mut.ensures.value, room) in
    let fits_values : at + n ≤ length ws = omega (arith, c.requires, ap (λ (l : List ℕ). length l) c.deref_mut-2.ensures.value, room, c.self.invariant) in
    length-anew marks values c.args.self.now c.self.view_is c.self.invariant xs ws c.deref_mut.ensures.value c.deref_mut-2.ensures.value c.deref_mut.ensures.len c.deref_mut-2.ensures.len
    c.change_bytes.new.marks c.change_bytes.new.values at n fits (c.change_bytes.auto.marks ∙ length-part xs at n fits) (c.change_bytes.auto.values ∙ length-part ws at n fits_values)

pub returns-clause-inside : goal.returns-clause-inside
returns-clause-inside c = λ k cell low high was.
    let marks = c.self.inside.marks in
    let values = c.self.inside.values in
    let xs = c.deref_mut.result.now in
    let ws = c.deref_mut-2.result.now in
    let at = c.args.at in
    let n = at + length c.args.region.now - at in
    let room = room_of marks.items values.items c.args.self.now c.self.view_is c.self.invariant in
    let fits : at + n ≤ length xs = omega (arith, c.requires, ap (λ (l : List Mark). length l) c.deref_mut.ensures.value, room) in
    let fits_values : at + n ≤ length ws = omega (arith, c.requires, ap (λ (l : List ℕ). length l) c.deref_mut-2.ensures.value, room, c.self.invariant) in
    let j_in : k - at < n = omega (arith, low, high) in
    let back : at + (k - at) ≡ k = omega (arith, low) in
    same_cell
    (sym (anew_in marks values c.args.self.now c.self.view_is c.self.invariant xs ws c.deref_mut.ensures.value c.deref_mut-2.ensures.value c.deref_mut.ensures.len c.deref_mut-2.ensures.len
    c.change_bytes.new.marks c.change_bytes.new.values at n fits (c.change_bytes.auto.marks ∙ length-part xs at n fits) (c.change_bytes.auto.values ∙ length-part ws at n fits_values) k low (omega (arith, high))))
    refl
    (c.change_bytes.ensures (k - at) cell (omega (arith, low, high))
    (same_cell (sym (held_of_part marks.items values.items c.args.self.now c.self.view_is c.self.invariant xs ws c.deref_mut.ensures.value c.deref_mut-2.ensures.value at n fits (k - at) j_in ∙ ap (λ (i : ℕ). held_in c.args.self.now i) back)) refl was))

pub returns-clause-outside : goal.returns-clause-outside
returns-clause-outside c = λ k out.
    let marks = c.self.inside.marks in
    let values = c.self.inside.values in
    let xs = c.deref_mut.result.now in
    let ws = c.deref_mut-2.result.now in
    let at = c.args.at in
    let n = at + length c.args.region.now - at in
    let room = room_of marks.items values.items c.args.self.now c.self.view_is c.self.invariant in
    let fits : at + n ≤ length xs = omega (arith, c.requires, ap (λ (l : List Mark). length l) c.deref_mut.ensures.value, room) in
    let fits_values : at + n ≤ length ws = omega (arith, c.requires, ap (λ (l : List ℕ). length l) c.deref_mut-2.ensures.value, room, c.self.invariant) in
    anew_out marks values c.args.self.now c.self.view_is c.self.invariant xs ws c.deref_mut.ensures.value c.deref_mut-2.ensures.value c.deref_mut.ensures.len c.deref_mut-2.ensures.len
    c.change_bytes.new.marks c.change_bytes.new.values at n fits (c.change_bytes.auto.marks ∙ length-part xs at n fits) (c.change_bytes.auto.values ∙ length-part ws at n fits_values) k (out_of at (length c.args.region.now) k out)
  where
    out_of : (at len k : ℕ) → (k < at) ⊎ (at + len ≤ k) → (k < at) ⊎ (at + (at + len - at) ≤ k)
    out_of at len k (inl lt) = inl lt
    out_of at len k (inr le) = inr (omega (arith, le))
