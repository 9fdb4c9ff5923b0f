use Rattle.std.proofs.Common.{◌<◌, ◌≤◌, ◌+◌, ◌-◌, ◌⊎◌, ℕ, List, length, replicate, refl, ap, sym, ◌∙◌, arith, inl, inr, get_or}
use Rattle.std.proofs.lemmas.List.{get_or-replicate}
use Rattle.vk_map_cache.specs.declared.mark.Mark.{Mark}
use Rattle.vk_map_cache.specs.declared.mark.Mark.TheVariants.{Absent, Dirty}
use Rattle.vk_map_cache.specs.Inner.Marks.{mark_at}
use Rattle.vk_map_cache.proofs.CellLemmas.{same_cell, given-inside, given-outside, written, unwritten}
use Rattle.vk_map_cache.proofs.HoldingLemmas.{room_of, same_holding, length-part, in_range_or, length-anew, anew_in, anew_out}
use Rattle.vk_map_cache.proofs.object.ObjectCache.write.Goals as goal

pub slice_bounds-copy_from_slice-end : goal.slice_bounds-copy_from_slice-end
slice_bounds-copy_from_slice-end c =
    let room = room_of c.self.inside.marks.items c.self.inside.values.items c.args.self.now c.self.view_is c.self.invariant in
    omega (arith, c.requires, ap (λ (l : List ℕ). length l) c.deref_mut.ensures.value, room, c.self.invariant)

pub slice_bounds-mark_all-end : goal.slice_bounds-mark_all-end
slice_bounds-mark_all-end c =
    let room = room_of c.self.inside.marks.items c.self.inside.values.items c.args.self.now c.self.view_is c.self.invariant in
    omega (arith, c.requires, ap (λ (l : List Mark). length l) c.deref_mut-2.ensures.value, room)

pub returns-clause-len : goal.returns-clause-len
returns-clause-len c =
    let marks = c.self.inside.marks in
    let values = c.self.inside.values in
    let xs = c.deref_mut-2.result.now in
    let ws = c.deref_mut.result.now in
    let at = c.args.at in
    let n = at + length c.args.bytes.now - at in
    let room = room_of marks.items values.items c.args.self.now c.self.view_is c.self.invariant in
    let fits : at + n ≤ length xs = omega (arith, c.requires, ap (λ (l : List Mark). length l) c.deref_mut-2.ensures.value, room) in
    let fits_values : at + n ≤ length ws = omega (arith, c.requires, ap (λ (l : List ℕ). length l) c.deref_mut.ensures.value, room, c.self.invariant) in
    length-anew marks values c.args.self.now c.self.view_is c.self.invariant xs ws c.deref_mut-2.ensures.value c.deref_mut.ensures.value c.deref_mut-2.ensures.len c.deref_mut.ensures.len
    c.mark_all.new.marks c.copy_from_slice.new.self at n fits (c.mark_all.auto.marks ∙ length-part xs at n fits) (c.copy_from_slice.auto.self ∙ length-part ws at n fits_values)

pub returns-clause-held : goal.returns-clause-held
returns-clause-held c = λ k value cell was.
    let marks = c.self.inside.marks in
    let values = c.self.inside.values in
    let xs = c.deref_mut-2.result.now in
    let ws = c.deref_mut.result.now in
    let at = c.args.at in
    let bytes = c.args.bytes.now in
    let n = at + length bytes - at in
    let room = room_of marks.items values.items c.args.self.now c.self.view_is c.self.invariant in
    let fits : at + n ≤ length xs = omega (arith, c.requires, ap (λ (l : List Mark). length l) c.deref_mut-2.ensures.value, room) in
    let fits_values : at + n ≤ length ws = omega (arith, c.requires, ap (λ (l : List ℕ). length l) c.deref_mut.ensures.value, room, c.self.invariant) in
    let part = length-part xs at n fits in
    let long_values = c.copy_from_slice.auto.self ∙ length-part ws at n fits_values in
    elim (in_range_or at (at + length bytes) k) [
      | inl (is, low, high) ↦
          let now = anew_in marks values c.args.self.now c.self.view_is c.self.invariant xs ws c.deref_mut-2.ensures.value c.deref_mut.ensures.value c.deref_mut-2.ensures.len c.deref_mut.ensures.len
          c.mark_all.new.marks c.copy_from_slice.new.self at n fits (c.mark_all.auto.marks ∙ part) long_values k low (omega (arith, high)) in
          let dirty = ap (λ (l : List Mark). mark_at l (k - at)) (c.mark_all.ensures ∙ ap (λ (j : ℕ). replicate j Dirty) part) ∙ get_or-replicate n (k - at) Dirty Absent (omega (arith, low, high)) in
          let byte = ap (λ (l : List ℕ). get_or l (k - at) 0) c.copy_from_slice.ensures.after in
          written _ value k cell at bytes (given-inside at bytes k low high) (now ∙ same_holding dirty byte) was.region
      | inr (is, out) ↦
          let now = anew_out marks values c.args.self.now c.self.view_is c.self.invariant xs ws c.deref_mut-2.ensures.value c.deref_mut.ensures.value c.deref_mut-2.ensures.len c.deref_mut.ensures.len
          c.mark_all.new.marks c.copy_from_slice.new.self at n fits (c.mark_all.auto.marks ∙ part) long_values k (out_of at (length bytes) k out) in
          unwritten _ value k cell at bytes (given-outside at bytes k out) (same_cell (sym now) refl was)
    ]
  where
    out_of : (at len k : ℕ) → (k < at) ⊎ (at + len ≤ k) → (k < at) ⊎ (at + (at + len - at) ≤ k)
    out_of at len k (inl lt) = inl lt
    out_of at len k (inr le) = inr (omega (arith, le))
