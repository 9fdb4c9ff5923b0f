use Rattle.std.proofs.Common.{◌≡◌, ◌<◌, ◌≤◌, ◌+◌, ◌-◌, ◌⊎◌, ◌&&◌, nat_le, nat_lt, ℕ, List, length, refl, ap, sym, ◌∙◌, arith, inl, inr, get_or, replicate}
use Rattle.std.proofs.lemmas.List.{get_or-replicate}
use Rattle.std.specs.Vec.{with_items}
use Rattle.vk_model.specs.Run.Caches.{forgotten}
use Rattle.vk_map_cache.specs.declared.mark.Mark.{Mark}
use Rattle.vk_map_cache.specs.declared.mark.Mark.TheVariants.{Absent}
use Rattle.vk_map_cache.specs.Inner.Marks.{holding_of}
use Rattle.vk_map_cache.proofs.CellLemmas.{same_cell, changed_if, kept_unless}
use Rattle.vk_map_cache.proofs.HoldingLemmas.{room_of, held_of, length-holdings_of, held_in-holdings_of, length-part, patch, length-patched, patched-in, patched-out, in_range_or}
use Rattle.vk_map_cache.proofs.object.ObjectCache.forget.Goals as goal

pub slice_bounds-mark_all-end : goal.slice_bounds-mark_all-end
slice_bounds-mark_all-end c =
    let room = room_of c.self.inside.marks.items c.self.inside.values.items c.args.self.now c.self.view_is c.self.invariant in
    omega (arith, c.requires.room, ap (λ (l : List Mark). length l) c.deref_mut.ensures.value, room)

pub returns-clause-len : goal.returns-clause-len
returns-clause-len c =
    let room = room_of c.self.inside.marks.items c.self.inside.values.items c.args.self.now c.self.view_is c.self.invariant in
    let n = c.args.high - c.args.low in
    let fits : c.args.low + n ≤ length c.deref_mut.result.now = omega (arith, c.requires.room, c.requires.order, ap (λ (l : List Mark). length l) c.deref_mut.ensures.value, room) in
    let long : length c.mark_all.new.marks ≡ n = c.mark_all.auto.marks ∙ length-part c.deref_mut.result.now c.args.low n fits in
    let lens = length-patched Absent c.self.inside.marks c.deref_mut.result.now c.mark_all.new.marks c.args.low n c.deref_mut.ensures.value c.deref_mut.ensures.len long fits in
    length-holdings_of _ c.self.inside.values.items (omega (arith, lens, c.self.invariant)) ∙ lens ∙ sym room

pub returns-clause-held : goal.returns-clause-held
returns-clause-held c = λ k value cell was.
    let marks = c.self.inside.marks in
    let values = c.self.inside.values.items in
    let low = c.args.low in
    let high = c.args.high in
    let n = high - low in
    let room = room_of marks.items values c.args.self.now c.self.view_is c.self.invariant in
    let fits : low + n ≤ length c.deref_mut.result.now = omega (arith, c.requires.room, c.requires.order, ap (λ (l : List Mark). length l) c.deref_mut.ensures.value, room) in
    let part = length-part c.deref_mut.result.now low n fits in
    let long : length c.mark_all.new.marks ≡ n = c.mark_all.auto.marks ∙ part in
    let lens = length-patched Absent marks c.deref_mut.result.now c.mark_all.new.marks low n c.deref_mut.ensures.value c.deref_mut.ensures.len long fits in
    let now = held_in-holdings_of (with_items marks (patch c.deref_mut.result.now low n c.mark_all.new.marks)).items values k (omega (arith, lens, c.self.invariant)) in
    elim (in_range_or low high k) [
      | inl (is, ge, lt) ↦
          changed_if (forgotten 0) cell (nat_le low k && nat_lt k high) is
          (record {
            held = sym (now ∙ ap (λ (m : Mark). holding_of m (get_or values k 0)) (
                patched-in Absent marks c.deref_mut.result.now c.mark_all.new.marks low n c.deref_mut.ensures.value c.deref_mut.ensures.len long fits k ge (omega (arith, lt))
                ∙ ap (λ (l : List Mark). get_or l (k - low) Absent) (c.mark_all.ensures ∙ ap (λ (j : ℕ). replicate j Absent) part)
                ∙ get_or-replicate n (k - low) Absent Absent (omega (arith, ge, lt))));
            region = was.region;
          })
      | inr (is, out) ↦
          kept_unless (forgotten 0) cell (nat_le low k && nat_lt k high) is
          (same_cell (held_of marks.items values c.args.self.now c.self.view_is c.self.invariant k
          ∙ sym (now ∙ ap (λ (m : Mark). holding_of m (get_or values k 0)) (
          patched-out Absent marks c.deref_mut.result.now c.mark_all.new.marks low n c.deref_mut.ensures.value c.deref_mut.ensures.len long fits k (out_of c.requires.order out)))) refl was)
    ]
  where
    out_of : {low high k : ℕ} → low ≤ high → (k < low) ⊎ (high ≤ k) → (k < low) ⊎ (low + (high - low) ≤ k)
    out_of order (inl lt) = inl lt
    out_of order (inr le) = inr (omega (arith, order, le))
