use Rattle.std.proofs.Common.{◌≡◌, ◌≢◌, ◌⊎◌, ◌<◌, ◌≤◌, ◌+◌, ◌*◌, ◌/◌, ◌-◌, Bool, if◌then◌else◌, ℕ, List, length, ap, sym, ◌∙◌, arith, inl, inr, length-append}
use Rattle.std.proofs.Math.ListN.{length-set}
use Rattle.std.proofs.lemmas.List.{length-replicate}
use Rattle.vk_map_cache.specs.declared.mark.Mark.{Mark}
use Rattle.vk_map_cache.specs.declared.mark.Mark.TheVariants.{Absent}
use Rattle.vk_map_cache.specs.Inner.Marks.{mark_at}
use Rattle.vk_map_cache.proofs.HoldingLemmas.{absent_behind, length-with_absent, in_range_or}
use Rattle.vk_map_cache.proofs.MarkLemmas.{alike_anew, length-marked, marked-in, marked-out}
use Rattle.vk_map_cache.proofs.marks.Marks.set.Goals as goal

pub invariant_of-self : goal.invariant_of-self
invariant_of-self c =
    let i = c.self.inside in
    let was = c.self.invariant in
    let chunk = c.args.low / 4096 in
    let v = c.reach.new.marks in
    let xs = c.deref_mut.result.now in
    let size = ap (λ (l : List Mark). length l) (sym c.self.view_is) ∙ length-with_absent i.marks.items i.size was.within in
    let reached = ap (λ (l : List Mark). length l) c.reach.ensures.items ∙ length-append i.marks.items _ ∙ ap (λ (n : ℕ). length i.marks.items + n) (length-replicate (chunk * 4096 + c.min.result - length i.marks.items) Absent) in
    let long : length xs ≡ length v.items = ap (λ (l : List Mark). length l) c.deref_mut.ensures.value in
    let fits : c.args.high ≤ length xs = omega (arith, long, reached, c.min.ensures, c.requires.room, c.requires.one, size) in
    let marked = length-marked v xs c.mark_all.new.marks c.args.low c.args.high c.args.mark c.deref_mut.ensures.value c.deref_mut.ensures.len c.mark_all.ensures c.requires.order fits in
    record {
      within = omega (arith, marked, reached, was.within, c.min.ensures, c.requires.room, c.requires.order, size);
      room = omega (arith, was.room, c.reach.ensures.capacity);
      chunks = omega (arith, was.chunks, length-set i.alike.items chunk c.of_all.result);
      alike = alike_anew i.size _ i.alike.items chunk c.of_all.result (omega (arith, was.chunks, c.requires.order, c.requires.room, size))
          (λ k m lt other is.
          marked-out v xs c.mark_all.new.marks c.args.low c.args.high c.args.mark c.deref_mut.ensures.value c.deref_mut.ensures.len c.mark_all.ensures c.requires.order fits k (apart c.args.low c.args.high k c.requires.order c.requires.one other)
          ∙ ap (λ (l : List Mark). mark_at l k) c.reach.ensures.items ∙ absent_behind i.marks.items _ k ∙ was.alike k m lt is)
          (λ k m lt at is.
          let all = c.of_all.ensures m is in
          marked-in v xs c.mark_all.new.marks c.args.low c.args.high c.args.mark c.deref_mut.ensures.value c.deref_mut.ensures.len c.mark_all.ensures c.requires.order fits k
          (omega (arith, at, all.1)) (omega (arith, at, all.2, c.min.ensures, lt)) ∙ all.0);
    }
  where
    apart : (low high k : ℕ) → low < high → high ≤ 4096 * (low / 4096) + 4096 → k / 4096 ≢ low / 4096 → (k < low) ⊎ (high ≤ k)
    apart low high k order one other = elim (in_range_or low high k) [
      | inl (is, ge, lt) ↦ absurd (other (omega (arith, ge, lt, one)))
      | inr (is, out) ↦ out
    ]

pub returns-clause-marks : goal.returns-clause-marks
returns-clause-marks c = λ k.
    let i = c.self.inside in
    let was = c.self.invariant in
    let chunk = c.args.low / 4096 in
    let v = c.reach.new.marks in
    let xs = c.deref_mut.result.now in
    let size = ap (λ (l : List Mark). length l) (sym c.self.view_is) ∙ length-with_absent i.marks.items i.size was.within in
    let reached = ap (λ (l : List Mark). length l) c.reach.ensures.items ∙ length-append i.marks.items _ ∙ ap (λ (n : ℕ). length i.marks.items + n) (length-replicate (chunk * 4096 + c.min.result - length i.marks.items) Absent) in
    let long : length xs ≡ length v.items = ap (λ (l : List Mark). length l) c.deref_mut.ensures.value in
    let fits : c.args.high ≤ length xs = omega (arith, long, reached, c.min.ensures, c.requires.room, c.requires.one, size) in
    absent_behind _ _ k ∙ elim (in_range_or c.args.low c.args.high k) [
      | inl (is, ge, lt) ↦
          marked-in v xs c.mark_all.new.marks c.args.low c.args.high c.args.mark c.deref_mut.ensures.value c.deref_mut.ensures.len c.mark_all.ensures c.requires.order fits k ge lt
          ∙ sym (ap (λ (t : Bool). if t then c.args.mark else mark_at c.args.self.now k) is)
      | inr (is, out) ↦
          marked-out v xs c.mark_all.new.marks c.args.low c.args.high c.args.mark c.deref_mut.ensures.value c.deref_mut.ensures.len c.mark_all.ensures c.requires.order fits k out
          ∙ ap (λ (l : List Mark). mark_at l k) c.reach.ensures.items ∙ absent_behind i.marks.items _ k
          ∙ sym (absent_behind i.marks.items (i.size - length i.marks.items) k) ∙ ap (λ (l : List Mark). mark_at l k) c.self.view_is
          ∙ sym (ap (λ (t : Bool). if t then c.args.mark else mark_at c.args.self.now k) is)
    ]
