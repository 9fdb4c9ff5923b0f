use Rattle.std.proofs.Common.{◌++◌, ◌∷◌, [], map, sym, ap, ◌∙◌, append_assoc, take}
use Rattle.std.proofs.lemmas.List.{map-append}
use Rattle.vma_linear.specs.Inner.Slots.{ranges_of}
use Rattle.vk_model.specs.Memory.TakenRanges.{taken_of}
use Rattle.vma_linear.proofs.SlotLists.{more_live, more_dead}
use Rattle.vma_linear.proofs.walks.copy_live.Goals as goal
use Rattle.vma_linear.proofs.walks.copy_live.Goals.{then-slot+in_ok-push, else-slot}

pub loop-slot-preserved : goal.loop-slot-preserved
loop-slot-preserved c =
    let slots = c.args.slots.now in
    let at = c.loop-slot.slot-index in
    let start = map taken_of c.args.ranges.now.items in
    elim c.if-slot.branch [
      | then-slot+in_ok-push w ↦
          let pushed = ap (λ v. map taken_of v.items) w.ranges-is ∙ ap (map taken_of) w.in_ok-push.ensures.items ∙ map-append taken_of c.loop-slot.ranges.items (w.range.result ∷ []) in
          let more = more_live slots at _ c.loop-slot-test.true w.if-slot.true in
          pushed ∙ ap (λ ts. ts ++ taken_of w.range.result ∷ []) c.loop-slot.invariant ∙ append_assoc start (ranges_of (take at slots)) (taken_of w.range.result ∷ [])
          ∙ ap (λ t. start ++ (ranges_of (take at slots) ++ t ∷ [])) (ap taken_of w.range.ensures) ∙ ap (λ ts. start ++ ts) (sym more)
      | else-slot w ↦
          ap (λ v. map taken_of v.items) w.ranges-is ∙ c.loop-slot.invariant ∙ ap (λ ts. start ++ ts) (sym (more_dead slots at _ c.loop-slot-test.true w.if-slot.false))
    ]
