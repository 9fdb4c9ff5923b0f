use Rattle.std.proofs.Common.{◌≡◌, sym, subst, inl, inr}
use Rattle.std.specs.Prelude.{Some, None}
use Rattle.vk_model.specs.Memory.Suballocation.{Request}
use Rattle.vk_model.specs.Memory.Room.{Linear, stack_place, ring_place}
use Rattle.vma_linear.specs.Inner.Slots.{Ranges}
use Rattle.vma_linear.specs.Inner.Blocks.{AreLists}
use Rattle.vma_linear.proofs.BlockSteps.{below_others, round_others, lists_below, lists_round, added}
use Rattle.vma_linear.proofs.linear.Linear.allocate_lower.Goals as goal

pub add-requires : goal.add-requires
add-requires c =
    let r : Request = record { size = c.args.bytes; align = c.args.align; kind = c.args.kind } in
    below_others c.self.inside c.self.invariant r c.requires.some c.in-Some.start
    (subst (λ (v : Linear). stack_place v r ≡ Some c.in-Some.start) (sym c.self.view_is) (sym c.in-Some.ensures))

pub invariant_of-self : goal.invariant_of-self
invariant_of-self c =
    let r : Request = record { size = c.args.bytes; align = c.args.align; kind = c.args.kind } in
    let place = subst (λ (v : Linear). stack_place v r ≡ Some c.in-Some.start) (sym c.self.view_is) (sym c.in-Some.ensures) in
    elim (added c.add.result _ c.add.new.list _ _ c.add.ensures.ok c.add.ensures.err) [
      | inl is ↦ lists_below c.self.inside c.self.invariant r c.requires.some c.in-Some.start c.add.new.list place is
      | inr is ↦ subst (λ (l : Ranges). AreLists (record c.self.inside { lower = l })) (sym is) c.self.invariant
    ]

pub add-requires-in-Some-place_in_ring : goal.add-requires-in-Some-place_in_ring
add-requires-in-Some-place_in_ring c =
    let r : Request = record { size = c.args.bytes; align = c.args.align; kind = c.args.kind } in
    round_others c.self.inside c.self.invariant r c.requires.some c.in-Some-place_in_ring.start
    (subst (λ (v : Linear). stack_place v r ≡ None) (sym c.self.view_is) (sym c.in-None.ensures))
    (subst (λ (v : Linear). ring_place v r ≡ Some c.in-Some-place_in_ring.start) (sym c.self.view_is) (sym c.in-Some-place_in_ring.ensures))

pub invariant_of-self-in-Some-place_in_ring : goal.invariant_of-self-in-Some-place_in_ring
invariant_of-self-in-Some-place_in_ring c =
    let r : Request = record { size = c.args.bytes; align = c.args.align; kind = c.args.kind } in
    let none = subst (λ (v : Linear). stack_place v r ≡ None) (sym c.self.view_is) (sym c.in-None.ensures) in
    let place = subst (λ (v : Linear). ring_place v r ≡ Some c.in-Some-place_in_ring.start) (sym c.self.view_is) (sym c.in-Some-place_in_ring.ensures) in
    elim (added c.add-in-Some-place_in_ring.result _ c.add-in-Some-place_in_ring.new.list _ _ c.add-in-Some-place_in_ring.ensures.ok c.add-in-Some-place_in_ring.ensures.err) [
      | inl is ↦ lists_round c.self.inside c.self.invariant r c.requires.some c.in-Some-place_in_ring.start c.add-in-Some-place_in_ring.new.list none place is
      | inr is ↦ subst (λ (l : Ranges). AreLists (record c.self.inside { wrapped = l })) (sym is) c.self.invariant
    ]
