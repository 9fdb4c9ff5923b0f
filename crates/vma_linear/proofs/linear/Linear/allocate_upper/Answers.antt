use Rattle.std.proofs.Common.{◌≡◌, sym, subst, inl, inr}
use Rattle.std.specs.Prelude.{Some}
use Rattle.vk_model.specs.Memory.Suballocation.{Request}
use Rattle.vk_model.specs.Memory.Room.{Linear, upper_place}
use Rattle.vma_linear.specs.Inner.Slots.{Ranges}
use Rattle.vma_linear.specs.Inner.Blocks.{AreLists}
use Rattle.vma_linear.proofs.BlockSteps.{above_others, lists_above, added}
use Rattle.vma_linear.proofs.linear.Linear.allocate_upper.Goals as goal

pub add-requires : goal.add-requires
add-requires c =
    let r : Request = record { size = c.args.bytes; align = c.args.align; kind = c.args.kind } in
    above_others c.self.inside c.self.invariant r c.requires.some c.in-Some.start
    (subst (λ (v : Linear). upper_place v r ≡ Some c.in-Some.start) (sym c.self.view_is) (sym c.in-Some.ensures))

pub invariant_of-self : goal.invariant_of-self
invariant_of-self c =
    let r : Request = record { size = c.args.bytes; align = c.args.align; kind = c.args.kind } in
    let place = subst (λ (v : Linear). upper_place v r ≡ Some c.in-Some.start) (sym c.self.view_is) (sym c.in-Some.ensures) in
    elim (added c.add.result _ c.add.new.list _ _ c.add.ensures.ok c.add.ensures.err) [
      | inl is ↦ lists_above c.self.inside c.self.invariant r c.requires.some c.in-Some.start c.add.new.list place is
      | inr is ↦ subst (λ (l : Ranges). AreLists (record c.self.inside { upper = l })) (sym is) c.self.invariant
    ]
