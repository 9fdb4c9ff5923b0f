use Rattle.std.proofs.Common.{◌≡◌, refl, arith, subst, sym}
use Rattle.std.specs.Prelude.{All, true}
use Rattle.vma_linear.specs.Inner.Slots.{comes_before}
use Rattle.vma_linear.proofs.SlotLists.{ranges_le}
use Rattle.vma_linear.proofs.Tidying.{one_more}
use Rattle.vma_linear.proofs.list.RangeList.push.Goals as goal

pub overflow_add-self : goal.overflow_add-self
overflow_add-self c = omega (arith, ranges_le c.self.inside.slots.items, c.self.invariant.count, c.in_ok-push.ensures.len, c.push.new.self.ok.0)

pub invariant_of-self-2 : goal.invariant_of-self-2
invariant_of-self-2 c = rw c.in_ok-push.ensures.items (one_more _ _ _ _ _ c.self.invariant refl (subst (λ v. All (λ t. comes_before v.direction t.start c.args.range.start ≡ true) v.taken) (sym c.self.view_is) c.requires))
