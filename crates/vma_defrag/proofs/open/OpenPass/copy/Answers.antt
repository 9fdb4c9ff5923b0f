use Rattle.std.proofs.Common.{◌<◌, ℕ, List, sum_by, subst, sym, length, ◌==◌, not}
use Rattle.std.specs.Prelude.{Contains}
use Rattle.vk_model.proofs.Lists.Members.{filtered}
use Rattle.vk_transfer.specs.Counted.{AreCounted}
use Rattle.vma_defrag.specs.State.{PassState, part_count}
use Rattle.vma_defrag.specs.Inner.Planned.{moves_of}
use Rattle.vma_defrag.specs.declared.open.Planned.{Planned}
use Rattle.vma_defrag.proofs.open.OpenPass.copy.Goals as goal

pub find-its-requires-clause-below : goal.find-its-requires-clause-below
find-its-requires-clause-below g c =
    subst (λ (l : List Planned). c.args.part < sum_by part_count (moves_of l)) (sym c.deref.ensures.value)
    (c.self.invariant.within c.args.part (subst (λ (p : PassState). Contains p.left c.args.part) (sym c.self.view_is) c.requires.left))

pub invariant_of-self : goal.invariant_of-self
invariant_of-self g c = record {
  counted = subst (λ (l : List ℕ). AreCounted part_count (moves_of c.self.inside.planned.items) (length (moves_of c.self.inside.planned.items)) l) (sym c.finish.ensures.counts) c.self.invariant.counted;
  within = λ k there. c.self.invariant.within k (filtered (λ (i : ℕ). not (i == c.args.part)) c.self.inside.prepared.parts.left k (subst (λ (l : List ℕ). Contains l k) c.finish.ensures.left there)).0;
  made = c.self.invariant.made;
  indexed = c.self.invariant.indexed;
}
