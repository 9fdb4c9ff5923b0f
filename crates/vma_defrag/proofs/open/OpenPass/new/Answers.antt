use Rattle.std.proofs.Common.{ℕ, List, subst}
use Rattle.std.specs.Prelude.{Contains, sum_by}
use Rattle.vk_model.proofs.Lists.Members.{below_from}
use Rattle.vma_defrag.specs.State.{part_count}
use Rattle.vma_defrag.specs.Inner.Planned.{moves_of}
use Rattle.vma_defrag.proofs.open.OpenPass.new.Goals as goal

pub invariant_of-result : goal.invariant_of-result
invariant_of-result c = record {
  counted = c.requires.counted;
  within = λ k has. below_from (sum_by part_count (moves_of c.args.planned.items)) k (subst (λ (l : List ℕ). Contains l k) c.requires.left has);
  made = c.requires.made;
  indexed = c.requires.indexed;
}
