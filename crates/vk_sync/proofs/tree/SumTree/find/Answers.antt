use Rattle.std.proofs.Common.{arith, ◌≡◌, ap, ◌∙◌}
use Rattle.std.specs.Prelude.{sum}
use Rattle.vk_sync.proofs.SumLemmas.{sum_of_blocks}
use Rattle.vk_sync.proofs.tree.SumTree.find.Goals as goal

pub walk-block-requires : goal.walk-block-requires
walk-block-requires c =
    let t = c.self.inside in
    let e : sum c.as_slice.result.now ≡ sum c.args.self.now = ap sum c.as_slice.ensures.value ∙ sum_of_blocks t.leaves.items t.groups.items t.blocks.items t.total c.self.invariant.0 ∙ ap sum c.self.view_is in
    omega (arith, e)
