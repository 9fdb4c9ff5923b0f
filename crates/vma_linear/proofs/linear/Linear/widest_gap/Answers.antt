use Rattle.std.proofs.Common.{◌≡◌, ◌-◌, ◌++◌, max, sym, ap, subst, ◌∙◌, arith, append_assoc}
use Rattle.std.specs.Prelude.{reverse}
use Rattle.vk_model.specs.Memory.Suballocation.{IsLargestFree}
use Rattle.vk_model.specs.Memory.Room.{Linear, all_taken}
use Rattle.vma_linear.specs.Inner.Blocks.{block_of}
use Rattle.vma_linear.specs.Inner.Widest.{widest_up}
use Rattle.vma_linear.proofs.BlockSteps.{lower_ends, wrapped_ends, upper_ends}
use Rattle.vma_linear.proofs.Widths.{largest, widest_turned}
use Rattle.vma_linear.proofs.linear.Linear.widest_gap.Goals as goal

pub walk_up-round-requires : goal.walk_up-round-requires
walk_up-round-requires c = wrapped_ends c.self.inside c.self.invariant

pub walk_up-below-requires : goal.walk_up-below-requires
walk_up-below-requires c = lower_ends c.self.inside c.self.invariant

pub walk_down-above-requires : goal.walk_down-above-requires
walk_down-above-requires c = upper_ends c.self.inside c.self.invariant

pub returns : goal.returns
returns c =
    let x = c.self.inside in
    let low = c.walk_up-below.result in
    let up = reverse x.upper.taken in
    let whole : max 0 (widest_up 0 (x.wrapped.taken ++ (x.lower.taken ++ up)) x.size) ≡ widest_up 0 ((x.wrapped.taken ++ x.lower.taken) ++ up) x.size =
    ap (λ ts. max 0 (widest_up 0 ts x.size)) (sym (append_assoc x.wrapped.taken x.lower.taken up)) ∙ omega arith in
    let last : c.max.result ≡ max c.walk_down-above.result.width (c.walk_down-above.result.edge - low.edge) = c.max.ensures ∙ ap (λ n. max c.walk_down-above.result.width n) c.saturating_sub.ensures in
    let same : c.max.result ≡ widest_up 0 ((x.wrapped.taken ++ x.lower.taken) ++ up) x.size =
    last ∙ c.walk_down-above.ensures low.edge ∙ ap (λ n. max low.width n) (widest_turned low.edge x.upper.taken x.size)
    ∙ c.walk_up-below.ensures up x.size ∙ c.walk_up-round.ensures (x.lower.taken ++ up) x.size ∙ whole in
    subst (λ (v : Linear). IsLargestFree v.size (all_taken v) c.max.result) c.self.view_is
    (subst (λ n. IsLargestFree x.size (all_taken (block_of x)) n) (sym same) (largest (block_of x) c.self.invariant.block))
