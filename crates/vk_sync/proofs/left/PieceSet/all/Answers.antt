use Rattle.std.proofs.Common.{◌∙◌, ap, sym, length}
use Rattle.std.proofs.lemmas.List.FromFn.{length-range_with_len}
use Rattle.vk_sync.proofs.left.PieceSet.all.Goals as goal

pub invariant_of-result-2 : goal.invariant_of-result-2
invariant_of-result-2 c = sym (ap length c.in_ok-flags.ensures.ok ∙ ap length c.in_ok-all.ensures ∙ length-range_with_len 0 c.args.count)
