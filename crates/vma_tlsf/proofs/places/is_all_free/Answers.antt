use Rattle.std.proofs.Common.{◌==◌, ap, ◌∙◌}
use Rattle.vma_tlsf.proofs.Emptiness.{nothing_taken}
use Rattle.vma_tlsf.proofs.places.is_all_free.Goals as goal

pub returns : goal.returns
returns c = ap (λ n. n == c.args.size) c.free_bytes.ensures ∙ nothing_taken c.args.size c.args.first c.args.nodes.now c.requires c.get-node.result c.get-node.ensures
