use Rattle.vma_tlsf.proofs.Emptiness.{empty_seen}
use Rattle.vma_tlsf.proofs.tlsf.Tlsf.is_empty.Goals as goal

pub returns : goal.returns
returns c = empty_seen c.self.inside.size c.self.inside.first c.self.inside.nodes c.args.self.now c.is_all_free.result c.self.invariant.block c.self.view_is c.is_all_free.ensures
