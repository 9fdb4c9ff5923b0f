use Rattle.vma_tlsf.proofs.Longest.{largest_seen}
use Rattle.vma_tlsf.proofs.tlsf.TlsfSuballoc.largest_free.Goals as goal

pub returns : goal.returns
returns c = largest_seen c.self.inside.size c.self.inside.first c.self.inside.nodes c.args.self.now c.longest_free.result c.self.invariant.block c.self.view_is c.longest_free.ensures
