use Rattle.vma_tlsf.proofs.Listing.{listed_seen}
use Rattle.vma_tlsf.proofs.tlsf.Tlsf.taken.Goals as goal

pub returns : goal.returns
returns c =
    listed_seen c.self.inside.size c.self.inside.first c.self.inside.nodes c.args.self.now c.in_ok-ranges.ranges.items c.sort_by_key.new.self.items c.self.invariant.block c.self.view_is
    c.in_ok-ranges.ensures c.sort_by_key.ensures.permutation
