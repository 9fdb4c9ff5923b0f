use Rattle.vma_tlsf.proofs.Joins.{released}
use Rattle.vma_tlsf.proofs.changes.release.Goals as goal

pub returns : goal.returns
returns c = released c.args.nodes.now c.join_after.new.nodes c.join_before-joined.new.nodes c.push.new.nodes c.args.slot c.join_after.ensures c.join_before-joined.ensures.freed c.push.ensures
