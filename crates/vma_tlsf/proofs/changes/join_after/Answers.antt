use Rattle.vma_tlsf.proofs.Joins.{after_held_in, join_after_held, join_after_made}
use Rattle.vma_tlsf.proofs.changes.join_after.Goals as goal

pub get-behind-requires : goal.get-behind-requires
get-behind-requires c = after_held_in c.args.nodes.now c.args.slot c.in-Some.after c.get-whole.result c.requires.chain c.requires.there c.get-whole.ensures c.in-Some.is

pub merge-requires-clause-after : goal.merge-requires-clause-after
merge-requires-clause-after c = join_after_held c.args.nodes.now c.unlink.new.nodes c.args.slot c.in-Some.after c.get-whole.result c.get-behind.result c.get-node.result c.get-next.result c.requires.chain c.requires.there c.unlink.ensures c.get-whole.ensures c.in-Some.is c.get-behind.ensures c.get-node.ensures c.get-next.ensures

pub returns-in-Free : goal.returns-in-Free
returns-in-Free c = join_after_made c.args.nodes.now c.unlink.new.nodes c.args.slot c.in-Some.after c.get-whole.result c.get-behind.result c.get-node.result c.get-next.result c.requires.chain c.requires.there c.unlink.ensures c.get-whole.ensures c.in-Some.is c.get-behind.ensures c.get-node.ensures c.get-next.ensures c.merge.new.nodes c.in-Free.is c.merge.ensures.merged
