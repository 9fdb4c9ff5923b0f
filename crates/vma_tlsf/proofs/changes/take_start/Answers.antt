use Rattle.vma_tlsf.proofs.Cuts.{front_painted}
use Rattle.vma_tlsf.proofs.changes.take_start.Goals as goal

pub returns : goal.returns
returns c = front_painted c.args.nodes.now c.paint.new.nodes c.args.place.slot c.args.node c.args.state c.requires.chain c.requires.here c.requires.some c.requires.free c.requires.taken c.args.place.start c.requires.start c.paint.ensures.painted c.paint.ensures.held
