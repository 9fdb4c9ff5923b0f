use Rattle.std.proofs.Common.{arith}
use Rattle.vma_tlsf.proofs.Putting.{block_after, puts_after, same_after, room_before}
use Rattle.vma_tlsf.proofs.tlsf.TlsfSuballoc.allocate.Goals as goal

pub invariant_of-self : goal.invariant_of-self
invariant_of-self c = record {
  more = c.self.invariant.more;
  block = block_after c.self.inside.size c.self.inside.first c.self.inside.size c.self.inside.nodes c.take.new.nodes (record { size = c.args.bytes; align = c.args.align; kind = c.args.kind }) c.self.invariant.block (omega arith)
      c.find_place-found.result c.take.result c.find_place-found.ensures.some c.take.ensures.ok c.take.ensures.err;
}

pub returns-clause-ok : goal.returns-clause-ok
returns-clause-ok c =
    puts_after c.self.inside.size c.self.inside.first c.self.inside.size c.self.inside.nodes c.take.new.nodes (record { size = c.args.bytes; align = c.args.align; kind = c.args.kind }) c.self.invariant.block (omega arith)
    c.args.self.now c.self.view_is c.find_place-found.result c.take.result c.find_place-found.ensures.some c.take.ensures.ok c.take.ensures.err

pub returns-clause-room : goal.returns-clause-room
returns-clause-room c =
    room_before c.self.inside.size c.self.inside.first c.self.inside.size c.self.inside.nodes c.take.new.nodes (record { size = c.args.bytes; align = c.args.align; kind = c.args.kind }) c.self.invariant.block (omega arith)
    c.args.self.now c.self.view_is c.find_place-found.result c.take.result c.find_place-found.ensures.some c.take.ensures.ok

pub returns-clause-err : goal.returns-clause-err
returns-clause-err c =
    same_after c.self.inside.size c.self.inside.first c.self.inside.size c.self.inside.nodes c.take.new.nodes (record { size = c.args.bytes; align = c.args.align; kind = c.args.kind }) c.self.invariant.block (omega arith)
    c.args.self.now c.self.view_is c.take.result c.take.ensures.err
