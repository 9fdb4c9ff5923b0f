use Rattle.std.proofs.Common.{refl, arith}
use Rattle.std.specs.Prelude.{min}
use Rattle.vma_tlsf.proofs.Putting.{block_after, puts_after, same_after, lowest_after, none_lowest, none_below_seen, too_large}
use Rattle.vma_tlsf.proofs.tlsf.Tlsf.allocate_below.Goals as goal

pub invariant_of-self : goal.invariant_of-self
invariant_of-self c = record {
  more = c.self.invariant.more;
  block = block_after c.self.inside.size c.self.inside.first c.smaller-high.result c.self.inside.nodes c.take.new.nodes (record { size = c.args.bytes; align = c.args.align; kind = c.args.kind }) c.self.invariant.block (let s = c.smaller-high.ensures in omega (arith, s))
      c.lowest_from-found.result c.take.result c.lowest_from-found.ensures.some c.take.ensures.ok c.take.ensures.err;
}

pub returns-clause-ok : goal.returns-clause-ok
returns-clause-ok c =
    puts_after c.self.inside.size c.self.inside.first c.smaller-high.result c.self.inside.nodes c.take.new.nodes (record { size = c.args.bytes; align = c.args.align; kind = c.args.kind }) c.self.invariant.block (let s = c.smaller-high.ensures in omega (arith, s))
    c.args.self.now c.self.view_is c.lowest_from-found.result c.take.result c.lowest_from-found.ensures.some c.take.ensures.ok c.take.ensures.err

pub returns-clause-err : goal.returns-clause-err
returns-clause-err c =
    same_after c.self.inside.size c.self.inside.first c.smaller-high.result c.self.inside.nodes c.take.new.nodes (record { size = c.args.bytes; align = c.args.align; kind = c.args.kind }) c.self.invariant.block (let s = c.smaller-high.ensures in omega (arith, s))
    c.args.self.now c.self.view_is c.take.result c.take.ensures.err

pub returns-clause-lowest : goal.returns-clause-lowest
returns-clause-lowest c =
    lowest_after c.self.inside.size c.self.inside.first c.self.inside.nodes c.args.self.now (record { size = c.args.bytes; align = c.args.align; kind = c.args.kind }) c.args.limit c.smaller-high.result c.self.invariant.block c.self.view_is c.smaller-high.ensures
    c.take.new.nodes c.lowest_from-found.result c.take.result c.lowest_from-found.ensures.some c.lowest_from-found.ensures.lowest c.take.ensures.ok

pub returns-clause-no_room : goal.returns-clause-no_room
returns-clause-no_room c refused =
    none_lowest c.self.inside.size c.self.inside.first c.self.inside.nodes c.args.self.now (record { size = c.args.bytes; align = c.args.align; kind = c.args.kind }) c.args.limit c.smaller-high.result c.self.invariant.block c.self.view_is c.smaller-high.ensures
    (c.lowest_from-found.ensures.none (c.take.ensures.no_room refused))

pub returns-then-bytes-self-clause-no_room : goal.returns-then-bytes-self-clause-no_room
returns-then-bytes-self-clause-no_room c _ =
    too_large c.self.inside.size c.self.inside.first c.self.inside.nodes c.args.self.now (record { size = c.args.bytes; align = c.args.align; kind = c.args.kind }) c.args.limit (min c.args.limit c.self.inside.size) c.self.invariant.block c.self.view_is refl c.if-bytes-self.true

pub lowest_from-found-requires-clause-low : goal.lowest_from-found-requires-clause-low
lowest_from-found-requires-clause-low c =
    none_below_seen c.self.inside.size c.self.inside.first c.self.inside.nodes c.args.self.now (record { size = c.args.bytes; align = c.args.align; kind = c.args.kind }) c.args.limit c.smaller-high.result c.self.invariant.block c.self.view_is c.smaller-high.ensures
    c.args.low c.requires.low
