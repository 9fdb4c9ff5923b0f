use Rattle.std.proofs.Common.{refl, sym}
use Rattle.std.specs.Prelude.{min}
use Rattle.vma_tlsf.proofs.Putting.{lowest_found, none_lowest, none_below_seen, too_large}
use Rattle.vma_tlsf.proofs.tlsf.Tlsf.lowest_below.Goals as goal

pub returns-then-bytes-self : goal.returns-then-bytes-self
returns-then-bytes-self c =
    sym (too_large c.self.inside.size c.self.inside.first c.self.inside.nodes c.args.self.now (record { size = c.args.bytes; align = c.args.align; kind = c.args.kind }) c.args.limit (min c.args.limit c.self.inside.size) c.self.invariant.block c.self.view_is refl c.if-bytes-self.true)

pub returns-in-Some : goal.returns-in-Some
returns-in-Some c =
    sym (lowest_found c.self.inside.size c.self.inside.first c.self.inside.nodes c.args.self.now (record { size = c.args.bytes; align = c.args.align; kind = c.args.kind }) c.args.limit c.smaller-high.result c.self.invariant.block c.self.view_is c.smaller-high.ensures
    c.in-Some.place (rw c.in-Some.is at c.lowest_from-found.ensures.some) (rw c.in-Some.is at c.lowest_from-found.ensures.lowest))

pub returns-in-None : goal.returns-in-None
returns-in-None c =
    sym (none_lowest c.self.inside.size c.self.inside.first c.self.inside.nodes c.args.self.now (record { size = c.args.bytes; align = c.args.align; kind = c.args.kind }) c.args.limit c.smaller-high.result c.self.invariant.block c.self.view_is c.smaller-high.ensures
    (c.lowest_from-found.ensures.none c.in-None.is))

pub lowest_from-found-requires-clause-low : goal.lowest_from-found-requires-clause-low
lowest_from-found-requires-clause-low c =
    none_below_seen c.self.inside.size c.self.inside.first c.self.inside.nodes c.args.self.now (record { size = c.args.bytes; align = c.args.align; kind = c.args.kind }) c.args.limit c.smaller-high.result c.self.invariant.block c.self.view_is c.smaller-high.ensures
    c.args.low c.requires.low
