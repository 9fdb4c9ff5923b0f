use Rattle.std.proofs.Common.{subst}
use Rattle.vk_model.specs.Memory.Suballocation.{IsTakenAt}
use Rattle.vma_tlsf.proofs.Freed.{now_taken, byte_there, found_taken, freed_block, freed_seen}
use Rattle.vma_tlsf.proofs.tlsf.TlsfSuballoc.free.Goals as goal

pub slot_near-found-requires-clause-there : goal.slot_near-found-requires-clause-there
slot_near-found-requires-clause-there c =
    byte_there c.self.inside.size c.self.inside.first c.self.inside.nodes c.args.start c.self.invariant.block (subst (IsTakenAt c.args.start) (now_taken c.self.inside.size c.self.inside.first c.self.inside.nodes c.args.self.now c.self.invariant.block c.self.view_is) c.requires)

pub release-joined-requires-clause-there : goal.release-joined-requires-clause-there
release-joined-requires-clause-there c =
    found_taken c.self.inside.size c.self.inside.first c.self.inside.nodes c.slot_near-found.result.slot c.args.start c.self.invariant.block
    (subst (IsTakenAt c.args.start) (now_taken c.self.inside.size c.self.inside.first c.self.inside.nodes c.args.self.now c.self.invariant.block c.self.view_is) c.requires) c.slot_near-found.ensures

pub invariant_of-self : goal.invariant_of-self
invariant_of-self c = record {
  more = c.self.invariant.more;
  block = freed_block c.self.inside.size c.self.inside.first c.self.inside.nodes c.slot_near-found.result.slot c.args.start c.self.invariant.block
      (subst (IsTakenAt c.args.start) (now_taken c.self.inside.size c.self.inside.first c.self.inside.nodes c.args.self.now c.self.invariant.block c.self.view_is) c.requires) c.slot_near-found.ensures
      c.release-joined.new.nodes c.release-joined.ensures;
}

pub returns-clause-freed : goal.returns-clause-freed
returns-clause-freed c =
    freed_seen c.self.inside.size c.self.inside.first c.self.inside.nodes c.release-joined.new.nodes c.args.self.now c.slot_near-found.result.slot c.args.start c.self.invariant.block
    (subst (IsTakenAt c.args.start) (now_taken c.self.inside.size c.self.inside.first c.self.inside.nodes c.args.self.now c.self.invariant.block c.self.view_is) c.requires) c.slot_near-found.ensures
    c.self.view_is c.release-joined.ensures
