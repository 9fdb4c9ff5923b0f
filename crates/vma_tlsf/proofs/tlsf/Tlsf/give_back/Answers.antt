use Rattle.vma_tlsf.proofs.GivenBack.{given_back}
use Rattle.vma_tlsf.proofs.tlsf.Tlsf.give_back.Goals as goal

pub returns-clause-freed : goal.returns-clause-freed
returns-clause-freed c = given_back c.self.inside.size c.self.inside.first c.self.inside.nodes c.args.self.now c.free.new.self c.args.start c.self.invariant.block c.self.view_is c.free.ensures.freed
