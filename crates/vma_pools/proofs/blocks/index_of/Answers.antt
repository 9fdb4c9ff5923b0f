use Rattle.vma_pools.proofs.FreeLemmas.{first-of-number}
use Rattle.vma_pools.proofs.blocks.index_of.Goals as goal

pub returns-clause-within : goal.returns-clause-within
returns-clause-within g c = (first-of-number c.args.blocks.now c.args.number c.first_from.result c.requires.rising c.requires.there c.first_from.ensures.within c.first_from.ensures.before c.first_from.ensures.from).0

pub returns-clause-found : goal.returns-clause-found
returns-clause-found g c d = (first-of-number c.args.blocks.now c.args.number c.first_from.result c.requires.rising c.requires.there c.first_from.ensures.within c.first_from.ensures.before c.first_from.ensures.from).1 d
