use Rattle.std.proofs.Common.{◌∙◌}
use Rattle.vk_history.proofs.Living.Defrags.{has_defrag_is}
use Rattle.vk_history.proofs.defrags.Defrags.has_pool.Goals as goal

pub returns : goal.returns
returns c = λ past are. c.has.ensures ∙ has_defrag_is c.args.self.now past are c.args.pool
