use Rattle.std.proofs.Common.{◌∙◌}
use Rattle.vk_history.proofs.Living.Defrags.{some_pass_is}
use Rattle.vk_history.proofs.defrags.Defrags.has_pass.Goals as goal

pub returns : goal.returns
returns c = λ past are. c.is_some.ensures ∙ some_pass_is c.args.self.now past are
