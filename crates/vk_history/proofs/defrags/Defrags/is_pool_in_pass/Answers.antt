use Rattle.std.proofs.Common.{◌∙◌, ap, sym, Option, ◌==◌}
use Rattle.vk_model.specs.Basics.{holds}
use Rattle.vk_history.specs.declared.defrags.OpenPass.{OpenPass}
use Rattle.vk_history.proofs.Living.Defrags.{pool_in_pass_is}
use Rattle.vk_history.proofs.defrags.Defrags.is_pool_in_pass.Goals as goal

pub returns-in-Some : goal.returns-in-Some
returns-in-Some c = λ past are. ap (λ (o : Option OpenPass). holds o (λ p. p.pool == c.args.pool)) (sym c.in-Some.is) ∙ pool_in_pass_is c.args.self.now past are c.args.pool

pub returns-in-None : goal.returns-in-None
returns-in-None c = λ past are. ap (λ (o : Option OpenPass). holds o (λ p. p.pool == c.args.pool)) (sym c.in-None.is) ∙ pool_in_pass_is c.args.self.now past are c.args.pool
