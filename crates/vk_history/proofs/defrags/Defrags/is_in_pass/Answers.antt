use Rattle.std.proofs.Common.{◌∙◌, ap, sym, Option}
use Rattle.vk_history.specs.declared.defrags.OpenPass.{OpenPass}
use Rattle.vk_history.specs.Counted.{is_pass}
use Rattle.vk_history.proofs.Living.Defrags.{in_pass_is}
use Rattle.vk_history.proofs.defrags.Defrags.is_in_pass.Goals as goal

pub returns-in-Some : goal.returns-in-Some
returns-in-Some c = λ past are. ap (λ (o : Option OpenPass). is_pass o c.args.defrag) (sym c.in-Some.is) ∙ in_pass_is c.args.self.now past are c.args.defrag

pub returns-in-None : goal.returns-in-None
returns-in-None c = λ past are. ap (λ (o : Option OpenPass). is_pass o c.args.defrag) (sym c.in-None.is) ∙ in_pass_is c.args.self.now past are c.args.defrag
