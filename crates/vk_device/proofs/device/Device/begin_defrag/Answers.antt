use Rattle.std.proofs.Common.{true, refl}
use Rattle.vk_resources.proofs.RestThrough.{rest_same}
use Rattle.vk_device.proofs.Changing.{defrag_goes}
use Rattle.vk_device.proofs.PassRules.{defrag_fits}
use Rattle.vk_device.proofs.Resting.{rest_padding}
use Rattle.vk_device.proofs.device.Device.begin_defrag.Goals as goal

pub begin_defrag-requires-clause-absent : goal.begin_defrag-requires-clause-absent
begin_defrag-requires-clause-absent c =
    let r = c.requires in (defrag_fits r.number r.past c.args.self.now.resources c.args.self.now.passes c.args.id c.args.pool c.args.max_bytes c.args.max_moves r.clean r.stands r.passes.matches).0

pub begin_defrag-requires-clause-general : goal.begin_defrag-requires-clause-general
begin_defrag-requires-clause-general c =
    let r = c.requires in (defrag_fits r.number r.past c.args.self.now.resources c.args.self.now.passes c.args.id c.args.pool c.args.max_bytes c.args.max_moves r.clean r.stands r.passes.matches).1

pub begin_defrag-requires-clause-passing : goal.begin_defrag-requires-clause-passing
begin_defrag-requires-clause-passing c = c.requires.passes.passing

pub returns-clause-done : goal.returns-clause-done
returns-clause-done c = λ e past parts clean stands has.
    let ready = defrag_fits e past c.args.self.now.resources c.args.self.now.passes c.args.id c.args.pool c.args.max_bytes c.args.max_moves clean stands has.matches in (
      defrag_goes e past parts c.args.self.now.resources c.args.self.now.passes c.begin_defrag.new.passes has c.args.id c.args.pool c.args.max_bytes c.args.max_moves clean stands ready.0 c.in_ok-begin_defrag.ensures.begins c.in_ok-begin_defrag.ensures.passing,
      λ b o n is. absurd cc,
    )

pub returns-clause-allots : goal.returns-clause-allots
returns-clause-allots c = λ d is. (_, refl, c.in_ok-begin_defrag.ensures.allots d is, refl)

pub returns-clause-rest : goal.returns-clause-rest
returns-clause-rest c = rest_padding _ _ (rest_same c.args.self.now.resources (λ b. true))
