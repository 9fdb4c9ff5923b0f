use Rattle.std.proofs.Common.{true, refl}
use Rattle.vk_resources.proofs.RestThrough.{rest_same}
use Rattle.vk_device.proofs.Changing.{undefrag_goes}
use Rattle.vk_device.proofs.PassRules.{end_defrag_fits}
use Rattle.vk_device.proofs.Resting.{rest_padding}
use Rattle.vk_device.proofs.device.Device.end_defrag.Goals as goal

pub end_defrag-requires-clause-there : goal.end_defrag-requires-clause-there
end_defrag-requires-clause-there c =
    let r = c.requires in (end_defrag_fits r.number r.past c.args.self.now.resources.backed c.args.self.now.passes c.args.defrag r.clean r.passes.matches).0

pub end_defrag-requires-clause-closed : goal.end_defrag-requires-clause-closed
end_defrag-requires-clause-closed c =
    let r = c.requires in (end_defrag_fits r.number r.past c.args.self.now.resources.backed c.args.self.now.passes c.args.defrag r.clean r.passes.matches).1

pub end_defrag-requires-clause-passing : goal.end_defrag-requires-clause-passing
end_defrag-requires-clause-passing c = c.requires.passes.passing

pub returns-clause-done : goal.returns-clause-done
returns-clause-done c = λ e past parts clean stands has.
    let ready = end_defrag_fits e past c.args.self.now.resources.backed c.args.self.now.passes c.args.defrag clean has.matches in (
      undefrag_goes e past parts c.args.self.now.resources c.args.self.now.passes c.end_defrag.new.passes has c.args.defrag clean stands ready.1 c.end_defrag.ensures.gone c.end_defrag.ensures.others c.end_defrag.ensures.opened c.end_defrag.ensures.moving c.end_defrag.ensures.passing,
      λ b o n is. absurd cc,
    )

pub returns-clause-allots : goal.returns-clause-allots
returns-clause-allots c = λ d is. (_, refl, c.end_defrag.ensures.allots d is, refl)

pub returns-clause-rest : goal.returns-clause-rest
returns-clause-rest c = rest_padding _ _ (rest_same c.args.self.now.resources (λ b. true))
