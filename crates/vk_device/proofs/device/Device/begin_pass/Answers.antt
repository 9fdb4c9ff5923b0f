use Rattle.vk_device.proofs.Changing.{pass_goes, parts_begin}
use Rattle.vk_device.proofs.PassParts.{parts_counted}
use Rattle.vk_device.proofs.PassRules.{pass_fits}
use Rattle.vk_device.proofs.Resting.{rest_padding}
use Rattle.vk_device.proofs.device.Device.begin_pass.Goals as goal

pub begin_pass-requires-clause-there : goal.begin_pass-requires-clause-there
begin_pass-requires-clause-there c =
    let r = c.requires in (pass_fits r.number r.past c.args.self.now.resources.backed c.args.self.now.passes c.args.defrag r.clean r.passes.passing r.passes.matches).0

pub begin_pass-requires-clause-closed : goal.begin_pass-requires-clause-closed
begin_pass-requires-clause-closed c =
    let r = c.requires in (pass_fits r.number r.past c.args.self.now.resources.backed c.args.self.now.passes c.args.defrag r.clean r.passes.passing r.passes.matches).1

pub begin_pass-requires-clause-passing : goal.begin_pass-requires-clause-passing
begin_pass-requires-clause-passing c = c.requires.passes.passing

pub begin_pass-requires-clause-stands : goal.begin_pass-requires-clause-stands
begin_pass-requires-clause-stands c = (c.requires.past, c.requires.stands)

pub returns-clause-done : goal.returns-clause-done
returns-clause-done c = λ e past parts clean stands has.
    let w = c.in_ok-begin_pass.ensures in (
      pass_goes e past parts c.args.self.now.resources c.args.self.now.passes c.begin_pass.new.passes has c.begin_pass.new.self c.args.defrag clean (w.stands past stands) w.opens w.passing w.resources w.shapes w.written w.clean w.agree,
      λ b o n is. absurd cc,
    )

pub returns-clause-allots : goal.returns-clause-allots
returns-clause-allots c = λ d is.
    let w = c.in_ok-begin_pass.ensures in
    let e = w.allots d is in
    (e.0, e.1, e.2, parts_counted c.begin_pass.new.passes c.begin_pass.new.self e.0 c.args.defrag e.2 w.passing w.opens.opened (parts_begin c.args.self.now.passes c.begin_pass.new.passes c.args.self.now.resources.backed c.begin_pass.new.self.backed c.args.defrag w.opens))

pub returns-clause-rest : goal.returns-clause-rest
returns-clause-rest c = rest_padding _ _ c.in_ok-begin_pass.ensures.rest
