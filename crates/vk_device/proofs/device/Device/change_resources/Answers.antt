use Rattle.vk_resources.proofs.RestThrough.{rest_any}
use Rattle.vk_device.proofs.Entering.{fits_next}
use Rattle.vk_device.proofs.PassBytes.{entry_bytes}
use Rattle.vk_device.proofs.PassRules.{spares_passes}
use Rattle.vk_device.proofs.Resting.{rest_padding}
use Rattle.vk_device.proofs.PlainEntries.{plain_fits, plain_done, plain_allots}
use Rattle.vk_device.proofs.device.Device.change_resources.Goals as goal

pub apply-requires-clause-ready : goal.apply-requires-clause-ready
apply-requires-clause-ready c = let m = c.requires.may in (m.past, m.stands, plain_fits m.past c.args.entry.now c.requires.plain (fits_next m.number c.args.entry.now m.past m.clean))

pub apply-requires-clause-spared : goal.apply-requires-clause-spared
apply-requires-clause-spared c =
    let m = c.requires.may in
    (c.args.self.now.passes, m.passes.passing, spares_passes m.number c.args.entry.now m.past c.args.self.now.resources c.args.self.now.passes m.clean m.stands c.are_resources.ensures m.passes.passing m.passes.matches)

pub returns-clause-done : goal.returns-clause-done
returns-clause-done c = λ e past parts clean stands has.
    let x = c.args.entry.now in
    let fits = plain_fits past x c.requires.plain (fits_next e x past clean) in
    let w = c.in_ok-applied.ensures in
    plain_done x c.requires.plain c.args.self.now.resources c.apply.new.self c.args.self.now.passes c.are_resources.ensures e past parts clean stands has w.passing
    (w.agree past stands fits c.args.self.now.passes has.passing (spares_passes e x past c.args.self.now.resources c.args.self.now.passes clean stands c.are_resources.ensures has.passing has.matches)
    (entry_bytes e x past c.args.self.now.resources c.args.self.now.passes clean stands c.are_resources.ensures has.passing has.matches has.clean) has.agree)
    c.in_ok-applied.applied (w.done e past stands fits)

pub returns-clause-rooms : goal.returns-clause-rooms
returns-clause-rooms c = let m = c.requires.may in c.in_ok-applied.ensures.rooms m.past (plain_fits m.past c.args.entry.now c.requires.plain (fits_next m.number c.args.entry.now m.past m.clean))

pub returns-clause-allots : goal.returns-clause-allots
returns-clause-allots c =
    let m = c.requires.may in
    let x = c.args.entry.now in
    let fits = plain_fits m.past x c.requires.plain (fits_next m.number x m.past m.clean) in
    let w = c.in_ok-applied.ensures in
    plain_allots x c.requires.plain c.args.self.now.resources c.apply.new.self c.args.self.now.passes c.are_resources.ensures m.number m.past m.parts m.clean m.stands m.passes w.passing
    (w.agree m.past m.stands fits c.args.self.now.passes m.passes.passing (spares_passes m.number x m.past c.args.self.now.resources c.args.self.now.passes m.clean m.stands c.are_resources.ensures m.passes.passing m.passes.matches)
    (entry_bytes m.number x m.past c.args.self.now.resources c.args.self.now.passes m.clean m.stands c.are_resources.ensures m.passes.passing m.passes.matches m.passes.clean) m.passes.agree)
    c.in_ok-applied.applied (w.done m.number m.past m.stands fits) (w.allots m.past m.stands fits)

pub returns-clause-rest : goal.returns-clause-rest
returns-clause-rest c =
    let m = c.requires.may in
    rest_padding _ _ (rest_any c.args.self.now.resources c.apply.new.self _ (c.in_ok-applied.ensures.rest m.past m.stands (plain_fits m.past c.args.entry.now c.requires.plain (fits_next m.number c.args.entry.now m.past m.clean))))
