use Rattle.std.proofs.Common.{sym, ◌∙◌}
use Rattle.std.specs.Option.{option_copied}
use Rattle.vk_order.proofs.WaitLemmas.{least_named}
use Rattle.vk_order.proofs.names.Names.signal_for.Goals as goal

pub returns : goal.returns
returns c = λ ns ls names.
    least_named ns ls c.args.self.now.signals names.signals c.args.semaphore c.args.value (names.initials c.args.semaphore c.args.value ∙ sym c.is_enough.ensures ∙ c.if-is_enough.false) (option_copied c.least_from.result) c.least_from.ensures
