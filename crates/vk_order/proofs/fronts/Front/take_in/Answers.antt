use Rattle.std.proofs.Common.{◌∙◌}
use Rattle.vk_order.proofs.FrontLemmas.{front_items}
use Rattle.vk_order.proofs.fronts.Front.take_in.Goals as goal

pub returns-then-is_first-clause-first : goal.returns-then-is_first-clause-first
returns-then-is_first-clause-first c = λ first ns ls g is. front_items ns ls g c.args.other.now (record { counts = c.copy_in.new.all }) (c.in_ok-copy_in.ensures ∙ c.as_slice.ensures.value) is
