use Rattle.std.proofs.Common.{refl, arith}
use Rattle.vk_model.specs.Rules.Table.{fault}
use Rattle.vk_history.specs.PointViews.{past}
use Rattle.vk_history.proofs.history.History.new.Goals as goal

pub invariant_of-result : goal.invariant_of-result
unfolding past fault
invariant_of-result c = (omega arith, c.new.ensures, record { ordered = tt; faultless = refl })
