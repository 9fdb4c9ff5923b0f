use Rattle.std.proofs.Common.{sym}
use Rattle.vk_availability.proofs.Freeing.{on_image}
use Rattle.vk_availability.proofs.happening.catch_up_on_image.Goals as goal

pub returns-in-Some : goal.returns-in-Some
returns-in-Some c = on_image c.args.resources.now c.args.image c.args.range c.args.due c.in-Some.shape.now (sym c.in-Some.ensures) c.args.lags.now c.catch_up_image.new.lags c.catch_up_image.ensures
