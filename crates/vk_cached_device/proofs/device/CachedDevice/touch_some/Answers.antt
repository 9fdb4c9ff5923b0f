use Rattle.std.proofs.Common.{ℕ, Option, Some, sym, subst}
use Rattle.vk_model.specs.Basics.{option_list}
use Rattle.vk_cached_device.specs.LedLate.{LedLate, act_of}
use Rattle.vk_cached_device.specs.Touching.{late_touched}
use Rattle.vk_cached_device.proofs.device.CachedDevice.touch_some.Goals as goal

pub returns-in-Some-clause-touched : goal.returns-in-Some-clause-touched
returns-in-Some-clause-touched c t steps s memory late led =
    subst (λ (o : Option ℕ). LedLate t steps s memory (late_touched (Some (act_of c.args.act)) c.args.queue (option_list o) late) c.let_touch.new.self) (sym c.in-Some.is) (c.let_touch.ensures.touched t steps s memory late led)
