use Rattle.cache_tests.proofs.Leading.{touched_led}
use Rattle.cache_tests.proofs.stepping.touch_first.Goals as goal

pub returns : goal.returns
returns c = touched_led _ _ _ 0 1 c.requires c.in_ok-touch.ensures.touched
