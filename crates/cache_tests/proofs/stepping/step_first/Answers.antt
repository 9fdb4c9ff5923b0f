use Rattle.std.proofs.Common.{inr}
use Rattle.cache_tests.proofs.Leading.{ran_led}
use Rattle.cache_tests.proofs.stepping.step_first.Goals as goal

pub step-requires : goal.step-requires
step-requires c = let r = c.requires in inr (record { t = r.0; steps = r.1; s = r.2; memory = r.3; late = r.4; led = r.5; sound = r.6; among = rw c.device-2.ensures at c.nth_offered-piece.ensures.ready })

pub returns : goal.returns
returns c = ran_led c.args.device.now c.step.new.self c.nth_offered-piece.result c.requires c.in_ok-step.ensures.ran
