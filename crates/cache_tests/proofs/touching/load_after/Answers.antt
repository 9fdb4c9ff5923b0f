use Rattle.cache_tests.proofs.touching.load_after.Goals as goal

pub returns-clause-led : goal.returns-clause-led
returns-clause-led c t steps s memory late led = (_, c.in_ok-touch.ensures.touched t steps s memory late led)
