use Rattle.cache_tests.proofs.Leading.{ended_led}
use Rattle.cache_tests.proofs.stepping.peeked_of_fills.Goals as goal

pub peeked_between-requires : goal.peeked_between-requires
peeked_between-requires c = ended_led _ _ _ _ _ _ _ _ c.in_ok-replayed.ensures.stop (record { faultless = c.in_ok-replayed.ensures.sound })
