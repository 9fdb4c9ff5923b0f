use Rattle.cache_tests.proofs.Leading.{ended_led}
use Rattle.cache_tests.proofs.parts.second_part.Goals as goal

pub copy_last-requires : goal.copy_last-requires
copy_last-requires c = ended_led _ _ _ _ _ _ _ _ c.in_ok-replayed.ensures.stop (record { faultless = c.in_ok-replayed.ensures.sound })
