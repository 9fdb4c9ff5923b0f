use Rattle.vk_cache_laws.proofs.PiecesTold.{piece_lag, piece_told}
use Rattle.vk_cache_laws.proofs.in_place.pieces_run_in_place.Goals as goal

pub returns-clause-run : goal.returns-clause-run
returns-clause-run c = λ t steps s m lag cells x n none run told may at. piece_told c.pieces_find_nothing_dirty.ensures t steps s m lag cells x none run told may n at

pub returns-clause-lag : goal.returns-clause-lag
returns-clause-lag c = λ t steps s m lag cells x b w none run told may is. piece_lag c.pieces_find_nothing_dirty.ensures t steps s m lag cells x none run told may b w is
