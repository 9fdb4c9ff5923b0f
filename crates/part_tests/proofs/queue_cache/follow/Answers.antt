use Rattle.std.proofs.Common.{◌∙◌}
use Rattle.part_tests.proofs.queue_cache.follow.Goals as goal

pub returns-in-WriteBack-clause-size : goal.returns-in-WriteBack-clause-size
returns-in-WriteBack-clause-size c = (c.write_back.ensures.bytes 0).size ∙ c.requires.size
