use Rattle.vk_buffer.proofs.Neighbors.{last_of_range}
use Rattle.vk_buffer.proofs.bindings.last_upto.Goals as goal

pub returns-in-Some-clause-last : goal.returns-in-Some-clause-last
returns-in-Some-clause-last c = last_of_range c.args.bound.now c.args.offset (c.in-Some.start.now, c.in-Some.resource.now) c.next_back.new.self c.range.result c.in-Some.ensures.steps (c.range.ensures.in_range tt)
