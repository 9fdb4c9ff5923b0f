use Rattle.vk_resources.proofs.HostAccesses.{flush_done, flush_rest, invalidate_done, invalidate_rest}
use Rattle.vk_resources.proofs.resources.Resources.flush_or_invalidate.Goals as goal

pub returns-in-Flush-clause-done : goal.returns-in-Flush-clause-done
returns-in-Flush-clause-done c = λ e past m fit. flush_done c.args.self.now c.flush.new.self c.args.entry.now c.in-Flush.buffer c.in-Flush.offset c.in-Flush.size c.in-Flush.is c.flush.ensures e past m fit

pub returns-in-Invalidate-clause-done : goal.returns-in-Invalidate-clause-done
returns-in-Invalidate-clause-done c = λ e past m fit. invalidate_done c.args.self.now c.invalidate.new.self c.args.entry.now c.in-Invalidate.buffer c.in-Invalidate.offset c.in-Invalidate.size c.in-Invalidate.is c.invalidate.ensures e past m fit

pub returns-in-Flush-clause-rest : goal.returns-in-Flush-clause-rest
returns-in-Flush-clause-rest c = λ past m fit. flush_rest c.args.self.now c.flush.new.self c.args.entry.now c.in-Flush.buffer c.in-Flush.offset c.in-Flush.size c.in-Flush.is c.flush.ensures past m fit

pub returns-in-Invalidate-clause-rest : goal.returns-in-Invalidate-clause-rest
returns-in-Invalidate-clause-rest c = λ past m fit. invalidate_rest c.args.self.now c.invalidate.new.self c.args.entry.now c.in-Invalidate.buffer c.in-Invalidate.offset c.in-Invalidate.size c.in-Invalidate.is c.invalidate.ensures past m fit
