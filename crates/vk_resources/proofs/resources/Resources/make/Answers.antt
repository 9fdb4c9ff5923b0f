use Rattle.std.proofs.lemmas.Result.{IfOk-weaker}
use Rattle.vk_resources.proofs.Applying.{memory_done}
use Rattle.vk_resources.proofs.Making.{memory_keeps, memory_passing}
use Rattle.vk_resources.proofs.resources.Resources.make.Goals as goal

pub returns-in-Memory-clause-done : goal.returns-in-Memory-clause-done
returns-in-Memory-clause-done c =
    IfOk-weaker c.make_memory.result _ _ (λ a made. λ e past m fit. memory_done c.args.self.now c.make_memory.new.self c.args.entry.now c.in-Memory.id c.in-Memory.info c.in-Memory.is c.make_memory.ensures.consistent.0 a made e past m fit) c.make_memory.ensures.made

pub returns-in-Memory-clause-keeps : goal.returns-in-Memory-clause-keeps
returns-in-Memory-clause-keeps c = IfOk-weaker c.make_memory.result _ _ (λ a made. memory_keeps a c.args.self.now c.make_memory.new.self c.in-Memory.id _ _ made) c.make_memory.ensures.made

pub returns-in-Memory-clause-passing : goal.returns-in-Memory-clause-passing
returns-in-Memory-clause-passing c = IfOk-weaker c.make_memory.result _ _ (λ a made. memory_passing a c.args.self.now c.make_memory.new.self c.in-Memory.id _ _ made) c.make_memory.ensures.made
