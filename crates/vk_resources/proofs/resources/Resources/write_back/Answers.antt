use Rattle.std.proofs.Common.{subst, sym, ◌∙◌}
use Rattle.vk_resources.specs.Held.{IsConsistent}
use Rattle.vk_resources.proofs.RestThrough.{rest_any}
use Rattle.vk_resources.proofs.WritingBack.{may_flush, flushed_back}
use Rattle.vk_resources.proofs.resources.Resources.write_back.Goals as goal

pub flush-requires : goal.flush-requires
flush-requires c = may_flush c.args.self.now (subst IsConsistent c.self.view_is c.self.invariant) c.args.id c.buffer.result c.buffer.ensures (sym c.is_some.ensures ∙ c.if-is_some.true)

pub returns-then-is_some-clause-written : goal.returns-then-is_some-clause-written
returns-then-is_some-clause-written c = flushed_back c.args.self.now c.flush.new.self (subst IsConsistent c.self.view_is c.self.invariant) c.args.id c.flush.ensures

pub returns-then-is_some-clause-rest : goal.returns-then-is_some-clause-rest
returns-then-is_some-clause-rest c = rest_any c.args.self.now c.flush.new.self _ c.flush.ensures.2
