use Rattle.std.proofs.Common.{ℕ, arith}
use Rattle.vk_laws.proofs.Running.Runs.{bare, memory_after, reached, in_order, in_order_allowed, runs_next, some_next, may_too, allowed_too}
use Rattle.vk_laws.proofs.tasks.traces_run.Goals as goal

pub returns : goal.returns
returns c = record {
  reached = λ tr ca done ok. (bare (memory_after tr ca done), reached tr ca done ok);
  next = λ all next there. let leads = c.before_is_order.ensures.forward in (in_order leads all next.node, allowed_too all (in_order leads all next.node) (in_order_allowed leads all next.node), may_too all (in_order leads all next.node) next (runs_next leads all next there));
  never_stuck = λ all done left there undone.
      let n = some_next c.before_is_order.ensures.forward all done (ℕ.suc left.node) left (omega arith) there undone in (n.0, may_too all done n.0 n.1);
}
