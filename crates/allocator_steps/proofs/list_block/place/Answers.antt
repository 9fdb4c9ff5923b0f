use Rattle.std.proofs.lemmas.Result.{IfOk-weaker}
use Rattle.allocator_steps.proofs.Starting.{adds_start}
use Rattle.allocator_steps.proofs.list_block.place.Goals as goal

pub returns-in-Below-clause-ok : goal.returns-in-Below-clause-ok
returns-in-Below-clause-ok c = IfOk-weaker c.allocate_below.result _ _ (λ start puts. adds_start c.args.block.now c.allocate_below.new.self _ start puts) c.allocate_below.ensures.ok

pub returns-in-Anywhere : goal.returns-in-Anywhere
returns-in-Anywhere c = record {
  ok = IfOk-weaker c.allocate.result _ _ (λ start puts. adds_start c.args.block.now c.allocate.new.self _ start puts) c.allocate.ensures.ok;
  err = c.allocate.ensures.err;
}
