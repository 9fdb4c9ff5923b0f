use Rattle.std.proofs.Common.{cond, arith}
use Rattle.std.proofs.lemmas.Grind.{common_steps}
use Rattle.std.proofs.lemmas.List.Sums.{sum_by_more}
use Rattle.vk_model.specs.Trace.Objects.{memory_of, pool_of}
use Rattle.vk_history.specs.Counted.{is_id}
use Rattle.vk_history.proofs.occupants.Occupants.leave_all.Goals as goal

pub loop-resource-preserved : goal.loop-resource-preserved
loop-resource-preserved c = record {
  memories = λ past are k.
      let l = c.loop-resource in
      let more = sum_by_more (λ r. cond (is_id k (memory_of past r)) 1 0) c.args.resources.now l.resource-index 0 (omega arith) in
      let so_far = l.invariant.memories past are k in
      let one = c.leave.ensures.memories past are k in
      omega (arith, more, so_far, one);
  pools = λ past are k.
      let l = c.loop-resource in
      let more = sum_by_more (λ r. cond (is_id k (pool_of past r)) 1 0) c.args.resources.now l.resource-index 0 (omega arith) in
      let so_far = l.invariant.pools past are k in
      let one = c.leave.ensures.pools past are k in
      omega (arith, more, so_far, one);
}

pub returns-clause-memories : goal.returns-clause-memories
returns-clause-memories c = λ past are k. grind (arith, common_steps, c.loop-resource.invariant.memories past are k)

pub returns-clause-pools : goal.returns-clause-pools
returns-clause-pools c = λ past are k. grind (arith, common_steps, c.loop-resource.invariant.pools past are k)
