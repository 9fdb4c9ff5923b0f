use Rattle.std.proofs.Common.{ap, Err}
use Rattle.vk_model.specs.declared.suballoc.SubFault.{SubFault}
use Rattle.vma_pools.proofs.WalkLemmas.{objects-kept, seen-kept, none-next, is-taken}
use Rattle.vma_pools.proofs.blocks.take_in.Goals as goal

pub returns-in-Ok-clause-ok : goal.returns-in-Ok-clause-ok
returns-in-Ok-clause-ok g c =
    let i = c.loop-i.invariant in is-taken g.B.PoolBlock.block _ _ _ _ _ i.0 c.loop-i-test.true _ _ i.2 _ c.in-Ok.ensures.ok.0 c.in-Ok.ensures.ok.1

pub returns-in-Ok-clause-objects : goal.returns-in-Ok-clause-objects
returns-in-Ok-clause-objects g c =
    let i = c.loop-i.invariant in objects-kept g.B.PoolBlock.block _ _ _ _ _ i.0 c.loop-i-test.true i.1

pub returns-in-Err-NoMemory-clause-err : goal.returns-in-Err-NoMemory-clause-err
returns-in-Err-NoMemory-clause-err g c =
    let i = c.loop-i.invariant in seen-kept g.B.PoolBlock.block _ _ _ _ _ i.0 c.loop-i-test.true c.in-Err-NoMemory.ensures.err

pub returns-in-Err-NoMemory-clause-objects : goal.returns-in-Err-NoMemory-clause-objects
returns-in-Err-NoMemory-clause-objects g c =
    let i = c.loop-i.invariant in objects-kept g.B.PoolBlock.block _ _ _ _ _ i.0 c.loop-i-test.true i.1

pub loop-i-preserved : goal.loop-i-preserved
loop-i-preserved g c =
    let i = c.loop-i.invariant in (
      seen-kept g.B.PoolBlock.block _ _ _ _ _ i.0 c.loop-i-test.true c.in-Err-NoRoom.ensures.err,
      objects-kept g.B.PoolBlock.block _ _ _ _ _ i.0 c.loop-i-test.true i.1,
      none-next g.B.PoolBlock.block _ _ _ _ c.allocate.new.self i.0 c.loop-i-test.true _ _ i.2 (c.in-Err-NoRoom.ensures.no_room (ap (λ (f : SubFault). Err f) c.in-Err-NoRoom.field-0-is)),
    )
