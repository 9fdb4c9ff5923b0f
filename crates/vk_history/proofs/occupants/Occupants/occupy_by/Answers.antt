use Rattle.std.proofs.Common.{arith}
use Rattle.vk_history.proofs.occupants.Occupants.occupy_by.Goals as goal

pub returns-in-EndPass-clause-memories : goal.returns-in-EndPass-clause-memories
returns-in-EndPass-clause-memories c = λ past are k. let left = rw c.as_slice.ensures at (c.leave_all.ensures.memories past are k) in rw c.in-EndPass.is (omega (arith, left))

pub returns-in-EndPass-clause-pools : goal.returns-in-EndPass-clause-pools
returns-in-EndPass-clause-pools c = λ past are k. let left = rw c.as_slice.ensures at (c.leave_all.ensures.pools past are k) in rw c.in-EndPass.is (omega (arith, left))
