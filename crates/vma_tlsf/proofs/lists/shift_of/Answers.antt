use Rattle.std.proofs.Common.{◌<◌, ◌≤◌, ◌*◌, ◌^◌, ℕ, zero, suc, bit_or, arith}
use Rattle.std.proofs.lemmas.Nat.{le_or_r}
use Rattle.vma_tlsf.proofs.lists.shift_of.Goals as goal

-- the highest bit of a number from 16 on
high : (k n : ℕ) → 16 ≤ n → n < 2 * 2 ^ k → 4 ≤ k
high zero n le lt = omega (arith, le, lt)
high (suc zero) n le lt = omega (arith, le, lt)
high (suc (suc zero)) n le lt = omega (arith, le, lt)
high (suc (suc (suc zero))) n le lt = omega (arith, le, lt)
high (suc (suc (suc (suc k)))) n le lt = omega arith

pub ilog2-requires : goal.ilog2-requires
ilog2-requires c = omega (arith, le_or_r c.args.units 16)

pub overflow_sub-result : goal.overflow_sub-result
overflow_sub-result c = high c.ilog2.result (bit_or c.args.units 16) (le_or_r c.args.units 16) c.ilog2.ensures.next_power_gt
