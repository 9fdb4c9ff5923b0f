use Rattle.std.proofs.Common.{◌<◌, ◌^◌, refl, arith}
use Rattle.vk_trace.proofs.NumberLemmas.{has_room, reads_on}
use Rattle.vk_trace.proofs.tokens.few_digits.Goals as goal

pub overflow_mul-number : goal.overflow_mul-number
overflow_mul-number c =
    let l = c.loop-byte in
    let below : l.number < 10 ^ 18 = has_room c.args.digits.now l.byte-index l.number l.invariant.1 l.invariant.0 (omega arith) in
    omega arith

pub overflow_add-number : goal.overflow_add-number
overflow_add-number c =
    let l = c.loop-byte in
    let below : l.number < 10 ^ 18 = has_room c.args.digits.now l.byte-index l.number l.invariant.1 l.invariant.0 (omega arith) in
    omega arith

pub loop-byte-preserved : goal.loop-byte-preserved
loop-byte-preserved c =
    let l = c.loop-byte in
    reads_on c.args.digits.now l.byte-index l.number _ c.loop-byte-test.true (c.type_inv.digits l.byte-index).fits refl c.if-digit-gt9.false l.invariant
