use Rattle.std.proofs.Common.{◌≤◌, inl, inr, ◌++◌, length, take, ap, arith, length-append}
use Rattle.std.proofs.lemmas.List.{length-take-le}
use Rattle.std.proofs.KnownBytes.{Consumes-trans}
use Rattle.vk_trace.proofs.ByteLemmas.{all_read_at, had_many}
use Rattle.vk_trace.proofs.streams.read_all.Goals as goal

pub returns-in-Ok-eq0-clause-ok : goal.returns-in-Ok-eq0-clause-ok
returns-in-Ok-eq0-clause-ok g c =
    all_read_at _ _ _ c.loop.input.items c.read.new.buf c.in-Ok-eq0.field-0 c.in-Ok-eq0.field-0-test
    (omega (arith, ap length c.deref_mut.ensures.value, c.read.auto.buf)) c.loop.invariant.read c.in-Ok-eq0.ensures.bytes

pub returns-then-len-n-gt-MOST_BYTES-clause-too_long :
    goal.returns-then-len-n-gt-MOST_BYTES-clause-too_long
returns-then-len-n-gt-MOST_BYTES-clause-too_long g c =
    let n = c.in-Ok.n in
    let buf = c.read.new.buf in
    let le : n ≤ length buf = c.in-Ok.ensures.bound.0 in
    λ _. inr (had_many 16777217 _ _ (c.loop.input.items ++ take n buf)
    (Consumes-trans _ _ _ _ _ c.loop.invariant.read c.in-Ok.ensures.bytes.0)
    (omega (arith, length-append c.loop.input.items (take n buf), length-take-le n buf le)))

pub returns-clause-too_long : goal.returns-clause-too_long
returns-clause-too_long g c =
    λ _. inl (omega (arith, c.loop.invariant.calls, c.loop.invariant.known))
