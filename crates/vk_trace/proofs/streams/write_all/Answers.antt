use Rattle.std.proofs.Common.{◌≤◌, ◌-◌, length, take, drop, arith, inl, inr, length-drop}
use Rattle.std.proofs.lemmas.List.{length-take, take_all}
use Rattle.vk_trace.proofs.ByteLemmas.{written_more, not_true}
use Rattle.vk_trace.proofs.streams.write_all.Goals as goal

pub loop-preserved : goal.loop-preserved
loop-preserved g c =
    let bytes = c.args.bytes.now in
    let written = c.loop.written in
    let some = c.in-Ok.n-test.1 in
    let bound : c.in-Ok.n ≤ length (take (length bytes - written) (drop written bytes)) = c.in-Ok.ensures.bound in record {
      written = written_more _ _ _ bytes written c.in-Ok.n c.loop.invariant.written c.in-Ok.ensures.bytes;
      rounds = omega arith;
      within = omega (arith, bound, length-take (length bytes - written) (drop written bytes), length-drop written bytes);
      calls = omega (arith, c.loop.invariant.calls, c.in-Ok.ensures.calls);
      whole = not_true _ (λ h. elim (c.in-Ok.ensures.failed.0 h) [ inl a ↦ cc (c.loop.invariant.whole, a) | inr (inl b) ↦ cc b | inr (inr d) ↦ some (cc d) ]);
    }

pub returns-then-written-bytes-clause-ok : goal.returns-then-written-bytes-clause-ok
returns-then-written-bytes-clause-ok g c = rw (take_all c.loop.written c.args.bytes.now c.if-written-bytes.true) at c.loop.invariant.written
