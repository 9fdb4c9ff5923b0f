use Rattle.std.proofs.Common.{refl}
use Rattle.vk_events.proofs.SettledLemmas.{settled}
use Rattle.vk_events.proofs.hanging.Hanging.settle.Goals as goal

pub take_off-requires-clause-hanging : goal.take_off-requires-clause-hanging
take_off-requires-clause-hanging c = let r = c.requires.hanging in (r.0, r.1, r.2, r.3, r.4, c.loop.invariant r.0 r.1 r.2 r.3 r.4 r.5)

pub loop-preserved : goal.loop-preserved
loop-preserved c counts low high taken same is = c.take_off.ensures.hanging counts low high taken same (c.loop.invariant counts low high taken same is)

pub returns : goal.returns
returns c counts low high taken same is =
    let now = c.take_off.new.self in
    settled now.hooks now.lacking.items now.met counts low high taken (c.take_off.ensures.hanging counts low high taken same (c.loop.invariant counts low high taken same is))
    c.args.queue c.args.done c.requires.queue (c.loop-test.ensures.none refl)
