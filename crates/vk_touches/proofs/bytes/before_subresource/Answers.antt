use Rattle.std.proofs.Common.{arith}
use Rattle.vk_image_bytes.proofs.Reached.{subresources_rise}
use Rattle.vk_touches.proofs.bytes.before_subresource.Goals as goal

pub returns-clause-earlier : goal.returns-clause-earlier
returns-clause-earlier c = λ k from to.
    let near = c.loop-end.invariant.earlier in
    let rise = subresources_rise c.args.bytes.now k c.loop-end.last (omega arith) (omega arith) in
    omega (arith, near, rise)
