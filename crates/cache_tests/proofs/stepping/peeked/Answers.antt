use Rattle.std.proofs.Common.{◌≡◌, ◌∙◌, ◌≤◌, ◌+◌, sym, arith}
use Rattle.vk_resources.specs.Held.{placed}
use Rattle.cache_tests.proofs.Leading.{place_of}
use Rattle.cache_tests.proofs.stepping.peeked.Goals as goal

pub peek-requires : goal.peek-requires
peek-requires c =
    let r = c.requires in
    let there = place_of (placed c.args.device.now.device.resources 1) c.in-Some.spot (rw c.device.ensures at (sym c.in-Some.is ∙ c.spot.ensures.there)) in
    let size = there.2 in
    record { t = r.0; steps = r.1; s = r.2; memory = r.3; late = r.4; led = r.5; place = there.0; here = there.1; inside = omega (arith, size) }
