use Rattle.std.proofs.lemmas.Bool.{and_parts, and_from}
use Rattle.vk_order.specs.Bytes.{byte_of}
use Rattle.vk_hazards.specs.Areas.{has}
use Rattle.vk_hazards.proofs.HazardLemmas.{one_has, among_more, found_at, none_at}
use Rattle.vk_hazards.proofs.past.Past.missing_among.Goals as goal

pub returns-in-Some : goal.returns-in-Some
returns-in-Some c = λ x y pair.
    let found = found_at c.args.self.now c.args.hazard x y _ c.in_ok-byte.field-0 c.in-Some.byte c.in-Some.is (c.in_ok-byte.ensures x y pair) in
    let parts = and_parts _ _ found.0 in
    (and_from _ _ parts.0 (one_has c.args.self.now c.args.hazard x y c.args.areas.now c.loop-second.second-index _ (byte_of c.in-Some.byte) c.loop-second-test.true parts.1), found.1)

pub loop-second-preserved : goal.loop-second-preserved
loop-second-preserved c = λ x y pair.
    among_more c.args.self.now c.args.hazard x y (λ b. has c.args.first.now b) c.args.areas.now c.loop-second.second-index _ c.loop-second-test.true (c.loop-second.invariant x y pair)
    (none_at c.args.self.now c.args.hazard x y _ c.in_ok-byte.field-0 c.in_default.is (c.in_ok-byte.ensures x y pair))
