use Rattle.std.proofs.lemmas.Bool.{and_parts, and_from}
use Rattle.vk_order.specs.Bytes.{byte_of}
use Rattle.vk_hazards.specs.Areas.{have}
use Rattle.vk_hazards.proofs.HazardLemmas.{one_has, of_more, found_at, none_at}
use Rattle.vk_hazards.proofs.past.Past.missing_of.Goals as goal

pub returns-in-Some : goal.returns-in-Some
returns-in-Some c = λ x y pair.
    let found = found_at c.args.self.now c.args.hazard x y _ c.in_ok-byte.field-0 c.in-Some.byte c.in-Some.is (c.in_ok-byte.ensures x y pair) in
    let parts = and_parts _ _ found.0 in
    (and_from _ _ (one_has c.args.self.now c.args.hazard x y c.args.own.now c.loop-first.first-index _ (byte_of c.in-Some.byte) c.loop-first-test.true parts.0) parts.1, found.1)

pub loop-first-preserved : goal.loop-first-preserved
loop-first-preserved c = λ x y pair.
    of_more c.args.self.now c.args.hazard x y (λ b. have c.args.areas.now b) c.args.own.now c.loop-first.first-index _ c.loop-first-test.true (c.loop-first.invariant x y pair)
    (none_at c.args.self.now c.args.hazard x y _ c.in_ok-byte.field-0 c.in_default.is (c.in_ok-byte.ensures x y pair))
