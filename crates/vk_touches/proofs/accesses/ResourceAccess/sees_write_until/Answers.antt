use Rattle.std.proofs.Common.{ℕ, ◌≤◌, ◌<◌, subst}
use Rattle.vk_order.specs.SeenWrites.{SaysSeen}
use Rattle.vk_order.specs.declared.parts.Spot.{Spot}
use Rattle.vk_order.proofs.UnseenLemmas.{unit_seen}
use Rattle.vk_touches.specs.Bytes.{numbered_byte}
use Rattle.vk_touches.proofs.ByteUnits.{by_units}
use Rattle.vk_touches.proofs.accesses.ResourceAccess.sees_write_until.Goals as goal

pub returns-clause-seen : goal.returns-clause-seen
returns-clause-seen c =
    let x = c.args.self.now in
    let run = c.units-run.result in
    let number = c.args.write.number in
    let spot = c.in_line.result in
    let seen = c.seen_until-seen in
    subst (λ (w : Spot). (k : ℕ) → c.args.low ≤ k → k < c.before_unit.result → SaysSeen x.frontier.now x.new_node.now w number x.access (numbered_byte x.bytes k) seen.result.is_seen) c.in_line.ensures
    (by_units x.bytes c.args.low c.args.high run c.units-run.ensures.units (λ b r. SaysSeen x.frontier.now x.new_node.now spot number x.access b r)
    (unit_seen x.frontier.now x.new_node.now spot number x.access run.units)
    seen.result.is_seen c.before_unit.result seen.result.end c.before_unit.ensures.within c.before_unit.ensures.earlier seen.ensures.seen)
