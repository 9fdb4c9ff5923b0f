use Rattle.std.proofs.Common.{not, subst}
use Rattle.vk_order.specs.SeenWrites.{SaysSeen}
use Rattle.vk_order.specs.declared.parts.Spot.{Spot}
use Rattle.vk_order.proofs.UnseenLemmas.{unit_seen}
use Rattle.vk_touches.specs.Bytes.{numbered_byte}
use Rattle.vk_touches.specs.Conflicts.{SomeBetween}
use Rattle.vk_touches.proofs.ByteUnits.{some_of_units}
use Rattle.vk_touches.proofs.accesses.ResourceAccess.is_some_unseen.Goals as goal

pub returns : goal.returns
returns c =
    let x = c.args.self.now in
    let run = c.units-run.result in
    let number = c.args.write.number in
    let spot = c.in_line-spot.result in
    let unseen = c.first_unseen-unseen in
    subst (λ (w : Spot). SomeBetween (λ k r. SaysSeen x.frontier.now x.new_node.now w number x.access (numbered_byte x.bytes k) (not r)) c.is_some.result c.args.low c.args.high) c.in_line-spot.ensures
    (some_of_units x.bytes c.args.low c.args.high run c.units-run.ensures.units (λ b r. SaysSeen x.frontier.now x.new_node.now spot number x.access b r)
    (unit_seen x.frontier.now x.new_node.now spot number x.access run.units)
    unseen.result unseen.ensures.within unseen.ensures.unseen unseen.ensures.seen c.is_some.result c.is_some.ensures)
