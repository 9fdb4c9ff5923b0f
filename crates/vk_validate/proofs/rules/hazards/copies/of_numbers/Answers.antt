use Rattle.std.proofs.Common.{ap}
use Rattle.vk_model.specs.Trace.Point.{Action}
use Rattle.vk_model.specs.Sync.Node.{nodes}
use Rattle.vk_model.specs.Sync.Edge.{is_element}
use Rattle.vk_model.proofs.Lists.Truths.{clash}
use Rattle.vk_model.specs.Trace.PointViews.{point_of}
use Rattle.vk_order.proofs.PlaceLemmas.{apart_from}
use Rattle.vk_history.specs.PointViews.{past}
use Rattle.vk_touches.specs.Touched.{next_node, act_next}
use Rattle.vk_validate.proofs.Judging.Conflicts.{numbers_conflicts}
use Rattle.vk_validate.proofs.Judging.OwnBytes.{kept_numbers}
use Rattle.vk_validate.proofs.rules.hazards.copies.of_numbers.Goals as goal

pub has_missed_source-requires : goal.has_missed_source-requires
has_missed_source-requires c = kept_numbers (past c.args.history.now) c.args.source c.in-Some.from.now c.in-Some.ensures c.access-reads.result.bytes c.access-reads.ensures.bytes

pub has_missed_destination-requires : goal.has_missed_destination-requires
has_missed_destination-requires c = kept_numbers (past c.args.history.now) c.args.destination c.in-Some-contents.to.now c.in-Some-contents.ensures c.access-writes.result.bytes c.access-writes.ensures.bytes

pub returns-in_default : goal.returns-in_default
returns-in_default c = clash c.requires.source_there c.in_default.ensures.unmade

pub returns-in_default-contents : goal.returns-in_default-contents
returns-in_default-contents c = clash c.requires.destination_there c.in_default-contents.ensures.unmade

pub returns : goal.returns
returns c =
    let earlier = past c.args.history.now in
    let p = point_of c.args.point.now in
    let copies = c.requires in
    let new_node = c.in_ok-new_node.ensures (apart_from (nodes earlier) (next_node earlier p (act_next p.action)) (ap (λ (d : Action). is_element (act_next d)) copies.runs)) in
    numbers_conflicts earlier c.is_judged.ensures p copies.command copies.runs copies.alone c.host_seen.ensures c.flushed_seen.ensures.flushed c.flushed_seen.ensures.unflushed c.prefixes.ensures.line c.in_ok-new_node.new_node new_node
    c.args.source c.args.destination c.args.copies.now copies.writes c.in-Some.from.now c.in-Some-contents.to.now c.in-Some.ensures c.in-Some-contents.ensures copies.reads_fit copies.writes_fit
    c.access-reads.result c.access-reads.ensures.access c.access-reads.ensures.bytes c.access-writes.result c.access-writes.ensures.access c.access-writes.ensures.bytes
    c.has_early_destination.result c.has_missed_source.result c.has_missed_destination.result c.has_early_destination.ensures c.has_missed_source.ensures c.has_missed_destination.ensures
