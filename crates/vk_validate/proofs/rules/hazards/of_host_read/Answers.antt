use Rattle.std.proofs.Common.{◌≤◌, ◌+◌, ap, []}
use Rattle.vk_model.specs.declared.entry.Entry.TheVariants as entry
use Rattle.vk_model.specs.Trace.Point.{Action}
use Rattle.vk_model.specs.Sync.Node.{nodes}
use Rattle.vk_model.specs.Sync.Edge.{is_element}
use Rattle.vk_model.specs.World.ByteWrites.{buffer_size}
use Rattle.vk_model.proofs.Lists.Members.{contains-head}
use Rattle.vk_model.proofs.Lists.Truths.{clash}
use Rattle.vk_model.specs.Trace.PointViews.{point_of}
use Rattle.vk_order.proofs.PlaceLemmas.{apart_from}
use Rattle.vk_history.specs.PointViews.{past}
use Rattle.vk_touches.specs.Touched.{next_node, act_next}
use Rattle.vk_history.proofs.Making.Numbers.{buffer_is_resource, of_buffer}
use Rattle.vk_history.proofs.Kept.NextPoint.{host_there, read_fits}
use Rattle.vk_validate.proofs.Judging.Conflicts.{read_conflicts}
use Rattle.vk_validate.proofs.Judging.Early.{early_live, early_range}
use Rattle.vk_validate.proofs.Judging.OwnBytes.{buffer_bytes, kept_numbers}
use Rattle.vk_validate.proofs.rules.hazards.of_host_read.Goals as goal

pub has_missed_read-requires : goal.has_missed_read-requires
has_missed_read-requires c = kept_numbers (past c.args.history.now) c.args.buffer c.in-Some.contents.now c.in-Some.ensures c.access-by.result.bytes c.access-by.ensures.bytes

pub returns-in_ok-new_node-in-Some : goal.returns-in_ok-new_node-in-Some
returns-in_ok-new_node-in-Some c =
    let earlier = past c.args.history.now in
    let p = point_of c.args.point.now in
    let is = c.requires.reads in
    let fits : c.args.offset + c.args.size ≤ buffer_size earlier c.args.buffer = read_fits earlier p c.is_judged.ensures.faultless (early_live earlier p c.requires.early) (early_range earlier p c.requires.early) c.args.buffer c.args.offset c.args.size is in
    let there = host_there earlier p c.is_judged.ensures.faultless (early_live earlier p c.requires.early) (early_range earlier p c.requires.early) (entry.Read c.args.buffer c.args.offset c.args.size) is c.args.buffer (contains-head _ []) in
    let new_node = c.in_ok-new_node-in-Some.ensures (apart_from (nodes earlier) (next_node earlier p (act_next p.action)) (ap (λ (d : Action). is_element (act_next d)) is)) in
    read_conflicts earlier c.is_judged.ensures p c.args.buffer c.args.offset c.args.size is c.host_seen.ensures c.invalidated_seen.ensures.invalidated c.invalidated_seen.ensures.uninvalidated c.in-Some.contents.now (of_buffer earlier c.args.buffer there c.in-Some.contents.now c.in-Some.ensures) fits c.in_ok-new_node-in-Some.new_node new_node c.access-by.result c.access-by.ensures.access (buffer_bytes earlier c.args.buffer there c.access-by.result.bytes c.access-by.ensures.bytes) c.has_missed_read.result c.has_undefined.result c.has_missed_read.ensures c.has_undefined.ensures

pub returns-in-None : goal.returns-in-None
returns-in-None c =
    let earlier = past c.args.history.now in
    let p = point_of c.args.point.now in
    clash (buffer_is_resource earlier c.args.buffer (host_there earlier p c.is_judged.ensures.faultless (early_live earlier p c.requires.early) (early_range earlier p c.requires.early) (entry.Read c.args.buffer c.args.offset c.args.size) c.requires.reads c.args.buffer (contains-head _ []))) c.in-None.ensures.unmade
