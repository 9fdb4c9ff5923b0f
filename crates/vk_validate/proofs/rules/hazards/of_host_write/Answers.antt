use Rattle.std.proofs.Common.{◌≡◌, ◌≤◌, ◌+◌, ℕ, length, ap, subst, []}
use Rattle.vk_model.specs.declared.entry.Entry.TheVariants as entry
use Rattle.vk_model.specs.Trace.Point.{Action}
use Rattle.vk_model.specs.Sync.Node.{nodes}
use Rattle.vk_model.specs.Sync.Edge.{is_element}
use Rattle.vk_model.proofs.Lists.Members.{contains-head}
use Rattle.vk_model.proofs.Lists.Truths.{clash}
use Rattle.vk_model.specs.Trace.PointViews.{point_of}
use Rattle.vk_order.proofs.PlaceLemmas.{apart_from}
use Rattle.vk_history.specs.PointViews.{past}
use Rattle.vk_touches.specs.Conflicts.{FoundIn, FoundAt, MissesWrite, HasEarlyCommand}
use Rattle.vk_touches.specs.Touched.{next_node, act_next}
use Rattle.vk_history.proofs.Making.Numbers.{buffer_is_resource, of_buffer}
use Rattle.vk_history.proofs.Kept.NextPoint.{host_there, set_fits}
use Rattle.vk_validate.proofs.Judging.Conflicts.{set_conflicts}
use Rattle.vk_validate.proofs.Judging.Early.{early_live, early_range}
use Rattle.vk_validate.proofs.Judging.OwnBytes.{buffer_bytes, kept_numbers}
use Rattle.vk_validate.proofs.rules.hazards.of_host_write.Goals as goal

pub has_missed_write-requires : goal.has_missed_write-requires
has_missed_write-requires c = kept_numbers (past c.args.history.now) c.args.buffer c.in-Some.contents.now c.in-Some.ensures c.access-by.result.bytes c.access-by.ensures.bytes

pub returns-in_ok-new_node-in-Some : goal.returns-in_ok-new_node-in-Some
returns-in_ok-new_node-in-Some c =
    let earlier = past c.args.history.now in
    let p = point_of c.args.point.now in
    let bytes = c.requires.writes.0 in
    let is = c.requires.writes.1 in
    let size_is : c.args.size ≡ length bytes = c.requires.writes.2 in
    let touches = c.in-Some.contents.now.touches in
    let fits = set_fits earlier p c.is_judged.ensures.faultless (early_live earlier p c.requires.early) (early_range earlier p c.requires.early) c.args.buffer c.args.offset bytes is in
    let there = host_there earlier p c.is_judged.ensures.faultless (early_live earlier p c.requires.early) (early_range earlier p c.requires.early) (entry.Write c.args.buffer c.args.offset bytes) is c.args.buffer (contains-head _ []) in
    let new_node = c.in_ok-new_node-in-Some.ensures (apart_from (nodes earlier) (next_node earlier p (act_next p.action)) (ap (λ (d : Action). is_element (act_next d)) is)) in
    let s = c.in_ok-new_node-in-Some.new_node in
    set_conflicts earlier c.is_judged.ensures p c.args.buffer c.args.offset bytes is c.host_seen.ensures c.prefixes.ensures.line c.in-Some.contents.now (of_buffer earlier c.args.buffer there c.in-Some.contents.now c.in-Some.ensures) fits s new_node c.access-by.result c.access-by.ensures.access (buffer_bytes earlier c.args.buffer there c.access-by.result.bytes c.access-by.ensures.bytes) c.has_early_command.result c.has_missed_write.result
    (subst (λ (n : ℕ). c.args.offset + n ≤ length touches → FoundIn (HasEarlyCommand s) c.has_early_command.result touches c.args.offset (c.args.offset + n)) size_is c.has_early_command.ensures)
    (subst (λ (n : ℕ). c.args.offset + n ≤ length touches → FoundAt (MissesWrite c.access-by.result) c.has_missed_write.result touches c.args.offset (c.args.offset + n)) size_is c.has_missed_write.ensures)

pub returns-in-None : goal.returns-in-None
returns-in-None c =
    let earlier = past c.args.history.now in
    let p = point_of c.args.point.now in
    clash (buffer_is_resource earlier c.args.buffer (host_there earlier p c.is_judged.ensures.faultless (early_live earlier p c.requires.early) (early_range earlier p c.requires.early) (entry.Write c.args.buffer c.args.offset c.requires.writes.0) c.requires.writes.1 c.args.buffer (contains-head _ []))) c.in-None.ensures.unmade
