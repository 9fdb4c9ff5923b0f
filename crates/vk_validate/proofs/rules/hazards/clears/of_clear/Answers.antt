use Rattle.std.proofs.Common.{◌∙◌, ap, sym, refl}
use Rattle.vk_model.specs.declared.command.Cmd.TheVariants as cmd
use Rattle.vk_model.specs.Trace.Point.{Action}
use Rattle.vk_model.specs.Sync.Node.{nodes}
use Rattle.vk_model.specs.Sync.Edge.{is_element}
use Rattle.vk_model.proofs.Lists.Truths.{clash}
use Rattle.vk_model.specs.Trace.PointViews.{point_of}
use Rattle.vk_order.proofs.PlaceLemmas.{apart_from}
use Rattle.vk_history.specs.PointViews.{past}
use Rattle.vk_touches.specs.Touched.{next_node, act_next}
use Rattle.vk_validate.proofs.Judging.Conflicts.{cleared_conflicts}
use Rattle.vk_validate.proofs.Judging.Clearing.{cleared_there, cleared_image, cleared_ranges, clear_origins, clear_targets, numbers_kept}
use Rattle.vk_validate.proofs.Judging.Early.{early_within}
use Rattle.vk_validate.proofs.Judging.OwnBytes.{kept_numbers}
use Rattle.vk_validate.proofs.rules.hazards.clears.of_clear.Goals as goal

pub has_early_range-requires : goal.has_early_range-requires
has_early_range-requires c = numbers_kept (past c.args.history.now) c.args.image c.in-Some-image.bytes c.in-Some.contents.now c.in-Some.ensures c.in-Some-image.is

pub has_missed_range-requires-clause-numbers : goal.has_missed_range-requires-clause-numbers
has_missed_range-requires-clause-numbers c = kept_numbers (past c.args.history.now) c.args.image c.in-Some.contents.now c.in-Some.ensures c.access-by.result.bytes c.access-by.ensures.bytes

pub has_missed_range-requires-clause-within : goal.has_missed_range-requires-clause-within
has_missed_range-requires-clause-within c = numbers_kept (past c.args.history.now) c.args.image c.in-Some-image.bytes c.in-Some.contents.now c.in-Some.ensures c.in-Some-image.is

pub returns-in_default : goal.returns-in_default
returns-in_default c =
    let earlier = past c.args.history.now in
    let p = point_of c.args.point.now in
    let fit = early_within earlier p c.requires.early c.is_judged.ensures.faultless in
    let clears = c.requires.clears in
    clash (cleared_there earlier p fit c.args.image clears.0 clears.1 c.args.ranges.now clears.2) c.in_default.ensures.unmade

pub returns-in_default-image : goal.returns-in_default-image
returns-in_default-image c =
    let earlier = past c.args.history.now in
    let p = point_of c.args.point.now in
    let fit = early_within earlier p c.requires.early c.is_judged.ensures.faultless in
    let clears = c.requires.clears in
    let m = cleared_image earlier p fit c.args.image clears.0 clears.1 c.args.ranges.now clears.2 in
    absurd (c.in_default-image.not-Some m.0 (c.in-Some.ensures.image ∙ m.1))

pub returns : goal.returns
returns c =
    let earlier = past c.args.history.now in
    let p = point_of c.args.point.now in
    let i = c.args.image in
    let rs = c.args.ranges.now in
    let m = c.in-Some-image.bytes in
    let u = c.in-Some.contents.now in
    let fit = early_within earlier p c.requires.early c.is_judged.ensures.faultless in
    let clears = c.requires.clears in
    let is = clears.2 in
    let of = sym c.in-Some.ensures.image ∙ c.in-Some-image.is in
    let new_node = c.in_ok-new_node.ensures (apart_from (nodes earlier) (next_node earlier p (act_next p.action)) (ap (λ (d : Action). is_element (act_next d)) is)) in
    cleared_conflicts earlier c.is_judged.ensures p (cmd.Clear i clears.0 clears.1 rs) is refl c.host_seen.ensures c.flushed_seen.ensures.flushed c.flushed_seen.ensures.unflushed c.prefixes.ensures.line c.in_ok-new_node.new_node new_node
    m i rs of (cleared_ranges earlier p fit i clears.0 clears.1 rs is m of) (clear_origins earlier i clears.0 clears.1 rs m of) (clear_targets earlier i clears.0 clears.1 rs m of)
    u c.in-Some.ensures c.access-by.result c.access-by.ensures.access c.access-by.ensures.bytes c.has_early_range.result c.has_missed_range.result c.has_early_range.ensures c.has_missed_range.ensures
