use Rattle.std.proofs.Common.{◌≡◌, ◌≤◌, ◌+◌, ℕ, length, ◌∙◌, ap, subst, [], inl, inr}
use Rattle.vk_model.specs.declared.command.Cmd.TheVariants as cmd
use Rattle.vk_model.specs.Trace.Point.{Action}
use Rattle.vk_model.specs.Sync.Node.{nodes}
use Rattle.vk_model.specs.Sync.Edge.{is_element}
use Rattle.vk_model.specs.World.ByteWrites.{buffer_size, fill_size}
use Rattle.vk_model.proofs.Lists.Members.{contains-head}
use Rattle.vk_model.proofs.Lists.Truths.{clash}
use Rattle.vk_model.specs.Trace.PointViews.{point_of}
use Rattle.vk_order.proofs.PlaceLemmas.{apart_from}
use Rattle.vk_history.specs.PointViews.{past}
use Rattle.vk_touches.specs.Conflicts.{FoundIn, FoundAt, Misses, IsEarly}
use Rattle.vk_touches.specs.Touched.{next_node, act_next}
use Rattle.vk_history.proofs.Making.Numbers.{buffer_is_resource, of_buffer}
use Rattle.vk_history.proofs.Kept.NextPoint.{command_there, fill_fits, update_fits}
use Rattle.vk_validate.proofs.Judging.Conflicts.{fill_conflicts, update_conflicts}
use Rattle.vk_validate.proofs.Judging.Early.{early_live, early_range}
use Rattle.vk_validate.proofs.Judging.OwnBytes.{buffer_bytes, kept_numbers}
use Rattle.vk_validate.proofs.rules.hazards.of_write.Goals as goal

pub has_missed-requires : goal.has_missed-requires
has_missed-requires c = kept_numbers (past c.args.history.now) c.args.buffer c.in-Some.contents.now c.in-Some.ensures c.access-by.result.bytes c.access-by.ensures.bytes

pub returns-in_ok-new_node-in-Some : goal.returns-in_ok-new_node-in-Some
returns-in_ok-new_node-in-Some c = elim c.requires.writes [
  | inl fill ↦
      let earlier = past c.args.history.now in
      let p = point_of c.args.point.now in
      let is = fill.1 in
      let there = command_there earlier p c.is_judged.ensures.faultless (early_live earlier p c.requires.early) (early_range earlier p c.requires.early) (cmd.Fill c.args.buffer c.args.offset c.args.size fill.0) is c.args.buffer (contains-head _ []) in
      let are = of_buffer earlier c.args.buffer there c.in-Some.contents.now c.in-Some.ensures in
      let touches = c.in-Some.contents.now.touches in
      let s = c.in_ok-new_node-in-Some.new_node in
      let bytes : c.filled-bytes.result ≡ fill_size (buffer_size earlier c.args.buffer) c.args.offset c.args.size = c.filled-bytes.ensures ∙ ap (λ (n : ℕ). fill_size n c.args.offset c.args.size) (c.len.ensures ∙ are.defined_size) in
      let fits = fill_fits earlier p c.is_judged.ensures.faultless (early_live earlier p c.requires.early) (early_range earlier p c.requires.early) c.args.buffer c.args.offset c.args.size fill.0 is in
      let new_node = c.in_ok-new_node-in-Some.ensures (apart_from (nodes earlier) (next_node earlier p (act_next p.action)) (ap (λ (d : Action). is_element (act_next d)) is)) in
      fill_conflicts earlier c.is_judged.ensures p c.host_seen.ensures c.flushed_seen.ensures.flushed c.flushed_seen.ensures.unflushed c.prefixes.ensures.line s new_node c.args.buffer c.args.offset c.args.size fill.0 is c.in-Some.contents.now are fits c.access-by.result c.access-by.ensures.access (buffer_bytes earlier c.args.buffer there c.access-by.result.bytes c.access-by.ensures.bytes) c.has_early.result c.has_missed.result
      (subst (λ (n : ℕ). c.args.offset + n ≤ length touches → FoundIn (IsEarly s) c.has_early.result touches c.args.offset (c.args.offset + n)) bytes c.has_early.ensures)
      (subst (λ (n : ℕ). c.args.offset + n ≤ length touches → FoundAt (Misses c.in-Some.contents.now.is_cached c.access-by.result) c.has_missed.result touches c.args.offset (c.args.offset + n)) bytes c.has_missed.ensures)
  | inr update ↦
      let earlier = past c.args.history.now in
      let p = point_of c.args.point.now in
      let is = update.1 in
      let there = command_there earlier p c.is_judged.ensures.faultless (early_live earlier p c.requires.early) (early_range earlier p c.requires.early) (cmd.Update c.args.buffer c.args.offset update.0) is c.args.buffer (contains-head _ []) in
      let are = of_buffer earlier c.args.buffer there c.in-Some.contents.now c.in-Some.ensures in
      let touches = c.in-Some.contents.now.touches in
      let s = c.in_ok-new_node-in-Some.new_node in
      let bytes : c.filled-bytes.result ≡ length update.0 = c.filled-bytes.ensures ∙ ap (fill_size c.len.result c.args.offset) update.2 in
      let fits = update_fits earlier p c.is_judged.ensures.faultless (early_live earlier p c.requires.early) (early_range earlier p c.requires.early) c.args.buffer c.args.offset update.0 is in
      let new_node = c.in_ok-new_node-in-Some.ensures (apart_from (nodes earlier) (next_node earlier p (act_next p.action)) (ap (λ (d : Action). is_element (act_next d)) is)) in
      update_conflicts earlier c.is_judged.ensures p c.host_seen.ensures c.flushed_seen.ensures.flushed c.flushed_seen.ensures.unflushed c.prefixes.ensures.line s new_node c.args.buffer c.args.offset update.0 is c.in-Some.contents.now are fits c.access-by.result c.access-by.ensures.access (buffer_bytes earlier c.args.buffer there c.access-by.result.bytes c.access-by.ensures.bytes) c.has_early.result c.has_missed.result
      (subst (λ (n : ℕ). c.args.offset + n ≤ length touches → FoundIn (IsEarly s) c.has_early.result touches c.args.offset (c.args.offset + n)) bytes c.has_early.ensures)
      (subst (λ (n : ℕ). c.args.offset + n ≤ length touches → FoundAt (Misses c.in-Some.contents.now.is_cached c.access-by.result) c.has_missed.result touches c.args.offset (c.args.offset + n)) bytes c.has_missed.ensures)
]

pub returns-in-None : goal.returns-in-None
returns-in-None c = elim c.requires.writes [
  | inl fill ↦
      let earlier = past c.args.history.now in
      let p = point_of c.args.point.now in
      clash (buffer_is_resource earlier c.args.buffer (command_there earlier p c.is_judged.ensures.faultless (early_live earlier p c.requires.early) (early_range earlier p c.requires.early) (cmd.Fill c.args.buffer c.args.offset c.args.size fill.0) fill.1 c.args.buffer (contains-head _ []))) c.in-None.ensures.unmade
  | inr update ↦
      let earlier = past c.args.history.now in
      let p = point_of c.args.point.now in
      clash (buffer_is_resource earlier c.args.buffer (command_there earlier p c.is_judged.ensures.faultless (early_live earlier p c.requires.early) (early_range earlier p c.requires.early) (cmd.Update c.args.buffer c.args.offset update.0) update.1 c.args.buffer (contains-head _ []))) c.in-None.ensures.unmade
]
