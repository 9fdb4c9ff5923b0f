-- A broken trace and its corrected trace for each rule from RANGE to OWNER_PAIR.
use Rattle.vk_model.specs.declared.rule.Rule.TheVariants as rule
use Rattle.vk_model.specs.declared.rule.At.TheVariants as at
use Rattle.vk_rows.specs.Claims.{BreaksOnly, BreaksNothing}
use Rattle.vk_rows.specs.TracesOfCommands as trace

-- A broken trace and its corrected trace for each rule from RANGE to OWNER_PAIR: the one breaks just that rule at one point, the other breaks nothing.
pub record RulesOfCommands : Type 0 where
  pub range : BreaksOnly trace.range (at.Entry 2) rule.Range
  pub range_corrected : BreaksNothing trace.range_corrected
  pub align : BreaksOnly trace.align (at.Command 1 0 0) rule.Align
  pub align_corrected : BreaksNothing trace.align_corrected
  pub overlap : BreaksOnly trace.overlap (at.Command 1 0 0) rule.Overlap
  pub overlap_corrected : BreaksNothing trace.overlap_corrected
  pub format : BreaksOnly trace.format (at.Command 2 0 1) rule.Format
  pub format_corrected : BreaksNothing trace.format_corrected
  pub subresource : BreaksOnly trace.subresource (at.Command 1 0 0) rule.Subresource
  pub subresource_corrected : BreaksNothing trace.subresource_corrected
  pub stage : BreaksOnly trace.stage (at.Command 0 0 0) rule.Stage
  pub stage_corrected : BreaksNothing trace.stage_corrected
  pub layout : BreaksOnly trace.layout (at.Command 1 0 0) rule.Layout
  pub layout_corrected : BreaksNothing trace.layout_corrected
  pub old_layout : BreaksOnly trace.old_layout (at.Command 1 0 0) rule.OldLayout
  pub old_layout_corrected : BreaksNothing trace.old_layout_corrected
  pub owner_whole : BreaksOnly trace.owner_whole (at.Command 1 0 0) rule.OwnerWhole
  pub owner_whole_corrected : BreaksNothing trace.owner_whole_corrected
  pub owner_pair : BreaksOnly trace.owner_pair (at.Command 2 0 0) rule.OwnerPair
  pub owner_pair_corrected : BreaksNothing trace.owner_pair_corrected
