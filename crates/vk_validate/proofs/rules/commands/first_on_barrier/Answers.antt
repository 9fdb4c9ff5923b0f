use Rattle.std.proofs.Common.{◌∙◌, List, [], ◌∷◌, Bool}
use Rattle.vk_model.specs.declared.rule.Rule.{Rule}
use Rattle.vk_model.specs.declared.rule.Rule.TheVariants as rule
use Rattle.vk_model.specs.Rules.Table.{breaks}
use Rattle.vk_model.specs.Trace.PointViews.{point_of}
use Rattle.vk_history.specs.PointViews.{past}
use Rattle.vk_validate.specs.Inner.Early.{breaks_early}
use Rattle.vk_validate.proofs.Judging.Rules.{AreTests, tests_found}
use Rattle.vk_validate.proofs.rules.commands.first_on_barrier.Goals as goal

pub returns : goal.returns
unfolding breaks_early breaks
returns c =
    let test : Rule → Bool = λ r. breaks_early r (past c.args.history.now) (point_of c.args.point.now) in
    let tests : List (Rule × Bool) = (rule.LiveId, c.breaks_live_id.result) ∷ (rule.Size, c.breaks_size.result) ∷ (rule.Usage, c.breaks_usage.result) ∷ (rule.Range, c.breaks_range.result) ∷ (rule.Overlap, c.args.searched.is_overlapping) ∷ (rule.Subresource, c.breaks_subresource.result) ∷ (rule.Stage, c.breaks_stage.result) ∷ (rule.Layout, c.breaks_layout.result) ∷ (rule.OldLayout, c.breaks_old_layout.result) ∷ (rule.OwnerWhole, c.breaks_owner_whole.result) ∷ (rule.OwnerPair, c.args.searched.is_unpaired) ∷ (rule.SignalOrder, c.args.searched.is_unordered) ∷ (rule.PassWrite, c.breaks_pass_write.result) ∷ [] in
    let are : AreTests test tests = (c.breaks_live_id.ensures, (c.breaks_size.ensures, (c.breaks_usage.ensures, (c.breaks_range.ensures, (c.requires.searched.overlapping, (c.breaks_subresource.ensures, (c.breaks_stage.ensures, (c.breaks_layout.ensures, (c.breaks_old_layout.ensures, (c.breaks_owner_whole.ensures, (c.requires.searched.unpaired, (c.requires.searched.unordered, (c.breaks_pass_write.ensures, tt))))))))))))) in
    c.first_broken.ensures ∙ tests_found test tests are
