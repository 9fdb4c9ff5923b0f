use Rattle.std.proofs.Common.{◌∙◌, sym}
use Rattle.vk_model.specs.Rules.Ids.{is_dead, judged_in}
use Rattle.vk_model.specs.Trace.PointViews.{point_of}
use Rattle.vk_history.specs.PointViews.{past}
use Rattle.vk_rules.proofs.Judging.Named.{elements_dead}
use Rattle.vk_rules.proofs.ids.command_names_dead.Goals as goal

pub returns-in-Barrier : goal.returns-in-Barrier
returns-in-Barrier c = let v = c.in-Barrier in rw v.is (c.has_dead_element.ensures ∙ rw c.as_slice.ensures (sym (elements_dead (is_dead (judged_in (past c.args.history.now) (point_of c.args.point.now))) v.elements)))
