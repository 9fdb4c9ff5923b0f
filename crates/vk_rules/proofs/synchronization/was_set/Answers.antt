use Rattle.std.proofs.Common.{◌∙◌, sym, ap}
use Rattle.std.specs.Prelude.{is_some}
use Rattle.vk_history.specs.PointViews.{past}
use Rattle.vk_history.specs.Tabled.{set_view}
use Rattle.vk_rules.proofs.Making.EventSets.{was_set, some_map}
use Rattle.vk_rules.proofs.synchronization.was_set.Goals as goal

pub returns : goal.returns
returns c = c.is_some.ensures ∙ sym (some_map set_view c.last_set.result) ∙ ap is_some c.last_set.ensures ∙ sym (was_set (past c.args.history.now) c.is_judged.ensures.faultless c.args.event)
