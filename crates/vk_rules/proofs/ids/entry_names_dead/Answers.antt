use Rattle.std.proofs.Common.{◌∙◌, ◌||◌, sym, ap}
use Rattle.vk_model.specs.declared.entry.SemaphoreValue.{SemaphoreValue}
use Rattle.vk_model.specs.Rules.Ids.{is_dead, judged_in, is_semaphore, is_defrag, is_resource}
use Rattle.vk_model.specs.Trace.PointViews.{point_of}
use Rattle.vk_history.specs.PointViews.{past}
use Rattle.vk_rules.proofs.Judging.Named.{each_dead, all_dead}
use Rattle.vk_rules.proofs.ids.entry_names_dead.Goals as goal

pub returns-in-Wait : goal.returns-in-Wait
returns-in-Wait c = let v = c.in-Wait in rw v.is (c.waits_for_dead.ensures ∙ rw c.as_slice.ensures (sym (each_dead (is_dead (judged_in (past c.args.history.now) (point_of c.args.point.now))) (λ (w : SemaphoreValue). w.semaphore) is_semaphore v.waits)))

pub returns-in-EndPass : goal.returns-in-EndPass
returns-in-EndPass c =
    let v = c.in-EndPass in
    let judged = judged_in (past c.args.history.now) (point_of c.args.point.now) in
    rw v.is (c.ends_dead.ensures ∙ rw (c.as_slice-in-EndPass.ensures, c.as_slice-in-EndPass-2.ensures) (ap (λ b. is_dead judged (v.defrag, is_defrag) || b) (sym (all_dead (is_dead judged) is_resource v.ignored v.destroyed))))
