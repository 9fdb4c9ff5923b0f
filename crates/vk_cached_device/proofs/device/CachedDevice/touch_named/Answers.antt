use Rattle.std.proofs.Common.{◌%◌, ℕ, List, ap, sym, ◌∙◌, subst}
use Rattle.vk_cached_device.specs.Touching.{TouchesBy}
use Rattle.vk_cached_device.proofs.device.CachedDevice.touch_named.Goals as goal

pub returns-clause-touched : goal.returns-clause-touched
returns-clause-touched g c t steps s memory late led =
    let one = c.touch_by.ensures.held in
    let two = c.touch_by-2.ensures.held ∙ ap (λ (h : List ℕ). g.S.Scheduler.next h 4) one in
    let three = c.touch_by-3.ensures.held ∙ ap (λ (h : List ℕ). g.S.Scheduler.next h 4) two in
    subst (λ (h : List ℕ). TouchesBy (g.S.Scheduler.answer h 4 % 4) 3 c.args.command.now c.touch_by-3.new.self c.touch_by-4.new.self) three c.touch_by-4.ensures.touched t steps s memory _
    (subst (λ (h : List ℕ). TouchesBy (g.S.Scheduler.answer h 4 % 4) 2 c.args.command.now c.touch_by-2.new.self c.touch_by-3.new.self) two c.touch_by-3.ensures.touched t steps s memory _
    (subst (λ (h : List ℕ). TouchesBy (g.S.Scheduler.answer h 4 % 4) 1 c.args.command.now c.touch_by.new.self c.touch_by-2.new.self) one c.touch_by-2.ensures.touched t steps s memory _
    (c.touch_by.ensures.touched t steps s memory late led)))
