use Rattle.std.proofs.Common.{◌≡◌, ◌++◌, ◌==◌, ◌%◌, ℕ, List, Option, Some, ap, sym, ◌∙◌, subst}
use Rattle.std.specs.Prelude.{option_map}
use Rattle.std.proofs.lemmas.List.Sums.{fold-append}
use Rattle.vk_model.specs.Basics.{option_list}
use Rattle.vk_model.specs.World.Bytes.{resource_at}
use Rattle.vk_model.specs.World.Ownership.{uses}
use Rattle.vk_model.specs.Run.CachedRuns.{Touch}
use Rattle.vk_cache_laws.specs.CachedPicks.{touch_of}
use Rattle.vk_cache_laws.specs.LateRuns.{Late, late_after_touch}
use Rattle.vk_cached_device.specs.declared.steps.Touch as act
use Rattle.vk_cached_device.specs.LedLate.{LedLate, act_of}
use Rattle.vk_cached_device.specs.Touching.{late_touched}
use Rattle.vk_cached_device.proofs.device.CachedDevice.touch_by.Goals as goal

pub returns-in-Some-clause-touched : goal.returns-in-Some-clause-touched
returns-in-Some-clause-touched g c t steps s memory late led =
    let touch = ap (λ (n : ℕ). touch_of (n % 4)) (sym c.pick.ensures.answer) ∙ c.picked_touch.ensures ∙ ap (λ (o : Option act.Touch). option_map act_of o) c.in-Some.is in
    subst (λ (o : Option Touch). LedLate t steps s memory (late_touched o c.args.queue (uses c.args.command.now) late) c.touch_some-in-Some.new.self) (sym touch)
    (subst (λ (rs : List ℕ). LedLate t steps s memory (late_touched (Some (act_of c.in-Some.act)) c.args.queue rs late) c.touch_some-in-Some.new.self) (sym c.used-first.ensures)
    (subst (λ (l : Late). LedLate t steps s memory l c.touch_some-in-Some.new.self)
    (sym (fold-append (λ l r. late_after_touch (act_of c.in-Some.act) c.args.queue (λ b. resource_at b == r) l) late (option_list c.used-first.result.0) (option_list c.used-first.result.1)))
    (c.touch_some-in-Some.ensures.touched t steps s memory _ (c.touch_some.ensures.touched t steps s memory late led))))
