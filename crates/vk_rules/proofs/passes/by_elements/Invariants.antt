use Rattle.std.proofs.Common.{◌≡◌, false, take}
use Rattle.std.specs.List.{list_any}
use Rattle.vk_model.specs.World.Bytes.{resource_at}
use Rattle.vk_model.specs.Rules.Passes.{moves_now}
use Rattle.vk_model.specs.Sync.Access.{transition_bytes}
use Rattle.vk_history.specs.PointViews.{past}
use Rattle.vk_rules.proofs.passes.by_elements.Given as goal

abbrev pub invariant-loop-element : goal.invariant-loop-element
invariant-loop-element l = list_any (λ e. list_any (λ b. moves_now (past l.history) (resource_at b)) (transition_bytes (past l.history) l.queue e)) (take l.element-index l.elements) ≡ false
