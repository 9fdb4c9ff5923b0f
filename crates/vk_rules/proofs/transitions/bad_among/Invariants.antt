use Rattle.std.proofs.Common.{◌≡◌, false, take}
use Rattle.std.specs.List.{list_any}
use Rattle.vk_model.specs.Rules.Layouts.{bad_transition}
use Rattle.vk_rules.proofs.transitions.bad_among.Given as goal

abbrev pub invariant-loop-index : goal.invariant-loop-index
invariant-loop-index l = list_any bad_transition (take l.index l.elements) ≡ false
