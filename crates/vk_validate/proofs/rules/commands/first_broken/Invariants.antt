use Rattle.std.proofs.Common.{◌≡◌, drop}
use Rattle.std.specs.List.{find}
use Rattle.vk_validate.proofs.rules.commands.first_broken.Given as goal

abbrev pub invariant-loop-rule : goal.invariant-loop-rule
invariant-loop-rule l = find (λ t. t.1) (drop l.rule-index l.tests) ≡ find (λ t. t.1) l.tests
