use Rattle.std.proofs.Common.{◌≡◌, ◌+◌, ℕ, take}
use Rattle.vk_history.specs.Counted.{count_at}
use Rattle.vk_history.specs.Uses.{times_of}
use Rattle.vk_history.proofs.used.count_commands.Given as goal

abbrev pub invariant-loop-command : goal.invariant-loop-command
invariant-loop-command l = (r : ℕ) → count_at l.counts r ≡ count_at l.fn.counts r + times_of r (take l.command-index l.commands)
