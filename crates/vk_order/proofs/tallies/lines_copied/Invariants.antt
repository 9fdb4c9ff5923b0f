use Rattle.std.proofs.Common.{◌≡◌, take}
use Rattle.vk_order.specs.Inner.Tallies.{lines_of}
use Rattle.vk_order.proofs.tallies.lines_copied.Given as goal

abbrev pub invariant-loop-tally : goal.invariant-loop-tally
invariant-loop-tally l = l.lines.items ≡ lines_of (take l.tally-index l.tallies)
