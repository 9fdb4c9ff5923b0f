use Rattle.std.proofs.Common.{◌≡◌, map, take}
use Rattle.vma_pools.specs.Inner.Listed.{resident}
use Rattle.vma_pools.specs.Inner.Numbers.{residents_at}
use Rattle.vma_pools.proofs.listing.listed_in.Given as goal

abbrev pub invariant-loop-number : goal.invariant-loop-number
invariant-loop-number l = map resident l.found.items ≡ residents_at l.pool l.allocations (take l.number-index l.numbers)
