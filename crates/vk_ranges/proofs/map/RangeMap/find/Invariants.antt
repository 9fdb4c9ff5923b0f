use Rattle.std.proofs.Common.{false}
use Rattle.std.specs.Fn.{FnReturnsAt}
use Rattle.vk_ranges.specs.Overlaps.{pieces_left}
use Rattle.vk_ranges.proofs.Searching.{IsSearched}
use Rattle.vk_ranges.proofs.map.RangeMap.find.Given as goal

abbrev pub invariant-loop-run : goal.invariant-loop-run
invariant-loop-run g l = IsSearched l.self (λ value. FnReturnsAt g.F.Fn l.test value false) l.low l.high (pieces_left l.run-iterator)
