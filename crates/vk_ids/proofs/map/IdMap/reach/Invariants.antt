use Rattle.std.proofs.Common.{◌≡◌, ℕ, length}
use Rattle.vk_ids.specs.Ids.{value_of}
use Rattle.vk_ids.proofs.map.IdMap.reach.Given as goal

abbrev pub invariant-loop-next : goal.invariant-loop-next
invariant-loop-next g l = (length l.self.low.items ≡ l.next) × ((other : ℕ) → value_of l.self other ≡ value_of l.fn.self other)
