use Rattle.std.proofs.Common.{◌≡◌, take}
use Rattle.vk_backing.proofs.Numbers.{AreForgotten}
use Rattle.vk_backing.proofs.backing.Backing.forget.Given as goal

abbrev pub invariant-loop-id : goal.invariant-loop-id
invariant-loop-id l = record {
  owned : l.self-inside.owned.entries ≡ l.fn.self.owned;
  pools : l.self-inside.pools ≡ l.fn.self.pools;
  numbers : l.self-inside.numbers.entries ≡ l.fn.self.numbers;
  forgotten : AreForgotten l.fn.self.allocations l.self-inside.allocations.entries (take l.id-index l.ids);
}
