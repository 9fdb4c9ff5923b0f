use Rattle.std.proofs.Common.{◌≡◌, ◌<◌, ℕ}
use Rattle.vk_sync.specs.Inner.Boards.{IsLooseBoard}
use Rattle.vk_sync.specs.Inner.Fronts.{IsDone, IsFree}
use Rattle.vk_sync.proofs.board.Board.settle.Given as goal

abbrev pub invariant-loop-each : goal.invariant-loop-each
invariant-loop-each l = IsLooseBoard l.self × (l.self.commands ≡ l.fn.self.commands) × ((q : ℕ) → q < 4 → IsDone l.self.commands.items l.self.done q) × ((q : ℕ) → q < l.each → IsFree l.self.commands.items l.self.done l.self.free q)
