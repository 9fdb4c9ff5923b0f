use Rattle.std.proofs.Common.{◌≡◌, ◌≢◌, ◌-◌, ℕ}
use Rattle.std.specs.Prelude.{slice_index}
use Rattle.vk_sync.specs.Ready.{count_on}
use Rattle.vk_sync.specs.Inner.Boards.{IsLooseBoard}
use Rattle.vk_sync.proofs.board.Board.count_free.Given as goal

abbrev pub invariant-loop-number : goal.invariant-loop-number
invariant-loop-number l = IsLooseBoard l.self × (l.self.commands ≡ l.initial.self.commands) × (l.self.done ≡ l.initial.self.done) × ((q : ℕ) → q ≢ l.queue → slice_index l.self.free q ≡ slice_index l.initial.self.free q)

abbrev pub decreases-loop-number : goal.decreases-loop-number
decreases-loop-number l = count_on l.queue l.self.commands.items - slice_index l.self.free l.queue
