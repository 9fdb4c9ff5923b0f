-- The same, of a board.
use Rattle.std.specs.Prelude.{ℕ, ◌≢◌, ◌<◌}
use Rattle.vk_sync.specs.declared.board.Board.{Board}
use Rattle.vk_sync.specs.Inner.Fronts.{IsLoose, AreFronts, IsDone}

-- What holds of a board while a queue may have to be moved on. (profile)
abbrev pub IsLooseBoard : Board → Type 0
IsLooseBoard b = IsLoose b.commands.items b.lines b.done b.free b.counts

-- All queues of a board have come as far as they can. (profile)
abbrev pub IsBoard : Board → Type 0
IsBoard b = AreFronts b.commands.items b.lines b.done b.free b.counts

-- All queues but one have moved past all commands that are finished. (profile)
abbrev pub AreDoneBut : ℕ → Board → Type 0
AreDoneBut queue b = (q : ℕ) → q < 4 → q ≢ queue → IsDone b.commands.items b.done q
