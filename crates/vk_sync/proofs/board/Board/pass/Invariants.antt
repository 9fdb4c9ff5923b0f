use Rattle.std.proofs.Common.{◌≡◌, ◌-◌}
use Rattle.std.specs.Prelude.{slice_index}
use Rattle.vk_sync.specs.Ready.{count_on}
use Rattle.vk_sync.specs.Inner.Boards.{IsLooseBoard, AreDoneBut}
use Rattle.vk_sync.proofs.board.Board.pass.Given as goal

abbrev pub invariant-loop-self : goal.invariant-loop-self
invariant-loop-self l = IsLooseBoard l.self × AreDoneBut l.queue l.self × (l.self.commands ≡ l.initial.self.commands)

abbrev pub decreases-loop-self : goal.decreases-loop-self
decreases-loop-self l = count_on l.queue l.self.commands.items - slice_index l.self.done l.queue
