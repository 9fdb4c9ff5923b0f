use Rattle.std.proofs.Common.{◌≡◌}
use Rattle.std.specs.Prelude.{take}
use Rattle.vk_sync.specs.Ready.{ready}
use Rattle.vk_sync.proofs.ready.Ready.ready.Given as goal

abbrev pub invariant-loop-place : goal.invariant-loop-place
invariant-loop-place l = l.pieces.items ≡ take l.place (ready l.self)
