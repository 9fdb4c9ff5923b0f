use Rattle.std.proofs.Common.{◌-◌, length}
use Rattle.vk_sync.proofs.LeftLemmas.{IsSought}
use Rattle.vk_sync.proofs.flags.PieceFlags.nth.Given as goal

abbrev pub invariant-loop-rest : goal.invariant-loop-rest
invariant-loop-rest l = IsSought l.self-inside.flags.items l.place l.piece l.rest

abbrev pub decreases-loop-rest : goal.decreases-loop-rest
decreases-loop-rest l = length l.self-inside.flags.items - l.piece
