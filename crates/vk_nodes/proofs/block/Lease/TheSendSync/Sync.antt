use Rattle.core.specs.declared.alloc.Allocator.{Ghosts}
use denote.RattleType.{RattleType}
use denote.Param.Send.{IsSync}
use Rattle.vk_nodes.specs.contracts.block.Lease.{the_row}
use Rattle.vk_nodes.proofs.BlockCrossing.{lease_sync}

pub sync : (A : RattleType) (g : Ghosts A.Denot) → IsSync (the_row A g)
sync = lease_sync
