use Rattle.core.specs.declared.alloc.Allocator.{Ghosts}
use denote.RattleType.{RattleType}
use denote.Param.Send.{IsSend, Frees}
use Rattle.vk_nodes.specs.contracts.block.Lease.{the_row}
use Rattle.vk_nodes.proofs.BlockCrossing.{lease_send}

pub send : (A : RattleType) (g : Ghosts A.Denot) → IsSend A → Frees g g.dealloc_token → IsSend (the_row A g)
send A g s = lease_send A g
