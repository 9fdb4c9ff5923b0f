use denote.Param.Send.{IsSync}
use Rattle.vk_nodes.specs.contracts.block.Block.{the_row}
use Rattle.vk_nodes.proofs.BlockCrossing.{block_sync}

pub sync : IsSync the_row
sync = block_sync
