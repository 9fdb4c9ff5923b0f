use denote.Param.Send.{IsSend}
use Rattle.vk_nodes.specs.contracts.block.Block.{the_row}
use Rattle.vk_nodes.proofs.BlockCrossing.{block_send}

pub send : IsSend the_row
send = block_send
