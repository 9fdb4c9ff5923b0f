use Rattle.std.proofs.Common.{◌≡◌, [], ap}
use Rattle.std.proofs.lemmas.Result.{IfOk-weaker}
use Rattle.vk_model.specs.Memory.Room.{General}
use Rattle.vma_tlsf.specs.Block.{Block}
use Rattle.vma_blocks.specs.Blocks.{general_block}
use Rattle.vma_blocks.proofs.general.make.Goals as goal

pub returns-then-info-eq-MIXED_TYPE : goal.returns-then-info-eq-MIXED_TYPE
returns-then-info-eq-MIXED_TYPE c =
    IfOk-weaker c.mixed.result (λ (b : Block). b ≡ record { size = c.args.info.block_size; taken = [] }) (λ b. general_block b ≡ General c.args.info.block_size [])
    (λ b e. ap general_block e) c.mixed.ensures

pub returns-else-info-eq-MIXED_TYPE : goal.returns-else-info-eq-MIXED_TYPE
returns-else-info-eq-MIXED_TYPE c =
    IfOk-weaker c.new.result (λ (b : Block). b ≡ record { size = c.args.info.block_size; taken = [] }) (λ b. general_block b ≡ General c.args.info.block_size [])
    (λ b e. ap general_block e) c.new.ensures
