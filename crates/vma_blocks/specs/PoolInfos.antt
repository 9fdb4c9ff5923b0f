-- What a pool may be made with.
use Rattle.std.specs.Prelude.{◌≡◌, ◌%◌, ◌^◌, ◌<◌}
use Rattle.vk_model.specs.declared.resource.PoolInfo.{PoolInfo}

-- Blocks of some bytes, in units of 16 (profile).
pub record IsPoolInfo (info : PoolInfo) : Type 0 where
  pub some : 0 < info.block_size
  pub units : info.block_size % 16 ≡ 0
  pub small : info.block_size < 2 ^ 40
