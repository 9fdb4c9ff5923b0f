-- What holds of the fields of a store.
use Rattle.std.specs.Prelude.{◌≡◌, length}
use Rattle.vk_nodes.specs.declared.store.Store.TheInside.{Inside}

pub record IsStore (s : Inside) : Type 0 where
  -- the block has the records
  pub long : length s.block.slots ≡ s.block.size
  -- the lease is that of the block
  pub lease : (s.lease.alloc ≡ s.alloc) × (s.lease.start ≡ s.block.start) × (s.lease.size ≡ s.block.size)
