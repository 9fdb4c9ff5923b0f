-- What holds of the fields of a region.
use Rattle.std.specs.Prelude.{◌<◌, ◌≤◌, length, vec_capacity}
use Rattle.vk_heap.specs.declared.region.Region.TheInside.{Inside}

pub record IsRegion (r : Inside) : Type 0 where
  -- there are some bytes
  pub some : 0 < r.size
  -- no more of them were touched than there are
  pub within : length r.bytes.items ≤ r.size
  -- there is room for all
  pub room : r.size ≤ vec_capacity r.bytes
