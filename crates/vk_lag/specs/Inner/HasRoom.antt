-- What holds of the fields of chunks.
use Rattle.std.specs.Prelude.{◌≤◌, ◌*◌, length, vec_capacity}
use Rattle.vk_lag.specs.declared.chunks.Chunks.TheInside.{Inside}

pub record HasRoom (c : Inside) : Type 0 where
  -- there is a mark for each byte's chunk
  pub marks : c.size ≤ 2048 * length c.marks.items
  -- there is room for the value and the writer of each byte
  pub values : c.size ≤ vec_capacity c.values
  pub writers : c.size ≤ vec_capacity c.writers
