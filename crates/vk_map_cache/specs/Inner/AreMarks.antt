-- What holds of the fields of the marks of an object.
use Rattle.std.specs.Prelude.{◌≡◌, ◌<◌, ◌≤◌, ◌*◌, ◌/◌, ℕ, length, Some, None, slice_index_or, vec_capacity}
use Rattle.vk_map_cache.specs.declared.mark.Mark.{Mark}
use Rattle.vk_map_cache.specs.declared.marks.Marks.TheInside.{Inside}
use Rattle.vk_map_cache.specs.Inner.Marks.{mark_at}

pub record AreMarks (m : Inside) : Type 0 where
  -- no more of them were reached than there are
  pub within : length m.marks.items ≤ m.size
  -- there is room for all
  pub room : m.size ≤ vec_capacity m.marks
  -- each byte is of a chunk
  pub chunks : m.size < 4096 * length m.alike.items
  -- where a chunk has one mark, its bytes have it
  pub alike : (k : ℕ) (mark : Mark) → k < m.size → slice_index_or m.alike.items (k / 4096) None ≡ Some mark → mark_at m.marks.items k ≡ mark
