-- Parts of what is reported of memory types and sizes, as single functions find them.
use Rattle.std.specs.Prelude.{◌≡◌, ℕ, ◌*◌, ◌<◌, Some, option_map}
use Rattle.vk_model.specs.declared.resource.Place.{Place}
use Rattle.vk_model.specs.Trace.Point.{Past}
use Rattle.vk_model.specs.Trace.Objects.{pool, pool_at}
use Rattle.vk_rules.specs.declared.memories.OverHalf.{OverHalf}

-- So many bytes are asked for at a place in a pool, and they are more than half a block.
abbrev pub IsOverHalfOf : Past → Place → ℕ → OverHalf → Type 0
IsOverHalfOf past q n m = (pool_at q ≡ Some m.pool) × (m.need ≡ n) × (option_map (λ p. p.block_size) (pool past m.pool) ≡ Some m.block_size) × (m.block_size < 2 * m.need)
