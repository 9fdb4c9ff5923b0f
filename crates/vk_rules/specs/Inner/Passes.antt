-- Parts of what is reported of pools and passes, as single functions find them.
use Rattle.std.specs.Prelude.{◌≡◌, ℕ, true, Some, option_map}
use Rattle.vk_model.specs.declared.entry.Entry.{Entry}
use Rattle.vk_model.specs.declared.resource.Place.{Place}
use Rattle.vk_model.specs.Trace.Point.{Past}
use Rattle.vk_model.specs.Trace.Objects.{pool}
use Rattle.vk_model.specs.Rules.Passes.{upper_pool, pass_of, pool_of_defrag}
use Rattle.vk_rules.specs.declared.passes.Passing.{Passing}
use Rattle.vk_rules.specs.declared.pools.PoolAsked.{PoolAsked}
use Rattle.vk_rules.specs.declared.pools.PoolAsked.TheVariants as asked
use Rattle.vk_rules.specs.declared.pools.PoolUse.{PoolUse}
use Rattle.vk_rules.specs.Passes.{is_unable}

-- This pool can't do it.
abbrev pub IsUnable : Past → PoolAsked → ℕ → PoolUse → Type 0
IsUnable past n p m =
    (m.asked ≡ n) × (m.pool ≡ p) × (option_map (λ x. x.kind) (pool past p) ≡ Some m.kind) × (option_map (λ x. x.block_limit) (pool past p) ≡ Some m.block_limit)
    × (is_unable n m.kind m.block_limit ≡ true)

-- The pool of a place has no upper end.
abbrev pub IsUnableAt : Past → Place → PoolUse → Type 0
IsUnableAt past q m =
    (m.asked ≡ asked.UpperEnd) × (upper_pool q ≡ Some m.pool) × (option_map (λ x. x.kind) (pool past m.pool) ≡ Some m.kind) × (option_map (λ x. x.block_limit) (pool past m.pool) ≡ Some m.block_limit)
    × (is_unable m.asked m.kind m.block_limit ≡ true)

-- An entry begins or ends a pass of this defragmentation, which hasn't ended, and this is its pool.
abbrev pub IsPassing : Past → Entry → Passing → Type 0
IsPassing past x s = (pass_of x ≡ Some s.defrag) × (pool_of_defrag past s.defrag ≡ Some s.pool)
