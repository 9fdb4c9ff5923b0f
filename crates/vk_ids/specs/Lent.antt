-- What a map ends as, where a `&mut` to a value of it is returned.
use Rattle.std.specs.Prelude.{◌≡◌, ◌==◌, ℕ, Option, Some, OnSome, if◌then◌else◌}
use Rattle.std.specs.Borrow.{LendsSo, Fml, RattleType, MutBor}
use Rattle.vk_ids.specs.Ids.{value_of}
use Rattle.vk_ids.specs.contracts.map.IdMap.{the_row}
use Rattle.vk_ids.specs.declared.map.IdMap.{IdMap}

-- Once the borrow r ends, the id has the last value written through r, and others have those that they had; at `None` all have those that they had.
abbrev pub lends_at : (T : RattleType) → MutBor (IdMap T.Denot) → ℕ → Option (MutBor T.Denot) → Fml
lends_at T m id r = LendsSo (the_row T) T m r
    (λ n w. OnSome r ((other : ℕ) → value_of n other ≡ (if other == id then Some w else value_of m.now other)))
    (λ n. (other : ℕ) → value_of n other ≡ value_of m.now other)
