-- The values of ids.
use Rattle.std.specs.Prelude.{ℕ, slice_get, Option}
use Rattle.std.specs.Option.{unwrap_or}
use Rattle.std.specs.Ordering.{nat_cmp}
use Rattle.std.specs.BTreeMap.{get}
use Rattle.vk_ids.specs.declared.map.IdMap.{IdMap}

-- The value of an id: of one below the length of the list its member there. (profile)
abbrev pub value_of : {T : Type 0} → IdMap T → ℕ → Option T
value_of m id = unwrap_or (slice_get m.low.items id) (get nat_cmp m.high id)
