-- Fronts that are known by an id and a number.
use Rattle.std.specs.Prelude.{◌≡◌, ◌≤◌, ◌<◌, ℕ, Option, Some, None}
use Rattle.std.specs.Option.{option_and_then}
use Rattle.std.specs.Ordering.{nat_cmp}
use Rattle.std.specs.BTreeMap.{get}
use Rattle.vk_order.specs.declared.fronts.Front.{Front}
use Rattle.vk_order.specs.declared.keyed.Keyed.{Keyed}

-- The front of an id and a number.
abbrev pub front_at : Keyed → ℕ → ℕ → Option Front
front_at fronts id number = option_and_then (λ table. get nat_cmp table number) (get nat_cmp fronts.tables id)

-- The front of an id and the least number at or above v, if there is one.
abbrev pub IsLeastFront : Keyed → ℕ → ℕ → Option Front → Type 0
IsLeastFront fronts id v None = (u : ℕ) → v ≤ u → front_at fronts id u ≡ None
IsLeastFront fronts id v (Some f) = (u : ℕ) × (v ≤ u) × (front_at fronts id u ≡ Some f) × ((w : ℕ) → v ≤ w → w < u → front_at fronts id w ≡ None)
