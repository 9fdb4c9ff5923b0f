-- Of each byte of resources whether memory is behind by it, and how calls change that.
use Rattle.std.specs.Prelude.{◌≡◌, ◌≢◌, ℕ, List, [], Bool, true, ◌&&◌, ◌==◌, nat_lt, nat_le, if◌then◌else◌, Option, Some, None, length, unwrap_or, replicate, slice_index_or}
use Rattle.std.specs.Ordering.{nat_cmp}
use Rattle.std.specs.Map.{lookup}
use Rattle.std.specs.BTreeMap.{is_at}
use Rattle.vk_lag.specs.declared.late.Late.{Late}
use Rattle.vk_lag.specs.declared.late.Due.{Due}
use Rattle.vk_lag.specs.declared.late.Due.TheVariants as due

-- Of each byte of each resource, by the resource's id, whether it is late: a queue's cache holds its newest value, and memory still has another (Vulkan, "Execution and Memory Dependencies", on availability operations).
abbrev pub Lags : Type 0
Lags = List (ℕ × List (Option Late))

-- The same of a byte of one resource, counted from its first; none past the end.
abbrev pub late_in : List (Option Late) → ℕ → Option Late
late_in bytes k = slice_index_or bytes k None

-- The same of the bytes of a resource for which there is room; of none where the resource was not added.
abbrev pub resource_in : Lags → ℕ → List (Option Late)
resource_in lags id = unwrap_or (lookup (is_at (nat_cmp id)) lags) []

-- The same of byte k of a resource.
abbrev pub late_at : Lags → ℕ → ℕ → Option Late
late_at lags id k = late_in (resource_in lags id) k

-- What memory has of a byte of this newest value.
abbrev pub in_memory : ℕ → Option Late → ℕ
in_memory value None = value
in_memory value (Some late) = late.value

-- ---- which bytes

-- Whether byte k is one of those from byte `low` to before byte `high`.
abbrev pub is_between : ℕ → ℕ → ℕ → Bool
is_between low high k = nat_le low k && nat_lt k high

-- Whether memory catches up with a late byte: in submission order, where that counts (Vulkan, "Implicit Synchronization Guarantees").
abbrev pub is_due : Due → Late → Bool
is_due due.All late = true
is_due (due.Of q) late = late.writer.queue == q
is_due (due.Before w) late = late.writer.queue == w.queue && nat_lt late.writer.node w.node

-- ---- changes

-- A byte when memory has caught up with those that are due.
abbrev pub caught_up : Due → Option Late → Option Late
caught_up d None = None
caught_up d (Some late) = if is_due d late then None else Some late

-- Each byte of a resource becomes what the change makes of it, and no other byte changes; there is room for the same bytes.
pub record Changes (id : ℕ) (change : ℕ → Option Late → Option Late) (old new : Lags) : Type 0 where
  pub bytes : (k : ℕ) → late_at new id k ≡ change k (late_at old id k)
  pub others : (other : ℕ) → other ≢ id → resource_in new other ≡ resource_in old other
  pub room : length (resource_in new id) ≡ length (resource_in old id)

-- There is room for so many bytes of a resource, of which none is late, and all is as it was of others.
pub record IsRoomed (id size : ℕ) (old new : Lags) : Type 0 where
  pub resource : resource_in new id ≡ replicate size None
  pub others : (other : ℕ) → other ≢ id → resource_in new other ≡ resource_in old other

-- There is room for the same bytes, and the same are late.
abbrev pub IsSame : Lags → Lags → Type 0
IsSame old new = (id : ℕ) → resource_in new id ≡ resource_in old id
