-- The bindings next to an offset, and what holds of all bindings of a memory object.
use Rattle.std.specs.Prelude.{◌≡◌, ℕ, ◌+◌, ◌<◌, ◌≤◌, List, Bool, false, Option, Some, None}
use Rattle.std.specs.Map.{lookup}
use Rattle.std.specs.Ordering.{nat_cmp}
use Rattle.std.specs.BTreeMap.{is_at}
use Rattle.vk_model.specs.declared.resource.Kind.{Kind}
use Rattle.vk_model.specs.Memory.Suballocation.{conflict}
use Rattle.vk_buffer.specs.declared.bindings.BoundResource.{BoundResource}
use Rattle.vk_buffer.specs.BoundMemory.{conflicts_with}

-- What is bound at an offset.
abbrev pub bound_at : List (ℕ × BoundResource) → ℕ → Option BoundResource
bound_at bound offset = lookup (is_at (nat_cmp offset)) bound

-- Each resource has bytes and lies in the object, and no two conflict.
pub record AreApart (size : ℕ) (bound : List (ℕ × BoundResource)) : Type 0 where
  pub some : (a : ℕ) (x : BoundResource) → bound_at bound a ≡ Some x → 0 < x.size
  pub inside : (a : ℕ) (x : BoundResource) → bound_at bound a ≡ Some x → a + x.size ≤ size
  pub apart : (a b : ℕ) (x y : BoundResource) → bound_at bound a ≡ Some x → bound_at bound b ≡ Some y → a < b → conflict x.kind a x.size y.kind b y.size ≡ false

-- The binding with the greatest offset that isn't above this one; none where there is no such.
abbrev pub IsLastUpTo : List (ℕ × BoundResource) → ℕ → Option (ℕ × BoundResource) → Type 0
IsLastUpTo bound offset None = (q : ℕ) → q ≤ offset → bound_at bound q ≡ None
IsLastUpTo bound offset (Some e) = (e.0 ≤ offset) × (bound_at bound e.0 ≡ Some e.1) × ((q : ℕ) → e.0 < q → q ≤ offset → bound_at bound q ≡ None)

-- The binding with the least offset above this one; none where there is no such.
abbrev pub IsFirstAfter : List (ℕ × BoundResource) → ℕ → Option (ℕ × BoundResource) → Type 0
IsFirstAfter bound offset None = (q : ℕ) → offset < q → bound_at bound q ≡ None
IsFirstAfter bound offset (Some e) = (offset < e.0) × (bound_at bound e.0 ≡ Some e.1) × ((q : ℕ) → offset < q → q < e.0 → bound_at bound q ≡ None)

-- Whether a range conflicts with that of a binding, where there is one.
abbrev pub conflicts_there : ℕ → ℕ → Kind → Option (ℕ × BoundResource) → Bool
conflicts_there offset size kind None = false
conflicts_there offset size kind (Some b) = conflicts_with offset size kind b
