-- What ranges of bytes remember after they were touched.
use Rattle.std.specs.Prelude.{◌≡◌, ◌≤◌, ◌<◌, ◌&&◌, ℕ, List, slice_get, Bool, nat_le, nat_lt, if◌then◌else◌, Some}
use Rattle.std.specs.List.{list_any}
use Rattle.vk_model.specs.declared.command.BufferCopy.{BufferCopy}
use Rattle.vk_model.specs.Basics.{holds, within}
use Rattle.vk_touches.specs.declared.touches.LastTouches.{LastTouches}
use Rattle.vk_touches.specs.declared.touches.Spot.{Spot}
use Rattle.vk_touches.specs.declared.touches.Touch.{Touch}
use Rattle.vk_touches.specs.Remembered.{with_touch, with_flush, with_transition, with_invalidation}

-- What a byte remembers, where one that passes a test was touched by the node of a spot.
abbrev pub touching : (ℕ → Bool) → Touch → Spot → ℕ → LastTouches → LastTouches
touching test way s k t = if test k then with_touch t way s else t

-- What a byte remembers, where the host entry of a spot has flushed one that passes a test.
abbrev pub flushing : (ℕ → Bool) → Spot → ℕ → LastTouches → LastTouches
flushing test s k t = if test k then with_flush t s else t

-- Whether a number is from one on and below another.
abbrev pub is_between : (low high : ℕ) → ℕ → Bool
is_between low high k = nat_le low k && nat_lt k high

-- What a byte remembers, where the layout transition of a spot has read and written one that passes a test.
abbrev pub transitioning : (ℕ → Bool) → Spot → ℕ → LastTouches → LastTouches
transitioning test s k t = if test k then with_transition t s else t

-- What a byte remembers, where a host entry has invalidated one that passes a test, and sees its last write by a command where another test says so.
abbrev pub invalidating : (ℕ → Bool) → (ℕ → Bool) → ℕ → LastTouches → LastTouches
invalidating test sees k t = if test k then with_invalidation t (sees k) else t

-- ---- invalidations

-- Whether a byte is remembered as one whose last invalidation sees its last write by a command.
abbrev pub sees_at : List LastTouches → ℕ → Bool
sees_at ts k = holds (slice_get ts k) (λ t. t.is_invalidated)

-- After the bytes from one on and below another were invalidated, of which what is remembered says whether their last writes are seen.
pub record AreInvalidated (sees : ℕ → Bool → LastTouches → Type 0) (old new : List LastTouches) (low high : ℕ) : Type 0 where
  pub further : low < high
  pub inside : (k : ℕ) (t : LastTouches) → low ≤ k → k < high → slice_get old k ≡ Some t → (answer : Bool) × (slice_get new k ≡ Some (with_invalidation t answer)) × sees k answer t
  pub before : (k : ℕ) → k < low → slice_get new k ≡ slice_get old k
  pub after : (k : ℕ) → high ≤ k → slice_get new k ≡ slice_get old k

-- ---- copies

-- Whether some region of a copy reads byte k.
abbrev pub reads_at : List BufferCopy → ℕ → Bool
reads_at gs k = list_any (λ g. within g.source_offset g.size k) gs

-- Whether some region of a copy writes byte k.
abbrev pub writes_at : List BufferCopy → ℕ → Bool
writes_at gs k = list_any (λ g. within g.destination_offset g.size k) gs
