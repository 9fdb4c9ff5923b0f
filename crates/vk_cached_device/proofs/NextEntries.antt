-- The next entry is applied at once, with all that happens then.
use Rattle.std.proofs.Common.{◌≡◌, ℕ, List, [], ◌∷◌, ◌++◌, refl, sym, arith, IsTrue}
use Rattle.vk_model.specs.declared.entry.Entry.{Entry}
use Rattle.vk_model.specs.Run.Runs.{Step, Stage, Apply, applied}
use Rattle.vk_model.specs.Run.Picks.{atom_picks}
use Rattle.vk_model.specs.Run.Runs.{atom_count}
use Rattle.vk_laws.specs.DirectRuns.{HostMemory}
use Rattle.vk_cache_laws.specs.LateRuns.{Late}
use Rattle.vk_resources.specs.declared.applied.Applied.{Applied}
use Rattle.vk_resources.specs.declared.applied.Applied.TheVariants as done
use Rattle.vk_device.specs.declared.device.Device.{Device}
use Rattle.vk_device.specs.Passes.{parts_begun}
use Rattle.vk_cached_device.specs.declared.device.CachedDevice.{CachedDevice}
use Rattle.vk_cached_device.specs.LedLate.{LedLate}
use Rattle.vk_cached_device.specs.Applies.{late_when_applied}
use Rattle.vk_cached_device.specs.Inner.{PlainEntry, PlainBy, LedByNext}

module _ (answer : List ℕ → ℕ → ℕ) (next : List ℕ → ℕ → List ℕ) where
  -- where there was room the entry was applied
  pub was_entry : (a : Applied) → (a ≡ done.NoRoom → ⊥) → {t : List Entry} {steps : List Step} {s : Stage} {held : List ℕ} {x : Entry} {xs : List Entry} {old new : Device} {after : List ℕ} → PlainBy answer next a t steps s held x xs old new after → PlainEntry answer next t steps s held x xs old new after
  was_entry done.NoRoom other by = absurd (other refl)
  was_entry done.Done other by = by
  was_entry (done.Bytes b) other by = by

  pub led_next : (a : Applied) → (a ≡ done.NoRoom → ⊥) → (t : List Entry) (steps : List Step) (s : Stage) (memory : HostMemory) (late : Late) (held : List ℕ) (x : Entry) (xs : List Entry) (new : CachedDevice) (after : List ℕ) (m : HostMemory)
      → LedLate t (steps ++ Apply (atom_picks answer next (atom_count s.front.past x) 0 held).0 (parts_begun new.device.passes x) ∷ []) (applied s (parts_begun new.device.passes x) x xs) m (late_when_applied s (parts_begun new.device.passes x) new.device.passes x xs late) new
      → after ≡ (atom_picks answer next (atom_count s.front.past x) 0 held).1 → LedByNext answer next a t steps s memory late held x xs new after
  led_next done.NoRoom other t steps s memory late held x xs new after m by is = absurd (other refl)
  led_next done.Done other t steps s memory late held x xs new after m by is = (m, by, is)
  led_next (done.Bytes b) other t steps s memory late held x xs new after m by is = (m, by, is)
