-- What a scheduler picks before and with an entry, on a device whose queues have caches.
use Rattle.std.specs.Prelude.{◌≡◌, ℕ, List, [], ◌++◌, IsTrue}
use Rattle.vk_model.specs.declared.entry.Entry.{Entry}
use Rattle.vk_model.specs.declared.entry.Entry.TheVariants as entry
use Rattle.vk_model.specs.Run.Runs.{Step, Stage, may_go, applied}
use Rattle.vk_model.specs.Run.Picks.{before_entry, entry_picks}
use Rattle.vk_laws.specs.DirectRuns.{HostMemory}
use Rattle.vk_cache_laws.specs.LateRuns.{Late, late_after_entry, late_after_nodes}
use Rattle.vk_backing.specs.Passing.{Passing}
use Rattle.vk_resources.specs.declared.applied.Applied.{Applied}
use Rattle.vk_resources.specs.declared.applied.Applied.TheVariants as done
use Rattle.vk_device.specs.Led.{Reads}
use Rattle.vk_device.specs.Passes.{parts_begun}
use Rattle.vk_cached_device.specs.declared.device.CachedDevice.{CachedDevice}
use Rattle.vk_cached_device.specs.LedLate.{LedLate, IsBeforeLate}
use Rattle.vk_cached_device.specs.Touching.{late_before_entry}

-- What an entry reads is what the trace means there, whichever run led to the device (Vulkan, "Host Access to Device Memory Objects").
abbrev pub ReadsLate : Applied → Entry → CachedDevice → Type 0
ReadsLate a x old = (t : List Entry) (steps : List Step) (s : Stage) (memory : HostMemory) (late : Late) (xs : List Entry) → IsBeforeLate t steps s memory late x xs old → Reads a s x

-- The resources that memory catches up with at an entry: those that the pass moves that it begins (VMA, "Defragmentation").
abbrev pub moved_at : Entry → Passing → List ℕ
moved_at (entry.Pass d) p = p.moving
moved_at x p = []

-- The bytes that memory is behind by when an entry has been applied, with so many parts, and the dependencies, waits and signals have happened that do then: a pass writes back what it moves (Vulkan, "Execution and Memory Dependencies", on availability operations; VMA, "Defragmentation").
abbrev pub late_when_applied : Stage → ℕ → Passing → Entry → List Entry → Late → Late
late_when_applied s parts p x xs late = late_after_nodes s (applied s parts x xs) (late_after_entry (moved_at x p) x late)

module _ (answer : List ℕ → ℕ → ℕ) (next : List ℕ → ℕ → List ℕ) where
  -- What was picked before an entry has led to a device, what caches of queues do by themselves included, and the entry may be applied.
  abbrev pub PicksLate : List ℕ → Entry → CachedDevice → CachedDevice → List ℕ → Type 0
  PicksLate held x old new after =
      (t : List Entry) (steps : List Step) (s : Stage) (memory : HostMemory) (late : Late) (xs : List Entry) → IsBeforeLate t steps s memory late x xs old
      → let p = before_entry answer next s held x in let l = late_before_entry answer next s held x (memory, late) in LedLate t (steps ++ p.steps) p.stage l.0 l.1 new × (after ≡ p.held) × IsTrue (may_go p.stage x)

  -- What was picked before and with an entry has led to a device: memory is behind then by what it was behind by after the steps before the entry, but for what the entry, and what happens with it, makes available; where a resource is made any bytes may be. Where there was no room what was picked before it alone has led there (profile).
  abbrev pub LedByEntry : Applied → List Entry → List Step → Stage → HostMemory → Late → List ℕ → Entry → List Entry → CachedDevice → List ℕ → Type 0
  LedByEntry done.NoRoom t steps s memory late held x xs new after =
      let p = before_entry answer next s held x in
      let l = late_before_entry answer next s held x (memory, late) in
      LedLate t (steps ++ p.steps) p.stage l.0 l.1 new × (after ≡ p.held)
  LedByEntry _ t steps s memory late held x xs new after =
      let parts = parts_begun new.device.passes x in
      let p = entry_picks answer next parts s held x xs in
      let l = late_before_entry answer next s held x (memory, late) in
      (m : HostMemory) × LedLate t (steps ++ p.steps) p.stage m (late_when_applied (before_entry answer next s held x).stage parts new.device.passes x xs l.1) new × (after ≡ p.held)

  -- An entry was applied so, whichever run led to the device before.
  abbrev pub AppliesLate : Applied → List ℕ → Entry → CachedDevice → CachedDevice → List ℕ → Type 0
  AppliesLate a held x old new after =
      (t : List Entry) (steps : List Step) (s : Stage) (memory : HostMemory) (late : Late) (xs : List Entry) → IsBeforeLate t steps s memory late x xs old
      → LedByEntry a t steps s memory late held x xs new after
