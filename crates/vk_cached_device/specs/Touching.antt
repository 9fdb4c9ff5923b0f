-- What the caches of queues do after a piece, and what memory is behind by then.
use Rattle.std.specs.Prelude.{ℕ, ◌+◌, ◌%◌, ◌==◌, List, [], ◌∷◌, length, Option, Some, None, zero, suc, slice_get}
use Rattle.std.specs.List.{fold}
use Rattle.vk_model.specs.declared.command.Cmd.{Cmd}
use Rattle.vk_model.specs.declared.entry.Entry.{Entry}
use Rattle.vk_model.specs.Sync.Node.{Act, Runs, Node}
use Rattle.vk_model.specs.Run.Runs.{Name, Step, RunPiece, Stage}
use Rattle.vk_model.specs.Run.Picks.{Take, Go, stepped, options, pick_of, held_after, held_after_step, most_picks}
use Rattle.vk_model.specs.Run.CachedRuns.{Touch, numbered, named_piece}
use Rattle.vk_model.specs.World.Bytes.{resource_at}
use Rattle.vk_model.specs.World.Ownership.{uses}
use Rattle.vk_laws.specs.DirectRuns.{HostMemory, memory_after_piece}
use Rattle.vk_cache_laws.specs.CachedPicks.{touch_of}
use Rattle.vk_cache_laws.specs.LateRuns.{Late, late_after_piece, late_after_nodes, late_after_touch}
use Rattle.vk_cached_device.specs.declared.device.CachedDevice.{CachedDevice}
use Rattle.vk_cached_device.specs.LedLate.{LedLate}

-- What memory is behind by when the cache of a queue has done so with some resources, one after another.
abbrev pub late_touched : Option Touch → ℕ → List ℕ → Late → Late
late_touched None q rs late = late
late_touched (Some touch) q rs late = fold (λ l r. late_after_touch touch q (λ c. resource_at c == r) l) late rs

-- The same when the caches of n queues, from queue q on, have done what a scheduler picks for each: nothing, or they write back, drop or load (profile).
abbrev pub late_picked : (List ℕ → ℕ → ℕ) → (List ℕ → ℕ → List ℕ) → (n q : ℕ) → List ℕ → List ℕ → Late → Late
late_picked answer next zero q rs held late = late
late_picked answer next (suc n) q rs held late = late_picked answer next n (q + 1) rs (next held 4) (late_touched (touch_of (answer held 4 % 4)) q rs late)

-- The resources that the command of a node uses.
abbrev pub used_by : Act → List ℕ
used_by (Runs c) = uses c
used_by _ = []

module _ (answer : List ℕ → ℕ → ℕ) (next : List ℕ → ℕ → List ℕ) where
  -- What memory holds and is behind by when a piece of a node's command has run, dependencies, waits and signals have happened that do then, and the caches of the four queues have done what a scheduler picks with the resources that the command uses (Vulkan, "Execution and Memory Dependencies", on availability operations; picks: profile).
  abbrev pub late_ran : Stage → Name → List ℕ → Option Node → HostMemory × Late → HostMemory × Late
  late_ran s x held None l = l
  late_ran s x held (Some n) l = (memory_after_piece (named_piece s.front.past x) l.0, late_picked answer next 4 0 (used_by n.act) held (late_after_nodes s (record s { done = x ∷ s.done }) (late_after_piece n (named_piece s.front.past x) l.0 l.1)))

  -- The same after any step before an entry: where a part is copied no byte changes (VMA, "Defragmentation").
  abbrev pub late_stepped : Stage → Step → List ℕ → HostMemory × Late → HostMemory × Late
  late_stepped s (RunPiece x) held l = late_ran s x held (numbered s.front.past x.0) l
  late_stepped s _ held l = l

  -- After the steps that a scheduler picks before an entry, until it picks the entry; `fuel` is at least how many there can be (profile).
  abbrev pub late_picks : ℕ → Stage → List ℕ → Entry → HostMemory × Late → HostMemory × Late
  late_picks zero s held x l = l
  late_picks (suc fuel) s held x l =
      let n = length (options answer next s x) in
      elim (slice_get (options answer next s x) (pick_of answer next held n)) [
        | None ↦ l
        | Some c ↦ elim c [
          | Go ↦ l
          | Take step ↦ late_picks fuel (stepped step s) (held_after_step answer next step (held_after answer next held n)) x (late_stepped s step (held_after answer next held n) l)
        ]
      ]

  -- After all of them.
  abbrev pub late_before_entry : Stage → List ℕ → Entry → HostMemory × Late → HostMemory × Late
  late_before_entry s held x l = late_picks (most_picks answer next s) s held x l

-- The cache of a queue has done so with some resources.
abbrev pub TouchesEach : Touch → ℕ → List ℕ → CachedDevice → CachedDevice → Type 0
TouchesEach touch queue rs old new =
    (t : List Entry) (steps : List Step) (s : Stage) (memory : HostMemory) (late : Late) → LedLate t steps s memory late old
    → LedLate t steps s memory (late_touched (Some touch) queue rs late) new

-- The cache of a queue has done, by an answer from 0 to 3, so with what a command uses.
abbrev pub TouchesBy : ℕ → ℕ → Cmd → CachedDevice → CachedDevice → Type 0
TouchesBy answer queue c old new =
    (t : List Entry) (steps : List Step) (s : Stage) (memory : HostMemory) (late : Late) → LedLate t steps s memory late old
    → LedLate t steps s memory (late_touched (touch_of answer) queue (uses c) late) new

-- The caches of the four queues have done what a scheduler picked.
abbrev pub TouchesNamed : (List ℕ → ℕ → ℕ) → (List ℕ → ℕ → List ℕ) → List ℕ → Cmd → CachedDevice → CachedDevice → Type 0
TouchesNamed answer next held c old new =
    (t : List Entry) (steps : List Step) (s : Stage) (memory : HostMemory) (late : Late) → LedLate t steps s memory late old
    → LedLate t steps s memory (late_picked answer next 4 0 (uses c) held late) new
