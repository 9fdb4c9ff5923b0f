-- What a scheduler picks on a device whose queues each keep a write-back cache: steps, and what the caches do after each piece.
use Rattle.std.specs.Prelude.{◌≡◌, ℕ, zero, suc, ◌+◌, ◌%◌, List, [], ◌∷◌, ◌++◌, map, length, ◌==◌, if◌then◌else◌, Option, Some, None, slice_get}
use Rattle.vk_model.specs.declared.entry.Entry.{Entry}
use Rattle.vk_model.specs.Basics.{among, holds}
use Rattle.vk_model.specs.Trace.Point.{Past}
use Rattle.vk_model.specs.World.Bytes.{Byte, resource_at}
use Rattle.vk_model.specs.Rules.Table.{first_fault}
use Rattle.vk_model.specs.Sync.Complete.{named_by_act}
use Rattle.vk_model.specs.Run.Runs.{Name, Step, Apply, RunPiece, Stage, start, atom_count, applied}
use Rattle.vk_model.specs.Run.Picks.{Take, Go, Picked, trace_picks, stepped, options, pick_of, held_after, most_picks, atom_picks}
use Rattle.vk_model.specs.Run.CachedRuns.{Cells, numbered, Touch, WriteBack, Drop, Load, CachedStep, Does, Touches}
use Rattle.vk_laws.specs.CachedRuns.{CachedRunOf, steps_of}
use Rattle.vk_laws.specs.DefinedRuns.{RunOf}

-- What a queue's cache does by an answer from 0 to 3: nothing, or it writes back, drops or loads (profile).
abbrev pub touch_of : ℕ → Option Touch
touch_of zero = None
touch_of (suc zero) = Some WriteBack
touch_of (suc (suc zero)) = Some Drop
touch_of n = Some Load

-- The items of a list that aren't among these, each once, where it stands first.
abbrev pub others : List ℕ → List ℕ → List ℕ
others seen [] = []
others seen (r ∷ rs) = if among r seen then others seen rs else r ∷ others (r ∷ seen) rs

-- The resources that the command of a piece names, in the order of its members, each once.
abbrev pub resources_of : Past → Name → List ℕ
resources_of past x = elim (numbered past x.0) [ None ↦ [] | Some n ↦ others [] (named_by_act n.act) ]

-- A queue's cache does so with all bytes of some resources, one after another.
abbrev pub touches_by : Option Touch → ℕ → List ℕ → List CachedStep
touches_by None q rs = []
touches_by (Some touch) q rs = map (λ r. Touches touch q (λ c. resource_at c == r)) rs

-- Steps that a run through caches has made, its stage then, and what the scheduler holds.
pub record CachedPicked : Type 0 where
  pub steps : List CachedStep
  pub stage : Stage
  pub held : List ℕ

module _ (answer : List ℕ → ℕ → ℕ) (next : List ℕ → ℕ → List ℕ) where
  -- What the caches of n queues do with some resources, from queue q on: the scheduler is asked for each, and its answer counts modulo 4; with what it holds then (profile).
  abbrev pub cache_picks : ℕ → ℕ → List ℕ → List ℕ → List CachedStep × List ℕ
  cache_picks zero q rs held = ([], held)
  cache_picks (suc n) q rs held = let more = cache_picks n (q + 1) rs (next held 4) in (touches_by (touch_of (answer held 4 % 4)) q rs ++ more.0, more.1)

  -- What they do after a step: after a piece, those of the four queues with what its command names (profile).
  abbrev pub touches_after : Past → Step → List ℕ → List CachedStep × List ℕ
  touches_after past (RunPiece x) held = cache_picks 4 0 (resources_of past x) held
  touches_after past _ held = ([], held)

  -- The steps picked before an entry, until the entry is picked; `fuel` is at least how many there can be.
  abbrev pub picks_through : ℕ → Stage → List ℕ → Entry → CachedPicked
  picks_through zero s held x = record { steps = []; stage = s; held = held }
  picks_through (suc fuel) s held x =
      let n = length (options answer next s x) in
      elim (slice_get (options answer next s x) (pick_of answer next held n)) [
        | None ↦ record { steps = []; stage = s; held = held }
        | Some c ↦ elim c [
          | Go ↦ record { steps = []; stage = s; held = held_after answer next held n }
          | Take step ↦ (let after = touches_after s.front.past step (held_after answer next held n) in let more = picks_through fuel (stepped step s) after.1 x in record more { steps = Does step [] ∷ (after.0 ++ more.steps) })
        ]
      ]

  -- The steps before an entry.
  abbrev pub before_entry_through : Stage → List ℕ → Entry → CachedPicked
  before_entry_through s held x = picks_through (most_picks answer next s) s held x

  -- The steps up to and with an entry: those picked, and then the entry with its atoms, and with its parts and what it moves where it is of a pass (profile).
  abbrev pub entry_picks_through : ℕ → List ℕ → Stage → List ℕ → Entry → List Entry → CachedPicked
  entry_picks_through parts moved s held x xs =
      let before = before_entry_through s held x in
      let atoms = atom_picks answer next (atom_count before.stage.front.past x) 0 before.held in
      record { steps = before.steps ++ Does (Apply atoms.0 parts) moved ∷ []; stage = applied before.stage parts x xs; held = atoms.1 }

  -- The steps of a trace's entries, one after another, on a device where the pass that begins at entry e has so many parts, and entry e moves these resources. At an entry that finds no room they end (profile).
  abbrev pub trace_picks_through : (ℕ → ℕ) → (ℕ → List ℕ) → Option ℕ → Stage → List ℕ → List Entry → CachedPicked
  trace_picks_through parts moved stop s held [] = record { steps = []; stage = s; held = held }
  trace_picks_through parts moved stop s held (x ∷ xs) =
      if holds stop (λ n. n == s.count)
      then before_entry_through s held x
      else (
      let first = entry_picks_through (parts s.count) (moved s.count) s held x xs in
      let rest = trace_picks_through parts moved stop first.stage first.held xs in
      record rest { steps = first.steps ++ rest.steps }
      )

-- What is picked for a trace is an allowed run of it through caches, and without what caches do an allowed run; and to its end where no entry finds no room.
pub record IsRunThrough (t : List Entry) (first : Byte → ℕ) (stop : Option ℕ) (p : CachedPicked) : Type 0 where
  pub cells : Cells
  pub run : CachedRunOf t first p.steps (record { stage = p.stage; cells = cells })
  pub plain : RunOf t (steps_of p.steps) p.stage
  pub whole : stop ≡ None → p.stage.left ≡ []

-- So it is for each trace without a fault, from any values in memory, whatever the scheduler answers.
abbrev pub CachedPicksAreRuns : Type 0
CachedPicksAreRuns =
    (answer : List ℕ → ℕ → ℕ) (next : List ℕ → ℕ → List ℕ) (t : List Entry) (first : Byte → ℕ) (parts : ℕ → ℕ) (moved : ℕ → List ℕ) (stop : Option ℕ) (held : List ℕ) → first_fault t ≡ None
    → IsRunThrough t first stop (trace_picks_through answer next parts moved stop (start t) held t)

-- What is picked through caches has, without what the caches do, these steps; it leads to the same stage, and leaves the scheduler alike.
pub record ArePicks (p : CachedPicked) (q : Picked) : Type 0 where
  pub steps : steps_of p.steps ≡ q.steps
  pub stage : p.stage ≡ q.stage
  pub held : p.held ≡ q.held

-- So are the picks for a trace those of a device that keeps bytes in place: it asks as much, and only leaves out what caches do.
abbrev pub CachedPicksAreThePicks : Type 0
CachedPicksAreThePicks =
    (answer : List ℕ → ℕ → ℕ) (next : List ℕ → ℕ → List ℕ) (parts : ℕ → ℕ) (moved : ℕ → List ℕ) (stop : Option ℕ) (s : Stage) (held : List ℕ) (xs : List Entry)
    → ArePicks (trace_picks_through answer next parts moved stop s held xs) (trace_picks answer next parts stop s held xs)
