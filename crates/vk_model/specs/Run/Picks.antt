-- What a scheduler picks: the steps before an entry, and the scheduler's state afterwards.
use Rattle.std.specs.Prelude.{ℕ, zero, suc, ◌+◌, ◌%◌, List, [], ◌∷◌, ◌++◌, map, length, ◌==◌, nat_le, if◌then◌else◌, Option, Some, None, slice_get}
use Rattle.std.specs.List.{sum_by}
use Rattle.vk_model.specs.declared.entry.Entry.{Entry}
use Rattle.vk_model.specs.Basics.{holds}
use Rattle.vk_model.specs.Sync.Node.{nodes}
use Rattle.vk_model.specs.Run.Runs.{Stage, Step, Apply, RunPiece, CopyPart, offered, node_pieces, parts_left, may_go, atom_count, applied}

-- What a scheduler chooses from: a step, or to apply the next entry.
pub data Choice : Type 0 where
  Take : Step → Choice
  Go : Choice

-- Steps that a run has made, its stage then, and what the scheduler holds.
pub record Picked : Type 0 where
  pub steps : List Step
  pub stage : Stage
  pub held : List ℕ

-- Where a step leads that is no entry.
abbrev pub stepped : Step → Stage → Stage
stepped (RunPiece n) s = record s { done = n ∷ s.done }
stepped (CopyPart k) s = record s { copied = k ∷ s.copied }
stepped _ s = s

-- ---- picks, by what the scheduler answers where it has so many options, and what it holds next

module _ (answer : List ℕ → ℕ → ℕ) (next : List ℕ → ℕ → List ℕ) where
  -- The options before an entry: the offered pieces in reference order, the parts not copied, and the entry itself where it may go (profile).
  abbrev pub options : Stage → Entry → List Choice
  options s x = map (λ n. Take (RunPiece n)) (offered s.front.past s.done) ++ map (λ k. Take (CopyPart k)) (parts_left s) ++ (if may_go s x then Go ∷ [] else [])

  -- Which of n options is picked: the scheduler is asked where there are two or more, and its answer counts modulo n (profile).
  abbrev pub pick_of : List ℕ → ℕ → ℕ
  pick_of held n = if nat_le 2 n then answer held n % n else 0

  -- What the scheduler holds then.
  abbrev pub held_after : List ℕ → ℕ → List ℕ
  held_after held n = if nat_le 2 n then next held n else held

  -- What it holds after a step: after a piece it is asked what the cache of each of the four queues does, of four answers each (profile).
  abbrev pub held_after_step : Step → List ℕ → List ℕ
  held_after_step (RunPiece x) held = next (next (next (next held 4) 4) 4) 4
  held_after_step _ held = held

  -- The steps picked before an entry, until the entry is picked; `fuel` is at least how many there can be.
  abbrev pub picks : ℕ → Stage → List ℕ → Entry → Picked
  picks zero s held x = record { steps = []; stage = s; held = held }
  picks (suc fuel) s held x =
      let n = length (options s x) in
      elim (slice_get (options s x) (pick_of held n)) [
        | None ↦ record { steps = []; stage = s; held = held }
        | Some c ↦ elim c [
          | Go ↦ record { steps = []; stage = s; held = held_after held n }
          | Take step ↦ (let more = picks fuel (stepped step s) (held_after_step step (held_after held n)) x in record more { steps = step ∷ more.steps })
        ]
      ]

  -- How many pieces and parts there are, and the entry: at least how often the scheduler picks before it.
  abbrev pub most_picks : Stage → ℕ
  most_picks s = sum_by (λ n. length (node_pieces s.front.past n n.act)) (nodes s.front.past) + s.parts + 1

  -- The atoms of n that the scheduler has touched, from atom k on: it is asked for each, and 1 means yes; with what it holds then (profile).
  abbrev pub atom_picks : ℕ → ℕ → List ℕ → List ℕ × List ℕ
  atom_picks zero k held = ([], held)
  atom_picks (suc n) k held =
      let more = atom_picks n (k + 1) (next held 2) in
      (if answer held 2 % 2 == 1 then k ∷ more.0 else more.0, more.1)

  -- The steps before an entry.
  abbrev pub before_entry : Stage → List ℕ → Entry → Picked
  before_entry s held x = picks (most_picks s) s held x

  -- The steps up to and with an entry: those picked, and then the entry with its atoms, and its parts where it begins a pass (profile).
  abbrev pub entry_picks : ℕ → Stage → List ℕ → Entry → List Entry → Picked
  entry_picks parts s held x xs =
      let before = before_entry s held x in
      let atoms = atom_picks (atom_count before.stage.front.past x) 0 before.held in
      record { steps = before.steps ++ Apply atoms.0 parts ∷ []; stage = applied before.stage parts x xs; held = atoms.1 }

  -- The steps of a trace's entries, one after another, on a device where the pass that begins at entry e has so many parts. At an entry that finds no room they end: it is picked, and isn't applied (profile).
  abbrev pub trace_picks : (ℕ → ℕ) → Option ℕ → Stage → List ℕ → List Entry → Picked
  trace_picks parts stop s held [] = record { steps = []; stage = s; held = held }
  trace_picks parts stop s held (x ∷ xs) =
      if holds stop (λ n. n == s.count)
      then before_entry s held x
      else (
      let first = entry_picks (parts s.count) s held x xs in
      let rest = trace_picks parts stop first.stage first.held xs in
      record rest { steps = first.steps ++ rest.steps }
      )
