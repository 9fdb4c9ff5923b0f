-- What a scheduler picks, as allowed runs.
use Rattle.std.specs.Prelude.{◌≡◌, ℕ, ◌<◌, List, [], ◌∷◌, length, Option, Some, None, IsTrue, slice_get}
use Rattle.vk_model.specs.declared.entry.Entry.{Entry}
use Rattle.vk_model.specs.Rules.Table.{first_fault}
use Rattle.vk_model.specs.Run.Runs.{Step, Stage, start, may_go, Next, Allowed}
use Rattle.vk_model.specs.Run.Picks.{Choice, Take, Go, Picked, stepped, options, before_entry, trace_picks}
use Rattle.vk_laws.specs.DefinedRuns.{RunOf}

-- What an option before an entry says is allowed: a step, or the entry itself.
abbrev pub ChoiceIsAllowed : Stage → Entry → Choice → Type 0
ChoiceIsAllowed s x (Take step) = Next s step (stepped step s)
ChoiceIsAllowed s x Go = IsTrue (may_go s x)

-- Each option is.
abbrev pub OptionsAreAllowed : Type 0
OptionsAreAllowed =
    (answer : List ℕ → ℕ → ℕ) (next : List ℕ → ℕ → List ℕ) (s : Stage) (x : Entry) (k : ℕ) (c : Choice) → slice_get (options answer next s x) k ≡ Some c → ChoiceIsAllowed s x c

-- In a run of a trace without a fault there is one, while an entry is left.
abbrev pub OptionsAreThere : Type 0
OptionsAreThere =
    (answer : List ℕ → ℕ → ℕ) (next : List ℕ → ℕ → List ℕ) (t : List Entry) (steps : List Step) (s : Stage) (x : Entry) (xs : List Entry) → RunOf t steps s → first_fault t ≡ None → s.left ≡ x ∷ xs
    → 0 < length (options answer next s x)

-- Steps were picked from a stage up to an entry: they are allowed, apply no entry, and after them the entry may be applied.
pub record LeadsTo (s : Stage) (x : Entry) (p : Picked) : Type 0 where
  pub run : Allowed s p.steps p.stage
  pub front : p.stage.front ≡ s.front
  pub left : p.stage.left ≡ s.left
  pub count : p.stage.count ≡ s.count
  pub may : IsTrue (may_go p.stage x)

-- What is picked before an entry does.
abbrev pub PicksLeadOn : Type 0
PicksLeadOn =
    (answer : List ℕ → ℕ → ℕ) (next : List ℕ → ℕ → List ℕ) (t : List Entry) (steps : List Step) (s : Stage) (held : List ℕ) (x : Entry) (xs : List Entry) → RunOf t steps s → first_fault t ≡ None
    → s.left ≡ x ∷ xs → LeadsTo s x (before_entry answer next s held x)

-- So what is picked for a trace without a fault is an allowed run of it, and to its end where no entry finds no room.
pub record IsRun (t : List Entry) (stop : Option ℕ) (p : Picked) : Type 0 where
  pub run : RunOf t p.steps p.stage
  pub whole : stop ≡ None → p.stage.left ≡ []

abbrev pub PicksAreRuns : Type 0
PicksAreRuns =
    (answer : List ℕ → ℕ → ℕ) (next : List ℕ → ℕ → List ℕ) (t : List Entry) (parts : ℕ → ℕ) (stop : Option ℕ) (held : List ℕ) → first_fault t ≡ None
    → IsRun t stop (trace_picks answer next parts stop (start t) held t)
