-- What a function that reads a member returned.
use Rattle.std.specs.Prelude.{◌≡◌, Option, Some, None, Result, Ok, Err}
use Rattle.vk_trace.specs.declared.errors.ReadTraceError.{ReadTraceError}
use Rattle.vk_trace.specs.declared.errors.ReadTraceError.TheVariants.{NotTrace, NoMemory}

-- The error says that nothing is meant, unless memory ran out.
abbrev pub Fails : {Y : Type 0} → ReadTraceError → Option Y → Type 0
Fails NoMemory means = Unit {0}
Fails NotTrace means = means ≡ None

-- What was returned is, as it is seen, what is meant.
abbrev pub Gives : {X Y : Type 0} → (X → Y) → Result X ReadTraceError → Option Y → Type 0
Gives seen (Ok x) means = means ≡ Some (seen x)
Gives seen (Err e) means = Fails e means
