-- How reading the input and writing the answer end.
use Rattle.std.specs.Prelude.{Result, Ok, Err}
use Rattle.vk_trace.specs.declared.errors.RunError.{RunError}
use Rattle.vk_trace.specs.declared.errors.RunError.TheVariants.{NotTrace, NoMemory, TooLong, ReadFault, WriteFault}

-- An error that comes before anything is written.
abbrev pub IsBeforeWriting : RunError → Type 0
IsBeforeWriting NotTrace = Unit {0}
IsBeforeWriting NoMemory = Unit {0}
IsBeforeWriting TooLong = Unit {0}
IsBeforeWriting ReadFault = Unit {0}
IsBeforeWriting (WriteFault n) = ⊥

-- An error of reading the input.
abbrev pub IsOfReading : RunError → Type 0
IsOfReading NotTrace = ⊥
IsOfReading NoMemory = Unit {0}
IsOfReading TooLong = Unit {0}
IsOfReading ReadFault = Unit {0}
IsOfReading (WriteFault n) = ⊥

-- The input was read to its end, and looked at: it was answered, or is no trace.
abbrev pub IsJudged : {S : Type 0} → Result S RunError → Type 0
IsJudged (Ok status) = Unit {0}
IsJudged (Err NotTrace) = Unit {0}
IsJudged (Err _) = ⊥
