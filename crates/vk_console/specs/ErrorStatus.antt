-- The exit status of a program after an error (profile). A command line that is refused, `--help` too, ends with 6.
use Rattle.std.specs.Prelude.{ℕ}
use Rattle.vk_trace.specs.declared.errors.RunError.{RunError}
use Rattle.vk_trace.specs.declared.errors.RunError.TheVariants.{NotTrace, NoMemory, TooLong, ReadFault, WriteFault}

-- The exit status by the error (profile).
abbrev pub error_status_of : RunError → ℕ
error_status_of NotTrace = 2
error_status_of NoMemory = 4
error_status_of TooLong = 5
error_status_of ReadFault = 5
error_status_of (WriteFault sent) = 5
