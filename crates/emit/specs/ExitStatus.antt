-- The exit status of `emit` (profile). After an error it is that of `vk_console`.
use Rattle.std.specs.Prelude.{ℕ}
use Rattle.vk_emit.specs.declared.running.Emitted.{Emitted}
use Rattle.vk_emit.specs.declared.running.Emitted.TheVariants.{Whole, Stopped, Refused}

-- The exit status by what was written (profile).
abbrev pub exit_status_of : Emitted → ℕ
exit_status_of Whole = 0
exit_status_of (Stopped entry) = 3
exit_status_of (Refused at rule) = 1
