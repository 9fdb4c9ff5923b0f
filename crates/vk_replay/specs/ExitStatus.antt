-- The exit status of `replay` (profile). After an error it is that of `vk_console`.
use Rattle.std.specs.Prelude.{ℕ}
use Rattle.vk_run.specs.declared.running.Status.{Status}
use Rattle.vk_run.specs.declared.running.Status.TheVariants.{Replayed, Refused, Stopped}

-- The exit status by how a run went (profile).
abbrev pub exit_status_of : Status → ℕ
exit_status_of Replayed = 0
exit_status_of Refused = 1
exit_status_of Stopped = 3
