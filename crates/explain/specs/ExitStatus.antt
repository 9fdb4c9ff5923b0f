-- The exit status of `explain` (profile). After an error it is that of `vk_console`.
use Rattle.std.specs.Prelude.{ℕ}
use Rattle.vk_explain.specs.declared.explaining.Judgment.{Judgment}
use Rattle.vk_explain.specs.declared.explaining.Judgment.TheVariants.{Accepted, Refused, NoTrace}

-- The exit status by the verdict (profile).
abbrev pub exit_status_of : Judgment → ℕ
exit_status_of Accepted = 0
exit_status_of Refused = 1
exit_status_of NoTrace = 2
