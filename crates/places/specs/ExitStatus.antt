-- The exit status of `places` (profile). After an error it is that of `vk_console`.
use Rattle.std.specs.Prelude.{ℕ}
use Rattle.vk_places.specs.declared.running.Told.{Told}
use Rattle.vk_places.specs.declared.running.Told.TheVariants.{Whole, Stopped, Refused}

-- The exit status by what was told (profile).
abbrev pub exit_status_of : Told → ℕ
exit_status_of Whole = 0
exit_status_of Stopped = 3
exit_status_of Refused = 1
