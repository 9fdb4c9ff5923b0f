-- What caches of queues write back by themselves.
use Rattle.std.specs.Prelude.{ℕ, ◌==◌}
use Rattle.vk_model.specs.World.Bytes.{resource_at}
use Rattle.vk_model.specs.Run.CachedRuns.{WriteBack}
use Rattle.vk_cache_laws.specs.LateRuns.{Late, late_after_touch}
use Rattle.vk_resources.specs.Held.{Held}
use Rattle.vk_lag.specs.Lags.{Lags}
use Rattle.vk_availability.specs.AreLate.{AreLate}

-- Memory catches up with what a queue wrote of a resource, and with nothing else (profile).
abbrev pub WritesBack : Held → Lags → Lags → ℕ → ℕ → Type 0
WritesBack s old new resource queue = (late : Late) → AreLate s old late → AreLate s new (late_after_touch WriteBack queue (λ c. resource_at c == resource) late)
