-- What points do with objects.
use Rattle.std.specs.Prelude.{ℕ, Bool, ◌==◌}
use Rattle.vk_model.specs.Basics.{holds, among}
use Rattle.vk_model.specs.Trace.Point.{Point, on_host}
use Rattle.vk_model.specs.Trace.Objects.{ended_by}
use Rattle.vk_model.specs.Trace.Order.{signal_of}
use Rattle.vk_hazards.specs.declared.before.doings.Doing.{Doing}
use Rattle.vk_hazards.specs.declared.before.doings.Doing.TheVariants.{Makes, Ends, Signals}
use Rattle.vk_hazards.specs.Creators.{makes}

-- Whether a point does this with an object.
abbrev pub does : Doing → ℕ → Point → Bool
does Makes i p = makes i p
does Ends i p = on_host (λ x. among i (ended_by x)) p
does Signals s p = holds (signal_of p.action) (λ x. x.0 == s)
