-- Whether an event was set.
use Rattle.std.proofs.Common.{◌≡◌, ℕ, suc, List, [], ◌∷◌, length, true, cond, Option, Some, None, is_some, refl, ap, sym, ◌∙◌, arith}
use Rattle.std.specs.Prelude.{option_and_then, option_map, nat_lt}
use Rattle.std.specs.List.{find, cons_option}
use Rattle.std.proofs.lemmas.Bool.Decides.{nat_tests}
use Rattle.vk_model.specs.declared.command.Cmd.{Cmd}
use Rattle.vk_model.specs.declared.command.Dependency.{Dependency}
use Rattle.vk_model.specs.declared.point.Point.{Point as ProgramPoint}
use Rattle.vk_model.specs.Basics.{holds}
use Rattle.vk_model.specs.Trace.Point.{Past, Point, command_of}
use Rattle.vk_model.specs.Trace.PointViews.{point_of}
use Rattle.vk_model.specs.Rules.Synchronization.{set_by, sets}
use Rattle.vk_findings.specs.Events.{sets_event}

some_set : (v : ℕ) (p : Point) → sets_event v p ≡ is_some (option_and_then (set_by v) (command_of p.action))
some_set v p = go (command_of p.action)
  where
    go : (o : Option Cmd) → holds o (λ c. is_some (set_by v c)) ≡ is_some (option_and_then (set_by v) o)
    go None = refl
    go (Some c) = refl

above : (n : ℕ) → true ≡ nat_lt 0 (suc n)
above n = grind (arith, nat_tests)

was_set : (past : Past) (v : ℕ) → is_some (find (sets_event v) past) ≡ nat_lt 0 (length (sets past v))
was_set [] v = refl
was_set (p ∷ past) v = rw (some_set v p) (go (option_and_then (set_by v) (command_of p.action)) (was_set past v))
  where
    go : (o : Option (List Dependency)) → is_some (find (sets_event v) past) ≡ nat_lt 0 (length (sets past v))
        → is_some (cond (is_some o) (Some p) (find (sets_event v) past)) ≡ nat_lt 0 (length (cons_option o (sets past v)))
    go None rest = rest
    go (Some ms) rest = above (length (sets past v))

is_some_map : {A B : Type 0} (f : A → B) (o : Option A) → is_some o ≡ is_some (option_map f o)
is_some_map f None = refl
is_some_map f (Some a) = refl

-- a point that sets it was found where it was set
pub set_found : (past : Past) (v : ℕ) (o : Option ProgramPoint) → option_map point_of o ≡ find (sets_event v) past → nat_lt 0 (length (sets past v)) ≡ is_some o
set_found past v o e = sym (is_some_map point_of o ∙ ap is_some e ∙ was_set past v)
