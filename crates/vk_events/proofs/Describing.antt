-- What an event has of its act.
use Rattle.std.proofs.Common.{◌≡◌, ℕ, ◌+◌, Bool, true, false, not, ◌&&◌, ◌||◌, refl, ap, sym, ◌∙◌}
use Rattle.vk_model.specs.Basics.{has_some}
use Rattle.vk_model.specs.declared.entry.SemaphoreSubmit.{SemaphoreSubmit}
use Rattle.vk_model.specs.declared.command.Dependency.{Dependency}
use Rattle.vk_model.specs.declared.command.Element.{Element}
use Rattle.vk_model.specs.declared.command.Element.TheVariants as element
use Rattle.vk_model.specs.World.Bytes.{Byte}
use Rattle.vk_model.specs.World.Ownership.{is_acquire, is_release, dependency_of}
use Rattle.vk_model.specs.Sync.Node.{Signals, Depends, Barrier, SetOf}
use Rattle.vk_model.specs.Sync.Edge.{transfer_stage, all_commands, host_stage, meet}
use Rattle.vk_model.specs.Sync.Seen.{Write, command_mask, covers, makes_writes_available}
use Rattle.vk_model.specs.Run.CachedRuns.{any_access}
use Rattle.vk_events.specs.declared.event.Range.{Range}
use Rattle.vk_events.specs.declared.event.Range.TheVariants as range
use Rattle.vk_events.specs.Happens.{is_on}
use Rattle.vk_events.specs.Inner.Described.{IsOf}

-- the stages in which commands run
follows_is : (s : ℕ) → meet transfer_stage s ≡ has_some s (transfer_stage + all_commands)
unfolding meet
follows_is s = go (has_some s (transfer_stage + all_commands)) (has_some s host_stage)
  where
    go : (a b : Bool) → (true && a || false && b) ≡ a
    go true b = refl
    go false b = refl

spread : (f a w c : Bool) → (f && (((true && a) && w) && c)) ≡ ((a && (f && w)) && c)
spread true true w c = refl
spread true false w c = refl
spread false true w c = refl
spread false false w c = refl

module _ (number queue place : ℕ) where
  pub signal_of : (s : SemaphoreSubmit) (f : Bool) → f ≡ has_some s.stages.0 (transfer_stage + all_commands) → IsOf (record { number = number; queue = queue; place = place; makes_available = f; makes_visible = false; range = range.All }) number queue place (Signals s)
  signal_of s f is = record {
    is = refl;
    number_is = refl;
    queue_is = refl;
    place_is = refl;
    available = λ cached ms n b same. ap (λ (x : Bool). x && true) (follows_is s.stages.0 ∙ sym is);
    visible = λ cached ms n b same. refl;
  }

  pub barrier_of : (e : Element) (f v : Bool) (r : Range)
      → f ≡ (not (is_acquire queue e) && (has_some (dependency_of e).source_stages.0 (transfer_stage + all_commands) && has_some (dependency_of e).source_accesses.0 (command_mask Write)))
      → v ≡ (not (is_release queue e) && has_some (dependency_of e).destination_accesses.0 any_access) → ((b : Byte) → covers e b ≡ is_on r b)
      → IsOf (record { number = number; queue = queue; place = place; makes_available = f; makes_visible = v; range = r }) number queue place (Depends Barrier e)
  barrier_of e f v r frees shows on = record {
    is = refl;
    number_is = refl;
    queue_is = refl;
    place_is = refl;
    available = λ cached ms n b same.
        ap (λ (x : Bool). x && makes_writes_available cached ms n b (Depends Barrier e)) (follows_is (dependency_of e).source_stages.0)
        ∙ ap (λ (q : ℕ). has_some (dependency_of e).source_stages.0 (transfer_stage + all_commands) && (((true && not (is_acquire q e)) && has_some (dependency_of e).source_accesses.0 (command_mask Write)) && covers e b)) same
        ∙ spread (has_some (dependency_of e).source_stages.0 (transfer_stage + all_commands)) (not (is_acquire queue e)) (has_some (dependency_of e).source_accesses.0 (command_mask Write)) (covers e b)
        ∙ ap (λ (x : Bool). x && covers e b) (sym frees) ∙ ap (λ (x : Bool). f && x) (on b);
    visible = λ cached ms n b same.
        ap (λ (q : ℕ). ((true && not (is_release q e)) && has_some (dependency_of e).destination_accesses.0 any_access) && covers e b) same ∙ ap (λ (x : Bool). x && covers e b) (sym shows) ∙ ap (λ (x : Bool). v && x) (on b);
  }

  pub set_of : (event count : ℕ) (d : Dependency) (f : Bool) → f ≡ (has_some d.source_stages.0 (transfer_stage + all_commands) && has_some d.source_accesses.0 (command_mask Write))
      → IsOf (record { number = number; queue = queue; place = place; makes_available = f; makes_visible = false; range = range.All }) number queue place (Depends (SetOf event count) (element.Memory d))
  set_of event count d f frees = record {
    is = refl;
    number_is = refl;
    queue_is = refl;
    place_is = refl;
    available = λ cached ms n b same.
        ap (λ (x : Bool). x && makes_writes_available cached ms n b (Depends (SetOf event count) (element.Memory d))) (follows_is d.source_stages.0)
        ∙ spread (has_some d.source_stages.0 (transfer_stage + all_commands)) true (has_some d.source_accesses.0 (command_mask Write)) true ∙ ap (λ (x : Bool). x && true) (sym frees);
    visible = λ cached ms n b same. refl;
  }
