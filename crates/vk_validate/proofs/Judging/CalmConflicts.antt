-- A point that accesses no bytes finds nothing wrong with them.
use Rattle.std.proofs.Common.{◌≡◌, ◌∷◌, true, false, refl, sym}
use Rattle.vk_model.specs.declared.command.Cmd.TheVariants as cmd
use Rattle.vk_model.specs.declared.entry.Entry.{Entry}
use Rattle.vk_model.specs.declared.entry.Entry.TheVariants as entry
use Rattle.vk_model.specs.Trace.Point.{Past, Point, Action, Host, Wait, Run, Signal}
use Rattle.vk_model.specs.Rules.Hazards.{breaks_read_undefined}
use Rattle.vk_touches.specs.declared.found.Conflicts.{Conflicts}
use Rattle.vk_touches.specs.Conflicts.{AreConflicts}
use Rattle.vk_history.specs.Changes.{is_quiet}
use Rattle.vk_validate.proofs.Points.Calm.{calm, calm_accesses}
use Rattle.vk_validate.proofs.Judging.Quiet.{no_war, no_raw, no_waw}

-- what is quiet accesses none
quiet_entry : (x : Entry) → is_quiet (Host x) ≡ true → calm (Host x) ≡ true
quiet_entry (entry.Read b o n) h = absurd cc
quiet_entry (entry.Write b o bytes) h = absurd cc
quiet_entry _ h = refl

quiet_calm : (d : Action) → is_quiet d ≡ true → calm d ≡ true
quiet_calm (Host x) h = quiet_entry x h
quiet_calm (Wait s) h = refl
quiet_calm (Signal s) h = refl
quiet_calm (Run (cmd.Set v ms)) h = refl
quiet_calm (Run (cmd.Await v ms)) h = refl
quiet_calm (Run _) h = absurd cc

module _ (past : Past) (p : Point) where
  abbrev nothing : Conflicts
  nothing = record { war = false; raw = false; waw = false; undefined = false }

  defined : (d : Action) → calm d ≡ true → false ≡ breaks_read_undefined past (record p { action = d })
  defined (Host (entry.Read b o n)) c = absurd cc
  defined (Host _) c = refl
  defined (Wait s) c = refl
  defined (Run x) c = refl
  defined (Signal s) c = refl

  pub calm_conflicts : calm p.action ≡ true → AreConflicts nothing past p
  calm_conflicts is_so = record {
    war = sym (no_war past p (λ a c q. (calm_accesses (p ∷ past) q p.action is_so a c).1));
    raw = sym (no_raw past p (λ a c q. (calm_accesses (p ∷ past) q p.action is_so a c).0));
    waw = sym (no_waw past p (λ a c q. (calm_accesses (p ∷ past) q p.action is_so a c).1));
    undefined = defined p.action is_so;
  }

  pub quiet_conflicts : is_quiet p.action ≡ true → AreConflicts nothing past p
  quiet_conflicts h = calm_conflicts (quiet_calm p.action h)
