-- PASS_WRITE: what the acts of a command write.
use Rattle.std.proofs.Common.{◌≡◌, ℕ, List, [], ◌∷◌, Bool, false, IsTrue, ap, sym, ◌∙◌, Option, Some, None, refl}
use Rattle.std.specs.Prelude.{◌==◌, IfSome}
use Rattle.std.specs.List.{list_any, enumerate_from}
use Rattle.std.proofs.Math.Bool.{or-false}
use Rattle.vk_model.specs.declared.command.Cmd.{Cmd}
use Rattle.vk_model.specs.declared.command.Cmd.TheVariants as cmd
use Rattle.vk_model.specs.declared.command.Dependency.{Dependency}
use Rattle.vk_model.specs.declared.command.Element.{Element}
use Rattle.vk_model.specs.declared.command.Element.TheVariants as element
use Rattle.vk_model.specs.Basics.{holds}
use Rattle.vk_model.specs.Trace.Point.{Past}
use Rattle.vk_model.specs.World.Bytes.{resource_at}
use Rattle.vk_model.specs.World.ByteWrites.{byte_writes}
use Rattle.vk_model.specs.Sync.Node.{Role, Barrier, SetOf, AwaitOf, Depends, Runs, command_acts, event_acts}
use Rattle.vk_model.specs.Sync.Access.{targets, transition_bytes, writes_of}
use Rattle.vk_model.proofs.Lists.Members.{any_map, none_passes_any}
use Rattle.vk_laws.specs.Written.{IsResourceOf}
use Rattle.vk_rules.specs.declared.passes.InPass.{InPass}
use Rattle.vk_rules.specs.Passes.{acts_write}

module _ (past : Past) (q : ℕ) (f : ℕ → Bool) where
  pub barrier_writes : (es : List Element) → list_any (λ e. list_any (λ b. f (resource_at b)) (transition_bytes past q e)) es ≡ acts_write past q f (command_acts (cmd.Barrier es))
  barrier_writes es = sym (any_map (λ a. list_any (λ b. f (resource_at b)) (writes_of past q a)) (Depends Barrier) es)

  no_writes : (role : ℕ → Role) (ms : List Dependency) → acts_write past q f (event_acts role ms) ≡ false
  no_writes role ms = any_map (λ a. list_any (λ b. f (resource_at b)) (writes_of past q a)) (λ p. Depends (role p.0) (element.Memory p.1)) (enumerate_from 0 ms) ∙ none_passes_any _ (enumerate_from 0 ms) (λ p c. refl)

  module _ (r : Option ℕ) where
    one_act : (c : Cmd) → IsResourceOf r (targets (byte_writes past c)) → command_acts c ≡ Runs c ∷ [] → holds r f ≡ acts_write past q f (command_acts c)
    one_act c of alone = of f ∙ sym (or-false (list_any (λ b. f (resource_at b)) (targets (byte_writes past c)))) ∙ ap (acts_write past q f) (sym alone)

    pub command_writes : (c : Cmd) → ((es : List Element) → c ≡ cmd.Barrier es → ⊥) → IsResourceOf r (targets (byte_writes past c)) → holds r f ≡ acts_write past q f (command_acts c)
    command_writes (cmd.Barrier es) other of = absurd (other es refl)
    command_writes (cmd.Set v ms) other of = of f ∙ sym (no_writes (SetOf v) ms)
    command_writes (cmd.Await v ms) other of = of f ∙ sym (no_writes (AwaitOf v) ms)
    command_writes (cmd.Fill b o n w) other of = one_act (cmd.Fill b o n w) of refl
    command_writes (cmd.Update b o bytes) other of = one_act (cmd.Update b o bytes) of refl
    command_writes (cmd.Copy s d gs) other of = one_act (cmd.Copy s d gs) of refl
    command_writes (cmd.Clear i l color rs) other of = one_act (cmd.Clear i l color rs) of refl
    command_writes (cmd.CopyIn b i l gs) other of = one_act (cmd.CopyIn b i l gs) of refl
    command_writes (cmd.CopyOut i l b gs) other of = one_act (cmd.CopyOut i l b gs) of refl
    command_writes (cmd.CopyImage s l d m gs) other of = one_act (cmd.CopyImage s l d m gs) of refl

-- ---- what is reported of a resource

module _ (past : Past) (q : ℕ) where
  -- of a barrier
  pub barrier_reported : (c : Cmd) (es slice : List Element) (r : Option InPass) → c ≡ cmd.Barrier es → slice ≡ es
      → IfSome r (λ m. IsTrue (list_any (λ e. list_any (λ b. resource_at b == m.resource) (transition_bytes past q e)) slice)) → IfSome r (λ m. IsTrue (acts_write past q (λ k. k == m.resource) (command_acts c)))
  barrier_reported c es slice None is value reported = tt
  barrier_reported c es slice (Some m) is value reported =
      ap (λ (x : Cmd). acts_write past q (λ k. k == m.resource) (command_acts x)) is ∙ sym (barrier_writes past q (λ k. k == m.resource) es)
      ∙ ap (λ (xs : List Element). list_any (λ e. list_any (λ b. resource_at b == m.resource) (transition_bytes past q e)) xs) (sym value) ∙ reported

  -- of another command
  pub command_reported : (c : Cmd) (w : Option ℕ) (r : Option InPass) → ((es : List Element) → c ≡ cmd.Barrier es → ⊥) → IsResourceOf w (targets (byte_writes past c))
      → IfSome r (λ m. IsTrue (holds w (λ k. k == m.resource))) → IfSome r (λ m. IsTrue (acts_write past q (λ k. k == m.resource) (command_acts c)))
  command_reported c w None other of reported = tt
  command_reported c w (Some m) other of reported = sym (command_writes past q (λ k. k == m.resource) w c other of) ∙ reported
