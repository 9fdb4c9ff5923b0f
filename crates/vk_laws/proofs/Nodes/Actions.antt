-- What a point does, by its nodes' acts.
use Rattle.std.proofs.Common.{◌≡◌, ◌⊎◌, ⊎_elim, inl, inr, [], length, refl, ap, sym}
use Rattle.std.specs.Prelude.{Contains}
use Rattle.std.specs.List.{enumerate_from}
use Rattle.vk_model.specs.declared.entry.Entry.{Entry}
use Rattle.vk_model.specs.declared.command.Cmd.{Cmd}
use Rattle.vk_model.specs.declared.command.Cmd.TheVariants as cmd
use Rattle.vk_model.specs.declared.command.Element.{Element}
use Rattle.vk_model.specs.declared.command.Element.TheVariants as element
use Rattle.vk_model.specs.Trace.Point.{Past, Action, Host, Wait, Run, Signal}
use Rattle.vk_model.specs.World.ByteWrites.{byte_writes}
use Rattle.vk_model.specs.Sync.Node.{Act, Hosts, Waits, Signals, Runs, Depends, acts, command_acts, Role, Barrier, SetOf, AwaitOf}
use Rattle.vk_model.proofs.Lists.Members.{mapped_from, only_one}

-- a command runs as one node, or its nodes are elements and it writes nothing
pub runs_or_idle : (x : Cmd) (a : Act) → Contains (command_acts x) a → ((a ≡ Runs x) × (length (command_acts x) ≡ 1)) ⊎ ((r : Role) × (e : Element) × (a ≡ Depends r e) × ((past : Past) → byte_writes past x ≡ []))
runs_or_idle (cmd.Barrier es) a c = let m = mapped_from (Depends Barrier) es a c in inr (Barrier, m.0, sym m.2, λ past. refl)
runs_or_idle (cmd.Set v ms) a c = let m = mapped_from (λ p. Depends (SetOf v p.0) (element.Memory p.1)) (enumerate_from 0 ms) a c in inr (SetOf v m.0.0, element.Memory m.0.1, sym m.2, λ past. refl)
runs_or_idle (cmd.Await v ms) a c = let m = mapped_from (λ p. Depends (AwaitOf v p.0) (element.Memory p.1)) (enumerate_from 0 ms) a c in inr (AwaitOf v m.0.0, element.Memory m.0.1, sym m.2, λ past. refl)
runs_or_idle (cmd.Fill b o n w) a c = inl (sym (only_one _ a c), refl)
runs_or_idle (cmd.Update b o bytes) a c = inl (sym (only_one _ a c), refl)
runs_or_idle (cmd.Copy s d gs) a c = inl (sym (only_one _ a c), refl)
runs_or_idle (cmd.Clear i l color rs) a c = inl (sym (only_one _ a c), refl)
runs_or_idle (cmd.CopyIn b i l gs) a c = inl (sym (only_one _ a c), refl)
runs_or_idle (cmd.CopyOut i l b gs) a c = inl (sym (only_one _ a c), refl)
runs_or_idle (cmd.CopyImage s l d m gs) a c = inl (sym (only_one _ a c), refl)

pub host_action : (d : Action) (x : Entry) → Contains (acts d) (Hosts x) → d ≡ Host x
host_action (Host y) x c = let e = only_one (Hosts y) (Hosts x) c in let same : y ≡ x = cc in ap Host same
host_action (Wait s) x c = let e = only_one (Waits s) (Hosts x) c in absurd cc
host_action (Signal s) x c = let e = only_one (Signals s) (Hosts x) c in absurd cc
host_action (Run y) x c = ⊎_elim (λ r. let e = r.0 in absurd cc) (λ i. let e = i.2 in absurd cc) (runs_or_idle y (Hosts x) c)
