-- Points that neither read nor write bytes.
use Rattle.std.proofs.Common.{◌≡◌, ◌+◌, ℕ, List, [], ◌∷◌, map, Bool, true, false, refl}
use Rattle.std.specs.Prelude.{Contains}
use Rattle.std.specs.List.{list_all, enumerate_from}
use Rattle.vk_model.specs.declared.command.Cmd.TheVariants as cmd
use Rattle.vk_model.specs.declared.command.Dependency.{Dependency}
use Rattle.vk_model.specs.declared.command.Element.TheVariants as element
use Rattle.vk_model.specs.declared.entry.Entry.{Entry}
use Rattle.vk_model.specs.declared.entry.Entry.TheVariants as entry
use Rattle.vk_model.specs.Trace.Point.{Past, Action, Host, Wait, Run, Signal}
use Rattle.vk_model.specs.Sync.Node.{Act, Hosts, Waits, Signals, Runs, Depends, SetOf, AwaitOf, acts}
use Rattle.vk_model.specs.Sync.Access.{host_writes, host_reads, writes_of, reads_of}
use Rattle.vk_model.proofs.Lists.Members.{all_passes}

-- whether an action accesses no bytes, whatever there is: of commands only sets and awaits
abbrev pub calm : Action → Bool
calm (Host (entry.Read b o n)) = false
calm (Host (entry.Write b o bytes)) = false
calm (Run (cmd.Set v ms)) = true
calm (Run (cmd.Await v ms)) = true
calm (Run c) = false
calm _ = true

-- and an act
abbrev is_calm : Act → Bool
is_calm (Hosts (entry.Read b o n)) = false
is_calm (Hosts (entry.Write b o bytes)) = false
is_calm (Runs c) = false
is_calm (Depends r (element.Image e)) = false
is_calm _ = true

numbered : (of : ℕ → Dependency → Act) → ((k : ℕ) (d : Dependency) → is_calm (of k d) ≡ true) → (k : ℕ) (ms : List Dependency) → list_all is_calm (map (λ p. of p.0 p.1) (enumerate_from k ms)) ≡ true
numbered of ok k [] = refl
numbered of ok k (m ∷ ms) = rw (ok k m) (numbered of ok (k + 1) ms)

calm_host : (x : Entry) → calm (Host x) ≡ true → list_all is_calm (Hosts x ∷ []) ≡ true
calm_host (entry.Read b o n) c = absurd cc
calm_host (entry.Write b o bytes) c = absurd cc
calm_host _ c = refl

calm_acts : (d : Action) → calm d ≡ true → list_all is_calm (acts d) ≡ true
calm_acts (Host x) c = calm_host x c
calm_acts (Wait s) c = refl
calm_acts (Signal s) c = refl
calm_acts (Run (cmd.Set v ms)) c = numbered (λ k d. Depends (SetOf v k) (element.Memory d)) (λ k d. refl) 0 ms
calm_acts (Run (cmd.Await v ms)) c = numbered (λ k d. Depends (AwaitOf v k) (element.Memory d)) (λ k d. refl) 0 ms
calm_acts (Run _) c = absurd cc

calm_entry : (x : Entry) → is_calm (Hosts x) ≡ true → (host_reads x ≡ []) × (host_writes x ≡ [])
calm_entry (entry.Read b o n) c = absurd cc
calm_entry (entry.Write b o bytes) c = absurd cc
calm_entry _ c = (refl, refl)

calm_act : (past : Past) (q : ℕ) (a : Act) → is_calm a ≡ true → (reads_of past q a ≡ []) × (writes_of past q a ≡ [])
calm_act past q (Hosts x) c = calm_entry x c
calm_act past q (Waits s) c = (refl, refl)
calm_act past q (Signals s) c = (refl, refl)
calm_act past q (Runs x) c = absurd cc
calm_act past q (Depends r (element.Memory d)) c = (refl, refl)
calm_act past q (Depends r (element.Buffer e)) c = (refl, refl)
calm_act past q (Depends r (element.Image e)) c = absurd cc

pub calm_accesses : (past : Past) (q : ℕ) (d : Action) → calm d ≡ true → (a : Act) → Contains (acts d) a → (reads_of past q a ≡ []) × (writes_of past q a ≡ [])
calm_accesses past q d c a named = calm_act past q a (all_passes is_calm (acts d) a (calm_acts d c) named)
