-- OWNER_PAIR: what is no barrier transfers nothing.
use Rattle.std.proofs.Common.{◌≡◌, ◌+◌, ℕ, List, [], ◌∷◌, map, length, Bool, true, refl, false, ap}
use Rattle.std.specs.List.{list_all, enumerate_from}
use Rattle.std.proofs.lemmas.Bool.{and_parts}
use Rattle.vk_model.specs.declared.command.Cmd.{Cmd}
use Rattle.vk_model.specs.declared.command.Cmd.TheVariants as cmd
use Rattle.vk_model.specs.declared.command.Dependency.{Dependency}
use Rattle.vk_model.specs.declared.command.Element.{Element}
use Rattle.vk_model.specs.declared.command.Element.TheVariants as element
use Rattle.vk_model.specs.Basics.{holds}
use Rattle.vk_model.specs.World.Bytes.{World}
use Rattle.vk_model.specs.World.Effect.{world}
use Rattle.vk_model.specs.Trace.Point.{Past, Point, Action, Host, Wait, Run, Signal}
use Rattle.vk_model.specs.Sync.Node.{Node, Act, Hosts, Waits, Signals, Runs, Depends, Role, acts, nodes, SetOf, AwaitOf}
use Rattle.vk_model.specs.Rules.Owners.{some_bad_pair, bad_pair, element_in, after_some, breaks_owner_pair}
use Rattle.vk_touches.proofs.Touching.NextNodes.{lined, next_nodes-lined}

-- whether an act transfers nothing
abbrev keeps_owners : Act → Bool
keeps_owners (Depends role (element.Memory d)) = true
keeps_owners (Depends role _) = false
keeps_owners _ = true

-- no act of an action transfers anything that is no barrier
pub run_same : {c d : Cmd} → Run c ≡ Run d → c ≡ d
run_same {c} {d} e = ap (λ (x : Action). elim x [ Host y ↦ c | Wait s ↦ c | Run y ↦ y | Signal s ↦ c ]) e

abbrev pub IsNoBarrier : Action → Type 0
IsNoBarrier d = (es : List Element) → d ≡ Run (cmd.Barrier es) → ⊥

all_keep : (d : Action) → IsNoBarrier d → list_all keeps_owners (acts d) ≡ true
all_keep (Host x) none = refl
all_keep (Wait s) none = refl
all_keep (Signal s) none = refl
all_keep (Run c) none = command c none where
  dependencies : (role : ℕ → Role) (k : ℕ) (ms : List Dependency) → list_all keeps_owners (map (λ p. Depends (role p.0) (element.Memory p.1)) (enumerate_from k ms)) ≡ true
  dependencies role k [] = refl
  dependencies role k (m ∷ ms) = dependencies role (k + 1) ms

  command : (c : Cmd) → IsNoBarrier (Run c) → list_all keeps_owners (acts (Run c)) ≡ true
  command (cmd.Barrier es) none = absurd (none es refl)
  command (cmd.Set v ms) none = dependencies (SetOf v) 0 ms
  command (cmd.Await v ms) none = dependencies (AwaitOf v) 0 ms
  command (cmd.Fill b o n w) none = refl
  command (cmd.Update b o bytes) none = refl
  command (cmd.Copy s d gs) none = refl
  command (cmd.Clear i l k rs) none = refl
  command (cmd.CopyIn b i l gs) none = refl
  command (cmd.CopyOut i l b gs) none = refl
  command (cmd.CopyImage s k d l gs) none = refl

unpaired : (past : Past) (ns : List Node) (p : Point) (more : List Act) (k : ℕ) (w : World) → list_all keeps_owners more ≡ true → some_bad_pair past ns w (lined p k more) ≡ false
unpaired past ns p [] k w all = refl
unpaired past ns p (a ∷ more) k w all = let h = and_parts (keeps_owners a) (list_all keeps_owners more) all in rw (one a h.0) (unpaired past ns p more (k + 1) (after_some past p.queue (element_in a) w) h.1) where
  one : (a : Act) → keeps_owners a ≡ true → holds (element_in a) (bad_pair past ns w (record { number = k; point = p; act = a })) ≡ false
  one (Hosts x) h = refl
  one (Waits s) h = refl
  one (Signals s) h = refl
  one (Runs c) h = refl
  one (Depends role (element.Memory d)) h = refl
  one (Depends role (element.Buffer e)) h = absurd cc
  one (Depends role (element.Image e)) h = absurd cc

pub no_owner_pair : (past : Past) (p : Point) → IsNoBarrier p.action → breaks_owner_pair past p ≡ false
no_owner_pair past p none = rw (next_nodes-lined past p) (unpaired past (nodes (p ∷ past)) p (acts p.action) (length (nodes past)) (world past) (all_keep p.action none))
