-- Each node is of a point, and its accesses stay as they were there.
use Rattle.std.proofs.Common.{◌≡◌, ◌⊎◌, inl, inr, ⊎_elim, ◌<◌, ◌≤◌, List, [], ◌∷◌, ◌++◌, map, length, refl, ap, sym, subst, arith}
use Rattle.std.specs.Prelude.{Contains}
use Rattle.std.specs.List.{enumerate_from}
use Rattle.std.proofs.lemmas.List.{length-append}
use Rattle.vk_model.specs.declared.command.Cmd.{Cmd}
use Rattle.vk_model.specs.declared.command.Cmd.TheVariants as cmd
use Rattle.vk_model.specs.Trace.Point.{Past, Point, Action, Host, Wait, Run, Signal}
use Rattle.vk_model.specs.Sync.Node.{Node, Act, Hosts, Waits, Signals, Runs, Depends, nodes, acts, with_acts, Barrier}
use Rattle.vk_model.specs.Sync.Before.{IsNumbered}
use Rattle.vk_laws.proofs.Nodes.Steady.{comes_here}
use Rattle.vk_model.proofs.Lists.Members.{contains-cons, contains-head, contains-tail, only_one, none_in}
use Rattle.vk_model.specs.Rules.Fault.{Comes}
use Rattle.vk_model.proofs.Sync.Numbers.{number_below, numbered}

-- ---- the point of a node

pub record AtPoint (all : Past) (n : Node) : Type 0 where
  pub newer : Past
  pub past : Past
  pub at : Point
  pub whole : all ≡ newer ++ at ∷ past
  pub here : Contains (nodes (at ∷ past)) n
  pub new : length (nodes past) ≤ n.number
  pub acted : Contains (acts at.action) n.act
  pub pointed : n.point ≡ at

pub in_acts : (p : Point) (more : List Act) (ns : List Node) (n : Node) → Contains (with_acts p more ns) n → Contains ns n ⊎ (length ns ≤ n.number) × Contains more n.act × (n.point ≡ p)
in_acts p [] ns n c = inl c
in_acts p (a ∷ more) ns n c =
    let one : Node = record { number = length ns; point = p; act = a } in
    ⊎_elim
    (λ c'. ⊎_elim
    (λ e. let k : length ns ≡ n.number = ap (λ (m : Node). m.number) e in inr (omega arith, subst (λ (b : Act). Contains (a ∷ more) b) (ap (λ (m : Node). m.act) e) (contains-head a more), ap (λ (m : Node). m.point) (sym e)))
    (λ older. inl older) (contains-cons one ns n c'))
    (λ h. let le = h.0 in inr (omega arith, contains-tail a more n.act h.1, h.2))
    (in_acts p more (one ∷ ns) n c)

pub at_point : (all : Past) (n : Node) → Contains (nodes all) n → AtPoint all n
at_point [] n c = absurd (none_in n c)
at_point (p ∷ past) n c = go (at_point past n) (in_acts p (acts p.action) (nodes past) n c)
  where
    go : (Contains (nodes past) n → AtPoint past n) → Contains (nodes past) n ⊎ (length (nodes past) ≤ n.number) × Contains (acts p.action) n.act × (n.point ≡ p) → AtPoint (p ∷ past) n
    go rest (inl older) = let s = rest older in record { newer = p ∷ s.newer; past = s.past; at = s.at; whole = ap (λ (l : Past). p ∷ l) s.whole; here = s.here; new = s.new; acted = s.acted; pointed = s.pointed }
    go rest (inr h) = record { newer = []; past = past; at = p; whole = refl; here = c; new = h.0; acted = h.1; pointed = h.2 }

pub comes_at : (all : Past) (n : Node) (s : AtPoint all n) → Comes all s.past s.at
comes_at all n s = subst (λ (l : Past). Comes l s.past s.at) (sym s.whole) (comes_here s.newer s.past s.at)

pub at_point_below : (all : Past) (n : Node) (s : AtPoint all n) → n.number < length (nodes (s.at ∷ s.past))
at_point_below all n s = number_below (nodes (s.at ∷ s.past)) (numbered (s.at ∷ s.past)) n s.here

-- ---- the action of a command's node

pub not_mapped : {X : Type 0} (f : X → Act) (c : Cmd) → ((x : X) → f x ≡ Runs c → ⊥) → (xs : List X) → Contains (map f xs) (Runs c) → ⊥
not_mapped f c never [] h = none_in (Runs c) h
not_mapped f c never (x ∷ xs) h = ⊎_elim (λ e. never x e) (λ later. not_mapped f c never xs later) (contains-cons (f x) (map f xs) (Runs c) h)

run_of : (x c : Cmd) → Runs x ≡ Runs c → Run x ≡ Run c
run_of x c e = let same : x ≡ c = cc in ap Run same

pub action_of : (d : Action) (c : Cmd) → Contains (acts d) (Runs c) → d ≡ Run c
action_of (Host x) c h = let e = only_one (Hosts x) (Runs c) h in absurd cc
action_of (Wait s) c h = let e = only_one (Waits s) (Runs c) h in absurd cc
action_of (Signal s) c h = let e = only_one (Signals s) (Runs c) h in absurd cc
action_of (Run (cmd.Barrier es)) c h = absurd (not_mapped (Depends Barrier) c (λ x e. cc) es h)
action_of (Run (cmd.Set v ms)) c h = absurd (not_mapped _ c (λ x e. cc) (enumerate_from 0 ms) h)
action_of (Run (cmd.Await v ms)) c h = absurd (not_mapped _ c (λ x e. cc) (enumerate_from 0 ms) h)
action_of (Run (cmd.Fill b o n w)) c h = run_of _ c (only_one _ (Runs c) h)
action_of (Run (cmd.Update b o bytes)) c h = run_of _ c (only_one _ (Runs c) h)
action_of (Run (cmd.Copy s d gs)) c h = run_of _ c (only_one _ (Runs c) h)
action_of (Run (cmd.Clear i l color rs)) c h = run_of _ c (only_one _ (Runs c) h)
action_of (Run (cmd.CopyIn b i l gs)) c h = run_of _ c (only_one _ (Runs c) h)
action_of (Run (cmd.CopyOut i l b gs)) c h = run_of _ c (only_one _ (Runs c) h)
action_of (Run (cmd.CopyImage s l d m gs)) c h = run_of _ c (only_one _ (Runs c) h)

-- ---- older nodes

pub older_node : (front ns : List Node) (x : Node) → IsNumbered (front ++ ns) → Contains (front ++ ns) x → x.number < length ns → Contains ns x
older_node [] ns x numbers c lt = c
older_node (n ∷ front) ns x numbers c lt = ⊎_elim
    (λ e. let here : n.number ≡ x.number = ap (λ (m : Node). m.number) e in let size = numbers.0 in let long = length-append front ns in absurd (omega arith))
    (λ later. older_node front ns x numbers.1 later lt)
    (contains-cons n (front ++ ns) x c)
