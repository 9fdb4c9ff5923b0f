-- The last node of some points is of one of them, and no other is later.
use Rattle.std.proofs.Common.{◌≡◌, ◌≤◌, ℕ, List, [], ◌∷◌, ◌++◌, length, Bool, true, false, ◌==◌, refl, ap, sym, ◌∙◌, subst, arith, ⊎_elim, Option, Some, None}
use Rattle.std.specs.Prelude.{Contains, if◌then◌else◌}
use Rattle.std.specs.Option.{option_or}
use Rattle.std.proofs.lemmas.Bool.{and_parts}
use Rattle.vk_model.specs.declared.command.Cmd.{Cmd}
use Rattle.vk_model.specs.declared.command.Cmd.TheVariants as cmd
use Rattle.vk_model.specs.Basics.{holds}
use Rattle.vk_model.specs.World.Bytes.{Byte}
use Rattle.vk_model.specs.World.ByteWrites.{byte_writes}
use Rattle.vk_model.specs.Trace.Point.{Past, Point, Action, Host, Wait, Run, Signal}
use Rattle.vk_model.specs.Trace.Order.{signal_in}
use Rattle.vk_model.specs.Sync.Node.{Node, Act, Hosts, Signals, Runs, nodes, acts, with_acts}
use Rattle.vk_model.specs.Sync.Edge.{signaled_by}
use Rattle.vk_model.specs.Sync.Access.{is_in, targets, origins}
use Rattle.vk_laws.proofs.Nodes.Counts.{more_nodes}
use Rattle.vk_model.proofs.Lists.Members.{contains-cons, contains-head}
use Rattle.vk_model.proofs.Sync.Numbers.{numbered, number_below}
use Rattle.vk_order.specs.Lines.{class_on}
use Rattle.vk_touches.specs.declared.touches.Touch.{Touch}
use Rattle.vk_touches.specs.declared.touches.Touch.TheVariants as touch
use Rattle.vk_touches.specs.Touched.{next_node, act_next, line_next, only_if, touches, touch_next, signaler_next, last_of}

-- points give nodes of their own: the first of a point's nodes
abbrev pub GivesOwn : (Past → Point → Action → Option Node) → Type 0
GivesOwn of = (past : Past) (p : Point) (d : Action) (v : Node) → of past p d ≡ Some v → (v.number ≡ length (nodes past)) × (v.point ≡ p)

-- the last node is of a point, and later points give none
pub record IsLast (of : Past → Point → Action → Option Node) (past : Past) (v : Node) : Type 0 where
  pub newer : Past
  pub before : Past
  pub at : Point
  pub whole : past ≡ newer ++ at ∷ before
  pub gives : of before at at.action ≡ Some v

pub last_found : (of : Past → Point → Action → Option Node) (past : Past) (v : Node) → last_of of past ≡ Some v → IsLast of past v
last_found of [] v is = absurd cc
last_found of (p ∷ past) v is = go (of past p p.action) refl is (last_found of past v) where
  go : (o : Option Node) → of past p p.action ≡ o → option_or o (last_of of past) ≡ Some v → (last_of of past ≡ Some v → IsLast of past v) → IsLast of (p ∷ past) v
  go (Some w) e is rest = record { newer = []; before = past; at = p; whole = refl; gives = e ∙ is }
  go None e is rest = let l = rest is in record { newer = p ∷ l.newer; before = l.before; at = l.at; whole = ap (λ (q : Past). p ∷ q) l.whole; gives = l.gives }

-- what a point gives isn't later than the last
pub record HasLast (of : Past → Point → Action → Option Node) (past : Past) (x : Node) : Type 0 where
  pub node : Node
  pub is : last_of of past ≡ Some node
  pub not_before : x.number ≤ node.number

pub last_from : (of : Past → Point → Action → Option Node) → GivesOwn of → (newer before : Past) (p : Point) (x : Node) → of before p p.action ≡ Some x → HasLast of (newer ++ p ∷ before) x
last_from of own [] before p x gives = record { node = x; is = rw gives refl; not_before = omega arith }
last_from of own (q ∷ newer) before p x gives = go (of (newer ++ p ∷ before) q q.action) refl (last_from of own newer before p x gives) where
  go : (o : Option Node) → of (newer ++ p ∷ before) q q.action ≡ o → HasLast of (newer ++ p ∷ before) x → HasLast of (q ∷ newer ++ p ∷ before) x
  go None e h = record { node = h.node; is = rw e h.is; not_before = h.not_before }
  go (Some v) e h =
      let mine = (own (newer ++ p ∷ before) q q.action v e).0 in
      let its = (own before p p.action x gives).0 in
      let more = more_nodes (newer ++ p ∷ []) before in
      record { node = v; is = rw e refl; not_before = less mine its }
    where
      less : v.number ≡ length (nodes (newer ++ p ∷ before)) → x.number ≡ length (nodes before) → x.number ≤ v.number
      less mine its = let more : length (nodes before) ≤ length (nodes (newer ++ p ∷ before)) = longer newer in omega (arith, mine, its, more) where
        longer : (newer : Past) → length (nodes before) ≤ length (nodes (newer ++ p ∷ before))
        longer newer = let one = more_nodes (p ∷ []) before in let all = more_nodes newer (p ∷ before) in omega (arith, one, all)

-- ---- who touches, and who signals

pub picked : (test : Bool) (n v : Node) → only_if test n ≡ Some v → (test ≡ true) × (n ≡ v)
picked true n v is = (refl, cc)
picked false n v is = absurd cc

-- a point that touches a byte
pub record IsToucherAt (t : Touch) (b : Byte) (past : Past) (p : Point) (d : Action) (v : Node) : Type 0 where
  pub touches_it : touches t b past p d ≡ true
  pub node_is : next_node past p (act_next d) ≡ v

pub toucher_is : (t : Touch) (b : Byte) (past : Past) (p : Point) (d : Action) (v : Node) → touch_next t b past p d ≡ Some v → IsToucherAt t b past p d v
toucher_is t b past p d v is = let h = picked (touches t b past p d) (next_node past p (act_next d)) v is in record { touches_it = h.0; node_is = h.1 }

pub touchers_own : (t : Touch) (b : Byte) → GivesOwn (touch_next t b)
touchers_own t b past p d v is = let w = toucher_is t b past p d v is in (ap (λ (n : Node). n.number) (sym w.node_is), ap (λ (n : Node). n.point) (sym w.node_is))

-- a point that signals a semaphore, by a node of its own
pub record IsSignalerAt (s : ℕ) (past : Past) (p : Point) (d : Action) (v : Node) : Type 0 where
  pub act : Act
  pub alone : acts d ≡ act ∷ []
  pub signals : holds (signaled_by act) (λ x. x.0 == s) ≡ true
  pub node_is : next_node past p act ≡ v

pub signaler_is : (s : ℕ) (past : Past) (p : Point) (d : Action) (v : Node) → signaler_next s past p d ≡ Some v → IsSignalerAt s past p d v
signaler_is s past p d v is = by_action d is where
  choose : (test : Bool) (a : Act) → (if test then Some (next_node past p a) else None) ≡ Some v → (test ≡ true) × (next_node past p a ≡ v)
  choose true a e = (refl, cc)
  choose false a e = absurd cc

  none : (test : Bool) → (let o : Option Node = if test then None else None in o) ≡ Some v → ⊥
  none true e = cc
  none false e = cc

  by_action : (d : Action) → signaler_next s past p d ≡ Some v → IsSignalerAt s past p d v
  by_action (Host x) e = let h = choose (holds (signal_in x) (λ y. y.0 == s)) (Hosts x) e in record { act = Hosts x; alone = refl; signals = h.0; node_is = h.1 }
  by_action (Signal t) e = let h = choose (t.semaphore == s) (Signals t) e in record { act = Signals t; alone = refl; signals = h.0; node_is = h.1 }
  by_action (Wait w) e = absurd cc
  by_action (Run c) e = absurd cc

pub signalers_own : (s : ℕ) → GivesOwn (signaler_next s)
signalers_own s past p d v is = let w = signaler_is s past p d v is in (ap (λ (n : Node). n.number) (sym w.node_is), ap (λ (n : Node). n.point) (sym w.node_is))

-- ---- nodes of points with one act

-- it is the newest
pub next_there : (past : Past) (p : Point) (a : Act) → acts p.action ≡ a ∷ [] → Contains (nodes (p ∷ past)) (next_node past p a)
next_there past p a alone = subst (λ (l : List Act). Contains (with_acts p l (nodes past)) (next_node past p a)) (sym alone) (contains-head (next_node past p a) (nodes past))

-- a command that makes byte writes is no dependency
runs_alone : (past : Past) (c : Cmd) → (byte_writes past c ≡ [] → ⊥) → acts (Run c) ≡ Runs c ∷ []
runs_alone past (cmd.Barrier es) some = absurd (some refl)
runs_alone past (cmd.Set v ms) some = absurd (some refl)
runs_alone past (cmd.Await v ms) some = absurd (some refl)
runs_alone past (cmd.Fill c o n w) some = refl
runs_alone past (cmd.Update c o bytes) some = refl
runs_alone past (cmd.Copy s d gs) some = refl
runs_alone past (cmd.Clear i l color rs) some = refl
runs_alone past (cmd.CopyIn c i l gs) some = refl
runs_alone past (cmd.CopyOut i l c gs) some = refl
runs_alone past (cmd.CopyImage s l d m gs) some = refl

pub writes_alone : (past : Past) (b : Byte) (c : Cmd) → is_in b (targets (byte_writes past c)) ≡ true → acts (Run c) ≡ Runs c ∷ []
writes_alone past b c h = runs_alone past c (λ none. let bad : is_in b [] ≡ true = ap (λ ms. is_in b (targets ms)) (sym none) ∙ h in cc)

pub reads_alone : (past : Past) (b : Byte) (c : Cmd) → is_in b (origins (byte_writes past c)) ≡ true → acts (Run c) ≡ Runs c ∷ []
reads_alone past b c h = runs_alone past c (λ none. let bad : is_in b [] ≡ true = ap (λ ms. is_in b (origins ms)) (sym none) ∙ h in cc)

-- what touches a byte has one act, which is no dependency
pub touches_alone : (t : Touch) (b : Byte) (past : Past) (p : Point) (d : Action) → touches t b past p d ≡ true → acts d ≡ act_next d ∷ []
touches_alone touch.Write b past p (Run c) h = writes_alone (p ∷ past) b c h
touches_alone (touch.Read q) b past p (Run c) h = reads_alone (p ∷ past) b c (and_parts (p.queue == q) (is_in b (origins (byte_writes (p ∷ past) c))) h).1
touches_alone touch.HostWrite b past p (Host x) h = refl
touches_alone touch.HostRead b past p (Host x) h = refl
touches_alone touch.Write b past p (Host x) h = absurd cc
touches_alone touch.Write b past p (Wait s) h = absurd cc
touches_alone touch.Write b past p (Signal s) h = absurd cc
touches_alone (touch.Read q) b past p (Host x) h = absurd cc
touches_alone (touch.Read q) b past p (Wait s) h = absurd cc
touches_alone (touch.Read q) b past p (Signal s) h = absurd cc
touches_alone touch.HostWrite b past p (Run c) h = absurd cc
touches_alone touch.HostWrite b past p (Wait s) h = absurd cc
touches_alone touch.HostWrite b past p (Signal s) h = absurd cc
touches_alone touch.HostRead b past p (Run c) h = absurd cc
touches_alone touch.HostRead b past p (Wait s) h = absurd cc
touches_alone touch.HostRead b past p (Signal s) h = absurd cc

-- so its line is known
pub touches_on : (t : Touch) (b : Byte) (past : Past) (p : Point) (d : Action) → touches t b past p d ≡ true → class_on p.queue (act_next d) ≡ line_next p d
touches_on t b past p (Run c) h = refl
touches_on t b past p (Host x) h = refl
touches_on t b past p (Signal s) h = refl
touches_on touch.Write b past p (Wait s) h = absurd cc
touches_on (touch.Read q) b past p (Wait s) h = absurd cc
touches_on touch.HostWrite b past p (Wait s) h = absurd cc
touches_on touch.HostRead b past p (Wait s) h = absurd cc

-- of a point with one act, the node is the next
pub only_new : (older : Past) (q : Point) (a : Act) → acts q.action ≡ a ∷ [] → (x : Node) → Contains (nodes (q ∷ older)) x → length (nodes older) ≤ x.number → next_node older q a ≡ x
only_new older q a alone x there new =
    let at = next_there older q a alone in
    let small : Contains (next_node older q a ∷ nodes older) x = subst (λ (l : List Act). Contains (with q l older) x) alone there in
    ⊎_elim (λ e. e) (λ old. absurd (let lt = number_below (nodes older) (numbered older) x old in omega (arith, lt, new))) (contains-cons (next_node older q a) (nodes older) x small)
  where
    with : Point → List Act → Past → List Node
    with q l older = with_acts q l (nodes older)
