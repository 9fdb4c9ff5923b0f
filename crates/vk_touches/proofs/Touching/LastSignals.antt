-- SIGNAL_ORDER by the last signal of the semaphore: in a past without a fault it comes after all others.
use Rattle.std.proofs.Common.{◌≡◌, ⊎_elim, ◌<◌, ◌≤◌, ℕ, List, [], ◌∷◌, ◌++◌, length, Bool, true, false, not, ◌&&◌, ◌==◌, refl, ap, sym, ◌∙◌, subst, arith, Option, Some, None}
use Rattle.std.specs.Prelude.{Contains}
use Rattle.std.specs.List.{list_any}
use Rattle.std.proofs.lemmas.Bool.{and_parts, and_from, not-true, cases_lt, false_from_ne_true, eqb-true, eq-eqb}
use Rattle.std.proofs.Math.Bool.{or-false}
use Rattle.vk_model.specs.declared.rule.Rule.TheVariants as rule
use Rattle.vk_model.specs.Basics.{holds}
use Rattle.vk_model.specs.Trace.Point.{Past, Point, Action, Host, Wait, Run, Signal}
use Rattle.vk_model.specs.Sync.Node.{Node, Act, Hosts, Waits, Signals, nodes, acts, next_nodes}
use Rattle.vk_model.specs.Sync.Edge.{signaled_by}
use Rattle.vk_model.specs.Sync.Before.{before, IsNumbered}
use Rattle.vk_model.specs.Rules.Synchronization.{breaks_signal_order, same_semaphore}
use Rattle.vk_model.specs.Rules.Table.{fault, breaks}
use Rattle.vk_model.specs.Rules.Fault.{Comes, IsUnbroken}
use Rattle.vk_model.proofs.Rules.Fault.{unbroken_of_none}
use Rattle.vk_model.proofs.Lists.Members.{some_member, member_passes, none_passes_any, only_one}
use Rattle.vk_model.proofs.Lists.Truths.{bool_same, clash, no}
use Rattle.vk_model.proofs.Sync.Numbers.{numbered, number_below, unique}
use Rattle.vk_model.proofs.Sync.Growth.{growth}
use Rattle.vk_model.proofs.Sync.Paths.{transitive}
use Rattle.vk_laws.proofs.Nodes.Actions.{runs_or_idle}
use Rattle.vk_laws.proofs.Nodes.Steady.{comes_here}
use Rattle.vk_laws.proofs.Nodes.Points.{at_point, older_node}
use Rattle.vk_laws.proofs.Nodes.Prefixes.{has_more}
use Rattle.vk_touches.specs.Touched.{next_node, last_signaler, signaler_next}
use Rattle.vk_touches.proofs.Touching.LastNodes.{HasLast, last_found, last_from, signaler_is, signalers_own, next_there}
use Rattle.vk_touches.proofs.Touching.LastNodes.{only_new}
use Rattle.vk_touches.proofs.Touching.LastHazards.{one_next, nodes_with, older_there, next_acted}

-- ---- the last signal

-- it is a node that signals the semaphore
pub record IsLastSignaler (past : Past) (v : Node) (s : ℕ) : Type 0 where
  pub newer : Past
  pub older : Past
  pub at : Point
  pub whole : past ≡ newer ++ at ∷ older
  pub alone : acts at.action ≡ v.act ∷ []
  pub node_is : next_node older at v.act ≡ v
  pub here : Contains (nodes (at ∷ older)) v
  pub there : Contains (nodes past) v
  pub signals_it : holds (signaled_by v.act) (λ x. x.0 == s) ≡ true

pub signaler_at : (past : Past) (v : Node) (s : ℕ) → last_signaler past s ≡ Some v → IsLastSignaler past v s
signaler_at past v s is =
    let l = last_found (signaler_next s) past v is in
    let r = signaler_is s l.before l.at l.at.action v l.gives in
    let act : r.act ≡ v.act = ap (λ (n : Node). n.act) r.node_is in
    let here : Contains (nodes (l.at ∷ l.before)) v = subst (λ (n : Node). Contains (nodes (l.at ∷ l.before)) n) r.node_is (next_there l.before l.at r.act r.alone) in
    record {
      newer = l.newer;
      older = l.before;
      at = l.at;
      whole = l.whole;
      alone = r.alone ∙ ap (λ (a : Act). a ∷ []) act;
      node_is = ap (next_node l.before l.at) (sym act) ∙ r.node_is;
      here = here;
      there = subst (λ (l : Past). Contains (nodes l) v) (sym l.whole) (has_more growth l.newer (l.at ∷ l.before) v here);
      signals_it = ap (λ (a : Act). holds (signaled_by a) (λ x. x.0 == s)) (sym act) ∙ r.signals;
    }

-- a node that signals has an action of its own
pub record SignalsAlone (d : Action) (a : Act) (s : ℕ) : Type 0 where
  pub alone : acts d ≡ a ∷ []
  pub gives : (past : Past) (p : Point) → signaler_next s past p d ≡ Some (next_node past p a)

signals_alone : (d : Action) (a : Act) (s : ℕ) → Contains (acts d) a → holds (signaled_by a) (λ x. x.0 == s) ≡ true → SignalsAlone d a s
signals_alone (Host x) a s c h = let e = only_one (Hosts x) a c in
    record { alone = ap (λ (b : Act). b ∷ []) e; gives = λ past p. rw (ap (λ (b : Act). holds (signaled_by b) (λ y. y.0 == s)) e ∙ h) (ap (λ (b : Act). Some (next_node past p b)) e) }
signals_alone (Signal t) a s c h = let e = only_one (Signals t) a c in
    record { alone = ap (λ (b : Act). b ∷ []) e; gives = λ past p. rw (ap (λ (b : Act). holds (signaled_by b) (λ y. y.0 == s)) e ∙ h) (ap (λ (b : Act). Some (next_node past p b)) e) }
signals_alone (Wait w) a s c h = let e = only_one (Waits w) a c in absurd (let bad : false ≡ true = ap (λ (b : Act). holds (signaled_by b) (λ y. y.0 == s)) e ∙ h in cc)
signals_alone (Run x) a s c h = ⊎_elim
    (λ r. absurd (let bad : true ≡ false = sym h ∙ ap (λ (b : Act). holds (signaled_by b) (λ y. y.0 == s)) r.0 in cc))
    (λ i. absurd (let bad : true ≡ false = sym h ∙ ap (λ (b : Act). holds (signaled_by b) (λ y. y.0 == s)) i.2 in cc))
    (runs_or_idle x a c)

-- a node that signals the semaphore isn't later than the last
pub signaler_last : (past : Past) (x : Node) (s : ℕ) → Contains (nodes past) x → holds (signaled_by x.act) (λ y. y.0 == s) ≡ true → HasLast (signaler_next s) past x
signaler_last past x s there h =
    let t = at_point past x there in
    let a = signals_alone t.at.action x.act s t.acted h in
    let node : next_node t.past t.at x.act ≡ x = only_new t.past t.at x.act a.alone x t.here t.new in
    subst (λ (l : Past). HasLast (signaler_next s) l x) (sym t.whole) (last_from (signaler_next s) (signalers_own s) t.newer t.past t.at x (a.gives t.past t.at ∙ ap Some node))

-- ---- two signals of one semaphore

one_semaphore : (o u : Option (ℕ × ℕ)) (s : ℕ) → holds o (λ x. x.0 == s) ≡ true → holds u (λ x. x.0 == s) ≡ true → holds o (λ x. holds u (λ y. x.0 == y.0)) ≡ true
one_semaphore None u s h g = no h
one_semaphore (Some x) None s h g = no g
one_semaphore (Some x) (Some y) s h g = eq-eqb x.0 y.0 (eqb-true x.0 s h ∙ sym (eqb-true y.0 s g))

that_semaphore : (o : Option (ℕ × ℕ)) (s v : ℕ) (u : Option (ℕ × ℕ)) → u ≡ Some (s, v) → holds o (λ x. holds u (λ y. x.0 == y.0)) ≡ true → holds o (λ x. x.0 == s) ≡ true
that_semaphore None s v u is h = no h
that_semaphore (Some x) s v u is h = rw is at h

module _ (past : Past) (none : fault past ≡ None) where
  sound : IsUnbroken past
  sound = (unbroken_of_none past) none

  ordered_at : (newer older : Past) (q : Point) → past ≡ newer ++ q ∷ older → breaks_signal_order older q ≡ false
  unfolding breaks
  ordered_at newer older q whole = false_from_ne_true (breaks_signal_order older q) (λ h. sound older q rule.SignalOrder (subst (λ (l : Past). Comes l older q) (sym whole) (comes_here newer older q), h))

  -- an earlier signal comes before the last
  before_last : (s : ℕ) (x v : Node) → Contains (nodes past) x → holds (signaled_by x.act) (λ y. y.0 == s) ≡ true → last_signaler past s ≡ Some v → x.number < v.number → before (nodes past) x v ≡ true
  before_last s x v there h last lt =
      let l = signaler_at past v s last in
      let kept = growth (l.at ∷ l.older) l.newer in
      let number : length (nodes l.older) ≡ v.number = ap (λ (n : Node). n.number) l.node_is in
      let low = number_below (nodes (l.at ∷ l.older)) (numbered (l.at ∷ l.older)) v l.here in
      let all : Contains (kept.added.0 ++ nodes (l.at ∷ l.older)) x = subst (λ (ns : List Node). Contains ns x) (ap nodes l.whole ∙ kept.added.1) there in
      let nums : IsNumbered (kept.added.0 ++ nodes (l.at ∷ l.older)) = subst IsNumbered kept.added.1 (numbered (l.newer ++ l.at ∷ l.older)) in
      let near : Contains (nodes (l.at ∷ l.older)) x = older_node kept.added.0 (nodes (l.at ∷ l.older)) x nums all (omega (arith, low, lt)) in
      let older_nums : IsNumbered (next_node l.older l.at v.act ∷ nodes l.older) = subst IsNumbered (nodes_with l.older l.at v.act l.alone) (numbered (l.at ∷ l.older)) in
      let old : Contains (nodes l.older) x = older_node (next_node l.older l.at v.act ∷ []) (nodes l.older) x older_nums (subst (λ (ns : List Node). Contains ns x) (nodes_with l.older l.at v.act l.alone) near) (omega (arith, number, lt)) in
      let here : before (nodes (l.at ∷ l.older)) x v ≡ true = at l.older l.at l.alone l.node_is old (one_semaphore (signaled_by x.act) (signaled_by v.act) s h l.signals_it) (ordered_at l.newer l.older l.at l.whole) in
      ap (λ (q : Past). before (nodes q) x v) l.whole ∙ kept.orders x v l.here ∙ here
    where
      at : (older : Past) (q : Point) → acts q.action ≡ v.act ∷ [] → next_node older q v.act ≡ v → Contains (nodes older) x → same_semaphore x v ≡ true → breaks_signal_order older q ≡ false → before (nodes (q ∷ older)) x v ≡ true
      at older q alone node_is old same unbroken = go (before (nodes (q ∷ older)) x v) refl where
        one : breaks_signal_order older q ≡ list_any (λ m. same_semaphore m v && not (before (nodes (q ∷ older)) m v)) (nodes older)
        one = ap (λ ns. list_any (λ n. list_any (λ m. same_semaphore m n && not (before (nodes (q ∷ older)) m n)) (nodes older)) ns) (one_next older q v.act alone) ∙ or-false _ ∙ ap (λ (n : Node). list_any (λ m. same_semaphore m n && not (before (nodes (q ∷ older)) m n)) (nodes older)) node_is

        go : (b : Bool) → before (nodes (q ∷ older)) x v ≡ b → b ≡ true
        go true e = refl
        go false e = clash (one ∙ member_passes (λ m. same_semaphore m v && not (before (nodes (q ∷ older)) m v)) (nodes older) x old (rw (same, e) refl)) unbroken

  -- so the last one decides
  module _ (p : Point) (a : Act) (alone : acts p.action ≡ a ∷ []) (s v : ℕ) (signals : signaled_by a ≡ Some (s, v)) where
    abbrev y : Node
    y = next_node past p a

    abbrev unordered : Node → Bool
    unordered m = same_semaphore m y && not (before (nodes (p ∷ past)) m y)

    pub signal_order_is : breaks_signal_order past p ≡ holds (last_signaler past s) (λ m. not (before (nodes (p ∷ past)) m y))
    signal_order_is = ap (λ ns. list_any (λ n. list_any (λ m. same_semaphore m n && not (before (nodes (p ∷ past)) m n)) (nodes past)) ns) (one_next past p a alone) ∙ or-false _ ∙ bool_same _ _ to (from (last_signaler past s) refl) where
      kept : (m n : Node) → Contains (nodes past) n → before (nodes (p ∷ past)) m n ≡ before (nodes past) m n
      kept m n c = (growth past (p ∷ [])).orders m n c

      to : list_any unordered (nodes past) ≡ true → holds (last_signaler past s) (λ m. not (before (nodes (p ∷ past)) m y)) ≡ true
      to h =
          let x = some_member unordered (nodes past) h in
          let both = and_parts (same_semaphore x.0 y) (not (before (nodes (p ∷ past)) x.0 y)) x.2 in
          let mine : holds (signaled_by x.0.act) (λ y. y.0 == s) ≡ true = that_semaphore (signaled_by x.0.act) s v (signaled_by a) signals both.0 in
          let l = signaler_last past x.0 s x.1 mine in
          rw (l.is, false_from_ne_true (before (nodes (p ∷ past)) l.node y) (λ b. clash (goes x.0 l.node x.1 mine l.is l.not_before b) (not-true (before (nodes (p ∷ past)) x.0 y) both.1))) refl
        where
          goes : (x w : Node) → Contains (nodes past) x → holds (signaled_by x.act) (λ y. y.0 == s) ≡ true → last_signaler past s ≡ Some w → x.number ≤ w.number → before (nodes (p ∷ past)) w y ≡ true → before (nodes (p ∷ past)) x y ≡ true
          goes x w there mine last le b =
              let l = signaler_at past w s last in ⊎_elim
              (λ lt. transitive (p ∷ past) x w y (older_there past p a alone x there) (older_there past p a alone w l.there) (next_there past p a alone) (kept x w l.there ∙ before_last s x w there mine last lt) b)
              (λ ge. subst (λ (n : Node). before (nodes (p ∷ past)) n y ≡ true) (unique (nodes past) (numbered past) w x l.there there (omega (arith, le, ge))) b)
              (cases_lt x.number w.number)

      from : (o : Option Node) → last_signaler past s ≡ o → holds o (λ m. not (before (nodes (p ∷ past)) m y)) ≡ true → list_any unordered (nodes past) ≡ true
      from None e h = no h
      from (Some w) e h =
          let l = signaler_at past w s e in
          member_passes unordered (nodes past) w l.there (and_from (same_semaphore w y) (not (before (nodes (p ∷ past)) w y)) (one_semaphore (signaled_by w.act) (signaled_by a) s l.signals_it (rw signals (eq-eqb s s refl))) h)

  -- a point that signals nothing is in order
  pub no_signal_order : (p : Point) → ((a : Act) → Contains (acts p.action) a → signaled_by a ≡ None) → breaks_signal_order past p ≡ false
  no_signal_order p quiet = none_passes_any _ (next_nodes past p) (λ n c. none_passes_any _ (nodes past) (λ m d. no_pair m n (quiet n.act (acted n c)))) where
    acted : (n : Node) → Contains (next_nodes past p) n → Contains (acts p.action) n.act
    acted n c = next_acted past p n c

    no_pair : (m n : Node) → signaled_by n.act ≡ None → (same_semaphore m n && not (before (nodes (p ∷ past)) m n)) ≡ false
    no_pair m n e = go (signaled_by m.act) where
      go : (o : Option (ℕ × ℕ)) → (holds o (λ x. holds (signaled_by n.act) (λ y. x.0 == y.0)) && not (before (nodes (p ∷ past)) m n)) ≡ false
      go None = refl
      go (Some x) = rw e refl
