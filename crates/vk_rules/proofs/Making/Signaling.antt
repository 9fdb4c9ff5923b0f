-- What signals do: a node of their own, and SIGNAL_ORDER by what a new node says of the last one.
use Rattle.std.proofs.Common.{◌≡◌, ⊎_elim, ℕ, [], ◌∷◌, Bool, true, false, not, refl, ap, sym, ◌∙◌, Option, Some, None}
use Rattle.std.specs.Prelude.{Contains, ◌==◌}
use Rattle.std.specs.Option.{option_map}
use Rattle.vk_model.specs.Basics.{holds}
use Rattle.vk_model.specs.Trace.Point.{Past, Point, Action, Host, Wait, Run, Signal}
use Rattle.vk_model.specs.Trace.Order.{signal_of}
use Rattle.vk_model.specs.Sync.Node.{Node, Act, Hosts, Waits, Signals, Runs, Depends, nodes, acts}
use Rattle.vk_model.specs.Sync.Edge.{signaled_by, is_element}
use Rattle.vk_model.specs.Sync.Before.{before}
use Rattle.vk_model.specs.Rules.Synchronization.{breaks_signal_order}
use Rattle.vk_model.specs.Rules.Table.{fault}
use Rattle.vk_model.proofs.Lists.Members.{only_one}
use Rattle.vk_laws.proofs.Nodes.Actions.{runs_or_idle}
use Rattle.vk_order.specs.Lines.{line_of, class_of, place}
use Rattle.vk_order.specs.declared.lines.Line.{Line}
use Rattle.vk_touches.specs.Touched.{next_node, act_next, last_signaler, signal_spot}
use Rattle.vk_touches.proofs.Touching.LastHazards.{nodes_with}
use Rattle.vk_touches.proofs.Touching.LastSignals.{signal_order_is, no_signal_order, signaler_at}

-- a signal's point has one act
pub record IsSignal (d : Action) (s : ℕ) : Type 0 where
  pub value : ℕ
  pub alone : acts d ≡ act_next d ∷ []
  pub signals : signaled_by (act_next d) ≡ Some (s, value)
  pub no_element : is_element (act_next d) ≡ false

pub is_signal : (d : Action) (s : ℕ) → option_map (λ x. x.0) (signal_of d) ≡ Some s → IsSignal d s
is_signal (Host x) s is = at (signal_of (Host x)) refl is where
  at : (o : Option (ℕ × ℕ)) → signal_of (Host x) ≡ o → option_map (λ x. x.0) o ≡ Some s → IsSignal (Host x) s
  at None e is = absurd cc
  at (Some y) e is = let same : y.0 ≡ s = cc in record { value = y.1; alone = refl; signals = e ∙ ap (λ (k : ℕ). Some (k, y.1)) same; no_element = refl }
is_signal (Signal t) s is = let same : t.semaphore ≡ s = cc in record { value = t.value; alone = refl; signals = ap (λ (k : ℕ). Some (k, t.value)) same; no_element = refl }
is_signal (Wait w) s is = absurd cc
is_signal (Run c) s is = absurd cc

-- the line of what signals
signal_line : (m : Node) (s : ℕ) → holds (signaled_by m.act) (λ x. x.0 == s) ≡ true → line_of m ≡ Some (class_of m)
signal_line m s h = by_act m.act refl h where
  by_act : (a : Act) → m.act ≡ a → holds (signaled_by a) (λ x. x.0 == s) ≡ true → line_of m ≡ Some (class_of m)
  by_act (Hosts x) e h = rw e refl
  by_act (Signals t) e h = rw e refl
  by_act (Waits w) e h = absurd cc
  by_act (Runs c) e h = absurd cc
  by_act (Depends r x) e h = absurd cc

module _ (past : Past) (none : fault past ≡ None) (p : Point) (s : ℕ) (is : IsSignal p.action s) where
  abbrev y : Node
  y = next_node past p (act_next p.action)

  -- by the spot of the last signal, and what is said of who is there
  pub ordered_by : (line : Line) (spot : ℕ) (follows : Bool) → Some (line, spot) ≡ option_map (signal_spot past) (last_signaler past s)
      → ((m : Node) → Contains (nodes past) m → line_of m ≡ Some line → place (nodes past) line m.number ≡ spot → follows ≡ before (y ∷ nodes past) m y) → not follows ≡ breaks_signal_order past p
  ordered_by line spot follows last says = go (last_signaler past s) refl last ∙ sym (signal_order_is past none p (act_next p.action) is.alone s is.value is.signals) where
    go : (o : Option Node) → last_signaler past s ≡ o → Some (line, spot) ≡ option_map (signal_spot past) o → not follows ≡ holds o (λ m. not (before (nodes (p ∷ past)) m y))
    go None e l = absurd cc
    go (Some m) e l =
        let at = signaler_at past m s e in
        let spots : (line, spot) ≡ signal_spot past m = inside _ _ l in
        let line_is : class_of m ≡ line = sym (ap (λ (x : Line × ℕ). x.0) spots) in
        let place_is : place (nodes past) (class_of m) m.number ≡ spot = sym (ap (λ (x : Line × ℕ). x.1) spots) in
        ap not (says m at.there (signal_line m s at.signals_it ∙ ap Some line_is) (rw (← line_is) place_is) ∙ ap (λ ns. before ns m y) (sym (nodes_with past p (act_next p.action) is.alone)))
      where
        inside : {A : Type 0} (x z : A) → Some x ≡ Some z → x ≡ z
        inside x z e = cc

  pub ordered_first : None ≡ option_map (signal_spot past) (last_signaler past s) → false ≡ breaks_signal_order past p
  ordered_first last = go (last_signaler past s) refl last ∙ sym (signal_order_is past none p (act_next p.action) is.alone s is.value is.signals) where
    go : (o : Option Node) → last_signaler past s ≡ o → None ≡ option_map (signal_spot past) o → false ≡ holds o (λ m. not (before (nodes (p ∷ past)) m y))
    go None e l = refl
    go (Some m) e l = absurd cc

-- what signals nothing is in order
pub unsignaled_ordered : (past : Past) → fault past ≡ None → (p : Point) → signal_of p.action ≡ None → breaks_signal_order past p ≡ false
unsignaled_ordered past none p quiet = no_signal_order past none p (λ a c. by_action p.action quiet a c) where
  by_action : (d : Action) → signal_of d ≡ None → (a : Act) → Contains (acts d) a → signaled_by a ≡ None
  by_action (Host x) q a c = ap signaled_by (sym (only_one (Hosts x) a c)) ∙ q
  by_action (Signal t) q a c = absurd cc
  by_action (Wait w) q a c = ap signaled_by (sym (only_one (Waits w) a c))
  by_action (Run x) q a c = ⊎_elim (λ r. ap signaled_by r.0) (λ i. ap signaled_by i.2) (runs_or_idle x a c)
