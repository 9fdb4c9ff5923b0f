-- The signals of semaphores after a point.
use Rattle.std.proofs.Common.{◌≡◌, ℕ, ◌∷◌, Bool, true, false, ◌==◌, max, refl, ap, sym, ◌∙◌, Some, None}
use Rattle.std.specs.Prelude.{if◌then◌else◌}
use Rattle.std.specs.Option.{option_map}
use Rattle.std.specs.List.{fold}
use Rattle.std.specs.Ordering.{nat_cmp}
use Rattle.std.specs.BTreeMap.{get}
use Rattle.std.proofs.lemmas.Bool.{eqb-true, eq-eqb, false_from_ne_true}
use Rattle.vk_model.specs.Trace.Point.{Past, Point, Action, Host, Wait, Run, Signal}
use Rattle.vk_model.specs.Trace.Order.{signaled, signal_of}
use Rattle.vk_model.specs.Sync.Node.{Act, Hosts, Signals as SignalsAct}
use Rattle.vk_order.specs.Lines.{class_of}
use Rattle.vk_order.specs.declared.lines.Line.{Line}
use Rattle.vk_history.specs.declared.semaphores.Semaphores.{Semaphores}
use Rattle.vk_touches.specs.Touched.{next_node, next_place, line_next, signaler_next, last_signaler, signal_spot}
use Rattle.vk_history.specs.Tabled.{AreSemaphores, spot_view, greatest_of}
use Rattle.vk_history.proofs.Kept.PastLemmas.{signaled-some, signaled-none}
use Rattle.vk_touches.proofs.Touching.Spots.{same_signaler, new_signaler}

turned : (a b : ℕ) (t : Bool) → (a == b) ≡ t → (b == a) ≡ t
turned a b true e = eq-eqb b a (sym (eqb-true a b e))
turned a b false e = false_from_ne_true (b == a) (λ h. absurd (let yes_is : (a == b) ≡ true = eq-eqb a b (sym (eqb-true b a h)) in let bad : true ≡ false = sym yes_is ∙ e in cc))

inside : {A : Type 0} (x y : A) → Some x ≡ Some y → x ≡ y
inside x y e = cc

-- the node of a signal, and its line
pub record SignalsBy (past : Past) (p : Point) (d : Action) (s : ℕ) : Type 0 where
  pub act : Act
  pub gives : signaler_next s past p d ≡ Some (next_node past p act)
  pub line : class_of (next_node past p act) ≡ line_next p d

signals_by : (past : Past) (p : Point) (d : Action) (s v : ℕ) → signal_of d ≡ Some (s, v) → SignalsBy past p d s
signals_by past p (Host x) s v is = record { act = Hosts x; gives = rw (is, eq-eqb s s refl) refl; line = refl }
signals_by past p (Signal t) s v is = record { act = SignalsAct t; gives = rw (eq-eqb t.semaphore s (ap (λ (x : ℕ × ℕ). x.0) (inside (t.semaphore, t.value) (s, v) is))) refl; line = refl }
signals_by past p (Wait w) s v is = absurd cc
signals_by past p (Run c) s v is = absurd cc

module _ (old new : Semaphores) (past : Past) (p : Point) (s v : ℕ) (is : signal_of p.action ≡ Some (s, v)) where
  pub signaled_step : (line : Line) (place : ℕ) → line ≡ line_next p p.action → place ≡ next_place past line
      → ((t : ℕ) → greatest_of (get nat_cmp new.signals t) ≡ (if t == s then max v (greatest_of (get nat_cmp old.signals t)) else greatest_of (get nat_cmp old.signals t)))
      → ((t : ℕ) → option_map spot_view (get nat_cmp new.signals t) ≡ (if t == s then Some (line, place) else option_map spot_view (get nat_cmp old.signals t)))
      → AreSemaphores old past → AreSemaphores new (p ∷ past)
  signaled_step line place line_is place_is values spots are = record { greatest = λ t. at t (t == s) refl; last = λ t. spot_at t (t == s) refl } where
    at : (t : ℕ) (b : Bool) → (t == s) ≡ b → greatest_of (get nat_cmp new.signals t) ≡ fold max 0 (signaled (p ∷ past) t)
    at t true e = values t ∙ rw (e, are.greatest t) (sym (signaled-some p past s v is t ∙ rw (turned t s true e) refl))
    at t false e = values t ∙ rw (e, are.greatest t) (sym (signaled-some p past s v is t ∙ rw (turned t s false e) refl))

    spot_at : (t : ℕ) (b : Bool) → (t == s) ≡ b → option_map spot_view (get nat_cmp new.signals t) ≡ option_map (signal_spot (p ∷ past)) (last_signaler (p ∷ past) t)
    spot_at t true e =
        let by = signals_by past p p.action t v (is ∙ ap (λ k. Some (k, v)) (sym (eqb-true t s e))) in
        spots t ∙ rw e (rw (place_is, line_is) (sym (new_signaler past p t by.act by.gives ∙ ap (λ l. Some (l, next_place past l)) by.line)))
    spot_at t false e = spots t ∙ rw e (are.last t ∙ sym (same_signaler past p t (rw (is, turned t s false e) refl)))

pub unsignaled_step : (semaphores : Semaphores) (past : Past) (p : Point) → signal_of p.action ≡ None → AreSemaphores semaphores past → AreSemaphores semaphores (p ∷ past)
unsignaled_step semaphores past p is are = record {
  greatest = λ t. are.greatest t ∙ sym (ap (fold max 0) (signaled-none p past is t));
  last = λ t. are.last t ∙ sym (same_signaler past p t (rw is refl));
}
