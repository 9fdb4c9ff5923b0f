-- The signals that waits hang on.
use Rattle.std.proofs.Common.{◌≡◌, ⊎_elim, ℕ, ◌<◌, ◌≤◌, List, [], ◌∷◌, map, Bool, true, false, not, ◌&&◌, ◌||◌, Option, Some, None, refl, ap, sym, ◌∙◌, subst, arith}
use Rattle.std.specs.Prelude.{◌==◌, Contains, nat_le, nat_lt, if◌then◌else◌}
use Rattle.std.specs.Option.{option_and_then}
use Rattle.std.specs.List.{list_any, cons_option}
use Rattle.std.proofs.lemmas.Bool.{eqb-true, eq-eqb, and_parts, and_from, cases_lt, lt-ltb, ltb-true}
use Rattle.vk_model.specs.Basics.{holds}
use Rattle.vk_model.specs.declared.entry.Entry.{Entry}
use Rattle.vk_model.specs.declared.entry.Entry.TheVariants as entry
use Rattle.vk_model.specs.declared.entry.SemaphoreSubmit.{SemaphoreSubmit}
use Rattle.vk_model.specs.declared.entry.SemaphoreValue.{SemaphoreValue}
use Rattle.vk_model.specs.Trace.Order.{value_for}
use Rattle.vk_model.specs.Sync.Node.{Node, Act, Hosts, Waits, Signals, Runs, Depends, Barrier, SetOf, AwaitOf}
use Rattle.vk_model.specs.Sync.Edge.{pairs, by_semaphore, signaled_by, waited_by, host_waits, is_least, is_enough, values_to}
use Rattle.vk_model.proofs.Lists.Members.{member_passes, some_member, any_map}
use Rattle.vk_model.proofs.Lists.Truths.{no}
use Rattle.vk_order.specs.declared.lines.Line.{Line}
use Rattle.vk_order.specs.declared.fronts.Front.{Front}
use Rattle.vk_order.specs.declared.keyed.Keyed.{Keyed}
use Rattle.vk_order.specs.Inner.Fronts.{IsNamed}
use Rattle.vk_order.specs.Inner.Keyed.{front_at, IsLeastFront}
use Rattle.vk_order.specs.Inner.Names.{is_set_of, signals_value, is_awaited_for, AreSignals}
use Rattle.vk_order.proofs.FrontLemmas.{front_same}
use Rattle.std.proofs.Math.Bool.{or-false, and-true}

-- ---- values that are signaled

value_is : (s i v : ℕ) (f : ℕ → Bool) → holds (value_for s (i, v)) f ≡ (i == s && f v)
value_is s i v f = go (i == s)
  where
    go : (b : Bool) → holds (if b then Some v else None) f ≡ (b && f v)
    go true = refl
    go false = refl

value_held : (s : ℕ) (f : ℕ → Bool) (o : Option (ℕ × ℕ)) → holds (option_and_then (value_for s) o) f ≡ holds o (λ x. x.0 == s && f x.1)
value_held s f None = refl
value_held s f (Some x) = value_is s x.0 x.1 f

-- a test of the values is one of the nodes
any_value : (f : ℕ → Bool) (s : ℕ) (ns : List Node) → list_any f (values_to ns s) ≡ list_any (λ n. holds (signaled_by n.act) (λ x. x.0 == s && f x.1)) ns
any_value f s [] = refl
any_value f s (n ∷ ns) =
    consed (option_and_then (value_for s) (signaled_by n.act)) (values_to ns s)
    ∙ ap (λ (t : Bool). t || list_any f (values_to ns s)) (value_held s f (signaled_by n.act))
    ∙ ap (λ (t : Bool). holds (signaled_by n.act) (λ x. x.0 == s && f x.1) || t) (any_value f s ns)
  where
    consed : (o : Option ℕ) (xs : List ℕ) → list_any f (cons_option o xs) ≡ (holds o f || list_any f xs)
    consed None xs = refl
    consed (Some v) xs = refl

-- ---- the least value

module _ (ns : List Node) (ls : List Line) (signals : Keyed) (are : AreSignals ns ls signals) (s v : ℕ) where
  signaled_at : (k : Node) (i u : ℕ) → signaled_by k.act ≡ Some (i, u) → i ≡ s → signals_value s u k.act ≡ true
  signaled_at k i u e same = ap (λ (o : Option (ℕ × ℕ)). holds o (λ x. x.0 == s && x.1 == u)) e ∙ and_from (i == s) (u == u) (eq-eqb i s same) (eq-eqb u u refl)

  -- no node signals a value that has no front
  none_at : (u : ℕ) → front_at signals s u ≡ None → (k : Node) → Contains ns k → signals_value s u k.act ≡ false
  none_at u e = subst (λ (o : Option Front). IsNamed ns ls (λ n. signals_value s u n.act) o) e (are.each s u)

  -- what is awaited where the initial value isn't enough
  module _ (few : is_enough ns s v ≡ false) where
    awaited : (k : Node) (o : Option (ℕ × ℕ)) → signaled_by k.act ≡ o → is_awaited_for ns s v k ≡ holds o (λ x. x.0 == s && is_least ns s v x.1)
    awaited k o e = ap (λ (t : Option (ℕ × ℕ)). holds t (λ x. x.0 == s && is_least ns s v x.1 && not (is_enough ns s v))) e ∙ go o
      where
        go : (t : Option (ℕ × ℕ)) → holds t (λ x. x.0 == s && is_least ns s v x.1 && not (is_enough ns s v)) ≡ holds t (λ x. x.0 == s && is_least ns s v x.1)
        go None = refl
        go (Some x) = ap (λ (b : Bool). x.0 == s && is_least ns s v x.1 && not b) few ∙ and-true (x.0 == s && is_least ns s v x.1)

    -- where no value is enough
    pub none_least : ((u : ℕ) → v ≤ u → front_at signals s u ≡ None) → (k : Node) → Contains ns k → is_awaited_for ns s v k ≡ false
    none_least none k c = awaited k (signaled_by k.act) refl ∙ go (signaled_by k.act) refl
      where
        by : (i u : ℕ) → signaled_by k.act ≡ Some (i, u) → (a b : Bool) → (i == s) ≡ a → nat_le v u ≡ b → (a && (b && not (list_any (λ x. nat_le v x && nat_lt x u) (values_to ns s)))) ≡ false
        by i u e true true f g = no (sym (none_at u (none u (grind arith)) k c) ∙ signaled_at k i u e (eqb-true i s f))
        by i u e true false f g = refl
        by i u e false b f g = refl

        go : (o : Option (ℕ × ℕ)) → signaled_by k.act ≡ o → holds o (λ x. x.0 == s && is_least ns s v x.1) ≡ false
        go None e = refl
        go (Some x) e = by x.0 x.1 e (x.0 == s) (nat_le v x.1) refl refl

    -- where one is the least
    module _ (u : ℕ) (f : Front) (low : v ≤ u) (here : front_at signals s u ≡ Some f) (below : (w : ℕ) → v ≤ w → w < u → front_at signals s w ≡ None) where
      -- a value between is signaled by none
      not_between : (k : Node) → Contains ns k → (i w : ℕ) → signaled_by k.act ≡ Some (i, w) → i ≡ s → v ≤ w → u ≤ w
      not_between k c i w e same le = ⊎_elim (λ lt. no (sym (none_at w (below w le lt) k c) ∙ signaled_at k i w e same)) (λ ge. ge) (cases_lt w u)

      between : ℕ → ℕ → Bool
      between w x = nat_le v x && nat_lt x w

      -- the value is
      is_between : (w : ℕ) → u < w → list_any (λ x. nat_le v x && nat_lt x w) (values_to ns s) ≡ true
      is_between w lt =
          let k = are.some s u f here in
          any_value (λ x. nat_le v x && nat_lt x w) s ns
          ∙ member_passes (λ n. holds (signaled_by n.act) (λ x. x.0 == s && (nat_le v x.1 && nat_lt x.1 w))) ns k.0 k.1
          (ap (λ (o : Option (ℕ × ℕ)). holds o (λ x. x.0 == s && (nat_le v x.1 && nat_lt x.1 w))) k.2 ∙ and_from (s == s) (nat_le v u && nat_lt u w) (eq-eqb s s refl) (and_from (nat_le v u) (nat_lt u w) (grind arith) (lt-ltb u w lt)))

      none_between : list_any (λ x. nat_le v x && nat_lt x u) (values_to ns s) ≡ false
      none_between = any_value (λ x. nat_le v x && nat_lt x u) s ns ∙ go (list_any (λ n. holds (signaled_by n.act) (λ x. x.0 == s && (nat_le v x.1 && nat_lt x.1 u))) ns) refl
        where
          by : (k : Node) → Contains ns k → (o : Option (ℕ × ℕ)) → signaled_by k.act ≡ o → holds o (λ x. x.0 == s && (nat_le v x.1 && nat_lt x.1 u)) ≡ true → ⊥
          by k c None e h = no h
          by k c (Some x) e h =
              let a = and_parts (x.0 == s) (nat_le v x.1 && nat_lt x.1 u) h in
              let b = and_parts (nat_le v x.1) (nat_lt x.1 u) a.1 in
              let ge = not_between k c x.0 x.1 e (eqb-true x.0 s a.0) (grind (arith, b.0)) in
              let lt = ltb-true x.1 u b.1 in omega arith

          go : (b : Bool) → list_any (λ n. holds (signaled_by n.act) (λ x. x.0 == s && (nat_le v x.1 && nat_lt x.1 u))) ns ≡ b → list_any (λ n. holds (signaled_by n.act) (λ x. x.0 == s && (nat_le v x.1 && nat_lt x.1 u))) ns ≡ false
          go false e = e
          go true e = let r = some_member (λ n. holds (signaled_by n.act) (λ x. x.0 == s && (nat_le v x.1 && nat_lt x.1 u))) ns e in absurd (by r.0 r.1 (signaled_by r.0.act) refl r.2)

      pub least_same : (k : Node) → Contains ns k → signals_value s u k.act ≡ is_awaited_for ns s v k
      least_same k c = go (signaled_by k.act) refl ∙ sym (awaited k (signaled_by k.act) refl)
        where
          by : (i w : ℕ) → signaled_by k.act ≡ Some (i, w) → (a : Bool) → (i == s) ≡ a → (a && w == u) ≡ (a && is_least ns s v w)
          by i w e false g = refl
          by i w e true g = at (w == u) (nat_le v w) refl refl
            where
              at : (b d : Bool) → (w == u) ≡ b → nat_le v w ≡ d → b ≡ (d && not (list_any (λ x. nat_le v x && nat_lt x w) (values_to ns s)))
              at true true h l = let same : w ≡ u = eqb-true w u h in sym (ap (λ (x : ℕ). not (list_any (λ y. nat_le v y && nat_lt y x) (values_to ns s))) same ∙ ap not none_between)
              at true false h l = absurd (let same : w ≡ u = eqb-true w u h in no (sym l ∙ grind (arith, same, low)))
              at false true h l =
                  let ge = not_between k c i w e (eqb-true i s g) (grind (arith, l)) in
                  let differ : u < w = strict u w ge (λ x. no (sym h ∙ eq-eqb w u (sym x))) in
                  sym (ap not (is_between w differ))
                where
                  strict : (a b : ℕ) → a ≤ b → (a ≡ b → ⊥) → a < b
                  strict a b le ne = omega arith
              at false false h l = refl

          go : (o : Option (ℕ × ℕ)) → signaled_by k.act ≡ o → signals_value s u k.act ≡ holds o (λ x. x.0 == s && is_least ns s v x.1)
          go None e = ap (λ (o : Option (ℕ × ℕ)). holds o (λ x. x.0 == s && x.1 == u)) e
          go (Some x) e = ap (λ (o : Option (ℕ × ℕ)). holds o (λ x. x.0 == s && x.1 == u)) e ∙ by x.0 x.1 e (x.0 == s) refl

    pub least_named : (o : Option Front) → IsLeastFront signals s v o → IsNamed ns ls (is_awaited_for ns s v) o
    least_named None least = λ k c. none_least least k c
    least_named (Some f) least =
        front_same ns ls (λ n. signals_value s least.0 n.act) (is_awaited_for ns s v) f (least_same least.0 f least.1 least.2 least.3)
        (subst (λ (o : Option Front). IsNamed ns ls (λ n. signals_value s least.0 n.act) o) least.2 (are.each s least.0))

-- ---- all waits of an act

pub one_wait : (ns : List Node) (k n : Node) (w : SemaphoreSubmit) → n.act ≡ Waits w → is_awaited_for ns w.semaphore w.value k ≡ by_semaphore ns k n
one_wait ns k n w is = go (signaled_by k.act) ∙ sym (ap (λ (a : Act). holds (signaled_by k.act) (λ x. list_any (λ (y : ℕ × ℕ). x.0 == y.0 && is_least ns y.0 y.1 x.1 && not (is_enough ns y.0 y.1)) (waited_by a))) is)
  where
    go : (o : Option (ℕ × ℕ)) → holds o (λ x. x.0 == w.semaphore && is_least ns w.semaphore w.value x.1 && not (is_enough ns w.semaphore w.value))
        ≡ holds o (λ x. list_any (λ (y : ℕ × ℕ). x.0 == y.0 && is_least ns y.0 y.1 x.1 && not (is_enough ns y.0 y.1)) ((w.semaphore, w.value) ∷ []))
    go None = refl
    go (Some x) = sym (or-false (x.0 == w.semaphore && is_least ns w.semaphore w.value x.1 && not (is_enough ns w.semaphore w.value)))

pub each_wait : (ns : List Node) (k n : Node) (ws : List SemaphoreValue) → n.act ≡ Hosts (entry.Wait ws) → list_any (λ w. is_awaited_for ns w.semaphore w.value k) ws ≡ by_semaphore ns k n
each_wait ns k n ws is = go (signaled_by k.act) ∙ sym (ap (λ (a : Act). holds (signaled_by k.act) (λ x. list_any (λ (y : ℕ × ℕ). x.0 == y.0 && is_least ns y.0 y.1 x.1 && not (is_enough ns y.0 y.1)) (waited_by a))) is)
  where
    none : (ws : List SemaphoreValue) → list_any (λ w. false) ws ≡ false
    none [] = refl
    none (w ∷ ws) = none ws

    go : (o : Option (ℕ × ℕ)) → list_any (λ w. holds o (λ x. x.0 == w.semaphore && is_least ns w.semaphore w.value x.1 && not (is_enough ns w.semaphore w.value))) ws
        ≡ holds o (λ x. list_any (λ (y : ℕ × ℕ). x.0 == y.0 && is_least ns y.0 y.1 x.1 && not (is_enough ns y.0 y.1)) (map (λ w. (w.semaphore, w.value)) ws))
    go None = none ws
    go (Some x) = sym (any_map (λ y. x.0 == y.0 && is_least ns y.0 y.1 x.1 && not (is_enough ns y.0 y.1)) (λ w. (w.semaphore, w.value)) ws)

pub no_wait : (ns : List Node) (k n : Node) → waited_by n.act ≡ [] → by_semaphore ns k n ≡ false
no_wait ns k n none = ap (λ (ws : List (ℕ × ℕ)). holds (signaled_by k.act) (λ x. list_any (λ (y : ℕ × ℕ). x.0 == y.0 && is_least ns y.0 y.1 x.1 && not (is_enough ns y.0 y.1)) ws)) none ∙ Rattle.vk_order.proofs.Arrange.holds-false (signaled_by k.act)

pub waits_of_none : (x : Entry) → ((ws : List SemaphoreValue) → x ≡ entry.Wait ws → ⊥) → host_waits x ≡ []
waits_of_none (entry.Wait ws) none = absurd (none ws refl)
waits_of_none x none = refl

-- ---- pairs

pub pairs_is : (a : Act) (v k : ℕ) (e : Rattle.vk_model.specs.declared.command.Element.Element) → is_set_of v k a ≡ pairs a (Depends (AwaitOf v k) e)
pairs_is (Hosts x) v k e = refl
pairs_is (Waits x) v k e = refl
pairs_is (Signals x) v k e = refl
pairs_is (Runs x) v k e = refl
pairs_is (Depends Barrier x) v k e = refl
pairs_is (Depends (SetOf u i) x) v k e = refl
pairs_is (Depends (AwaitOf u i) x) v k e = refl
