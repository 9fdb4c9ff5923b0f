-- Nodes that have names, and one more.
use Rattle.std.proofs.Common.{◌≡◌, ◌≢◌, ◌⊎◌, inl, inr, ℕ, List, ◌∷◌, Bool, true, false, ◌&&◌, IsTrue, Option, Some, None, refl, ap, sym, ◌∙◌, subst}
use Rattle.std.specs.Prelude.{◌==◌, ◌||◌, nat_le, Contains}
use Rattle.std.specs.Ordering.{nat_cmp}
use Rattle.std.specs.BTreeMap.{get}
use Rattle.std.proofs.lemmas.Bool.{eqb-true, ne_eqb, and_parts, and_from}
use Rattle.vk_model.specs.Basics.{holds}
use Rattle.vk_model.specs.declared.command.Element.{Element}
use Rattle.vk_model.specs.Sync.Node.{Node, Act, Hosts, Waits, Signals, Runs, Depends, Barrier, SetOf, AwaitOf}
use Rattle.vk_model.specs.Sync.Edge.{is_submit, signaled_by, initial_by, is_enough}
use Rattle.vk_model.specs.Sync.Before.{IsNumbered}
use Rattle.vk_model.proofs.Lists.Members.{contains-head, contains-tail}
use Rattle.vk_model.proofs.Lists.Truths.{no}
use Rattle.vk_order.specs.declared.acts.Row.{Row}
use Rattle.vk_order.specs.declared.lines.Line.{Line}
use Rattle.vk_order.specs.declared.fronts.Front.{Front}
use Rattle.vk_order.specs.declared.names.Names.{Names}
use Rattle.vk_order.specs.NodeViews.{act_of}
use Rattle.vk_order.specs.Prefixes.{submits}
use Rattle.vk_order.specs.Inner.Clocks.{IsWhole}
use Rattle.vk_order.specs.Inner.Kept.{is_alone}
use Rattle.vk_order.specs.Inner.Fronts.{IsNamed}
use Rattle.vk_order.specs.Inner.Keyed.{front_at}
use Rattle.vk_order.specs.Inner.Names.{is_set_of, signals_value, IsNameless, IsNames, IsNext}
use Rattle.vk_order.proofs.NamedLemmas.{after_earlier}
use Rattle.vk_order.proofs.FrontLemmas.{named_stays}
use Rattle.std.proofs.Math.Bool.{and-false}

-- ---- nodes that have names are known by themselves

submit_alone : (a : Act) → is_submit a ≡ true → IsTrue (is_alone a)
submit_alone (Hosts x) e = refl
submit_alone (Waits w) e = no e
submit_alone (Signals w) e = no e
submit_alone (Runs x) e = no e
submit_alone (Depends r e) h = no h

set_alone : (v k : ℕ) (a : Act) → is_set_of v k a ≡ true → IsTrue (is_alone a)
set_alone v k (Hosts x) e = no e
set_alone v k (Waits w) e = no e
set_alone v k (Signals w) e = no e
set_alone v k (Runs x) e = no e
set_alone v k (Depends Barrier x) e = no e
set_alone v k (Depends (SetOf u i) x) e = refl
set_alone v k (Depends (AwaitOf u i) x) e = no e

signal_alone : (f : ℕ × ℕ → Bool) (a : Act) → holds (signaled_by a) f ≡ true → IsTrue (is_alone a)
signal_alone f (Hosts x) e = refl
signal_alone f (Waits w) e = no e
signal_alone f (Signals w) e = refl
signal_alone f (Runs x) e = no e
signal_alone f (Depends r x) e = no e

alone_whole : (ns : List Node) → IsNumbered ns → (test : Node → Bool) → ((k : Node) → test k ≡ true → IsTrue (is_alone k.act)) → IsWhole ns test
alone_whole ns numbers test alone l c d hc hd lc ld lt is = (d, hd, is, inr (after_earlier ns d numbers hd c hc lt d.act l refl (alone d is) lc ld))

-- ---- one node more

module _ (ns : List Node) (ls : List Line) (n : Node) (row : Row) (own : Front) (next : IsNext ns ls n row own) where
  -- a front that counts the new node too
  abbrev pub Grows : Option Front → Front → Type 0
  Grows old front = (test : Node → Bool) → test n ≡ true → IsWhole (n ∷ ns) test → IsNamed ns ls test old → IsNamed (n ∷ ns) ls test (Some front)

  its_entry : n.point.entry ≡ row.point.entry
  its_entry = ap (λ (p : Rattle.vk_model.specs.Trace.Point.Point). p.entry) next.point

  pub submits_step : (old new : ℕ → Option Front) (front : Front) → is_submit (act_of row.act) ≡ true → new row.point.entry ≡ Some front → ((q : ℕ) → row.point.entry ≢ q → new q ≡ old q) → Grows (old row.point.entry) front
      → ((e : ℕ) → IsNamed ns ls (submits e) (old e)) → (e : ℕ) → IsNamed (n ∷ ns) ls (submits e) (new e)
  submits_step old new front is here others grows each e = go (row.point.entry == e) refl
    where
      submit : is_submit n.act ≡ true
      submit = ap is_submit next.act ∙ is

      go : (t : Bool) → (row.point.entry == e) ≡ t → IsNamed (n ∷ ns) ls (submits e) (new e)
      go true f =
          let same : row.point.entry ≡ e = eqb-true row.point.entry e f in
          let passes : submits e n ≡ true = and_from (is_submit n.act) (n.point.entry == e) submit (ap (λ (i : ℕ). i == e) its_entry ∙ f) in
          subst (λ (o : Option Front). IsNamed (n ∷ ns) ls (submits e) o) (sym (ap new (sym same) ∙ here))
          (grows (submits e) passes (alone_whole (n ∷ ns) next.numbers (submits e) (λ k h. submit_alone k.act (and_parts (is_submit k.act) (k.point.entry == e) h).0))
          (subst (λ (o : Option Front). IsNamed ns ls (submits e) o) (ap old (sym same)) (each e)))
      go false f =
          let differ : row.point.entry ≢ e = (λ h. no (sym f ∙ Rattle.std.proofs.lemmas.Bool.eq-eqb row.point.entry e h)) in
          let fails : submits e n ≡ false = ap (λ (i : ℕ). is_submit n.act && i == e) its_entry ∙ ap (λ (t : Bool). is_submit n.act && t) f ∙ and-false (is_submit n.act) in
          subst (λ (o : Option Front). IsNamed (n ∷ ns) ls (submits e) o) (sym (others e differ)) (named_stays ns ls (submits e) n next.numbers (old e) fails (each e))

  pub submits_same : (old : ℕ → Option Front) → is_submit (act_of row.act) ≡ false → ((e : ℕ) → IsNamed ns ls (submits e) (old e)) → (e : ℕ) → IsNamed (n ∷ ns) ls (submits e) (old e)
  submits_same old not_one each e = named_stays ns ls (submits e) n next.numbers (old e) (ap (λ (t : Bool). t && n.point.entry == e) (ap is_submit next.act ∙ not_one)) (each e)

  -- ---- by an id and a number

  module _ (tests : ℕ → ℕ → Node → Bool) (alone : (i u : ℕ) (k : Node) → tests i u k ≡ true → IsTrue (is_alone k.act)) where
    pub keyed_step : (v k : ℕ) → ((i u : ℕ) → tests i u n ≡ (v == i && k == u)) → (old new : ℕ → ℕ → Option Front) (front : Front) → new v k ≡ Some front → ((i u : ℕ) → (i ≢ v) ⊎ (u ≢ k) → new i u ≡ old i u) → Grows (old v k) front
        → ((i u : ℕ) → IsNamed ns ls (tests i u) (old i u)) → (i u : ℕ) → IsNamed (n ∷ ns) ls (tests i u) (new i u)
    keyed_step v k is old new front here others grows each i u = go (v == i) (k == u) refl refl
      where
        other : (v == i && k == u) ≡ false → (i ≢ v) ⊎ (u ≢ k) → IsNamed (n ∷ ns) ls (tests i u) (new i u)
        other f differ = subst (λ (o : Option Front). IsNamed (n ∷ ns) ls (tests i u) o) (sym (others i u differ)) (named_stays ns ls (tests i u) n next.numbers (old i u) (is i u ∙ f) (each i u))

        go : (s t : Bool) → (v == i) ≡ s → (k == u) ≡ t → IsNamed (n ∷ ns) ls (tests i u) (new i u)
        go true true e f =
            let a : v ≡ i = eqb-true v i e in
            let b : k ≡ u = eqb-true k u f in
            subst (λ (o : Option Front). IsNamed (n ∷ ns) ls (tests i u) o) (sym (ap (λ (x : ℕ). new x u) (sym a) ∙ ap (new v) (sym b) ∙ here))
            (grows (tests i u) (is i u ∙ and_from (v == i) (k == u) e f) (alone_whole (n ∷ ns) next.numbers (tests i u) (alone i u))
            (subst (λ (o : Option Front). IsNamed ns ls (tests i u) o) (ap (λ (x : ℕ). old x u) (sym a) ∙ ap (old v) (sym b)) (each i u)))
        go true false e f = other (ap (λ (t : Bool). v == i && t) f ∙ and-false (v == i)) (inr (λ h. no (sym f ∙ Rattle.std.proofs.lemmas.Bool.eq-eqb k u (sym h))))
        go false t e f = other (ap (λ (s : Bool). s && k == u) e) (inl (λ h. no (sym e ∙ Rattle.std.proofs.lemmas.Bool.eq-eqb v i (sym h))))

    pub keyed_same : ((i u : ℕ) → tests i u n ≡ false) → (old : ℕ → ℕ → Option Front) → ((i u : ℕ) → IsNamed ns ls (tests i u) (old i u)) → (i u : ℕ) → IsNamed (n ∷ ns) ls (tests i u) (old i u)
    keyed_same fails old each i u = named_stays ns ls (tests i u) n next.numbers (old i u) (fails i u) (each i u)

  pub sets_step : (v k : ℕ) (e : Element) → act_of row.act ≡ Depends (SetOf v k) e → (old new : ℕ → ℕ → Option Front) (front : Front) → new v k ≡ Some front → ((i u : ℕ) → (i ≢ v) ⊎ (u ≢ k) → new i u ≡ old i u) → Grows (old v k) front
      → ((i u : ℕ) → IsNamed ns ls (λ m. is_set_of i u m.act) (old i u)) → (i u : ℕ) → IsNamed (n ∷ ns) ls (λ m. is_set_of i u m.act) (new i u)
  sets_step v k e is old new front here others grows each =
      keyed_step (λ i u m. is_set_of i u m.act) (λ i u m. set_alone i u m.act) v k (λ i u. ap (is_set_of i u) (next.act ∙ is)) old new front here others grows each

  pub sets_same : ((i u : ℕ) → is_set_of i u (act_of row.act) ≡ false) → (old : ℕ → ℕ → Option Front) → ((i u : ℕ) → IsNamed ns ls (λ m. is_set_of i u m.act) (old i u)) → (i u : ℕ) → IsNamed (n ∷ ns) ls (λ m. is_set_of i u m.act) (old i u)
  sets_same fails old each = keyed_same (λ i u m. is_set_of i u m.act) (λ i u m. set_alone i u m.act) (λ i u. ap (is_set_of i u) next.act ∙ fails i u) old each

  pub signals_step : (s v : ℕ) → signaled_by (act_of row.act) ≡ Some (s, v) → (old new : ℕ → ℕ → Option Front) (front : Front) → new s v ≡ Some front → ((i u : ℕ) → (i ≢ s) ⊎ (u ≢ v) → new i u ≡ old i u) → Grows (old s v) front
      → ((i u : ℕ) → IsNamed ns ls (λ m. signals_value i u m.act) (old i u)) → (i u : ℕ) → IsNamed (n ∷ ns) ls (λ m. signals_value i u m.act) (new i u)
  signals_step s v is old new front here others grows each =
      keyed_step (λ i u m. signals_value i u m.act) (λ i u m. signal_alone (λ x. x.0 == i && x.1 == u) m.act) s v (λ i u. ap (λ (o : Option (ℕ × ℕ)). holds o (λ x. x.0 == i && x.1 == u)) (ap signaled_by next.act ∙ is)) old new front here others grows each

  pub signals_same : signaled_by (act_of row.act) ≡ None → (old : ℕ → ℕ → Option Front) → ((i u : ℕ) → IsNamed ns ls (λ m. signals_value i u m.act) (old i u)) → (i u : ℕ) → IsNamed (n ∷ ns) ls (λ m. signals_value i u m.act) (old i u)
  signals_same none old each = keyed_same (λ i u m. signals_value i u m.act) (λ i u m. signal_alone (λ x. x.0 == i && x.1 == u) m.act) (λ i u. ap (λ (o : Option (ℕ × ℕ)). holds o (λ x. x.0 == i && x.1 == u)) (ap signaled_by next.act ∙ none)) old each

  abbrev Signaler : List Node → ℕ → ℕ → Type 0
  Signaler l i u = (k : Node) × Contains l k × (signaled_by k.act ≡ Some (i, u))

  pub some_step : (s v : ℕ) → signaled_by (act_of row.act) ≡ Some (s, v) → (old new : ℕ → ℕ → Option Front) → ((i u : ℕ) → (i ≢ s) ⊎ (u ≢ v) → new i u ≡ old i u)
      → ((i u : ℕ) (f : Front) → old i u ≡ Some f → (k : Node) × Contains ns k × (signaled_by k.act ≡ Some (i, u))) → (i u : ℕ) (f : Front) → new i u ≡ Some f → (k : Node) × Contains (n ∷ ns) k × (signaled_by k.act ≡ Some (i, u))
  some_step s v is old new others each i u f found = go (s == i) (v == u) refl refl
    where
      older : (i ≢ s) ⊎ (u ≢ v) → Signaler (n ∷ ns) i u
      older differ = let r = each i u f (sym (others i u differ) ∙ found) in (r.0, contains-tail n ns r.0 r.1, r.2)

      go : (a b : Bool) → (s == i) ≡ a → (v == u) ≡ b → Signaler (n ∷ ns) i u
      go true true e f = (n, contains-head n ns, ap signaled_by next.act ∙ is ∙ ap (λ (x : ℕ). Some (x, v)) (eqb-true s i e) ∙ ap (λ (x : ℕ). Some (i, x)) (eqb-true v u f))
      go true false e f = older (inr (λ h. no (sym f ∙ Rattle.std.proofs.lemmas.Bool.eq-eqb v u (sym h))))
      go false b e f = older (inl (λ h. no (sym e ∙ Rattle.std.proofs.lemmas.Bool.eq-eqb s i (sym h))))

  pub some_same : (old : ℕ → ℕ → Option Front) → ((i u : ℕ) (f : Front) → old i u ≡ Some f → (k : Node) × Contains ns k × (signaled_by k.act ≡ Some (i, u)))
      → (i u : ℕ) (f : Front) → old i u ≡ Some f → (k : Node) × Contains (n ∷ ns) k × (signaled_by k.act ≡ Some (i, u))
  some_same old each i u f found = let r = each i u f found in (r.0, contains-tail n ns r.0 r.1, r.2)

  -- a node without a name changes nothing
  pub names_same : (names : Names) → IsNameless (act_of row.act) → IsNames ns ls names → IsNames (n ∷ ns) ls names
  names_same names none are = record {
    submits = submits_same (get nat_cmp names.submits) none.submit are.submits;
    sets = sets_same none.set (front_at names.sets) are.sets;
    signals = record {
      each = signals_same none.signal (front_at names.signals) are.signals.each;
      some = some_same (front_at names.signals) are.signals.some;
    };
    initials = λ s v. ap (λ (o : Option ℕ). holds o (nat_le v) || is_enough ns s v) (ap (initial_by s) next.act ∙ none.initial s) ∙ are.initials s v;
  }
