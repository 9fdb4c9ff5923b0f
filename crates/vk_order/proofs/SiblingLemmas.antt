-- The elements of one barrier: each comes after the nodes that it would come after alone.
use Rattle.std.proofs.Common.{◌≡◌, ◌⊎◌, inl, inr, ℕ, ◌≤◌, List, [], ◌∷◌, length, Bool, true, false, ◌||◌, ◌&&◌, not, IsTrue, refl, ap, sym, ◌∙◌, subst, arith, ⊎_elim, map}
use Rattle.std.specs.Prelude.{Contains, nat_lt}
use Rattle.std.specs.List.{filter}
use Rattle.std.proofs.lemmas.Bool.{eq-eqb, lt-ltb, le-ltb}
use Rattle.vk_model.specs.declared.command.Element.{Element}
use Rattle.vk_model.specs.Trace.Point.{Point}
use Rattle.vk_model.specs.Sync.Node.{Node, Act, Depends, Barrier, with_acts, same_place}
use Rattle.vk_model.specs.Sync.Edge.{edge, earlier}
use Rattle.vk_model.specs.Sync.Before.{before, IsNumbered}
use Rattle.vk_model.proofs.Lists.Members.{contains-cons, contains-tail}
use Rattle.vk_model.proofs.Lists.Truths.{clash}
use Rattle.vk_model.proofs.Sync.Numbers.{numbered_acts}
use Rattle.vk_model.proofs.Sync.NewNodes.{with_acts_keeps}
use Rattle.vk_order.proofs.ByEdges.{by_last, by_edge, old_before, edge_barrier}

-- two tests that hold together are equal
same_truth : (a b : Bool) → (IsTrue a → IsTrue b) → (IsTrue b → IsTrue a) → a ≡ b
same_truth true b f g = sym (f refl)
same_truth false true f g = g refl
same_truth false false f g = refl

-- nodes that come change nothing among the older ones
pub before_stays : (p : Point) (more : List Act) (ns : List Node) → IsNumbered ns → (x y : Node) → Contains ns y → before (with_acts p more ns) x y ≡ before ns x y
before_stays p [] ns numbers x y c = refl
before_stays p (a ∷ more) ns numbers x y c =
    let n : Node = record { number = length ns; point = p; act = a } in
    before_stays p more (n ∷ ns) (refl, numbers) x y (contains-tail n ns y c) ∙ old_before n ns (refl, numbers) x y c

module _ (p : Point) where
  -- the node of an element of a barrier, with this number
  abbrev pub own : ℕ → Element → Node
  own j e = record { number = j; point = p; act = Depends Barrier e }

  -- what is there when elements have come
  pub cases : (es : List Element) (ns : List Node) (k : Node) → Contains (with_acts p (map (Depends Barrier) es) ns) k → Contains ns k ⊎ ((j : ℕ) × (d : Element) × (k ≡ own j d) × (length ns ≤ j))
  cases [] ns k c = inl c
  cases (e ∷ es) ns k c = ⊎_elim
      (λ there. ⊎_elim (λ same. inr (length ns, e, sym same, omega arith)) (λ old. inl old) (contains-cons (own (length ns) e) ns k there))
      (λ new. inr (new.0, new.1, new.2, let le = new.3 in omega arith))
      (cases es (own (length ns) e ∷ ns) k c)

  same_here : same_place p p ≡ true
  same_here = rw (eq-eqb p.entry p.entry refl, eq-eqb p.batch p.batch refl, eq-eqb p.place p.place refl) refl

  both_off : (a b x y : Bool) → (a && (x && not true) || b && (y && not true)) ≡ false
  both_off true true true true = refl
  both_off true true true false = refl
  both_off true true false true = refl
  both_off true true false false = refl
  both_off true false true y = refl
  both_off true false false y = refl
  both_off false true x true = refl
  both_off false true x false = refl
  both_off false false x y = refl

  -- no element leads to another of the barrier
  pub no_edge : (all : List Node) (e d : Element) (j : ℕ) → IsNumbered (own (length all) e ∷ all) → Contains all (own j d) → edge all (own j d) (own (length all) e) ≡ false
  no_edge all e d j numbers c = edge_barrier (own (length all) e) all numbers e refl (own j d) c ∙ rw (same_here, eq-eqb p.queue p.queue refl) (both_off _ _ _ _)

  -- older nodes lead to it as if it came alone
  pub same_edge : (all ns : List Node) (e : Element) (k : Node) → IsNumbered (own (length all) e ∷ all) → IsNumbered ns → Contains all k → Contains ns k → edge all k (own (length all) e) ≡ edge ns k (own (length ns) e)
  same_edge all ns e k numbers old c d = edge_barrier (own (length all) e) all numbers e refl k c ∙ sym (edge_barrier (own (length ns) e) ns (refl, old) e refl k d)

  module _ (ns : List Node) (numbers : IsNumbered ns) (es : List Element) (e : Element) where
    abbrev all : List Node
    all = with_acts p (map (Depends Barrier) es) ns

    now : IsNumbered (own (length all) e ∷ all)
    now = (refl, numbered_acts p (map (Depends Barrier) es) ns numbers)

    -- what comes before an element comes before it alone
    pub before_alone : (m : Node) → Contains ns m → before (own (length all) e ∷ all) m (own (length all) e) ≡ before (own (length ns) e ∷ ns) m (own (length ns) e)
    before_alone m c = same_truth _ _ alone together where
      there : (k : Node) → Contains ns k → Contains all k
      there k d = with_acts_keeps p (map (Depends Barrier) es) ns k d

      alone : IsTrue (before (own (length all) e ∷ all) m (own (length all) e)) → IsTrue (before (own (length ns) e ∷ ns) m (own (length ns) e))
      alone h = let s = by_last (own (length all) e) all now m (there m c) h in ⊎_elim
          (λ old. by_edge (own (length ns) e) ns (refl, numbers) m c (s.0, old, sym (same_edge all ns e s.0 now numbers s.1 old) ∙ s.2, way s.0 old s.3))
          (λ new. absurd (clash (ap (λ (k : Node). edge all k (own (length all) e)) (sym new.2) ∙ s.2) (no_edge all e new.1 new.0 now (subst (λ (k : Node). Contains all k) new.2 s.1))))
          (cases es ns s.0 s.1)
        where
          way : (k : Node) → Contains ns k → ((m ≡ k) ⊎ IsTrue (before all m k)) → (m ≡ k) ⊎ IsTrue (before ns m k)
          way k d (inl same) = inl same
          way k d (inr h) = inr (sym (before_stays p (map (Depends Barrier) es) ns numbers m k d) ∙ h)

      together : IsTrue (before (own (length ns) e ∷ ns) m (own (length ns) e)) → IsTrue (before (own (length all) e ∷ all) m (own (length all) e))
      together h = let s = by_last (own (length ns) e) ns (refl, numbers) m c h in
          by_edge (own (length all) e) all now m (there m c) (s.0, there s.0 s.1, same_edge all ns e s.0 now numbers (there s.0 s.1) s.1 ∙ s.2, way s.0 s.1 s.3)
        where
          way : (k : Node) → Contains ns k → ((m ≡ k) ⊎ IsTrue (before ns m k)) → (m ≡ k) ⊎ IsTrue (before all m k)
          way k d (inl same) = inl same
          way k d (inr h) = inr (before_stays p (map (Depends Barrier) es) ns numbers m k d ∙ h)

-- ---- the nodes earlier than one

-- the nodes of a list are those below its length
all_below : (ns : List Node) → IsNumbered ns → (j : ℕ) → length ns ≤ j → filter (λ m. nat_lt m.number j) ns ≡ ns
all_below [] numbers j le = refl
all_below (n ∷ ns) numbers j le = rw (lt-ltb n.number j (let e = numbers.0 in omega (arith, e, le)), all_below ns numbers.1 j (omega (arith, le))) refl

-- and those that come later aren't among them
pub below_with : (p : Point) (more : List Act) (ns : List Node) → IsNumbered ns → (j : ℕ) → j ≤ length ns → filter (λ m. nat_lt m.number j) (with_acts p more ns) ≡ filter (λ m. nat_lt m.number j) ns
below_with p [] ns numbers j le = refl
below_with p (a ∷ more) ns numbers j le =
    let n : Node = record { number = length ns; point = p; act = a } in
    below_with p more (n ∷ ns) (refl, numbers) j (omega (arith, le)) ∙ rw (le-ltb (length ns) j le) refl

pub earlier_with : (p : Point) (more : List Act) (ns : List Node) → IsNumbered ns → (n : Node) → n.number ≡ length ns → earlier n (with_acts p more ns) ≡ ns
earlier_with p more ns numbers n at = below_with p more ns numbers n.number (let e = at in omega (arith, e)) ∙ all_below ns numbers n.number (let e = at in omega (arith, e))
