-- The elements of one barrier: each sees what it would see alone.
use Rattle.std.proofs.Common.{◌≡◌, ⊎_elim, ℕ, ◌<◌, ◌≤◌, ◌+◌, List, [], ◌∷◌, ◌++◌, map, length, Bool, false, not, ◌&&◌, ◌||◌, IsTrue, refl, ap, sym, ◌∙◌, subst, arith}
use Rattle.std.specs.Prelude.{Contains}
use Rattle.std.proofs.lemmas.Bool.{and_parts, and_from, or_left, or_right, or_cases, eqb-true, eq-eqb}
use Rattle.std.proofs.lemmas.List.{map-append}
use Rattle.vk_model.specs.declared.command.Element.{Element}
use Rattle.vk_model.specs.World.Bytes.{Byte}
use Rattle.vk_model.specs.Trace.Point.{Point}
use Rattle.vk_model.specs.Sync.Node.{Node, Act, Hosts, Waits, Signals, Runs, Depends, Barrier, with_acts, same_node}
use Rattle.vk_model.specs.Sync.Edge.{edge, is_submit}
use Rattle.vk_model.specs.Sync.Before.{before, IsNumbered}
use Rattle.vk_model.specs.Sync.Seen.{Access, seen, available_by, makes_writes_available, passes, flushes}
use Rattle.vk_model.proofs.Lists.Members.{contains-cons, contains-head, contains-tail}
use Rattle.vk_model.proofs.Lists.Truths.{clash, no, bool_same}
use Rattle.vk_model.proofs.Sync.Growth.{seen-older}
use Rattle.vk_model.proofs.Sync.Numbers.{number_below, unique, edge-new, numbered_acts}
use Rattle.vk_model.proofs.Sync.NewNodes.{with_acts_keeps}
use Rattle.vk_model.proofs.Sync.Paths.{leads_on}
use Rattle.vk_order.specs.Barriers.{element_node, with_barrier, ElementsComeAlone, ElementsSeeAlone}
use Rattle.vk_order.specs.Limited.{IsWrite}
use Rattle.vk_order.proofs.ByEdges.{by_last, old_before}
use Rattle.vk_order.proofs.KnownRows.{old_edge}
use Rattle.vk_order.proofs.SiblingLemmas.{before_stays, cases, no_edge, same_edge, before_alone}
use Rattle.vk_order.proofs.Visibility.{parts_of, seen_by}

-- ---- nodes that come change nothing among the older ones

edge_stays : (p : Point) (more : List Act) (ns : List Node) → IsNumbered ns → (x y : Node) → Contains ns y → edge (with_acts p more ns) x y ≡ edge ns x y
edge_stays p [] ns numbers x y c = refl
edge_stays p (a ∷ more) ns numbers x y c =
    let n : Node = record { number = length ns; point = p; act = a } in
    edge_stays p more (n ∷ ns) (refl, numbers) x y (contains-tail n ns y c) ∙ old_edge ns n (refl, numbers) x y c

seen_stays : (p : Point) (more : List Act) (ns : List Node) → IsNumbered ns → (cached : Byte → Bool) (w a : Node) (k : Access) (b : Byte) → Contains ns a
    → seen cached (with_acts p more ns) w a k b ≡ seen cached ns w a k b
seen_stays p [] ns numbers cached w a k b c = refl
seen_stays p (first ∷ more) ns numbers cached w a k b c =
    let n : Node = record { number = length ns; point = p; act = first } in
    seen_stays p more (n ∷ ns) (refl, numbers) cached w a k b (contains-tail n ns a c) ∙ seen-older n ns refl numbers cached w a k b (number_below ns numbers a c)

with_more : (p : Point) (xs ys : List Act) (ns : List Node) → with_acts p (xs ++ ys) ns ≡ with_acts p ys (with_acts p xs ns)
with_more p [] ys ns = refl
with_more p (x ∷ xs) ys ns = with_more p xs ys (record { number = length ns; point = p; act = x } ∷ ns)

count_with : (p : Point) (es : List Element) (ns : List Node) → length (with_barrier p es ns) ≡ length ns + length es
count_with p [] ns = omega arith
count_with p (e ∷ es) ns = let h = count_with p es (element_node p (length ns) e ∷ ns) in omega arith

-- ---- a node that takes the place of another one

module _ (ns : List Node) (cached : Byte → Bool) (w : Node) (k : Access) (b : Byte) (wrote : IsWrite cached ns w b) where
  -- an element among some nodes, and the same among others: both come after the same of the nodes that both have
  record Replaces (here there : List Node) (e : Element) (x y : Node) : Type 0 where
    numbers : IsNumbered here
    is : x.act ≡ Depends Barrier e
    is_too : y.act ≡ Depends Barrier e
    queue : x.point.queue ≡ y.point.queue
    in_here : Contains here x
    in_there : Contains there y
    older : w.number < x.number
    only : (p : Node) → Contains here p → IsTrue (before here p x) → Contains ns p
    kept : (p : Node) → Contains ns p → Contains there p
    edges : (m p : Node) → Contains ns p → edge here m p ≡ edge there m p
    orders : (m p : Node) → Contains ns p → before here m p ≡ before there m p
    leads : (m : Node) → Contains ns m → edge here m x ≡ edge there m y
    comes : (m : Node) → Contains ns m → before here m x ≡ before there m y

  module _ (here there : List Node) (e : Element) (x y : Node) (s : Replaces here there e x y) where
    -- what makes the write available is available there as well
    old_available : (a : Act) → w.act ≡ a → (p : Node) → Contains ns p → IsTrue (available_by cached here w a b p) → IsTrue (available_by cached there w a b p)
    old_available (Runs c) is p old h =
        let both = and_parts (edge here w p) (makes_writes_available cached here p b p.act) h in
        and_from (edge there w p) (makes_writes_available cached there p b p.act) (sym (s.edges w p old) ∙ both.0) both.1
    old_available (Depends r d) is p old h = h
    old_available (Hosts entry) is p old h =
        let plain : cached b ≡ false = sym (ap (λ (a : Act). Rattle.vk_model.specs.Sync.Edge.is_host a && cached b) is) ∙ wrote.uncached in
        let both = and_parts (is_submit p.act && before here w p) (not (cached b) || passes cached here (λ f. flushes f b) w p) h in
        let first = and_parts (is_submit p.act) (before here w p) both.0 in
        and_from (is_submit p.act && before there w p) (not (cached b) || passes cached there (λ f. flushes f b) w p)
        (and_from (is_submit p.act) (before there w p) first.0 (sym (s.orders w p old) ∙ first.1))
        (or_left (not (cached b)) (passes cached there (λ f. flushes f b) w p) (ap not plain))
    old_available (Waits t) is p old h = no h
    old_available (Signals t) is p old h = no h

    own_available : (a : Act) → w.act ≡ a → IsTrue (available_by cached here w a b x) → IsTrue (available_by cached there w a b y)
    own_available (Runs c) is h =
        let both = and_parts (edge here w x) (makes_writes_available cached here x b x.act) h in
        and_from (edge there w y) (makes_writes_available cached there y b y.act) (sym (s.leads w wrote.there) ∙ both.0) (sym same ∙ both.1)
      where
        same : makes_writes_available cached here x b x.act ≡ makes_writes_available cached there y b y.act
        same = ap (λ (a : Act). makes_writes_available cached here x b a) s.is
            ∙ ap (λ (q : ℕ). not (Rattle.vk_model.specs.World.Ownership.is_acquire q e)
            && Rattle.vk_model.specs.Basics.has_some (Rattle.vk_model.specs.World.Ownership.dependency_of e).source_accesses.0 (Rattle.vk_model.specs.Sync.Seen.command_mask Rattle.vk_model.specs.Sync.Seen.Write)
            && Rattle.vk_model.specs.Sync.Seen.covers e b) s.queue
            ∙ sym (ap (λ (a : Act). makes_writes_available cached there y b a) s.is_too)
    own_available (Depends r d) is h = absurd (let same : w.number ≡ x.number = eqb-true w.number x.number h in let lt = s.older in omega (arith, same, lt))
    own_available (Hosts entry) is h = no (sym (ap is_submit s.is) ∙ (and_parts (is_submit x.act) (before here w x) (and_parts (is_submit x.act && before here w x) (not (cached b) || passes cached here (λ f. flushes f b) w x) h).0).0)
    own_available (Waits t) is h = no h
    own_available (Signals t) is h = no h

    sees_there : IsTrue (seen cached here w x k b) → IsTrue (seen cached there w y k b)
    sees_there h = ⊎_elim
        (λ same. at_itself (unique here s.numbers made.p x made.has_p s.in_here (eqb-true made.p.number x.number same)))
        (λ early. by_older (s.only made.p made.has_p early) early)
        (or_cases (same_node made.p x) (before here made.p x) between)
      where
        made : Rattle.vk_order.proofs.Visibility.SeenBy cached here w x k b
        made = parts_of cached here w x k b h

        at : made.q ≡ x
        at = unique here s.numbers made.q x made.has_q s.in_here (eqb-true made.q.number x.number (subst (λ (a : Act). IsTrue (Rattle.vk_model.specs.Sync.Seen.visible_by cached here w x a k b made.q)) s.is made.visible))

        between : IsTrue (same_node made.p x || before here made.p x)
        between = subst (λ (q : Node). IsTrue (same_node made.p q || before here made.p q)) at made.between

        result : (p : Node) → Contains there p → IsTrue (available_by cached there w w.act b p) → IsTrue (same_node p y || before there p y) → IsTrue (seen cached there w y k b)
        result p has available way = seen_by cached there w y k b (record {
          p = p;
          q = y;
          has_p = has;
          has_q = s.in_there;
          available = available;
          between = way;
          visible = subst (λ (a : Act). IsTrue (Rattle.vk_model.specs.Sync.Seen.visible_by cached there w y a k b y)) (sym s.is_too) (eq-eqb y.number y.number refl);
          reached = or_left (same_node y y) (before there y y) (eq-eqb y.number y.number refl);
        })

        at_itself : made.p ≡ x → IsTrue (seen cached there w y k b)
        at_itself same = result y s.in_there (own_available w.act refl (subst (λ (q : Node). IsTrue (available_by cached here w w.act b q)) same made.available)) (or_left (same_node y y) (before there y y) (eq-eqb y.number y.number refl))

        by_older : Contains ns made.p → IsTrue (before here made.p x) → IsTrue (seen cached there w y k b)
        by_older old early = result made.p (s.kept made.p old) (old_available w.act refl made.p old made.available) (or_right (same_node made.p y) (before there made.p y) (sym (s.comes made.p old) ∙ early))

-- ---- an element among its siblings, and alone

module _ (p : Point) (ns : List Node) (numbers : IsNumbered ns) (es : List Element) (e : Element) where
  abbrev all : List Node
  all = with_barrier p es ns

  abbrev together : Node
  together = element_node p (length all) e

  abbrev alone : Node
  alone = element_node p (length ns) e

  all_numbers : IsNumbered all
  all_numbers = numbered_acts p (map (Depends Barrier) es) ns numbers

  now : IsNumbered (together ∷ all)
  now = (refl, all_numbers)

  there : (m : Node) → Contains ns m → Contains all m
  there m c = with_acts_keeps p (map (Depends Barrier) es) ns m c

  -- nothing of the barrier comes before it
  only_older : (m : Node) → Contains (together ∷ all) m → IsTrue (before (together ∷ all) m together) → Contains ns m
  only_older m c h = ⊎_elim
      (λ same. absurd (let lt = leads_on (together ∷ all) m together h in let e : together.number ≡ m.number = ap (λ (n : Node). n.number) same in omega (arith, lt, e)))
      (λ old. ⊎_elim (λ older. older) (λ sibling. absurd (unled old sibling)) (cases p es ns m old))
      (contains-cons together all m c)
    where
      unled : Contains all m → ((j : ℕ) × (d : Element) × (m ≡ element_node p j d) × (length ns ≤ j)) → ⊥
      unled old sibling =
          let last = by_last together all now m old h in
          ⊎_elim
          (λ is. clash (ap (λ (n : Node). edge all n together) (sym sibling.2 ∙ is) ∙ last.2) (no_edge p all e sibling.1 sibling.0 now (subst (λ (n : Node). Contains all n) sibling.2 old)))
          (λ early. ⊎_elim
          (λ older. let lt = leads_on all m last.0 early in let low = number_below ns numbers last.0 older in let at : m.number ≡ sibling.0 = ap (λ (n : Node). n.number) sibling.2 in let high = sibling.3 in omega (arith, lt, low, at, high))
          (λ other. clash (ap (λ (n : Node). edge all n together) (sym other.2) ∙ last.2) (no_edge p all e other.1 other.0 now (subst (λ (n : Node). Contains all n) other.2 last.1)))
          (cases p es ns last.0 last.1))
          last.3

  forth : (cached : Byte → Bool) (w : Node) (k : Access) (b : Byte) (wrote : IsWrite cached ns w b) → Replaces ns cached w k b wrote (together ∷ all) (alone ∷ ns) e together alone
  forth cached w k b wrote = record {
    numbers = now;
    is = refl;
    is_too = refl;
    queue = refl;
    in_here = contains-head together all;
    in_there = contains-head alone ns;
    older = let lt = number_below all all_numbers w (there w wrote.there) in omega (arith, lt);
    only = only_older;
    kept = λ m c. contains-tail alone ns m c;
    edges = λ m q c. old_edge all together now m q (there q c) ∙ edge_stays p (map (Depends Barrier) es) ns numbers m q c ∙ sym (old_edge ns alone (refl, numbers) m q c);
    orders = λ m q c. old_before together all now m q (there q c) ∙ before_stays p (map (Depends Barrier) es) ns numbers m q c ∙ sym (old_before alone ns (refl, numbers) m q c);
    leads = leads;
    comes = λ m c. before_alone p ns numbers es e m c;
  }
    where
      leads : (m : Node) → Contains ns m → edge (together ∷ all) m together ≡ edge (alone ∷ ns) m alone
      leads m c = edge-new together all m ∙ same_edge p all ns e m now numbers (there m c) c ∙ sym (edge-new alone ns m)

  back : (cached : Byte → Bool) (w : Node) (k : Access) (b : Byte) (wrote : IsWrite cached ns w b) → Replaces ns cached w k b wrote (alone ∷ ns) (together ∷ all) e alone together
  back cached w k b wrote =
      let f = forth cached w k b wrote in
      record {
        numbers = (refl, numbers);
        is = refl;
        is_too = refl;
        queue = refl;
        in_here = contains-head alone ns;
        in_there = contains-head together all;
        older = let lt = number_below ns numbers w wrote.there in omega (arith, lt);
        only = λ m c h. ⊎_elim
            (λ same. absurd (let lt = leads_on (alone ∷ ns) m alone h in let e : alone.number ≡ m.number = ap (λ (n : Node). n.number) same in omega (arith, lt, e)))
            (λ old. old)
            (contains-cons alone ns m c);
        kept = λ m c. contains-tail together all m (there m c);
        edges = λ m q c. sym (f.edges m q c);
        orders = λ m q c. sym (f.orders m q c);
        leads = λ m c. sym (f.leads m c);
        comes = λ m c. sym (f.comes m c);
      }

  sees_alone : (cached : Byte → Bool) (w : Node) (k : Access) (b : Byte) (wrote : IsWrite cached ns w b) → seen cached (together ∷ all) w together k b ≡ seen cached (alone ∷ ns) w alone k b
  sees_alone cached w k b wrote = bool_same _ _
      (sees_there ns cached w k b wrote (together ∷ all) (alone ∷ ns) e together alone (forth cached w k b wrote))
      (sees_there ns cached w k b wrote (alone ∷ ns) (together ∷ all) e alone together (back cached w k b wrote))

-- ---- whatever elements come after it

module _ (ns : List Node) (p : Point) (es more : List Element) (e : Element) (numbers : IsNumbered ns) where
  abbrev here : List Node
  here = with_barrier p es ns

  abbrev it : Node
  it = element_node p (length here) e

  whole : with_barrier p (es ++ e ∷ more) ns ≡ with_acts p (map (Depends Barrier) more) (it ∷ here)
  whole = ap (λ (more : List Act). with_acts p more ns) (map-append (Depends Barrier) es (e ∷ more)) ∙ with_more p (map (Depends Barrier) es) (map (Depends Barrier) (e ∷ more)) ns

  numbered_here : IsNumbered (it ∷ here)
  numbered_here = (refl, numbered_acts p (map (Depends Barrier) es) ns numbers)

  at : element_node p (length ns + length es) e ≡ it
  at = ap (λ (j : ℕ). element_node p j e) (sym (count_with p es ns))

  pub comes_alone : (m : Node) → Contains ns m → before (with_barrier p (es ++ e ∷ more) ns) m (element_node p (length ns + length es) e) ≡ before (element_node p (length ns) e ∷ ns) m (element_node p (length ns) e)
  comes_alone m c =
      ap (λ (all : List Node). before all m (element_node p (length ns + length es) e)) whole
      ∙ ap (λ (n : Node). before (with_acts p (map (Depends Barrier) more) (it ∷ here)) m n) at
      ∙ before_stays p (map (Depends Barrier) more) (it ∷ here) numbered_here m it (contains-head it here)
      ∙ before_alone p ns numbers es e m c

  pub sees_as_alone : (cached : Byte → Bool) (w : Node) (k : Access) (b : Byte) → IsWrite cached ns w b
      → seen cached (with_barrier p (es ++ e ∷ more) ns) w (element_node p (length ns + length es) e) k b ≡ seen cached (element_node p (length ns) e ∷ ns) w (element_node p (length ns) e) k b
  sees_as_alone cached w k b wrote =
      ap (λ (all : List Node). seen cached all w (element_node p (length ns + length es) e) k b) whole
      ∙ ap (λ (n : Node). seen cached (with_acts p (map (Depends Barrier) more) (it ∷ here)) w n k b) at
      ∙ seen_stays p (map (Depends Barrier) more) (it ∷ here) numbered_here cached w it k b (contains-head it here)
      ∙ sees_alone p ns numbers es e cached w k b wrote

pub elements_come_alone : ElementsComeAlone
elements_come_alone ns p es more e m numbers c = comes_alone ns p es more e numbers m c

pub elements_see_alone : ElementsSeeAlone
elements_see_alone ns p es more e cached w k b numbers wrote = sees_as_alone ns p es more e numbers cached w k b wrote
