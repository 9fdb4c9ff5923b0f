-- OWNER_PAIR: the elements of a barrier, one after another.
use Rattle.std.proofs.Common.{◌≡◌, ◌+◌, ℕ, List, [], ◌∷◌, ◌++◌, map, length, Bool, true, false, ◌&&◌, ◌||◌, refl, ap, sym, subst, ◌∙◌, arith, append_assoc, Some, None, Option}
use Rattle.std.specs.Prelude.{Contains, slice_get, take, IfSome}
use Rattle.std.specs.List.{list_any, find, fold}
use Rattle.std.proofs.Math.Seq.{take-append_seam}
use Rattle.std.proofs.lemmas.List.{length-append}
use Rattle.std.proofs.lemmas.List.Sums.{fold-append}
use Rattle.std.specs.Ordering.{nat_cmp}
use Rattle.std.specs.BTreeMap.{get}
use Rattle.vk_model.specs.declared.command.Cmd.TheVariants as cmd
use Rattle.vk_model.specs.declared.command.Element.{Element}
use Rattle.vk_model.specs.Trace.Point.{Past, Point, Action, Run}
use Rattle.vk_model.specs.Trace.Structure.{IsOrdered}
use Rattle.vk_model.specs.Trace.Objects.{is_exclusive}
use Rattle.vk_model.specs.World.Bytes.{World, Owner}
use Rattle.vk_model.specs.World.Effect.{world, after_element}
use Rattle.vk_model.specs.World.Ownership.{family_of}
use Rattle.vk_model.specs.Rules.Fault.{newest}
use Rattle.vk_model.specs.Rules.Owners.{some_bad_pair, bad_pair, breaks_owner_pair, is_release_of, releases_resource}
use Rattle.vk_model.specs.Sync.Node.{Node, Depends, Barrier, with_acts, acts, nodes, same_place}
use Rattle.vk_model.specs.Sync.Edge.{earlier, is_element}
use Rattle.vk_model.specs.Sync.Before.{before, IsNumbered}
use Rattle.vk_model.proofs.Lists.Members.{contains-head}
use Rattle.vk_model.proofs.Sync.Numbers.{numbered, numbered_acts}
use Rattle.vk_order.specs.Wide.{IsApartFrom}
use Rattle.vk_order.proofs.SiblingLemmas.{own, before_alone, before_stays, earlier_with}
use Rattle.vk_queues.proofs.NewPoints.{ordered_new}
use Rattle.vk_touches.specs.Touched.{next_node}
use Rattle.vk_rules.specs.declared.halves.Changed.{Changed}
use Rattle.vk_rules.specs.declared.owners.Unpaired.{Unpaired}
use Rattle.vk_rules.specs.Owners.{AreUnpaired, IsFault, owner_at}
use Rattle.vk_rules.specs.Inner.Owners.{ComesAfter, AreChanged, IsUnpairedAt, Judges}
use Rattle.vk_touches.proofs.Touching.NextNodes.{lined, next_nodes-lined}

-- the nodes of a barrier's elements
abbrev pub nodes_with : Point → List Node → List Element → List Node
nodes_with p ns es = with_acts p (map (Depends Barrier) es) ns

with-append : (p : Point) (ns : List Node) (xs ys : List Element) → nodes_with p ns (xs ++ ys) ≡ nodes_with p (nodes_with p ns xs) ys
with-append p ns [] ys = refl
with-append p ns (x ∷ xs) ys = with-append p (own p (length ns) x ∷ ns) xs ys

-- where no element releases a resource, its last release is an older one
-- an element that releases nothing
first_none : (b c : Bool) → (b || c) ≡ false → (b ≡ false) × (c ≡ false)
first_none false c h = (refl, h)
first_none true c h = absurd cc

no_release : (r : ℕ) (p : Point) (ns : List Node) (es : List Element) → list_any (releases_resource r p.queue) es ≡ false → find (is_release_of r) (nodes_with p ns es) ≡ find (is_release_of r) ns
no_release r p ns [] none = refl
no_release r p ns (e ∷ es) none =
    let both = first_none (releases_resource r p.queue e) (list_any (releases_resource r p.queue) es) none in
    no_release r p (own p (length ns) e ∷ ns) es both.1 ∙ rw both.0 refl

-- what is known when so many elements were judged
abbrev pub Going : Past → Point → List Element → Changed → ℕ → List Element → Type 0
Going past p es changed k rest =
    (done : List Element) × (w : World) × (done ++ rest ≡ es) × AreChanged changed past p.queue done w
    × (some_bad_pair past (nodes (p ∷ past)) (world past) (lined p (length (nodes past)) (map (Depends Barrier) es)) ≡ some_bad_pair past (nodes (p ∷ past)) w (lined p (length (nodes_with p (nodes past) done)) (map (Depends Barrier) rest)))
    × (length done ≡ k) × (fold (after_element past (family_of p.queue)) (world past) done ≡ w)

-- the element after some
seam : (xs ys : List Element) (y : Element) → slice_get (xs ++ y ∷ ys) (length xs) ≡ Some y
seam [] ys y = refl
seam (x ∷ xs) ys y = seam xs ys y

module _ (past : Past) (p : Point) (ordered : IsOrdered (p ∷ past)) (es : List Element) (barrier : p.action ≡ Run (cmd.Barrier es)) where
  abbrev ns : List Node
  ns = nodes past

  abbrev all : List Node
  all = nodes (p ∷ past)

  all_are : all ≡ nodes_with p ns es
  all_are = ap (λ (d : Action). with_acts p (acts d) ns) barrier

  pub apart : (e : Element) → IsApartFrom ns (next_node past p (Depends Barrier e))
  apart e k c = go (is_element k.act) refl where
    go : (b : Bool) → is_element k.act ≡ b → (is_element k.act && true && same_place k.point p) ≡ false
    go true h = rw h (ordered_new (p ∷ past) past p ordered newest (cmd.Barrier es) barrier k c h)
    go false h = rw h refl

  -- an element comes after the older nodes as if it came alone
  comes_after : (done rest : List Element) (e : Element) → done ++ e ∷ rest ≡ es → ComesAfter past p done all (own p (length (nodes_with p ns done)) e) e
  comes_after done rest e split = record { point = refl; apart = apart e; alone = alone; releases = releases } where
    base : List Node
    base = nodes_with p ns done

    n : Node
    n = own p (length (nodes_with p ns done)) e

    based : IsNumbered (nodes_with p ns done)
    based = numbered_acts p (map (Depends Barrier) done) ns (numbered past)

    all_split : all ≡ nodes_with p (n ∷ nodes_with p ns done) rest
    all_split = all_are ∙ ap (nodes_with p ns) (sym split) ∙ with-append p ns done (e ∷ rest)

    alone : (m : Node) → Contains ns m → before all m n ≡ before (next_node past p (Depends Barrier e) ∷ ns) m (next_node past p (Depends Barrier e))
    alone m c =
        ap (λ (l : List Node). before l m n) all_split
        ∙ before_stays p (map (Depends Barrier) rest) (n ∷ nodes_with p ns done) (refl, based) m n (contains-head n (nodes_with p ns done))
        ∙ before_alone p ns (numbered past) done e m c

    releases : (r : ℕ) → list_any (releases_resource r p.queue) done ≡ false → find (is_release_of r) (earlier n all) ≡ find (is_release_of r) ns
    releases r none =
        ap (λ (l : List Node). find (is_release_of r) (earlier n l)) (all_split)
        ∙ ap (find (is_release_of r)) (earlier_with p (map (Depends Barrier) (e ∷ rest)) (nodes_with p ns done) based n refl)
        ∙ no_release r p ns done none

  broken_is : breaks_owner_pair past p ≡ some_bad_pair past all (world past) (lined p (length ns) (map (Depends Barrier) es))
  broken_is = ap (some_bad_pair past all (world past)) (next_nodes-lined past p ∙ ap (λ (d : Action). lined p (length ns) (acts d)) barrier)

  pub begins : (changed : Changed) → ((r : ℕ) → get nat_cmp changed.released r ≡ None) → Going past p es changed 0 es
  begins changed none = ([], world past, refl, are, refl, refl, refl) where
    are : AreChanged changed past p.queue [] (world past)
    are r = rw (none r) (refl, refl)

  longer : (done : List Element) (e : Element) → length (nodes_with p ns (done ++ e ∷ [])) ≡ length (nodes_with p ns done) + 1
  longer done e = ap length (with-append p ns done (e ∷ [])) ∙ (let one : length (own p (length (nodes_with p ns done)) e ∷ nodes_with p ns done) ≡ length (nodes_with p ns done) + 1 = omega arith in one)

  -- a bad element
  pub broken : (old new : Changed) (e : Element) (k : ℕ) (rest : List Element) → Judges (λ l w n. bad_pair past l w n e) past p e old new true → Going past p es old k (e ∷ rest) → true ≡ breaks_owner_pair past p
  broken old new e k rest judges (done, w, split, are, same, many, left) =
      let h = judges done w all (own p (length (nodes_with p ns done)) e) (comes_after done rest e split) are in
      sym (broken_is ∙ same ∙ ap (λ (b : Bool). b || some_bad_pair past all (after_element past (family_of p.queue) w e) (lined p (length (nodes_with p ns done) + 1) (map (Depends Barrier) rest))) (sym h.0))

  -- what is reported of it
  pub unpaired : (old : Changed) (e : Element) (k : ℕ) (rest : List Element) (o : Option Unpaired) → IfSome o (IsUnpairedAt past p k e old) → Going past p es old k (e ∷ rest) → IfSome o (AreUnpaired past p.queue es)
  unpaired old e k rest None at going = tt
  unpaired old e k rest (Some m) at (done, w, split, are, same, many, left) =
      let here : length done ≡ m.element = many ∙ sym at.index in
      let before_it : take m.element es ≡ done = ap (λ (l : List Element). take m.element l) (sym split) ∙ ap (λ (j : ℕ). take j (done ++ e ∷ rest)) (sym here) ∙ take-append_seam done (e ∷ rest) in
      let owner_is : w.owner m.resource ≡ owner_at past p.queue es m.element m.resource =
      ap (λ (v : World). v.owner m.resource) (sym left) ∙ ap (λ (l : List Element). (fold (after_element past (family_of p.queue)) (world past) l).owner m.resource) (sym before_it) in
      record {
        element = e;
        is = ap (λ (l : List Element). slice_get l m.element) (sym split) ∙ ap (λ (j : ℕ). slice_get (done ++ e ∷ rest) j) (sym here) ∙ seam done rest e;
        resource = at.resource;
        families = at.families;
        differ = at.differ;
        misfit = subst (λ (o : Owner). IsFault p.queue e m.families (is_exclusive past m.resource) o m.fault) owner_is (at.fault done w are);
      }

  -- one that isn't
  pub goes_on : (old new : Changed) (e : Element) (k : ℕ) (rest : List Element) → Judges (λ l w n. bad_pair past l w n e) past p e old new false → Going past p es old k (e ∷ rest) → Going past p es new (k + 1) rest
  goes_on old new e k rest judges (done, w, split, are, same, many, left) =
      let h = judges done w all (own p (length (nodes_with p ns done)) e) (comes_after done rest e split) are in (
        done ++ e ∷ [],
        after_element past (family_of p.queue) w e,
        append_assoc done (e ∷ []) rest ∙ split,
        h.1 refl,
        same
            ∙ ap (λ (b : Bool). b || some_bad_pair past all (after_element past (family_of p.queue) w e) (lined p (length (nodes_with p ns done) + 1) (map (Depends Barrier) rest))) (sym h.0)
            ∙ ap (λ (j : ℕ). some_bad_pair past all (after_element past (family_of p.queue) w e) (lined p j (map (Depends Barrier) rest))) (sym (longer done e)),
        length-append done (e ∷ []) ∙ ap (λ (j : ℕ). j + 1) many,
        fold-append (after_element past (family_of p.queue)) (world past) done (e ∷ []) ∙ ap (λ (v : World). after_element past (family_of p.queue) v e) left,
      )

  pub ends : (changed : Changed) (k : ℕ) → Going past p es changed k [] → false ≡ breaks_owner_pair past p
  ends changed k (done, w, split, are, same, many, left) = sym (broken_is ∙ same)
