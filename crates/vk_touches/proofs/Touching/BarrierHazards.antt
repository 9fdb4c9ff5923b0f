-- The hazards of a barrier: those of its elements that are transitions, each taken alone, by the last nodes that touched each byte.
use Rattle.std.proofs.Common.{◌≡◌, ◌<◌, ℕ, ◌+◌, List, [], ◌∷◌, ◌++◌, length, map, Bool, true, false, not, ◌&&◌, ◌||◌, refl, ap, sym, ◌∙◌, subst, arith, ⊎_elim, Option, Some, None, length-append}
use Rattle.std.specs.Prelude.{Contains}
use Rattle.std.specs.List.{list_any}
use Rattle.std.proofs.lemmas.Bool.{and_parts, ltb-true}
use Rattle.std.proofs.lemmas.List.{append_assoc}
use Rattle.vk_model.specs.declared.command.Cmd.{Cmd}
use Rattle.vk_model.specs.declared.command.Cmd.TheVariants as cmd
use Rattle.vk_model.specs.declared.command.Element.{Element}
use Rattle.vk_model.specs.Basics.{holds, some_pair}
use Rattle.vk_model.specs.World.Bytes.{Byte, resource_at}
use Rattle.vk_model.specs.World.ByteWrites.{byte_writes}
use Rattle.vk_model.specs.Trace.Objects.{is_cached}
use Rattle.vk_model.specs.Trace.Point.{Past, Point, Action, Run}
use Rattle.vk_model.specs.Sync.Node.{Node, Act, Depends, Barrier, nodes, acts, with_acts, next_nodes}
use Rattle.vk_model.specs.Sync.Edge.{is_host, is_element}
use Rattle.vk_model.specs.Sync.Before.{before}
use Rattle.vk_model.specs.Sync.Seen.{Access, Read, Write, seen}
use Rattle.vk_model.specs.Sync.Access.{writes, writes_of, is_in, is_seen, share, precedes, hazard, war, raw, waw, transition_bytes}
use Rattle.vk_model.specs.Rules.Ranges.{breaks_overlap, transitions_meet}
use Rattle.vk_model.specs.Rules.Table.{fault}
use Rattle.vk_model.proofs.Lists.Members.{any_same, contains-head, contains-tail, member_passes, some_member}
use Rattle.vk_model.proofs.Lists.Truths.{bool_same, clash}
use Rattle.vk_model.proofs.Sync.Growth.{growth}
use Rattle.vk_model.proofs.Sync.Numbers.{numbered}
use Rattle.vk_laws.proofs.Nodes.Prefixes.{has_more}
use Rattle.vk_order.specs.Barriers.{element_node, with_barrier, ElementsComeAlone, ElementsSeeAlone}
use Rattle.vk_order.specs.Limited.{IsWrite}
use Rattle.vk_order.specs.Prefixes.{LinePrefix}
use Rattle.vk_order.specs.Visibility.{HostSeen}
use Rattle.vk_order.specs.Wide.{is_wide}
use Rattle.vk_touches.specs.declared.touches.Touch.TheVariants as touch
use Rattle.vk_touches.specs.Touched.{last_touch, last_transition}
use Rattle.vk_touches.proofs.Touching.AllTransitions.{element_at, last_transition_is}
use Rattle.vk_touches.proofs.Touching.LastAccesses.{last_touch_is}
use Rattle.vk_touches.proofs.Touching.LastHazards.{Way, By, Moving, OnQueues, StaysCached, early, early_is, last_way, read_ways, some_last, unseen, unseen_is, way_is, write_ways}
use Rattle.vk_touches.proofs.Touching.LastTransitions.{element_there}
use Rattle.vk_touches.proofs.Touching.NextNodes.{lined, next_nodes-lined}
use Rattle.vk_touches.proofs.Touching.TransitionBytes.{moved, moved_twice, pair_apart, unwritten}
use Rattle.vk_model.proofs.World.BytePlaces.{is_in_from, is_in_of}

-- ---- in a list

-- what is further to the front
in_front : {A : Type 0} (f g b c : List A) (d e : A) → f ++ d ∷ b ≡ g ++ e ∷ c → length f < length g → Contains g d
in_front [] [] b c d e same lt = absurd (omega arith)
in_front [] (y ∷ g) b c d e same lt = let first : y ≡ d = cc in subst (λ x. Contains (y ∷ g) x) first (contains-head y g)
in_front (x ∷ f) [] b c d e same lt = absurd (omega arith)
in_front (x ∷ f) (y ∷ g) b c d e same lt = let rest : f ++ d ∷ b ≡ g ++ e ∷ c = cc in contains-tail y g d (in_front f g b c d e rest (omega arith))

-- what is so of each element of a barrier by its node
module _ (p : Point) (k : ℕ) (f : Node → Bool) (g : Element → Bool) where
  any_from : (front es : List Element) → ((done back : List Element) (e : Element) → front ++ es ≡ done ++ e ∷ back → f (element_node p (k + length done) e) ≡ g e)
      → list_any f (lined p (k + length front) (map (Depends Barrier) es)) ≡ list_any g es
  any_from front [] each = refl
  any_from front (e ∷ es) each =
      let here : f (element_node p (k + length front) e) ≡ g e = each front es e refl in
      let more : k + length front + 1 ≡ k + length (front ++ e ∷ []) = let n = length-append front (e ∷ []) in omega (arith, n) in
      let rest : list_any f (lined p (k + length (front ++ e ∷ [])) (map (Depends Barrier) es)) ≡ list_any g es =
      any_from (front ++ e ∷ []) es (λ done back d whole. each done back d (sym (append_assoc front (e ∷ []) es) ∙ whole)) in
      ap (λ (t : Bool). t || list_any f (lined p (k + length front + 1) (map (Depends Barrier) es))) here
      ∙ ap (λ (j : ℕ). g e || list_any f (lined p j (map (Depends Barrier) es))) more
      ∙ ap (λ (t : Bool). g e || t) rest

  pub any_element : (es : List Element) → ((done back : List Element) (e : Element) → es ≡ done ++ e ∷ back → f (element_node p (k + length done) e) ≡ g e) → list_any f (lined p k (map (Depends Barrier) es)) ≡ list_any g es
  any_element es each = let none : k ≡ k + 0 = omega arith in ap (λ (j : ℕ). list_any f (lined p j (map (Depends Barrier) es))) none ∙ any_from [] es each

-- ---- an element taken alone

-- what it doesn't come after
abbrev pub early_alone : Past → Point → Element → Node → Byte → Bool
early_alone past p e v b = not (before (element_node p (length (nodes past)) e ∷ nodes past) v (element_node p (length (nodes past)) e))

-- what it doesn't see
abbrev pub unseen_alone : Past → Point → Element → Access → Node → Byte → Bool
unseen_alone past p e k v b = not (seen (λ c. is_cached (p ∷ past) (resource_at c)) (element_node p (length (nodes past)) e ∷ nodes past) v (element_node p (length (nodes past)) e) k b)

-- writes by commands and by transitions: the host writes no byte of an image
abbrev pub moved_ways : List (Bool × Way)
moved_ways = (true, By touch.Write) ∷ (true, Moving) ∷ []

-- ---- a barrier that breaks no OVERLAP

module _ (past : Past) (none : fault past ≡ None) (p : Point) (es : List Element) (runs : p.action ≡ Run (cmd.Barrier es)) (apart : breaks_overlap past p ≡ false) where
  steady : (c : Cmd) → byte_writes (p ∷ past) c ≡ byte_writes past c
  steady c = subst (λ (d : Action). byte_writes (record p { action = d } ∷ past) c ≡ byte_writes past c) (sym runs) refl

  still : StaysCached past p
  still r = subst (λ (d : Action). is_cached (record p { action = d } ∷ past) r ≡ is_cached past r) (sym runs) refl

  no_pair : some_pair transitions_meet es ≡ false
  no_pair = subst (λ (d : Action). breaks_overlap past (record p { action = d }) ≡ false) runs apart

  abbrev k : ℕ
  k = length (nodes past)

  abbrev bytes : Element → List Byte
  bytes e = transition_bytes (p ∷ past) p.queue e

  all_nodes : nodes (p ∷ past) ≡ with_barrier p es (nodes past)
  all_nodes = ap (λ (d : Action). with_acts p (acts d) (nodes past)) runs

  new_nodes : next_nodes past p ≡ lined p k (map (Depends Barrier) es)
  new_nodes = next_nodes-lined past p ∙ ap (λ (d : Action). lined p k (acts d)) runs

  -- two elements with a hazard have a byte in common
  abbrev Common : (Past → Node → Node → Bool) → Type 0
  Common kind = (i j : ℕ) (d e : Element) → kind (p ∷ past) (element_node p i d) (element_node p j e) ≡ true → (b : Byte) × (is_in b (bytes d) ≡ true) × (is_in b (bytes e) ≡ true)

  war_common : Common war
  war_common i j d e h =
      let shared = (and_parts (share (bytes d) (bytes e)) (not (before (nodes (p ∷ past)) (element_node p i d) (element_node p j e))) h).0 in
      let b = some_member (λ b. is_in b (bytes e)) (bytes d) shared in
      (b.0, is_in_of b.0 (bytes d) b.1, b.2)

  raw_common : Common raw
  raw_common i j d e h =
      let b = some_member (λ b. is_in b (bytes d) && not (is_seen (p ∷ past) (element_node p i d) (element_node p j e) Read b)) (bytes e) h in
      (b.0, (and_parts _ _ b.2).0, is_in_of b.0 (bytes e) b.1)

  waw_common : Common waw
  waw_common i j d e h =
      let b = some_member (λ b. is_in b (bytes d) && not (is_seen (p ∷ past) (element_node p i d) (element_node p j e) Write b)) (bytes e) h in
      (b.0, (and_parts _ _ b.2).0, is_in_of b.0 (bytes e) b.1)

  module _ (done back : List Element) (e : Element) (whole : es ≡ done ++ e ∷ back) where
    abbrev y : Node
    y = element_node p (k + length done) e

    here : Contains (nodes (p ∷ past)) y
    here = subst (λ (ns : List Node). Contains ns y) (sym (all_nodes ∙ ap (λ (l : List Element). with_barrier p l (nodes past)) whole)) (element_there p done back e (nodes past))

    -- no element that comes first has a hazard with it
    no_sibling : (kind : Past → Node → Node → Bool) → Common kind → (front more : List Element) (d : Element) → es ≡ front ++ d ∷ more → k + length front < k + length done → kind (p ∷ past) (element_node p (k + length front) d) y ≡ true → ⊥
    no_sibling kind common front more d at lt h =
        let b = common (k + length front) (k + length done) d e h in
        let first : Contains done d = in_front front done more back d e (sym at ∙ whole) (omega (arith, lt)) in
        clash (moved_twice (p ∷ past) p.queue d e b.0 b.1 b.2) (pair_apart back e transitions_meet done d (ap (some_pair transitions_meet) (sym whole) ∙ no_pair) first)

    -- so older nodes decide
    of_older : (kind : Past → Node → Node → Bool) → Common kind → list_any (λ x. precedes x y && kind (p ∷ past) x y) (nodes (p ∷ past)) ≡ list_any (λ x. precedes x y && kind (p ∷ past) x y) (nodes past)
    of_older kind common = bool_same _ _ to from where
      test : Node → Bool
      test x = precedes x y && kind (p ∷ past) x y

      to : list_any test (nodes (p ∷ past)) ≡ true → list_any test (nodes past) ≡ true
      to h =
          let x = some_member test (nodes (p ∷ past)) h in
          let both = and_parts (precedes x.0 y) (kind (p ∷ past) x.0 y) x.2 in
          ⊎_elim
          (λ old. member_passes test (nodes past) x.0 old x.2)
          (λ at.
          let lt = ltb-true x.0.number y.number (and_parts _ _ both.0).0 in
          let number : k + length at.front ≡ x.0.number = ap (λ (n : Node). n.number) at.node_is in
          absurd (no_sibling kind common at.front at.back at.element at.whole (omega (arith, lt, number)) (subst (λ (n : Node). kind (p ∷ past) n y ≡ true) (sym at.node_is) both.1)))
          (element_at p es (nodes past) x.0 (subst (λ (ns : List Node). Contains ns x.0) all_nodes x.1))

      from : list_any test (nodes past) ≡ true → list_any test (nodes (p ∷ past)) ≡ true
      from h = let x = some_member test (nodes past) h in member_passes test (nodes (p ∷ past)) x.0 (has_more growth (p ∷ []) past x.0 x.1) x.2

    -- ---- taken alone

    -- a byte that is asked of
    same_last : (ways : List (Bool × Way)) (bad worse : Node → Byte → Bool) (b : Byte) → ((w : Way) (v : Node) → last_way w past b ≡ Some v → bad v b ≡ worse v b) → some_last past ways bad b ≡ some_last past ways worse b
    same_last ways bad worse b same = any_same _ _ ways (λ w c. ap (λ (t : Bool). w.0 && t) (go w.1 (last_way w.1 past b) refl)) where
      go : (w : Way) (o : Option Node) → last_way w past b ≡ o → holds o (λ v. bad v b) ≡ holds o (λ v. worse v b)
      go w None is = refl
      go w (Some v) is = same w v is

    early_same : ElementsComeAlone → (b : Byte) → some_last past (read_ways false) (early past p y) b ≡ some_last past (read_ways false) (early_alone past p e) b
    early_same law b = same_last (read_ways false) (early past p y) (early_alone past p e) b (λ w v is.
        let there = (way_is past none p steady y here (omega arith) w v b is).0 in
        ap not (ap (λ (ns : List Node). before ns v y) (all_nodes ∙ ap (λ (l : List Element). with_barrier p l (nodes past)) whole) ∙ law (nodes past) p done back e v (numbered past) there))

    -- nobody but commands and transitions writes what it writes
    no_host : (b : Byte) → is_in b (bytes e) ≡ true → (bad : Node → Byte → Bool) → some_last past (write_ways false) bad b ≡ some_last past moved_ways bad b
    no_host b in_bytes bad = ap (λ (t : Bool). holds (last_touch touch.Write past b) (λ v. bad v b) || (t || (holds (last_transition past b) (λ v. bad v b) || false))) (go (last_touch touch.HostWrite past b) refl) where
      go : (o : Option Node) → last_touch touch.HostWrite past b ≡ o → holds o (λ v. bad v b) ≡ false
      go None is = refl
      go (Some v) is =
          let l = last_touch_is past none p steady touch.HostWrite v b is in
          absurd (unwritten (p ∷ past) p.queue e b l.does.0 in_bytes (sym (ap (λ (a : Act). is_in b (writes_of (p ∷ past) v.point.queue a)) l.does.1) ∙ l.does.2))

    -- a write by a command or a transition, as the law asks
    abbrev cached : Byte → Bool
    cached c = is_cached (p ∷ past) (resource_at c)

    command_write : (b : Byte) (v : Node) → last_touch touch.Write past b ≡ Some v → IsWrite cached (nodes past) v b
    command_write b v is =
        let l = last_touch_is past none p steady touch.Write v b is in
        record { there = l.there; uncached = ap (λ (a : Act). is_host a && cached b) l.does.1; limited = ap (λ (a : Act). is_element a && is_wide a) l.does.1 }

    transition_write : (b : Byte) (v : Node) → last_transition past b ≡ Some v → IsWrite cached (nodes past) v b
    transition_write b v is =
        let l = last_transition_is past none p steady b v is in
        let wrote : is_in b (transition_bytes (p ∷ past) v.point.queue l.does.1) ≡ true = sym (ap (λ (a : Act). is_in b (writes_of (p ∷ past) v.point.queue a)) l.does.2) ∙ l.does.3 in
        let m = moved (p ∷ past) v.point.queue l.does.1 b (is_in_from b (transition_bytes (p ∷ past) v.point.queue l.does.1) wrote) in
        record { there = l.there; uncached = ap (λ (a : Act). is_host a && cached b) l.does.2; limited = ap (λ (a : Act). is_element a && is_wide a) (l.does.2 ∙ ap (Depends l.does.0) m.named) }

    unseen_same : ElementsSeeAlone → (a : Access) (b : Byte) → some_last past moved_ways (unseen past p y a) b ≡ some_last past moved_ways (unseen_alone past p e a) b
    unseen_same law a b = rw (go (last_touch touch.Write past b) (λ v is. command_write b v is), go (last_transition past b) (λ v is. transition_write b v is)) refl where
      go : (o : Option Node) → ((v : Node) → o ≡ Some v → IsWrite cached (nodes past) v b) → holds o (λ v. unseen past p y a v b) ≡ holds o (λ v. unseen_alone past p e a v b)
      go None wrote = refl
      go (Some v) wrote = ap not (ap (λ (ns : List Node). seen cached ns v y a b) (all_nodes ∙ ap (λ (l : List Element). with_barrier p l (nodes past)) whole) ∙ law (nodes past) p done back e cached v a b (numbered past) (wrote v refl))

    -- ---- the hazards of the element

    element_war : ElementsComeAlone → LinePrefix → OnQueues past → list_any (λ x. precedes x y && war (p ∷ past) x y) (nodes (p ∷ past)) ≡ list_any (some_last past (read_ways false) (early_alone past p e)) (bytes e)
    element_war law line on_queues = of_older war war_common ∙ early_is past none p steady y here (omega arith) line on_queues ∙ any_same _ _ (bytes e) (λ b c. early_same law b)

    element_unseen : ElementsSeeAlone → HostSeen → (a : Access) → list_any (λ x. precedes x y && list_any (λ b. is_in b (writes (p ∷ past) x) && not (is_seen (p ∷ past) x y a b)) (bytes e)) (nodes past) ≡ list_any (some_last past moved_ways (unseen_alone past p e a)) (bytes e)
    element_unseen law host_seen a = unseen_is past none p steady y here (omega arith) host_seen still a (bytes e)
        ∙ any_same _ _ (bytes e) (λ b c. no_host b (is_in_of b (bytes e) c) (unseen past p y a) ∙ unseen_same law a b)

  -- HAZARD_WAR: some element has a byte whose last read or last transition it doesn't come after
  pub war_of_barrier : ElementsComeAlone → LinePrefix → OnQueues past → hazard war past p ≡ list_any (λ e. list_any (some_last past (read_ways false) (early_alone past p e)) (transition_bytes (p ∷ past) p.queue e)) es
  war_of_barrier law line on_queues = ap (list_any (λ y. list_any (λ x. precedes x y && war (p ∷ past) x y) (nodes (p ∷ past)))) new_nodes ∙ any_element p k _ _ es (λ done back e whole. element_war done back e whole law line on_queues)

  -- HAZARD_RAW and HAZARD_WAW: some element has a byte whose last write by a command or last transition it doesn't see
  pub raw_of_barrier : ElementsSeeAlone → HostSeen → hazard raw past p ≡ list_any (λ e. list_any (some_last past moved_ways (unseen_alone past p e Read)) (transition_bytes (p ∷ past) p.queue e)) es
  raw_of_barrier law host_seen = ap (list_any (λ y. list_any (λ x. precedes x y && raw (p ∷ past) x y) (nodes (p ∷ past)))) new_nodes ∙ any_element p k _ _ es (λ done back e whole. of_older done back e whole raw raw_common ∙ element_unseen done back e whole law host_seen Read)

  pub waw_of_barrier : ElementsSeeAlone → HostSeen → hazard waw past p ≡ list_any (λ e. list_any (some_last past moved_ways (unseen_alone past p e Write)) (transition_bytes (p ∷ past) p.queue e)) es
  waw_of_barrier law host_seen = ap (list_any (λ y. list_any (λ x. precedes x y && waw (p ∷ past) x y) (nodes (p ∷ past)))) new_nodes ∙ any_element p k _ _ es (λ done back e whole. of_older done back e whole waw waw_common ∙ element_unseen done back e whole law host_seen Write)
