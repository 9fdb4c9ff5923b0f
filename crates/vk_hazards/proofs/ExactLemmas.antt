-- A missing link is one, and the write isn't seen without it.
use Rattle.std.proofs.Common.{◌≡◌, inl, inr, ⊎_elim, List, Bool, true, false, not, cond, ◌&&◌, ◌||◌, IsTrue, refl, sym, ap, ◌∙◌, subst}
use Rattle.std.specs.Prelude.{Contains}
use Rattle.std.specs.List.{list_any}
use Rattle.std.proofs.lemmas.Bool.{eqb-true, and_parts, and_from, or_right, or_cases, false_from_ne_true}
use Rattle.vk_model.specs.Trace.Point.{Past}
use Rattle.vk_model.specs.World.Bytes.{Byte}
use Rattle.vk_model.specs.Sync.Node.{Node, Act, Hosts, Waits, Signals, Runs, Depends, nodes, same_node}
use Rattle.vk_model.specs.Sync.Edge.{is_host}
use Rattle.vk_model.specs.Sync.Before.{before}
use Rattle.vk_model.specs.Sync.Seen.{Access, seen, available_by, visible_by, makes_writes_visible, needs_invalidation, passes, flushes, invalidates, to_host, host_mask}
use Rattle.vk_model.specs.Sync.Access.{is_seen}
use Rattle.vk_model.proofs.Lists.Members.{member_passes, some_member, none_passes_any}
use Rattle.vk_model.proofs.Lists.Truths.{no, clash}
use Rattle.vk_model.proofs.Sync.Numbers.{numbered, unique}
use Rattle.vk_model.proofs.Sync.Paths.{before_of_path, path_of_before, joined}
use Rattle.vk_hazards.specs.declared.links.Missing.{Missing}
use Rattle.vk_hazards.specs.declared.links.Missing.TheVariants as missing
use Rattle.vk_hazards.specs.Links.{cached, needs_flush, flushes_after, makes_available, is_available_at, shows_host, shows_in_time, HasSome, IsMissingAfterWrite}
use Rattle.vk_hazards.proofs.AvailabilityLemmas.{is_asked, flushed}

-- ---- the link, by what is there

pick : (needed flush available by_host on_host there shows_some awaited : Bool) → Missing
pick n f v h d t s p = cond (n && not f) missing.Flush (cond (not v) (cond h missing.Submit missing.Available) (cond d (cond (not s) missing.Visible (cond (not p) missing.Wait missing.Invalidation)) (cond t missing.Visible missing.Order)))

unneeded : (n f : Bool) → (n ≡ true → f ≡ true) → (n && not f) ≡ false
unneeded true f h = ap not (h refl)
unneeded false f h = refl

module _ (n f v h d t s p : Bool) where
  pick_flush : n ≡ true → f ≡ false → missing.Flush ≡ pick n f v h d t s p
  unfolding pick
  pick_flush en ef = rw (en, ef) refl

  module _ (flush : n ≡ true → f ≡ true) where
    pick_submit : v ≡ false → h ≡ true → missing.Submit ≡ pick n f v h d t s p
    unfolding pick
    pick_submit ev eh = rw (unneeded n f flush, ev, eh) refl

    pick_available : v ≡ false → h ≡ false → missing.Available ≡ pick n f v h d t s p
    unfolding pick
    pick_available ev eh = rw (unneeded n f flush, ev, eh) refl

    pick_order : v ≡ true → d ≡ false → t ≡ false → missing.Order ≡ pick n f v h d t s p
    unfolding pick
    pick_order ev ed et = rw (unneeded n f flush, ev, ed, et) refl

    pick_invisible : v ≡ true → d ≡ false → t ≡ true → missing.Visible ≡ pick n f v h d t s p
    unfolding pick
    pick_invisible ev ed et = rw (unneeded n f flush, ev, ed, et) refl

    pick_invisible_on_host : v ≡ true → d ≡ true → s ≡ false → missing.Visible ≡ pick n f v h d t s p
    unfolding pick
    pick_invisible_on_host ev ed es = rw (unneeded n f flush, ev, ed, es) refl

    pick_wait : v ≡ true → d ≡ true → s ≡ true → p ≡ false → missing.Wait ≡ pick n f v h d t s p
    unfolding pick
    pick_wait ev ed es ep = rw (unneeded n f flush, ev, ed, es, ep) refl

    pick_invalidation : v ≡ true → d ≡ true → s ≡ true → p ≡ true → missing.Invalidation ≡ pick n f v h d t s p
    unfolding pick
    pick_invalidation ev ed es ep = rw (unneeded n f flush, ev, ed, es, ep) refl

module _ (past : Past) (w a : Node) (k : Access) (b : Byte) (cw : Contains (nodes past) w) where
  abbrev all : List Node
  all = nodes past

  abbrev any : (Node → Bool) → Bool
  any test = list_any test all

  some_any : (test : Node → Bool) → HasSome past test → any test ≡ true
  some_any test some = member_passes test all some.0 some.1 some.2

  -- a write that needs a flush isn't available without one
  asked_of : (act : Act) → is_host act ≡ true → (p : Node) → available_by (cached past) all w act b p ≡ true → is_asked past w cw b p ≡ true
  asked_of (Hosts x) h p e =
      let one = and_parts (Rattle.vk_model.specs.Sync.Edge.is_submit p.act && before all w p) (not (cached past b) || passes (cached past) all (λ f. flushes f b) w p) e in
      and_from (before all w p) _ (and_parts (Rattle.vk_model.specs.Sync.Edge.is_submit p.act) (before all w p) one.0).1 one.1
  asked_of (Waits s) h p e = no h
  asked_of (Signals s) h p e = no h
  asked_of (Runs c) h p e = no h
  asked_of (Depends r e') h p e = no h

  flushed_first : HasSome past (makes_available past w b) → needs_flush past w b ≡ true → HasSome past (flushes_after past w b)
  flushed_first some needed =
      let f = flushed past w cw b some.0 needed (asked_of w.act (and_parts (is_host w.act) (cached past b) needed).0 some.0 some.2) in
      (f.0, f.1, f.2)

  available_some : (q : Node) → is_available_at past w b q ≡ true → HasSome past (makes_available past w b)
  available_some q h =
      let p = some_member (λ p. makes_available past w b p && (same_node p q || before all p q)) all h in
      (p.0, p.1, (and_parts (makes_available past w b p.0) (same_node p.0 q || before all p.0 q) p.2).0)

  -- what an element that shows it to the host has
  visible_host : (q : Node) → shows_host past w a k b q ≡ true → is_host a.act ≡ true
  visible_host q h = (and_parts (is_host a.act) _ h).0

  visible_available : (q : Node) → shows_host past w a k b q ≡ true → is_available_at past w b q ≡ true
  visible_available q h = (and_parts (to_host q.act && makes_writes_visible (cached past) all (host_mask k) b q q.act) (is_available_at past w b q) (and_parts (is_host a.act) _ h).1).1

  visible_of : HasSome past (shows_in_time past w a k b) → HasSome past (shows_host past w a k b)
  visible_of q = (q.0, q.1, (and_parts (shows_host past w a k b q.0) (before all q.0 a) q.2).0)

  abbrev chosen : Missing
  chosen = pick (needs_flush past w b) (any (flushes_after past w b)) (any (makes_available past w b)) (is_host w.act) (is_host a.act) (is_available_at past w b a) (any (shows_host past w a k b)) (any (shows_in_time past w a k b))

  flush_of : HasSome past (makes_available past w b) → needs_flush past w b ≡ true → any (flushes_after past w b) ≡ true
  flush_of some needed = some_any (flushes_after past w b) (flushed_first some needed)

  chosen_is : (m : Missing) → IsMissingAfterWrite past w a k b m → m ≡ chosen
  chosen_is missing.Flush is = pick_flush _ _ _ _ _ _ _ _ is.needed (none_passes_any (flushes_after past w b) all is.missing)
  chosen_is missing.Submit is = pick_submit _ _ _ _ _ _ _ _ (λ needed. some_any (flushes_after past w b) (is.flushed needed)) (none_passes_any (makes_available past w b) all is.missing) is.by_host
  chosen_is missing.Available is =
      pick_available _ _ _ _ _ _ _ _ (λ needed. clash (and_parts (is_host w.act) (cached past b) needed).0 is.by_device) (none_passes_any (makes_available past w b) all is.missing) is.by_device
  chosen_is missing.Order is = pick_order _ _ _ _ _ _ _ _ (flush_of is.available) (some_any (makes_available past w b) is.available) is.on_device is.missing
  chosen_is missing.Visible (inl is) =
      let some = available_some a is.available in
      pick_invisible _ _ _ _ _ _ _ _ (flush_of some) (some_any (makes_available past w b) some) is.on_device is.available
  chosen_is missing.Visible (inr is) = pick_invisible_on_host _ _ _ _ _ _ _ _ (flush_of is.available) (some_any (makes_available past w b) is.available) is.on_host (none_passes_any (shows_host past w a k b) all is.missing)
  chosen_is missing.Wait is =
      let q = is.shows_some in
      let some = available_some q.0 (visible_available q.0 q.2) in
      pick_wait _ _ _ _ _ _ _ _ (flush_of some) (some_any (makes_available past w b) some) (visible_host q.0 q.2) (some_any (shows_host past w a k b) q) (none_passes_any (shows_in_time past w a k b) all is.missing)
  chosen_is missing.Invalidation is =
      let q = visible_of is.awaited in
      let some = available_some q.0 (visible_available q.0 q.2) in
      pick_invalidation _ _ _ _ _ _ _ _ (flush_of some) (some_any (makes_available past w b) some) (visible_host q.0 q.2) (some_any (shows_host past w a k b) q) (some_any (shows_in_time past w a k b) is.awaited)

  pub one : (m n : Missing) → IsMissingAfterWrite past w a k b m → IsMissingAfterWrite past w a k b n → m ≡ n
  one m n is other = chosen_is m is ∙ sym (chosen_is n other)

  -- ---- what is seen lacks none

  record Way : Type 0 where
    p : Node
    q : Node
    has_p : Contains all p
    has_q : Contains all q
    available : makes_available past w b p ≡ true
    between : (same_node p q || before all p q) ≡ true
    visible : visible_by (cached past) all w a a.act k b q ≡ true
    reached : (same_node q a || before all q a) ≡ true

  way_of : is_seen past w a k b ≡ true → Way
  unfolding seen
  way_of h =
      let p = some_member (λ p. available_by (cached past) all w w.act b p && list_any (λ q. (same_node p q || before all p q) && visible_by (cached past) all w a a.act k b q && (same_node q a || before all q a)) all) all h in
      let one = and_parts (makes_available past w b p.0) _ p.2 in
      let q = some_member (λ q. (same_node p.0 q || before all p.0 q) && visible_by (cached past) all w a a.act k b q && (same_node q a || before all q a)) all one.1 in
      let two = and_parts ((same_node p.0 q.0 || before all p.0 q.0) && visible_by (cached past) all w a a.act k b q.0) _ q.2 in
      let three = and_parts (same_node p.0 q.0 || before all p.0 q.0) _ two.0 in
      record { p = p.0; q = q.0; has_p = p.1; has_q = q.1; available = one.0; between = three.0; visible = three.1; reached = two.1 }

  there_at : (p q : Node) → Contains all p → makes_available past w b p ≡ true → (same_node p q || before all p q) ≡ true → is_available_at past w b q ≡ true
  there_at p q cp h reach = member_passes (λ p. makes_available past w b p && (same_node p q || before all p q)) all p cp (and_from (makes_available past w b p) _ h reach)

  onward : (p q n : Node) → Contains all p → Contains all q → Contains all n → (same_node p q || before all p q) ≡ true → (same_node q n || before all q n) ≡ true → (same_node p n || before all p n) ≡ true
  onward p q n cp cq cn one two = ⊎_elim
      (λ (same : same_node p q ≡ true). subst (λ (x : Node). (same_node x n || before all x n) ≡ true) (unique all (numbered past) q p cq cp (sym (eqb-true p.number q.number same))) two)
      (λ (pq : before all p q ≡ true). ⊎_elim
      (λ (same : same_node q n ≡ true). or_right (same_node p n) (before all p n) (subst (λ (x : Node). before all p x ≡ true) (unique all (numbered past) q n cq cn (eqb-true q.number n.number same)) pq))
      (λ (qn : before all q n ≡ true). or_right (same_node p n) (before all p n)
      (before_of_path all (numbered past) p n cp cn (joined all p q n (path_of_before all (numbered past) p q cp cq pq) (path_of_before all (numbered past) q n cq cn qn))))
      (or_cases (same_node q n) (before all q n) two))
      (or_cases (same_node p q) (before all p q) one)

  -- what makes it visible to the host
  host_parts : (act : Act) → is_host act ≡ true → (q : Node) → visible_by (cached past) all w a act k b q ≡ true
      → IsTrue (before all q a) × IsTrue (to_host q.act && makes_writes_visible (cached past) all (host_mask k) b q q.act) × IsTrue (not (needs_invalidation (cached past) all k b) || passes (cached past) all (λ f. invalidates f b) q a)
  host_parts (Hosts x) h q e =
      let one = and_parts (before all q a && to_host q.act && makes_writes_visible (cached past) all (host_mask k) b q q.act) _ e in
      let two = and_parts (before all q a && to_host q.act) _ one.0 in
      let three = and_parts (before all q a) _ two.0 in
      (three.0, and_from (to_host q.act) _ three.1 two.1, one.1)
  host_parts (Waits s) h q e = no h
  host_parts (Signals s) h q e = no h
  host_parts (Runs c) h q e = no h
  host_parts (Depends r e') h q e = no h

  module _ (ca : Contains all a) (y : Way) where
    at_q : is_available_at past w b y.q ≡ true
    at_q = there_at y.p y.q y.has_p y.available y.between

    visible_q : is_host a.act ≡ true → shows_host past w a k b y.q ≡ true
    visible_q h = and_from (is_host a.act) _ h (and_from (to_host y.q.act && makes_writes_visible (cached past) all (host_mask k) b y.q y.q.act) _ (host_parts a.act h y.q y.visible).1 at_q)

    in_time_q : is_host a.act ≡ true → shows_in_time past w a k b y.q ≡ true
    in_time_q h = and_from (shows_host past w a k b y.q) _ (visible_q h) (host_parts a.act h y.q y.visible).0

    some_p : HasSome past (makes_available past w b)
    some_p = (y.p, y.has_p, y.available)

    lacks_none : (m : Missing) → IsMissingAfterWrite past w a k b m → ⊥
    lacks_none missing.Flush is = let f = flushed_first some_p is.needed in clash f.2 (is.missing f.0 f.1)
    lacks_none missing.Submit is = clash y.available (is.missing y.p y.has_p)
    lacks_none missing.Available is = clash y.available (is.missing y.p y.has_p)
    lacks_none missing.Order is = clash (there_at y.p a y.has_p y.available (onward y.p y.q a y.has_p y.has_q ca y.between y.reached)) is.missing
    lacks_none missing.Visible (inl is) = clash (and_from (is_available_at past w b y.q) _ at_q y.visible) (is.missing y.q y.has_q)
    lacks_none missing.Visible (inr is) = clash (visible_q is.on_host) (is.missing y.q y.has_q)
    lacks_none missing.Wait is = clash (in_time_q (visible_host is.shows_some.0 is.shows_some.2)) (is.missing y.q y.has_q)
    lacks_none missing.Invalidation is =
        let h = visible_host (visible_of is.awaited).0 (visible_of is.awaited).2 in
        let fresh : passes (cached past) all (λ f. invalidates f b) y.q a ≡ true = ap (λ (t : Bool). not t || passes (cached past) all (λ f. invalidates f b) y.q a) (sym is.needed) ∙ (host_parts a.act h y.q y.visible).2 in
        clash (and_from (shows_in_time past w a k b y.q) _ (in_time_q h) fresh) (is.missing y.q y.has_q)

  pub unseen : Contains all a → (m : Missing) → IsMissingAfterWrite past w a k b m → is_seen past w a k b ≡ false
  unseen ca m is = false_from_ne_true (is_seen past w a k b) (λ h. lacks_none ca (way_of h) m is)
