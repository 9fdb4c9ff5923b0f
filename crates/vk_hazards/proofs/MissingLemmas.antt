-- Which link is missing, by those that are there.
use Rattle.std.proofs.Common.{◌≡◌, inl, inr, List, Bool, true, false, not, ◌&&◌, ◌||◌, Option, Some, None, is_some, refl, sym, ap, ◌∙◌, subst}
use Rattle.std.specs.Prelude.{Contains}
use Rattle.std.specs.List.{list_any}
use Rattle.std.proofs.lemmas.Bool.{and_parts, and_from, or_left, or_right, false_from_ne_true}
use Rattle.vk_model.specs.Trace.Point.{Past}
use Rattle.vk_model.specs.World.Bytes.{Byte}
use Rattle.vk_model.specs.Sync.Node.{Node, Act, Hosts, Waits, Signals, Runs, Depends, nodes, same_node}
use Rattle.vk_model.specs.Sync.Edge.{edge, is_host}
use Rattle.vk_model.specs.Sync.Before.{before}
use Rattle.vk_model.specs.Sync.Seen.{Access, seen, available_by, visible_by, makes_writes_visible, needs_invalidation, passes, invalidates, to_host, host_mask}
use Rattle.vk_model.specs.Sync.Access.{is_seen}
use Rattle.vk_model.proofs.Lists.Members.{member_passes, some_member}
use Rattle.vk_model.proofs.Lists.Truths.{no, clash}
use Rattle.vk_hazards.specs.declared.links.Missing.{Missing}
use Rattle.vk_hazards.specs.declared.links.Missing.TheVariants as missing
use Rattle.vk_hazards.specs.declared.links.Found.{Found}
use Rattle.vk_hazards.specs.Links.{cached, flushes_after, makes_available, is_available_at, makes_visible, shows_host, shows_in_time, is_invalidated, HasNone, IsMissingAfterWrite}
use Rattle.vk_hazards.specs.Inner.Found.{AreFound}
use Rattle.vk_hazards.proofs.FirstLemmas.{reported_none, reported_some}
use Rattle.vk_hazards.proofs.EdgeLemmas.{edge_before}

module _ (past : Past) (w a : Node) (k : Access) (b : Byte) where
  abbrev all : List Node
  all = nodes past

  abbrev made_visible_by : Node → Bool
  made_visible_by q = visible_by (cached past) all w a a.act k b q

  seen_when : (p q : Node) → Contains all p → Contains all q → makes_available past w b p ≡ true → (same_node p q || before all p q) ≡ true → made_visible_by q ≡ true → (same_node q a || before all q a) ≡ true → is_seen past w a k b ≡ true
  unfolding seen
  seen_when p q cp cq available between visible reached =
      member_passes (λ p. available_by (cached past) all w w.act b p && list_any (λ q. (same_node p q || before all p q) && made_visible_by q && (same_node q a || before all q a)) all) all p cp
      (and_from (makes_available past w b p) _ available
      (member_passes (λ q. (same_node p q || before all p q) && made_visible_by q && (same_node q a || before all q a)) all q cq
      (and_from ((same_node p q || before all p q) && made_visible_by q) _ (and_from (same_node p q || before all p q) _ between visible) reached)))

  visible_reaches : (act : Act) → Contains all a → (q : Node) → Contains all q → visible_by (cached past) all w a act k b q ≡ true → (same_node q a || before all q a) ≡ true
  visible_reaches (Runs c) ca q cq h = or_right (same_node q a) (before all q a) (edge_before past q a cq ca (and_parts (edge all q a) _ h).0)
  visible_reaches (Depends r e) ca q cq h = or_left (same_node q a) (before all q a) h
  visible_reaches (Hosts x) ca q cq h =
      let one = and_parts (before all q a && to_host q.act && makes_writes_visible (cached past) all (host_mask k) b q q.act) _ h in
      let two = and_parts (before all q a && to_host q.act) _ one.0 in
      or_right (same_node q a) (before all q a) (and_parts (before all q a) _ two.0).0
  visible_reaches (Waits s) ca q cq h = no h
  visible_reaches (Signals s) ca q cq h = no h

  module _ (ca : Contains all a) (unseen : is_seen past w a k b ≡ false) where
    -- where the write is available nothing makes it visible
    pub invisible : HasNone past (makes_visible past w a k b)
    invisible q cq = false_from_ne_true (makes_visible past w a k b q) (λ h.
        let parts = and_parts (is_available_at past w b q) (made_visible_by q) h in
        let p = some_member (λ p. makes_available past w b p && (same_node p q || before all p q)) all parts.0 in
        let two = and_parts (makes_available past w b p.0) (same_node p.0 q || before all p.0 q) p.2 in
        clash (seen_when p.0 q p.1 cq two.0 two.1 parts.1 (visible_reaches a.act ca q cq parts.1)) unseen)

    -- what is made visible to the host in time, and invalidated where that is needed, is visible
    abbrev is_fresh : Node → Bool
    is_fresh q = not (needs_invalidation (cached past) all k b) || passes (cached past) all (λ f. invalidates f b) q a

    host_visible : (act : Act) → is_host act ≡ true → (q : Node) → shows_in_time past w a k b q ≡ true → is_fresh q ≡ true → visible_by (cached past) all w a act k b q ≡ true
    host_visible (Hosts x) h q shows_some fresh =
        let one = and_parts (shows_host past w a k b q) (before all q a) shows_some in
        let two = and_parts (is_host a.act) _ one.0 in
        let three = and_parts (to_host q.act && makes_writes_visible (cached past) all (host_mask k) b q q.act) (is_available_at past w b q) two.1 in
        let four = and_parts (to_host q.act) (makes_writes_visible (cached past) all (host_mask k) b q q.act) three.0 in
        and_from (before all q a && to_host q.act && makes_writes_visible (cached past) all (host_mask k) b q q.act) _
        (and_from (before all q a && to_host q.act) _ (and_from (before all q a) _ one.1 four.0) four.1) fresh
    host_visible (Waits s) h q shows_some fresh = no h
    host_visible (Signals s) h q shows_some fresh = no h
    host_visible (Runs c) h q shows_some fresh = no h
    host_visible (Depends r e) h q shows_some fresh = no h

    available_visible : (q : Node) → shows_in_time past w a k b q ≡ true → is_available_at past w b q ≡ true
    available_visible q shows_some =
        let one = and_parts (shows_host past w a k b q) (before all q a) shows_some in
        let two = and_parts (is_host a.act) _ one.0 in
        (and_parts (to_host q.act && makes_writes_visible (cached past) all (host_mask k) b q q.act) (is_available_at past w b q) two.1).1

    stale : is_host a.act ≡ true → (q : Node) → Contains all q → shows_in_time past w a k b q ≡ true → is_fresh q ≡ true → ⊥
    stale h q cq shows_some fresh = clash (and_from (is_available_at past w b q) _ (available_visible q shows_some) (host_visible a.act h q shows_some fresh)) (invisible q cq)

    -- ---- by what was found

    module _ (f : Found) (are : AreFound past w a k b f) where
      -- nothing makes it available
      pub not_available : (m : Missing) → (f.needs_flush ≡ true → is_some f.flush ≡ true) → f.available ≡ None → (is_host w.act ≡ true → m ≡ missing.Submit) → (is_host w.act ≡ false → m ≡ missing.Available) → IsMissingAfterWrite past w a k b m
      not_available m flush none by_host by_device = go (is_host w.act) refl
        where
          go : (t : Bool) → is_host w.act ≡ t → IsMissingAfterWrite past w a k b m
          go true h = subst (λ (m : Missing). IsMissingAfterWrite past w a k b m) (sym (by_host h))
              (record { by_host = h; flushed = λ needed. reported_some past (flushes_after past w b) f.flush are.flush (flush (are.needed ∙ needed)); missing = reported_none past (makes_available past w b) f.available are.available none })
          go false h = subst (λ (m : Missing). IsMissingAfterWrite past w a k b m) (sym (by_device h))
              (record { by_device = h; missing = reported_none past (makes_available past w b) f.available are.available none })

      -- the host doesn't see what is available
      pub unseen_by_host : (m : Missing) → is_host a.act ≡ true → is_some f.available ≡ true → (f.visible ≡ None → m ≡ missing.Visible) → (is_some f.visible ≡ true → f.awaited ≡ None → m ≡ missing.Wait)
          → (is_some f.visible ≡ true → is_some f.awaited ≡ true → m ≡ missing.Invalidation) → IsMissingAfterWrite past w a k b m
      unseen_by_host m h some visible wait rest = first f.visible refl
        where
          reported : (n : Missing) → m ≡ n → IsMissingAfterWrite past w a k b n → IsMissingAfterWrite past w a k b m
          reported n e is = subst (λ (m : Missing). IsMissingAfterWrite past w a k b m) (sym e) is

          second : is_some f.visible ≡ true → (o : Option Rattle.vk_hazards.specs.declared.hazards.Placed.Placed) → f.awaited ≡ o → IsMissingAfterWrite past w a k b m
          second shows_some None e = reported missing.Wait (wait shows_some e) (record { shows_some = reported_some past (shows_host past w a k b) f.visible are.visible shows_some; missing = reported_none past (shows_in_time past w a k b) f.awaited are.awaited e })
          second shows_some (Some p) e =
              let awaited : is_some f.awaited ≡ true = ap is_some e in
              let q = reported_some past (shows_in_time past w a k b) f.awaited are.awaited awaited in
              reported missing.Invalidation (rest shows_some awaited) (record {
                needed = needed (needs_invalidation (cached past) all k b) refl q.0 q.1 q.2;
                awaited = q;
                missing = λ n cn. false_from_ne_true (is_invalidated past w a k b n) (λ i.
                    let parts = and_parts (shows_in_time past w a k b n) (passes (cached past) all (λ f. invalidates f b) n a) i in
                    stale h n cn parts.0 (or_right (not (needs_invalidation (cached past) all k b)) _ parts.1));
              })
            where
              needed : (t : Bool) → needs_invalidation (cached past) all k b ≡ t → (q : Node) → Contains all q → shows_in_time past w a k b q ≡ true → needs_invalidation (cached past) all k b ≡ true
              needed true e q cq shows_some = e
              needed false e q cq shows_some = absurd (stale h q cq shows_some (or_left (not (needs_invalidation (cached past) all k b)) _ (ap not e)))

          first : (o : Option Rattle.vk_hazards.specs.declared.hazards.Placed.Placed) → f.visible ≡ o → IsMissingAfterWrite past w a k b m
          first None e = reported missing.Visible (visible e) (inr (record { on_host = h; available = reported_some past (makes_available past w b) f.available are.available some; missing = reported_none past (shows_host past w a k b) f.visible are.visible e }))
          first (Some p) e = second (ap is_some e) f.awaited refl

      -- a node that makes it visible is missing
      pub unseen_there : is_host a.act ≡ false → f.is_there ≡ true → IsMissingAfterWrite past w a k b missing.Visible
      unseen_there device there = inl (record { on_device = device; available = sym are.there ∙ there; missing = invisible })
