-- Flushes and invalidations: the first and the last one count.
use Rattle.std.proofs.Common.{◌≡◌, ◌⊎◌, inl, inr, ⊎_elim, ◌<◌, ◌≤◌, List, Bool, true, false, not, ◌&&◌, ◌||◌, IsTrue, refl, ap, sym, ◌∙◌, subst, arith}
use Rattle.std.specs.Prelude.{Contains}
use Rattle.std.proofs.lemmas.Bool.{and_parts, and_from, or_right, or_cases, cases_lt}
use Rattle.vk_model.specs.World.Bytes.{Byte}
use Rattle.vk_model.specs.Sync.Node.{Node, Act, Hosts, Waits, Signals, Runs, Depends, same_node}
use Rattle.vk_model.specs.Sync.Edge.{is_host, is_submit}
use Rattle.vk_model.specs.Sync.Before.{before, direct, IsNumbered}
use Rattle.vk_model.specs.Sync.Seen.{Access, Read, seen, available_by, visible_by, flushes, invalidates, passes, to_host, makes_writes_visible, host_mask}
use Rattle.vk_model.proofs.Lists.Members.{some_member, member_passes}
use Rattle.vk_model.proofs.Lists.Truths.{no, bool_same, clash}
use Rattle.vk_model.proofs.Sync.Numbers.{unique}
use Rattle.vk_model.proofs.Sync.Paths.{leads_on, before_of_path}
use Rattle.vk_model.proofs.Sync.HostActs.{flush_host, invalidation_host}
use Rattle.vk_order.specs.Cached.{uncached, IsFirstFlush, IsLastInvalidation}
use Rattle.vk_order.proofs.LinePrefixes.{host_edge}
use Rattle.vk_order.proofs.Visibility.{transitive, parts_of, seen_by}

module _ (ns : List Node) (numbers : IsNumbered ns) where
  -- host entries come one after another
  hosts_before : (c d : Node) → Contains ns c → Contains ns d → IsTrue (is_host c.act) → IsTrue (is_host d.act) → c.number < d.number → IsTrue (before ns c d)
  hosts_before c d hc hd ic id lt = before_of_path ns numbers c d hc hd (direct hc hd (host_edge ns c d lt ic id))

  up : (c d : Node) → Contains ns c → Contains ns d → IsTrue (before ns c d) → c.number < d.number
  up c d hc hd h = leads_on ns c d h

  no_further : (c d : Node) → Contains ns c → Contains ns d → c.number ≤ d.number → (c ≡ d) ⊎ (c.number < d.number)
  no_further c d hc hd le = ⊎_elim (λ lt. inr lt) (λ e. inl (unique ns numbers c d hc hd e)) (split c.number d.number le)
    where
      split : (x y : Rattle.std.proofs.Common.ℕ) → x ≤ y → (x < y) ⊎ (x ≡ y)
      split x y le = ⊎_elim (λ lt. inl lt) (λ ge. inr (omega arith)) (cases_lt x y)

  -- ---- flushes

  module _ (w a : Node) (cached : Byte → Bool) (k : Access) (b : Byte) (hw : Contains ns w) (by_host : IsTrue (is_host w.act)) (is_cached : cached b ≡ true) where
    -- what a flushed write was made available by
    flushed : (p : Node) → IsTrue (available_by cached ns w w.act b p) → IsTrue (is_submit p.act) × ((g : Node) × Contains ns g × IsTrue (flushes g.act b) × IsTrue (before ns w g) × IsTrue (before ns g p))
    flushed p h = go w.act by_host h
      where
        go : (x : Act) → IsTrue (is_host x) → IsTrue (available_by cached ns w x b p) → IsTrue (is_submit p.act) × ((g : Node) × Contains ns g × IsTrue (flushes g.act b) × IsTrue (before ns w g) × IsTrue (before ns g p))
        go (Hosts x) is h =
            let one = and_parts (is_submit p.act && before ns w p) (not (cached b) || passes cached ns (λ f. flushes f b) w p) h in
            let two = and_parts (is_submit p.act) (before ns w p) one.0 in
            ⊎_elim
            (λ e. no (sym (ap not is_cached) ∙ e))
            (λ through.
            let g = some_member _ ns through in
            let parts = and_parts (flushes g.0.act b && before ns w g.0) (before ns g.0 p) g.2 in
            let more = and_parts (flushes g.0.act b) (before ns w g.0) parts.0 in
            (two.0, (g.0, g.1, more.0, more.1, parts.1)))
            (or_cases (not (cached b)) (passes cached ns (λ f. flushes f b) w p) one.1)
        go (Waits s) is h = no is
        go (Signals s) is h = no is
        go (Runs c) is h = no is
        go (Depends r e) is h = no is

    pub unflushed : ((g : Node) → Contains ns g → w.number < g.number → flushes g.act b ≡ false) → seen cached ns w a k b ≡ false
    unflushed none = go (seen cached ns w a k b) refl
      where
        go : (t : Bool) → seen cached ns w a k b ≡ t → seen cached ns w a k b ≡ false
        go false e = e
        go true e =
            let s = parts_of cached ns w a k b e in
            let r = flushed s.p s.available in
            let g = r.1 in
            clash g.2 (none g.0 g.1 (up w g.0 hw g.1 g.3))

    module _ (f : Node) (is : IsFirstFlush ns b w f) where
      flush_there : IsTrue (is_host f.act)
      flush_there = flush_host f.act b is.flushing

      to_flush : (p : Node) → Contains ns p → IsTrue (available_by cached ns w w.act b p) → IsTrue (available_by uncached ns f f.act b p)
      to_flush p hp h =
          let r = flushed p h in
          let g = r.1 in
          let le = is.first g.0 g.1 g.2 (up w g.0 hw g.1 g.3) in
          let on : IsTrue (before ns f p) = ⊎_elim
          (λ e. subst (λ (x : Node). IsTrue (before ns x p)) (sym e) g.4)
          (λ lt. transitive ns numbers f g.0 p is.there g.1 hp (hosts_before f g.0 is.there g.1 flush_there (flush_host g.0.act b g.2) lt) g.4)
          (no_further f g.0 is.there g.1 le) in
          go f.act flush_there r.0 on
        where
          go : (x : Act) → IsTrue (is_host x) → IsTrue (is_submit p.act) → IsTrue (before ns f p) → IsTrue (available_by uncached ns f x b p)
          go (Hosts x) i s on = and_from (is_submit p.act && before ns f p) true (and_from (is_submit p.act) (before ns f p) s on) refl
          go (Waits s) i s2 on = no i
          go (Signals s) i s2 on = no i
          go (Runs c) i s2 on = no i
          go (Depends r e) i s2 on = no i

      from_flush : (p : Node) → Contains ns p → IsTrue (available_by uncached ns f f.act b p) → IsTrue (available_by cached ns w w.act b p)
      from_flush p hp h =
          let r = parts f.act flush_there h in
          let first : IsTrue (before ns w f) = hosts_before w f hw is.there by_host flush_there is.later in
          go w.act by_host r.0 (transitive ns numbers w f p hw is.there hp first r.1)
          (member_passes (λ g. flushes g.act b && before ns w g && before ns g p) ns f is.there (and_from (flushes f.act b && before ns w f) (before ns f p) (and_from (flushes f.act b) (before ns w f) is.flushing first) r.1))
        where
          parts : (x : Act) → IsTrue (is_host x) → IsTrue (available_by uncached ns f x b p) → IsTrue (is_submit p.act) × IsTrue (before ns f p)
          parts (Hosts x) i h = and_parts (is_submit p.act) (before ns f p) (and_parts (is_submit p.act && before ns f p) true h).0
          parts (Waits s) i h = no i
          parts (Signals s) i h = no i
          parts (Runs c) i h = no i
          parts (Depends r e) i h = no i

          go : (x : Act) → IsTrue (is_host x) → IsTrue (is_submit p.act) → IsTrue (before ns w p) → IsTrue (passes cached ns (λ g. flushes g b) w p) → IsTrue (available_by cached ns w x b p)
          go (Hosts x) i s on through = and_from (is_submit p.act && before ns w p) (not (cached b) || passes cached ns (λ g. flushes g b) w p) (and_from (is_submit p.act) (before ns w p) s on) (or_right (not (cached b)) (passes cached ns (λ g. flushes g b) w p) through)
          go (Waits s) i s2 on through = no i
          go (Signals s) i s2 on through = no i
          go (Runs c) i s2 on through = no i
          go (Depends r e) i s2 on through = no i

      -- what makes it visible to a command or a transition doesn't look at the cache
      same_way : (v u : Node) (c d : Byte → Bool) (q : Node) → is_host v.act ≡ true → is_host u.act ≡ true → (x : Act) → is_host x ≡ false → IsTrue (visible_by c ns v a x k b q) → IsTrue (visible_by d ns u a x k b q)
      same_way v u c d q iv iu (Runs y) i h = rw iu (rw iv at h)
      same_way v u c d q iv iu (Depends r e) i h = h
      same_way v u c d q iv iu (Hosts y) i h = no (sym i)
      same_way v u c d q iv iu (Waits s) i h = h
      same_way v u c d q iv iu (Signals s) i h = h

      pub flushed_seen : is_host a.act ≡ false → seen cached ns w a k b ≡ seen uncached ns f a k b
      flushed_seen device = bool_same _ _
          (λ h. let s = parts_of cached ns w a k b h in
          seen_by uncached ns f a k b (record {
            p = s.p;
            q = s.q;
            has_p = s.has_p;
            has_q = s.has_q;
            available = to_flush s.p s.has_p s.available;
            between = s.between;
            visible = same_way w f cached uncached s.q by_host flush_there a.act device s.visible;
            reached = s.reached;
          }))
          (λ h. let s = parts_of uncached ns f a k b h in
          seen_by cached ns w a k b (record {
            p = s.p;
            q = s.q;
            has_p = s.has_p;
            has_q = s.has_q;
            available = from_flush s.p s.has_p s.available;
            between = s.between;
            visible = same_way f w uncached cached s.q flush_there by_host a.act device s.visible;
            reached = s.reached;
          }))

  -- ---- invalidations

  module _ (w a : Node) (cached : Byte → Bool) (b : Byte) (ha : Contains ns a) (by_host : IsTrue (is_host a.act)) (is_cached : cached b ≡ true) where
    abbrev serves : Node → Bool
    serves q = to_host q.act && makes_writes_visible cached ns (host_mask Read) b q q.act

    -- what makes writes visible to the read
    invalidated : (q : Node) → IsTrue (visible_by cached ns w a a.act Read b q)
        → IsTrue (to_host q.act && makes_writes_visible cached ns (host_mask Read) b q q.act) × ((g : Node) × Contains ns g × IsTrue (invalidates g.act b) × IsTrue (before ns q g) × IsTrue (before ns g a))
    invalidated q h = go a.act by_host h
      where
        go : (x : Act) → IsTrue (is_host x) → IsTrue (visible_by cached ns w a x Read b q)
            → IsTrue (to_host q.act && makes_writes_visible cached ns (host_mask Read) b q q.act) × ((g : Node) × Contains ns g × IsTrue (invalidates g.act b) × IsTrue (before ns q g) × IsTrue (before ns g a))
        go (Hosts x) i h =
            let one = and_parts (before ns q a && to_host q.act && makes_writes_visible cached ns (host_mask Read) b q q.act) (not (cached b) || passes cached ns (λ f. invalidates f b) q a) h in
            let two = and_parts (before ns q a && to_host q.act) (makes_writes_visible cached ns (host_mask Read) b q q.act) one.0 in
            let three = and_parts (before ns q a) (to_host q.act) two.0 in
            ⊎_elim
            (λ e. no (sym (ap not is_cached) ∙ e))
            (λ through.
            let g = some_member _ ns through in
            let parts = and_parts (invalidates g.0.act b && before ns q g.0) (before ns g.0 a) g.2 in
            let more = and_parts (invalidates g.0.act b) (before ns q g.0) parts.0 in
            (and_from (to_host q.act) (makes_writes_visible cached ns (host_mask Read) b q q.act) three.1 two.1, (g.0, g.1, more.0, more.1, parts.1)))
            (or_cases (not (cached b)) (passes cached ns (λ f. invalidates f b) q a) one.1)
        go (Waits s) i h = no i
        go (Signals s) i h = no i
        go (Runs c) i h = no i
        go (Depends r e) i h = no i

    pub uninvalidated : ((g : Node) → Contains ns g → g.number < a.number → invalidates g.act b ≡ false) → seen cached ns w a Read b ≡ false
    uninvalidated none = go (seen cached ns w a Read b) refl
      where
        go : (t : Bool) → seen cached ns w a Read b ≡ t → seen cached ns w a Read b ≡ false
        go false e = e
        go true e =
            let s = parts_of cached ns w a Read b e in
            let r = invalidated s.q s.visible in
            let g = r.1 in
            clash g.2 (none g.0 g.1 (up g.0 a g.1 ha g.4))

    module _ (f : Node) (is : IsLastInvalidation ns b f a) (device : is_host w.act ≡ false) where
      there : IsTrue (is_host f.act)
      there = invalidation_host f.act b is.invalidating

      to_last : (q : Node) → Contains ns q → IsTrue (visible_by cached ns w a a.act Read b q) → IsTrue (visible_by uncached ns w f f.act Read b q) × IsTrue (before ns q f)
      to_last q hq h =
          let r = invalidated q h in
          let g = r.1 in
          let le = is.last g.0 g.1 g.2 (up g.0 a g.1 ha g.4) in
          let on : IsTrue (before ns q f) = ⊎_elim
          (λ e. subst (λ (x : Node). IsTrue (before ns q x)) e g.3)
          (λ lt. transitive ns numbers q g.0 f hq g.1 is.there g.3 (hosts_before g.0 f g.1 is.there (invalidation_host g.0.act b g.2) there lt))
          (no_further g.0 f g.1 is.there le) in
          (go f.act there r.0 on, on)
        where
          go : (x : Act) → IsTrue (is_host x) → IsTrue (to_host q.act && makes_writes_visible cached ns (host_mask Read) b q q.act) → IsTrue (before ns q f) → IsTrue (visible_by uncached ns w f x Read b q)
          go (Hosts x) i v on =
              let parts = and_parts (to_host q.act) (makes_writes_visible cached ns (host_mask Read) b q q.act) v in
              and_from (before ns q f && to_host q.act && makes_writes_visible uncached ns (host_mask Read) b q q.act) true
              (and_from (before ns q f && to_host q.act) (makes_writes_visible uncached ns (host_mask Read) b q q.act) (and_from (before ns q f) (to_host q.act) on parts.0) parts.1) refl
          go (Waits s) i v on = no i
          go (Signals s) i v on = no i
          go (Runs c) i v on = no i
          go (Depends r e) i v on = no i

      from_last : (q : Node) → Contains ns q → IsTrue (visible_by uncached ns w f f.act Read b q) → IsTrue (visible_by cached ns w a a.act Read b q) × IsTrue (before ns q a)
      from_last q hq h =
          let r = parts f.act there h in
          let last : IsTrue (before ns f a) = hosts_before f a is.there ha there by_host is.earlier in
          let on : IsTrue (before ns q a) = transitive ns numbers q f a hq is.there ha r.0 last in (
            go a.act by_host r.1 on
                (member_passes (λ g. invalidates g.act b && before ns q g && before ns g a) ns f is.there (and_from (invalidates f.act b && before ns q f) (before ns f a) (and_from (invalidates f.act b) (before ns q f) is.invalidating r.0) last)),
            on,
          )
        where
          parts : (x : Act) → IsTrue (is_host x) → IsTrue (visible_by uncached ns w f x Read b q) → IsTrue (before ns q f) × IsTrue (to_host q.act && makes_writes_visible cached ns (host_mask Read) b q q.act)
          parts (Hosts x) i h =
              let one = (and_parts (before ns q f && to_host q.act && makes_writes_visible uncached ns (host_mask Read) b q q.act) true h).0 in
              let two = and_parts (before ns q f && to_host q.act) (makes_writes_visible uncached ns (host_mask Read) b q q.act) one in
              let three = and_parts (before ns q f) (to_host q.act) two.0 in
              (three.0, and_from (to_host q.act) (makes_writes_visible uncached ns (host_mask Read) b q q.act) three.1 two.1)
          parts (Waits s) i h = no i
          parts (Signals s) i h = no i
          parts (Runs c) i h = no i
          parts (Depends r e) i h = no i

          go : (x : Act) → IsTrue (is_host x) → IsTrue (to_host q.act && makes_writes_visible cached ns (host_mask Read) b q q.act) → IsTrue (before ns q a) → IsTrue (passes cached ns (λ g. invalidates g b) q a) → IsTrue (visible_by cached ns w a x Read b q)
          go (Hosts x) i v on through =
              let parts = and_parts (to_host q.act) (makes_writes_visible cached ns (host_mask Read) b q q.act) v in
              and_from (before ns q a && to_host q.act && makes_writes_visible cached ns (host_mask Read) b q q.act) (not (cached b) || passes cached ns (λ g. invalidates g b) q a)
              (and_from (before ns q a && to_host q.act) (makes_writes_visible cached ns (host_mask Read) b q q.act) (and_from (before ns q a) (to_host q.act) on parts.0) parts.1)
              (or_right (not (cached b)) (passes cached ns (λ g. invalidates g b) q a) through)
          go (Waits s) i v on through = no i
          go (Signals s) i v on through = no i
          go (Runs c) i v on through = no i
          go (Depends r e) i v on through = no i

      -- what makes a write of the device available doesn't look at the cache
      stays_available : (c d : Byte → Bool) (p : Node) (x : Act) → is_host x ≡ false → IsTrue (available_by c ns w x b p) → IsTrue (available_by d ns w x b p)
      stays_available c d p (Runs y) i h = h
      stays_available c d p (Depends r e) i h = h
      stays_available c d p (Hosts y) i h = no (sym i)
      stays_available c d p (Waits s) i h = h
      stays_available c d p (Signals s) i h = h

      pub invalidated_seen : seen cached ns w a Read b ≡ seen uncached ns w f Read b
      invalidated_seen = bool_same _ _
          (λ h. let s = parts_of cached ns w a Read b h in
          let r = to_last s.q s.has_q s.visible in
          seen_by uncached ns w f Read b (record {
            p = s.p;
            q = s.q;
            has_p = s.has_p;
            has_q = s.has_q;
            available = stays_available cached uncached s.p w.act device s.available;
            between = s.between;
            visible = r.0;
            reached = or_right (same_node s.q f) (before ns s.q f) r.1;
          }))
          (λ h. let s = parts_of uncached ns w f Read b h in
          let r = from_last s.q s.has_q s.visible in
          seen_by cached ns w a Read b (record {
            p = s.p;
            q = s.q;
            has_p = s.has_p;
            has_q = s.has_q;
            available = stays_available uncached cached s.p w.act device s.available;
            between = s.between;
            visible = r.0;
            reached = or_right (same_node s.q a) (before ns s.q a) r.1;
          }))
