-- What a node sees, by rows.
use Rattle.std.proofs.Common.{◌≡◌, ◌⊎◌, inl, inr, ⊎_elim, ◌<◌, ◌≤◌, List, length, ◌∷◌, Bool, true, false, not, ◌&&◌, ◌||◌, IsTrue, Some, refl, ap, sym, ◌∙◌, subst, arith}
use Rattle.std.specs.Prelude.{nat_lt, Contains, if◌then◌else◌}
use Rattle.std.proofs.lemmas.Bool.{lt-ltb, ltb-true, and_parts, and_from, or_left, or_right, or_cases, eqb-true, eq-eqb}
use Rattle.vk_model.specs.Basics.{has_some}
use Rattle.vk_model.specs.declared.command.Cmd.{Cmd}
use Rattle.vk_model.specs.declared.entry.Entry.{Entry}
use Rattle.vk_model.specs.declared.command.Element.TheVariants as element
use Rattle.vk_model.specs.World.Bytes.{Byte}
use Rattle.vk_model.specs.Sync.Node.{Node, Act, Hosts, Waits, Signals, Runs, Depends, same_node}
use Rattle.vk_model.specs.Sync.Edge.{edge, is_host, is_submit, is_element}
use Rattle.vk_model.specs.Sync.Before.{before, direct, IsNumbered}
use Rattle.vk_model.specs.Sync.Seen.{Access, Read, Write, seen, makes_writes_available, makes_writes_visible, available_by, visible_by, command_mask, host_mask, needs_invalidation, passes, to_host, is_wait, flushes, invalidates}
use Rattle.vk_model.proofs.Lists.Members.{contains-head, contains-tail}
use Rattle.vk_model.proofs.Lists.Truths.{no, bool_same}
use Rattle.vk_model.proofs.Sync.Numbers.{unique}
use Rattle.vk_model.proofs.Sync.Paths.{before_of_path}
use Rattle.vk_order.specs.declared.fronts.Front.{Front}
use Rattle.vk_order.specs.declared.lines.Line.{Line}
use Rattle.vk_order.specs.declared.new_node.NewNode.{NewNode}
use Rattle.vk_order.specs.Lines.{line_of, place}
use Rattle.vk_order.specs.Wide.{is_wide, AreWide, is_answered}
use Rattle.vk_order.specs.Inner.Clocks.{Clock}
use Rattle.vk_order.specs.Inner.Kept.{clock_at}
use Rattle.vk_order.specs.Inner.Fronts.{IsFront, clock_in, row_in}
use Rattle.vk_order.specs.Frontiers.{IsNewNode}
use Rattle.vk_order.specs.Inner.Rows.{makes_all_available, makes_all_visible, makes_all_visible_on_host, makes_available, Visible, OnHost, IsAvailable, IsKnown, KnowsOne, IsRowJoin}
use Rattle.vk_order.proofs.ByEdges.{by_last, by_edge}
use Rattle.vk_order.proofs.KnownRows.{older_of, available_old, available_new}
use Rattle.vk_order.specs.Inner.Tallies.{lines_of}
use Rattle.vk_order.proofs.Visibility.{parts_of, seen_by}
use Rattle.std.proofs.Math.Bool.{and-true, and-false, or-false}

-- ---- acts

pub makes_available_each : (cached : Byte → Bool) (ns : List Node) (p : Node) (b : Byte) (a : Act) → makes_all_available a ≡ true → makes_writes_available cached ns p b a ≡ true
makes_available_each cached ns p b (Depends r (element.Memory d)) h = simp and-true h
makes_available_each cached ns p b (Depends r (element.Buffer e)) h = no h
makes_available_each cached ns p b (Depends r (element.Image e)) h = no h
makes_available_each cached ns p b (Signals s) h = refl
makes_available_each cached ns p b (Hosts x) h = no h
makes_available_each cached ns p b (Waits s) h = no h
makes_available_each cached ns p b (Runs c) h = no h

pub available_wide : (cached : Byte → Bool) (ns : List Node) (p : Node) (b : Byte) (a : Act) → is_wide a ≡ true → makes_writes_available cached ns p b a ≡ true → makes_all_available a ≡ true
available_wide cached ns p b (Depends r (element.Memory d)) w h = simp and-true at h
available_wide cached ns p b (Depends r (element.Buffer e)) w h = no w
available_wide cached ns p b (Depends r (element.Image e)) w h = no w
available_wide cached ns p b (Signals s) w h = refl
available_wide cached ns p b (Hosts x) w h = no h
available_wide cached ns p b (Waits s) w h = no h
available_wide cached ns p b (Runs c) w h = no h

pub makes_visible_each : (cached : Byte → Bool) (ns : List Node) (m : Node) (k : Access) (b : Byte) (a : Act) (z : Bool) → (makes_all_visible k a || z && is_submit a) ≡ true → (makes_writes_visible cached ns (command_mask k) b m a || is_wait a || z && is_submit a) ≡ true
makes_visible_each cached ns m k b (Depends r (element.Memory d)) z h = simp (and-true, or-false) h
makes_visible_each cached ns m k b (Depends r (element.Buffer e)) z h = no (sym (and-false z) ∙ h)
makes_visible_each cached ns m k b (Depends r (element.Image e)) z h = no (sym (and-false z) ∙ h)
makes_visible_each cached ns m k b (Signals s) z h = h
makes_visible_each cached ns m k b (Hosts x) z h = h
makes_visible_each cached ns m k b (Waits s) z h = refl
makes_visible_each cached ns m k b (Runs c) z h = h

pub made_visible_wide : (cached : Byte → Bool) (ns : List Node) (m : Node) (k : Access) (b : Byte) (a : Act) (z : Bool) → is_wide a ≡ true → (makes_writes_visible cached ns (command_mask k) b m a || is_wait a || z && is_submit a) ≡ true → (makes_all_visible k a || z && is_submit a) ≡ true
made_visible_wide cached ns m k b (Depends r (element.Memory d)) z w h = simp (and-true, or-false) at h
made_visible_wide cached ns m k b (Depends r (element.Buffer e)) z w h = no w
made_visible_wide cached ns m k b (Depends r (element.Image e)) z w h = no w
made_visible_wide cached ns m k b (Signals s) z w h = h
made_visible_wide cached ns m k b (Hosts x) z w h = h
made_visible_wide cached ns m k b (Waits s) z w h = refl
made_visible_wide cached ns m k b (Runs c) z w h = h

host_form : (s t m : Bool) → (s && t && m) ≡ (t && (s && m))
host_form s t m = grind arith

pub on_host_each : (cached : Byte → Bool) (ns : List Node) (m : Node) (k : Access) (b : Byte) (a : Act) → makes_all_visible_on_host k a ≡ true → (to_host a && makes_writes_visible cached ns (host_mask k) b m a) ≡ true
on_host_each cached ns m k b (Depends r (element.Memory d)) h = simp and-true (sym (host_form (not (Rattle.vk_model.specs.Sync.Seen.is_set r)) (to_host (Depends r (element.Memory d))) (has_some d.destination_accesses.0 (host_mask k))) ∙ h)
on_host_each cached ns m k b (Depends r (element.Buffer e)) h = no h
on_host_each cached ns m k b (Depends r (element.Image e)) h = no h
on_host_each cached ns m k b (Signals s) h = no h
on_host_each cached ns m k b (Hosts x) h = no h
on_host_each cached ns m k b (Waits s) h = no h
on_host_each cached ns m k b (Runs c) h = no h

pub on_host_wide : (cached : Byte → Bool) (ns : List Node) (m : Node) (k : Access) (b : Byte) (a : Act) → is_wide a ≡ true → (to_host a && makes_writes_visible cached ns (host_mask k) b m a) ≡ true → makes_all_visible_on_host k a ≡ true
on_host_wide cached ns m k b (Depends r (element.Memory d)) w h = host_form (not (Rattle.vk_model.specs.Sync.Seen.is_set r)) (to_host (Depends r (element.Memory d))) (has_some d.destination_accesses.0 (host_mask k)) ∙ (simp and-true at h)
on_host_wide cached ns m k b (Depends r (element.Buffer e)) w h = no w
on_host_wide cached ns m k b (Depends r (element.Image e)) w h = no w
on_host_wide cached ns m k b (Signals s) w h = no h
on_host_wide cached ns m k b (Hosts x) w h = no h
on_host_wide cached ns m k b (Waits s) w h = no h
on_host_wide cached ns m k b (Runs c) w h = no h

-- ---- new node

-- a node that makes all writes available makes one of a byte available; and one on all memory that makes it available, makes all
module _ (cached : Byte → Bool) (ns : List Node) (w p : Node) (b : Byte) where
  pub made_each : (a : Act) → (is_host a && cached b) ≡ false → makes_available ns w a p ≡ true → available_by cached ns w a b p ≡ true
  made_each (Runs c) quiet h = let parts = and_parts (edge ns w p) (makes_all_available p.act) h in and_from (edge ns w p) (makes_writes_available cached ns p b p.act) parts.0 (makes_available_each cached ns p b p.act parts.1)
  made_each (Hosts x) quiet h = and_from (is_submit p.act && before ns w p) (not (cached b) || passes cached ns (λ f. flushes f b) w p) h (or_left (not (cached b)) (passes cached ns (λ f. flushes f b) w p) (ap not quiet))
  made_each (Waits s) quiet h = no h
  made_each (Signals s) quiet h = no h
  made_each (Depends r e) quiet h = no h

  pub made_wide : (a : Act) → is_element a ≡ false → IsTrue (is_wide p.act) → available_by cached ns w a b p ≡ true → makes_available ns w a p ≡ true
  made_wide (Runs c) plain wide h = let parts = and_parts (edge ns w p) (makes_writes_available cached ns p b p.act) h in and_from (edge ns w p) (makes_all_available p.act) parts.0 (available_wide cached ns p b p.act wide parts.1)
  made_wide (Hosts x) plain wide h = (and_parts (is_submit p.act && before ns w p) (not (cached b) || passes cached ns (λ f. flushes f b) w p) h).0
  made_wide (Waits s) plain wide h = h
  made_wide (Signals s) plain wide h = h
  made_wide (Depends r e) plain wide h = no (sym plain)

module _ (ns : List Node) (n : Node) (numbers : IsNumbered (n ∷ ns)) (cached : Byte → Bool) (l : Line) (c : Node) (k : Access) (b : Byte) (hc : Contains ns c) (on : line_of c ≡ Some l)
    (plain : is_element c.act ≡ false) (quiet : (is_host c.act && cached b) ≡ false) where
  abbrev all : List Node
  all = n ∷ ns

  -- what is made available, of all
  available_there : (p m : Node) → Contains ns m → IsTrue (is_wide p.act) → Contains (n ∷ ns) p → IsTrue (available_by cached (n ∷ ns) c c.act b p) → IsTrue (same_node p m || before (n ∷ ns) p m) → IsAvailable ns c m
  available_there p m hm wide hp available between =
      let way : (p ≡ m) ⊎ IsTrue (before (n ∷ ns) p m) =
      ⊎_elim (λ e. inl (unique (n ∷ ns) numbers p m hp (contains-tail n ns m hm) (eqb-true p.number m.number e))) (λ h. inr h) (or_cases (same_node p m) (before (n ∷ ns) p m) between) in
      available_old ns n numbers c m hm (p, hp, made_wide cached (n ∷ ns) c p b c.act plain wide available, way)

  -- one node makes it available, and another or the same visible
  seen_at : (m : Node) → Contains ns m → IsAvailable ns c m → IsTrue (visible_by cached (n ∷ ns) c n n.act k b m) → IsTrue (before (n ∷ ns) m n) → IsTrue (seen cached (n ∷ ns) c n k b)
  seen_at m hm available visible reached = go (available_new ns n numbers c m hm available)
    where
      go : IsAvailable (n ∷ ns) c m → IsTrue (seen cached (n ∷ ns) c n k b)
      go (p, hp, s, way) = seen_by cached (n ∷ ns) c n k b (record {
        p = p;
        q = m;
        has_p = hp;
        has_q = contains-tail n ns m hm;
        available = made_each cached (n ∷ ns) c p b c.act quiet s;
        between = ⊎_elim (λ f. or_left (same_node p m) (before (n ∷ ns) p m) (eq-eqb p.number m.number (ap (λ (u : Node). u.number) f))) (λ h. or_right (same_node p m) (before (n ∷ ns) p m) h) way;
        visible = visible;
        reached = or_right (same_node m n) (before (n ∷ ns) m n) reached;
      })

  -- the write is known as one that was made available
  available_known : (m : Node) → IsKnown ns c m → IsAvailable ns c m
  available_known m (inl s) = s
  available_known m (inr h) = no (sym plain ∙ h.0)

  older_edge : (m : Node) → Contains (n ∷ ns) m → IsTrue (edge (n ∷ ns) m n) → Contains ns m
  older_edge m hm e = older_of ns n numbers m n hm (contains-head n ns) (before_of_path (n ∷ ns) numbers m n hm (contains-head n ns) (direct hm (contains-head n ns) e))

  -- by a command
  module _ (x : Cmd) (is : n.act ≡ Runs x) (row : Clock) (j : IsRowJoin (Visible k) ns (λ m. edge ns m n) row) where
    command_sees : place ns l c.number < row l → IsTrue (seen cached (n ∷ ns) c n k b)
    command_sees lt = go ((j.counts l c hc on).1 lt)
      where
        go : KnowsOne (Visible k) ns (λ m. edge ns m n) c → IsTrue (seen cached (n ∷ ns) c n k b)
        go (m, hm, t, (r, known)) =
            let s = available_known m known in
            let e : IsTrue (edge (n ∷ ns) m n) = Rattle.vk_model.proofs.Sync.Numbers.edge-new n ns m ∙ t in
            seen_at m hm s
            (subst (λ (u : Act). IsTrue (visible_by cached (n ∷ ns) c n u k b m)) (sym is)
            (and_from (edge (n ∷ ns) m n) (makes_writes_visible cached (n ∷ ns) (command_mask k) b m m.act || is_wait m.act || is_host c.act && is_submit m.act) e (makes_visible_each cached (n ∷ ns) m k b m.act (is_host c.act) r)))
            (before_of_path (n ∷ ns) numbers m n (contains-tail n ns m hm) (contains-head n ns) (direct (contains-tail n ns m hm) (contains-head n ns) e))

    command_saw : AreWide (n ∷ ns) → IsTrue (seen cached (n ∷ ns) c n k b) → place ns l c.number < row l
    command_saw wide h =
        let s = parts_of cached (n ∷ ns) c n k b h in
        let two = and_parts (edge (n ∷ ns) s.q n) (makes_writes_visible cached (n ∷ ns) (command_mask k) b s.q s.q.act || is_wait s.q.act || is_host c.act && is_submit s.q.act) (subst (λ (u : Act). IsTrue (visible_by cached (n ∷ ns) c n u k b s.q)) is s.visible) in
        let hm = older_edge s.q s.has_q two.0 in
        (j.counts l c hc on).0 (
          s.q,
          hm,
          sym (Rattle.vk_model.proofs.Sync.Numbers.edge-new n ns s.q) ∙ two.0,
          (made_visible_wide cached (n ∷ ns) s.q k b s.q.act (is_host c.act) (wide s.q s.has_q) two.1, inl (available_there s.p s.q hm (wide s.p s.has_p) s.has_p s.available s.between)),
        )

    pub seen_by_command : AreWide (n ∷ ns) → nat_lt (place ns l c.number) (row l) ≡ seen cached (n ∷ ns) c n k b
    seen_by_command wide = bool_same _ _ (λ e. command_sees (ltb-true _ _ e)) (λ h. lt-ltb _ _ (command_saw wide h))

  -- by the host
  module _ (x : Entry) (is : n.act ≡ Hosts x) (row : Clock) (j : IsRowJoin (OnHost k) ns (λ m. edge ns m n) row) (asked : needs_invalidation cached (n ∷ ns) k b ≡ false) where
    abbrev invalidated : Node → Bool
    invalidated m = passes cached (n ∷ ns) (λ f. invalidates f b) m n

    host_sees : place ns l c.number < row l → IsTrue (seen cached (n ∷ ns) c n k b)
    host_sees lt = go ((j.counts l c hc on).1 lt)
      where
        go : KnowsOne (OnHost k) ns (λ m. edge ns m n) c → IsTrue (seen cached (n ∷ ns) c n k b)
        go (m, hm, t, (y, hy, r, way, known)) =
            let s = available_known y known in
            let h : IsTrue (before (n ∷ ns) y n) = by_edge n ns numbers y hy (m, hm, t, way) in
            let v = and_parts (to_host y.act) (makes_writes_visible cached (n ∷ ns) (host_mask k) b y y.act) (on_host_each cached (n ∷ ns) y k b y.act r) in
            seen_at y hy s
            (subst (λ (u : Act). IsTrue (visible_by cached (n ∷ ns) c n u k b y)) (sym is)
            (and_from (before (n ∷ ns) y n && to_host y.act && makes_writes_visible cached (n ∷ ns) (host_mask k) b y y.act) (not (needs_invalidation cached (n ∷ ns) k b) || passes cached (n ∷ ns) (λ f. invalidates f b) y n)
            (and_from (before (n ∷ ns) y n && to_host y.act) (makes_writes_visible cached (n ∷ ns) (host_mask k) b y y.act) (and_from (before (n ∷ ns) y n) (to_host y.act) h v.0) v.1)
            (rw asked refl)))
            h

    host_saw : AreWide (n ∷ ns) → IsTrue (seen cached (n ∷ ns) c n k b) → place ns l c.number < row l
    host_saw wide h =
        let s = parts_of cached (n ∷ ns) c n k b h in
        let one = and_parts (before (n ∷ ns) s.q n && to_host s.q.act && makes_writes_visible cached (n ∷ ns) (host_mask k) b s.q s.q.act) (not (needs_invalidation cached (n ∷ ns) k b) || passes cached (n ∷ ns) (λ f. invalidates f b) s.q n)
        (subst (λ (u : Act). IsTrue (visible_by cached (n ∷ ns) c n u k b s.q)) is s.visible) in
        let two = and_parts (before (n ∷ ns) s.q n && to_host s.q.act) (makes_writes_visible cached (n ∷ ns) (host_mask k) b s.q s.q.act) one.0 in
        let three = and_parts (before (n ∷ ns) s.q n) (to_host s.q.act) two.0 in
        let hm = older_of ns n numbers s.q n s.has_q (contains-head n ns) three.0 in
        let last = by_last n ns numbers s.q hm three.0 in
        (j.counts l c hc on).0 (
          last.0,
          last.1,
          last.2,
          (s.q, hm, on_host_wide cached (n ∷ ns) s.q k b s.q.act (wide s.q s.has_q) (and_from (to_host s.q.act) (makes_writes_visible cached (n ∷ ns) (host_mask k) b s.q s.q.act) three.1 two.1), last.3, inl (available_there s.p s.q hm (wide s.p s.has_p) s.has_p s.available s.between)),
        )

    pub seen_by_host : AreWide (n ∷ ns) → nat_lt (place ns l c.number) (row l) ≡ seen cached (n ∷ ns) c n k b
    seen_by_host wide = bool_same _ _ (λ e. host_sees (ltb-true _ _ e)) (λ h. lt-ltb _ _ (host_saw wide h))

-- ---- which accesses are answered

pub asked_of_host : (cached : Byte → Bool) (ns : List Node) (x : Entry) (k : Access) (b : Byte) → IsTrue (is_answered cached (Hosts x) k b) → needs_invalidation cached ns k b ≡ false
asked_of_host cached ns x Read b h = go (cached b) h
  where
    go : (t : Bool) → not t ≡ true → t ≡ false
    go true e = no e
    go false e = refl
asked_of_host cached ns x Write b h = refl

-- ---- the row that answers is exact

pub exact_row : (s : NewNode) (l : Line) (k : Access) (ns : List Node) (n m : Node) (cached : Byte → Bool) (b : Byte) → IsNewNode ns n s → Contains ns m → line_of m ≡ Some l → is_element m.act ≡ false → (is_host m.act && cached b) ≡ false → AreWide (n ∷ ns)
    → (a : Act) → n.act ≡ a → IsTrue (is_answered cached a k b) → nat_lt (place ns l m.number) (clock_at (lines_of s.tallies.now) (row_in (if s.is_host then OnHost k else Visible k) s.front) l) ≡ seen cached (n ∷ ns) m n k b
exact_row s l k ns n m cached b new_node there on plain quiet wide (Runs x) is asked =
    ap (λ (t : Bool). nat_lt (place ns l m.number) (clock_at (lines_of s.tallies.now) (row_in (if t then OnHost k else Visible k) s.front) l)) (new_node.is_host ∙ ap is_host is)
    ∙ seen_by_command ns n new_node.numbers cached l m k b there on plain quiet x is (clock_at (lines_of s.tallies.now) (row_in (Visible k) s.front)) (new_node.front.rows (Visible k)).join wide
exact_row s l k ns n m cached b new_node there on plain quiet wide (Hosts x) is asked =
    ap (λ (t : Bool). nat_lt (place ns l m.number) (clock_at (lines_of s.tallies.now) (row_in (if t then OnHost k else Visible k) s.front) l)) (new_node.is_host ∙ ap is_host is)
    ∙ seen_by_host ns n new_node.numbers cached l m k b there on plain quiet x is (clock_at (lines_of s.tallies.now) (row_in (OnHost k) s.front)) (new_node.front.rows (OnHost k)).join (asked_of_host cached (n ∷ ns) x k b asked) wide
exact_row s l k ns n m cached b new_node there on plain quiet wide (Waits x) is asked = no asked
exact_row s l k ns n m cached b new_node there on plain quiet wide (Signals x) is asked = no asked
exact_row s l k ns n m cached b new_node there on plain quiet wide (Depends r e) is asked = no asked

-- ---- which nodes of a line are before a node, by what it comes after

module _ (ns : List Node) (n : Node) (ls : List Line) (l : Line) (f : Front) (numbers : IsNumbered (n ∷ ns)) (front : IsFront ns ls (λ k. edge ns k n) f) where
  pub first_before : (m : Node) → Contains ns m → line_of m ≡ Some l → before (n ∷ ns) m n ≡ nat_lt (place ns l m.number) (clock_at ls (clock_in f) l)
  first_before m there on =
      let join = front.clock.join.counts l m there on in
      bool_same _ _ (λ h. lt-ltb _ _ (join.0 (by_last n ns numbers m there h))) (λ e. by_edge n ns numbers m there (join.1 (ltb-true _ _ e)))

  pub before_there : clock_at ls (clock_in f) l ≤ place ns l (length ns)
  before_there = front.clock.join.bounded l
