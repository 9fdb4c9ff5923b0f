-- What an invalidation forgets was written before it and not flushed in between, so all accesses are in order with it.
use Rattle.std.proofs.Common.{◌≡◌, inl, inr, ⊎_elim, ℕ, suc, ◌<◌, ◌≤◌, [], ◌∷◌, ◌++◌, length, Bool, true, ◌&&◌, ◌||◌, not, IsTrue, None, refl, ap, sym, ◌∙◌, subst, arith, eq-or-lt_of_le}
use Rattle.std.specs.Prelude.{Contains, ◌==◌}
use Rattle.std.proofs.lemmas.Bool.{eqb-true, cases_lt, or_right, and_parts, and_from}
use Rattle.std.proofs.lemmas.List.{append_assoc}
use Rattle.std.specs.List.{list_any}
use Rattle.vk_model.specs.declared.entry.Entry.{Entry}
use Rattle.vk_model.specs.declared.entry.Entry.TheVariants as entry
use Rattle.vk_model.specs.declared.command.Cmd.{Cmd}
use Rattle.vk_model.specs.declared.command.Length.{Length}
use Rattle.vk_model.specs.World.Bytes.{Byte, in_buffer, in_image, resource_at}
use Rattle.vk_model.specs.Trace.Objects.{is_cached}
use Rattle.vk_model.specs.Trace.Point.{Past, Point, Action, Host}
use Rattle.vk_model.specs.World.Effect.{reaches, in_atoms, world}
use Rattle.vk_model.specs.Sync.Node.{Node, Act, Hosts, Runs, nodes, acts, with_acts, same_node}
use Rattle.vk_model.specs.Sync.Edge.{edge, is_host, is_submit}
use Rattle.vk_model.specs.Sync.Before.{before}
use Rattle.vk_model.specs.Sync.Seen.{Access, Read, Write, command_mask, seen, available_by, visible_by, makes_writes_visible, flushes, is_wait}
use Rattle.vk_model.specs.Sync.Access.{reads, writes}
use Rattle.vk_model.specs.Rules.Table.{fault}
use Rattle.vk_model.specs.Rules.Fault.{Comes, newest, older, IsUnbroken}
use Rattle.vk_model.specs.Laws.{BeforeIsPath, BeforeIsTransitive, GrowthKeeps, PiecesAreByteWrites, PiecesWriteApart}
use Rattle.vk_laws.specs.Trace.{accesses, AccessesInOrder, NoHazardLaw, SeenIsBefore, HostInOrder, CommandsStay}
use Rattle.vk_laws.specs.Discards.{entry_forgets}
use Rattle.vk_laws.specs.TraceBytes.{before_node}
use Rattle.vk_laws.specs.TraceCaches.{was_made}
use Rattle.vk_laws.proofs.Nodes.Prefixes.{old_has, is_old}
use Rattle.vk_model.proofs.Lists.Members.{contains-head, member_passes, some_member}
use Rattle.vk_model.proofs.Lists.Truths.{clash}
use Rattle.vk_laws.proofs.Nodes.NoHazard.{edge_before, reaches_join, or_before, before_reaches}
use Rattle.vk_laws.proofs.Nodes.Steady.{new_ids, live_ids}
use Rattle.vk_laws.proofs.Nodes.Points.{AtPoint, at_point, comes_at}
use Rattle.vk_laws.proofs.Accesses.TaskAccesses.{host_writes_it}
use Rattle.vk_laws.proofs.Nodes.Ordered.{judged_has, read_is_seen, write_is_seen}
use Rattle.vk_laws.proofs.Nodes.Actions.{host_action}
use Rattle.vk_laws.proofs.Nodes.Counts.{more_nodes}
use Rattle.vk_laws.proofs.Bytes.ModelBytes.{alone, at_node}
use Rattle.vk_laws.proofs.Caching.CacheFree.{same_cached, cached_then, made_then}
use Rattle.vk_laws.proofs.Caching.Dirty.{DirtiedBy, dirtied_by}
use Rattle.vk_model.proofs.Sync.Numbers.{number_below, unique, numbered}
use Rattle.vk_model.proofs.Sync.Paths.{leads_on}
use Rattle.vk_model.proofs.World.BytePlaces.{is_in_of}

-- ---- entries that flush and forget

pub flush_of : (a : Act) (c : Byte) → IsTrue (flushes a c) → (b o : ℕ) × (n : Length) × (a ≡ Hosts (entry.Flush b o n)) × IsTrue (reaches b o n c)
flush_of (Hosts (entry.Flush b o n)) c h = (b, o, n, refl, h)
flush_of _ c h = absurd cc

pub reached_buffer : (b o : ℕ) (n : Length) (c : Byte) → IsTrue (reaches b o n c) → resource_at c ≡ b
reached_buffer b o n (in_buffer d k) h = sym (eqb-true b d (and_parts (b == d) (in_atoms o n k) h).0)
reached_buffer b o n (in_image i l m x y p) h = absurd cc

pub record Forgets (past : Past) (x : Entry) (c : Byte) : Type 0 where
  pub buffer : ℕ
  pub offset : ℕ
  pub size : Length
  pub is : x ≡ entry.Invalidate buffer offset size
  pub kept : is_cached past (resource_at c) ≡ true
  pub kept_buffer : is_cached past buffer ≡ true
  pub dirty : IsTrue ((world past).dirty c)
  pub reached : IsTrue (reaches buffer offset size c)

pub forgets_of : (past : Past) (x : Entry) (c : Byte) → IsTrue (entry_forgets past x c) → Forgets past x c
forgets_of past (entry.Invalidate b o n) c h =
    let g = and_parts _ _ h in
    let k = and_parts _ _ g.1 in
    record { buffer = b; offset = o; size = n; is = refl; kept = ap (is_cached past) (reached_buffer b o n c k.0) ∙ g.0; kept_buffer = g.0; dirty = k.1; reached = k.0 }
forgets_of past _ c h = absurd cc

-- ---- points within a past

comes_in : (newer past : Past) (p : Point) (b : Past) (q : Point) → Comes (newer ++ p ∷ past) b q → length (nodes (q ∷ b)) ≤ length (nodes past) → length (nodes past) < length (nodes (p ∷ past)) → Comes past b q
comes_in [] past p b q newest le lt = absurd (omega (arith, le, lt))
comes_in [] past p b q (older h) le lt = h
comes_in (r ∷ newer) past p b q newest le lt = let more = more_nodes (r ∷ newer) (p ∷ past) in absurd (omega (arith, le, lt, more))
comes_in (r ∷ newer) past p b q (older h) le lt = comes_in newer past p b q h le lt

-- ---- a host write is seen by a command through a flush

module _ (paths : BeforeIsPath) (joins : BeforeIsTransitive) (all : Past) (one : Byte → Bool) (w a : Node) (cw : Contains (nodes all) w) (ca : Contains (nodes all) a) (cmd : Cmd) (is_a : a.act ≡ Runs cmd) (x : Entry) (is_w : w.act ≡ Hosts x) (c : Byte) (kept : one c ≡ true) (k : Access) where
  pub record Flushed : Type 0 where
    pub flush : Node
    pub present : Contains (nodes all) flush
    pub reaches_it : IsTrue (flushes flush.act c)
    pub later : IsTrue (before (nodes all) w flush)
    pub earlier : IsTrue (before (nodes all) flush a)
    pub again : (i : Node) → Contains (nodes all) i → (y : Entry) → i.act ≡ Hosts y → IsTrue (before (nodes all) i flush) → IsTrue (seen one (nodes all) i a k c)

  passed : (f : Bool) → IsTrue (not (one c) || f) → IsTrue f
  passed f h = rw kept at h

  pub flushed : IsTrue (seen one (nodes all) w a k c) → Flushed
  unfolding seen
  flushed h =
      let p = some_member _ (nodes all) h in
      let first = and_parts _ _ p.2 in
      let q = some_member _ (nodes all) first.1 in
      let second = and_parts _ _ q.2 in
      let third = and_parts _ _ second.0 in
      let is_made : IsTrue (available_by one (nodes all) w (Hosts x) c p.0) = subst (λ (b : Act). IsTrue (available_by one (nodes all) w b c p.0)) is_w first.0 in
      let submits = and_parts _ _ is_made in
      let f = some_member (λ f. flushes f.act c && before (nodes all) w f && before (nodes all) f p.0) (nodes all) (passed _ submits.1) in
      let g = and_parts _ _ f.2 in
      let l = and_parts _ _ g.0 in
      let made_visible : IsTrue (visible_by one (nodes all) w a (Runs cmd) k c q.0) = subst (λ (b : Act). IsTrue (visible_by one (nodes all) w a b k c q.0)) is_a third.1 in
      let last = edge_before paths all q.0 a q.1 ca (and_parts _ _ made_visible).0 in
      let order = reaches_join paths all joins p.0 q.0 a p.1 q.1 ca (or_before paths all joins one p.0 q.0 third.0) (inr last) in
      record {
        flush = f.0;
        present = f.1;
        reaches_it = l.0;
        later = l.1;
        earlier = before_reaches paths all joins f.0 p.0 a f.1 p.1 ca g.1 order;
        again = λ i ci y is_i ib.
            member_passes (λ p. available_by one (nodes all) i i.act c p && list_any (λ q. (same_node p q || before (nodes all) p q) && visible_by one (nodes all) i a a.act k c q && (same_node q a || before (nodes all) q a)) (nodes all)) (nodes all) p.0 p.1
            (and_from _ _
            (subst (λ (b : Act). IsTrue (available_by one (nodes all) i b c p.0)) (sym is_i)
            (and_from _ _ (and_from _ _ (and_parts _ _ submits.0).0 (joins all i f.0 p.0 ci f.1 p.1 ib g.1))
            (or_right (not (one c)) _ (member_passes (λ f. flushes f.act c && before (nodes all) i f && before (nodes all) f p.0) (nodes all) f.0 f.1 (and_from _ _ (and_from _ _ l.0 ib) g.1)))))
            (member_passes (λ q. (same_node p.0 q || before (nodes all) p.0 q) && visible_by one (nodes all) i a a.act k c q && (same_node q a || before (nodes all) q a)) (nodes all) q.0 q.1
            (and_from _ _ (and_from _ _ third.0 (from_host i y is_i q.0 third.1)) second.1)));
      }
    where
      from_host : (i : Node) (y : Entry) → i.act ≡ Hosts y → (q : Node) → IsTrue (visible_by one (nodes all) w a a.act k c q) → IsTrue (visible_by one (nodes all) i a a.act k c q)
      from_host i y is_i q h =
          subst (λ (b : Act). IsTrue (visible_by one (nodes all) i a b k c q)) (sym is_a)
          (subst (λ (z : Bool). IsTrue (edge (nodes all) q a && (makes_writes_visible one (nodes all) (command_mask k) c q q.act || is_wait q.act || z && is_submit q.act))) (ap is_host is_w ∙ sym (ap is_host is_i))
          (subst (λ (b : Act). IsTrue (visible_by one (nodes all) w a b k c q)) is_a h))

-- ---- the write that an invalidation forgets

-- what the laws of nodes and pieces give, for a trace that breaks no rule
pub record Given (all : Past) : Type 0 where
  pub pieces_together : PiecesAreByteWrites
  pub apart : PiecesWriteApart
  pub paths : BeforeIsPath
  pub joins : BeforeIsTransitive
  pub stay : CommandsStay
  pub hazards : NoHazardLaw
  pub visibilities : SeenIsBefore
  pub hosts : HostInOrder
  pub keeps : GrowthKeeps
  pub order : AccessesInOrder
  pub sound : IsUnbroken all
  pub none : fault all ≡ None

module _ (all : Past) (given : Given all) where
  module _ (i : Node) (ci : Contains (nodes all) i) (y : Entry) (is_i : i.act ≡ Hosts y) (c : Byte) (lost : IsTrue (entry_forgets (before_node all i.number) y c)) where
    abbrev pub s : AtPoint all i
    s = at_point all i ci

    pub forget : Forgets s.past y c
    forget = forgets_of s.past y c (subst (λ (l : Past). IsTrue (entry_forgets l y c)) (at_node given.pieces_together given.apart all given.sound i s) lost)

    pub dirtied : DirtiedBy s.past c
    dirtied = dirtied_by s.past c forget.dirty

    pub action : s.at.action ≡ Host y
    action = host_action s.at.action y (subst (λ (a : Act). Contains (acts s.at.action) a) is_i s.acted)

    pub ends : (length (nodes s.past) ≡ i.number) × (length (nodes (s.at ∷ s.past)) ≡ suc i.number)
    ends = alone given.pieces_together given.apart all given.sound i s (ap (λ (d : Action). length (acts d)) action)

    split : (n : Node) (sn : AtPoint all n) → all ≡ (sn.newer ++ sn.at ∷ []) ++ sn.past
    split n sn = sn.whole ∙ sym (append_assoc sn.newer (sn.at ∷ []) sn.past)

    abbrev pub write : Entry
    write = entry.Write dirtied.buffer dirtied.offset dirtied.bytes

    abbrev pub w : Node
    w = record { number = length (nodes dirtied.low); point = dirtied.at; act = Hosts write }

    w_past : Contains (nodes s.past) w
    w_past = old_has given.keeps s.past dirtied.newer (dirtied.at ∷ dirtied.low) dirtied.whole w (subst (λ (d : Action). Contains (with_acts dirtied.at (acts d) (nodes dirtied.low)) w) (sym dirtied.action) (contains-head w (nodes dirtied.low)))

    pub w_all : Contains (nodes all) w
    w_all = old_has given.keeps all (s.newer ++ s.at ∷ []) s.past (split i s) w w_past

    pub w_earlier : w.number < i.number
    w_earlier = let lt = number_below (nodes s.past) (numbered s.past) w w_past in let e = ends.0 in omega (arith, lt, e)

    pub w_writes : Contains (writes all w) c
    w_writes = host_writes_it given.pieces_together all write c dirtied.value dirtied.is

    at_any : (newer low : Past) → all ≡ newer ++ low → Contains (nodes low) w → is_cached low (resource_at c) ≡ is_cached all (resource_at c)
    at_any newer low whole cw = same_cached all newer low whole (new_ids all given.sound) (live_ids all given.sound) w cw refl c all w_writes

    pub kept : is_cached all (resource_at c) ≡ true
    kept = sym (at_any (s.newer ++ s.at ∷ []) s.past (split i s) w_past) ∙ forget.kept

    -- as it was when a later node came
    pub kept_then : (n : Node) → Contains (nodes all) n → w.number ≤ n.number → is_cached (before_node all n.number) (resource_at c) ≡ is_cached all (resource_at c)
    kept_then n cn le = cached_then all (new_ids all given.sound) (live_ids all given.sound) w w_all refl c all w_writes n cn le

    pub there_then : (n : Node) → Contains (nodes all) n → w.number ≤ n.number → IsTrue (was_made all n.number c)
    there_then n cn le = made_then all (new_ids all given.sound) (live_ids all given.sound) w w_all refl c all w_writes n cn le

    pub unflushed : (g : Node) → Contains (nodes all) g → IsTrue (flushes g.act c) → w.number < g.number → g.number < i.number → ⊥
    unflushed g cg h after before_it =
        let u = flush_of g.act c h in
        let sg = at_point all g cg in
        let d = host_action sg.at.action (entry.Flush u.0 u.1 u.2) (subst (λ (a : Act). Contains (acts sg.at.action) a) u.3 sg.acted) in
        let ends_g = alone given.pieces_together given.apart all given.sound g sg (ap (λ (d : Action). length (acts d)) d) in
        let come : Comes all sg.past sg.at = comes_at _ _ sg in
        let e0 = ends.0 in let e1 = ends.1 in let g0 = ends_g.0 in let g1 = ends_g.1 in
        let inside = comes_in s.newer s.past s.at sg.past sg.at (subst (λ (l : Past). Comes l sg.past sg.at) s.whole come) (omega (arith, e0, g1, before_it)) (omega (arith, e0, e1)) in
        let one_more : length (nodes (dirtied.at ∷ dirtied.low)) ≡ suc (length (nodes dirtied.low)) = ap (λ (d : Action). length (with_acts dirtied.at (acts d) (nodes dirtied.low))) dirtied.action in
        let no = dirtied.unflushed sg.past sg.at inside (omega (arith, one_more, g0, after)) u.0 u.1 u.2 d u.4 in
        let yes = at_any (sg.newer ++ sg.at ∷ []) sg.past (split g sg) (is_old given.keeps all (sg.newer ++ sg.at ∷ []) sg.past (split g sg) w w_all (omega (arith, g0, after))) ∙ kept in
        clash {b = is_cached sg.past (resource_at c)} yes (ap (is_cached sg.past) (reached_buffer u.0 u.1 u.2 c u.4) ∙ no)

    -- ---- a command's accesses of the byte

    module _ (a : Node) (ca : Contains (nodes all) a) (cmd : Cmd) (is_a : a.act ≡ Runs cmd) where
      abbrev pub Touches : Access → Type 0
      Touches Read = Contains (reads all a) c
      Touches Write = Contains (writes all a) c

      abbrev pub point : AtPoint all a
      point = at_point all a ca

      abbrev pub one : Byte → Bool
      one b = is_cached (point.at ∷ point.past) (resource_at b)

      accesses_it : IsTrue (accesses a.act)
      accesses_it = rw is_a refl

      not_hosts : IsTrue (not (is_host w.act && is_host a.act))
      not_hosts = rw is_a refl

      module _ (lt : w.number < a.number) where
        pub same_one : one c ≡ is_cached all (resource_at c)
        same_one = at_any point.newer (point.at ∷ point.past) point.whole (judged_has given.stay given.hazards given.visibilities given.hosts given.keeps all given.none w a w_all ca lt refl accesses_it c not_hosts)

        is_seen : (k : Access) → Touches k → IsTrue (seen one (nodes all) w a k c)
        is_seen Read h = read_is_seen given.stay given.hazards given.visibilities given.hosts given.keeps all given.none w a w_all ca lt refl accesses_it c not_hosts (is_in_of c (writes all w) w_writes) h
        is_seen Write h = write_is_seen given.stay given.hazards given.visibilities given.hosts given.keeps all given.none w a w_all ca lt refl accesses_it c not_hosts (is_in_of c (writes all w) w_writes) h

        by_flush : (k : Access) → Touches k → Flushed given.paths given.joins all one w a w_all ca cmd is_a write refl c (same_one ∙ kept) k
        by_flush k h = flushed given.paths given.joins all one w a w_all ca cmd is_a write refl c (same_one ∙ kept) k (is_seen k h)

      -- the invalidation comes before a later one as the write does
      pub seen_after : (k : Access) → Touches k → (i.number < a.number) → IsTrue (seen one (nodes all) i a k c)
      seen_after k h lt =
          let lt' : w.number < a.number = let e = w_earlier in omega (arith, e, lt) in
          let f = by_flush lt' k h in
          let later = leads_on (nodes all) w f.flush f.later in
          ⊎_elim
          (λ less. absurd (unflushed f.flush f.present f.reaches_it later less))
          (λ le. ⊎_elim
          (λ same. absurd (no_flush f.flush f.reaches_it (unique (nodes all) (numbered all) i f.flush ci f.present same)))
          (λ more. f.again i ci y is_i (given.hosts all i f.flush ci f.present (rw is_i refl) (flush_host f.flush f.reaches_it) more))
          (eq-or-lt_of_le le))
          (cases_lt f.flush.number i.number)
        where
          no_flush : (g : Node) → IsTrue (flushes g.act c) → i ≡ g → ⊥
          no_flush g h same =
              let u = flush_of g.act c h in
              let e : Hosts y ≡ Hosts (entry.Flush u.0 u.1 u.2) = sym is_i ∙ ap (λ (n : Node). n.act) same ∙ u.3 in
              let f : Hosts (entry.Invalidate forget.buffer forget.offset forget.size) ≡ Hosts (entry.Flush u.0 u.1 u.2) = ap Hosts (sym forget.is) ∙ e in cc

          flush_host : (g : Node) → IsTrue (flushes g.act c) → IsTrue (is_host g.act)
          flush_host g h = let u = flush_of g.act c h in ap is_host u.3

      -- an earlier one comes before the write, and so before the invalidation
      pub before_write : (k : Access) → Touches k → a.number < i.number → (a.number < w.number) × IsTrue (before (nodes all) a w)
      before_write k h lt = ⊎_elim
          (λ less. (less, given.order all a w c given.none ca w_all less accesses_it refl (meets k h)))
          (λ le. ⊎_elim
          (λ same. absurd (no_command (unique (nodes all) (numbered all) w a w_all ca same)))
          (λ more.
          let f = by_flush more k h in
          let later = leads_on (nodes all) w f.flush f.later in
          let earlier = leads_on (nodes all) f.flush a f.earlier in
          absurd (unflushed f.flush f.present f.reaches_it later (omega (arith, earlier, lt))))
          (eq-or-lt_of_le le))
          (cases_lt a.number w.number)
        where
          meets : (k : Access) → Touches k → Rattle.vk_laws.specs.Trace.Meets all a w c
          meets Read h = inr (inl (h, is_in_of c (writes all w) w_writes))
          meets Write h = inr (inr (is_in_of c (writes all a) h, w_writes))

          no_command : w ≡ a → ⊥
          no_command same = let e : Hosts write ≡ Runs cmd = ap (λ (n : Node). n.act) same ∙ is_a in cc

      pub before_it : (k : Access) → Touches k → a.number < i.number → IsTrue (before (nodes all) a i)
      before_it k h lt = given.joins all a w i ca w_all ci (before_write k h lt).1 (given.hosts all w i w_all ci refl (rw is_i refl) w_earlier)
