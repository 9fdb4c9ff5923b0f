-- A longer trace's tasks extend a shorter one's.
use Rattle.std.proofs.Common.{◌≡◌, ◌⊎◌, inl, inr, ⊎_elim, ℕ, zero, suc, ◌<◌, ◌≤◌, List, [], ◌∷◌, ◌++◌, length, Bool, false, ◌&&◌, ◌||◌, not, Option, Some, None, refl, ap, sym, ◌∙◌, subst, arith}
use Rattle.std.specs.Prelude.{Contains, ◌==◌, nat_lt, option_map, is_some, slice_get, if◌then◌else◌}
use Rattle.std.specs.List.{list_any, find}
use Rattle.std.proofs.lemmas.Bool.{cases_lt, and_parts, false_from_ne_true, and_right}
use Rattle.std.proofs.lemmas.List.{append_assoc, length-append}
use Rattle.vk_model.specs.Basics.{holds}
use Rattle.vk_model.specs.World.Bytes.{Byte, same_byte, resource_at}
use Rattle.vk_model.specs.Trace.Objects.{made, is_cached}
use Rattle.vk_model.specs.Trace.Point.{Past}
use Rattle.vk_model.specs.World.ByteWrites.{ByteWrite}
use Rattle.vk_model.specs.Sync.Node.{Node, Act, Hosts, Waits, Signals, Runs, Depends, nodes}
use Rattle.vk_model.specs.Sync.Edge.{edge, is_host, is_submit}
use Rattle.vk_model.specs.Sync.Before.{before, IsNumbered}
use Rattle.vk_model.specs.Sync.Access.{is_in, writes}
use Rattle.vk_model.specs.Sync.Seen.{Read, command_mask, host_mask, makes_writes_available, makes_writes_visible, available_by, flushes, invalidates, is_wait, to_host, passes}
use Rattle.vk_model.specs.Laws.{BeforeIsPath, BeforeIsTransitive, GrowthKeeps, Keeps}
use Rattle.vk_laws.specs.Machine.{Task, Put}
use Rattle.vk_laws.specs.Growth.{Extends}
use Rattle.vk_laws.specs.Trace.{accesses}
use Rattle.vk_laws.specs.Tasks.{piece_writes, task_count, task_write, node_at, by_act, accesses_of}
use Rattle.vk_laws.specs.TraceBytes.{before_node}
use Rattle.vk_laws.specs.Discards.{entry_forgets, forgets, or_unknown, with_discards}
use Rattle.vk_model.specs.Run.Caches.{agent_of}
use Rattle.vk_laws.specs.TraceCaches.{submits_to, cached, was_made, host_wrote, makes_write_available, makes_visible_to, caching_of}
use Rattle.vk_laws.proofs.Accesses.TaskNodes.{node_of}
use Rattle.vk_laws.proofs.Nodes.Prefixes.{old_has, same_pieces, tasks_lead_on, there_below}
use Rattle.vk_model.proofs.Lists.Members.{contains-cons, contains-head, contains-tail, none_in}
use Rattle.vk_laws.proofs.Nodes.Steady.{IsNew, IsLive}
use Rattle.vk_laws.proofs.Nodes.Points.{AtPoint, at_point, at_point_below}
use Rattle.vk_laws.proofs.Nodes.Counts.{node_there}
use Rattle.vk_laws.proofs.Bytes.BeforeNodes.{before_inside}
use Rattle.vk_laws.proofs.Caching.TraceCaches.{node_at_self, made_of}
use Rattle.vk_model.proofs.Sync.Numbers.{number_below, numbered}
use Rattle.vk_model.proofs.Sync.Paths.{leads_on}

-- ---- lists of nodes

front_number : (front ns : List Node) (v : Node) → IsNumbered (front ++ ns) → Contains front v → length ns ≤ v.number
front_number [] ns v numbers c = absurd (none_in v c)
front_number (n ∷ front) ns v numbers c = ⊎_elim
    (λ e. let at : n.number ≡ v.number = ap (λ (k : Node). k.number) e in let size = numbers.0 in let long = length-append front ns in omega (arith, at, size, long))
    (λ later. front_number front ns v numbers.1 later) (contains-cons n front v c)

grown : (f g : Node → Bool) (front ns : List Node) → ((v : Node) → Contains front v → f v ≡ false) → ((v : Node) → Contains ns v → f v ≡ g v) → list_any f (front ++ ns) ≡ list_any g ns
grown f g [] ns never same = go ns same
  where
    go : (ns : List Node) → ((v : Node) → Contains ns v → f v ≡ g v) → list_any f ns ≡ list_any g ns
    go [] same = refl
    go (n ∷ ns) same = two (f n) (g n) (list_any f ns) (list_any g ns) (same n (contains-head n ns)) (go ns (λ v c. same v (contains-tail n ns v c)))
      where
        two : (a b c d : Bool) → a ≡ b → c ≡ d → (a || c) ≡ (b || d)
        two a b c d e f = rw (e, f) refl
grown f g (n ∷ front) ns never same =
    first (f n) (list_any f (front ++ ns)) (never n (contains-head n front)) ∙ grown f g front ns (λ v c. never v (contains-tail n front v c)) same
  where
    first : (a b : Bool) → a ≡ false → (a || b) ≡ b
    first a b e = rw e refl

visible_eq : (one other : Byte → Bool) (ns ms : List Node) (mask : ℕ) (b : Byte) (q : Node) (a : Act) → makes_writes_visible one ns mask b q a ≡ makes_writes_visible other ms mask b q a
visible_eq one other ns ms mask b q (Runs c) = refl
visible_eq one other ns ms mask b q (Hosts x) = refl
visible_eq one other ns ms mask b q (Waits s) = refl
visible_eq one other ns ms mask b q (Signals s) = refl
visible_eq one other ns ms mask b q (Depends r e) = refl

available_eq : (one other : Byte → Bool) (ns ms : List Node) (p : Node) (b : Byte) (a : Act) → makes_writes_available one ns p b a ≡ makes_writes_available other ms p b a
available_eq one other ns ms p b (Runs c) = refl
available_eq one other ns ms p b (Hosts x) = refl
available_eq one other ns ms p b (Waits s) = refl
available_eq one other ns ms p b (Signals s) = refl
available_eq one other ns ms p b (Depends r e) = refl

module _ (paths : BeforeIsPath) (joins : BeforeIsTransitive) (keeps : GrowthKeeps) (whole newer old : Past) (split : whole ≡ newer ++ old) (new : IsNew whole) (alive : IsLive whole) where
  abbrev size : ℕ
  size = length (nodes old)

  kept : Keeps (nodes old) (nodes whole)
  kept = subst (λ (l : Past). Keeps (nodes old) (nodes l)) (sym split) (keeps old newer)

  raise : (n : Node) → Contains (nodes old) n → Contains (nodes whole) n
  raise n c = old_has keeps whole newer old split n c

  -- the node of a number below the size
  record At (k : ℕ) : Type 0 where
    pub node : Node
    pub present : Contains (nodes old) node
    pub number : node.number ≡ k
    pub in_old : node_at old k ≡ Some node
    pub in_whole : node_at whole k ≡ Some node

  at : (k : ℕ) → k < size → At k
  at k lt =
      let n = node_there (nodes old) k (numbered old) lt in
      let f = node_of old k n.0 n.1 in
      record { node = n.0; present = f.0; number = f.1; in_old = n.1; in_whole = subst (λ (j : ℕ). node_at whole j ≡ Some n.0) f.1 (node_at_self paths joins whole n.0 (raise n.0 f.0)) }

  none_old : (k : ℕ) → size ≤ k → node_at old k ≡ None
  none_old k le = go (node_at old k) refl
    where
      go : (o : Option Node) → node_at old k ≡ o → node_at old k ≡ None
      go None e = e
      go (Some n) e = let f = node_of old k n e in let lt = number_below (nodes old) (numbered old) n f.0 in let g = f.1 in absurd (omega (arith, le, lt, g))

  -- what a node of the shorter trace does
  module _ (n : Node) (cn : Contains (nodes old) n) where
    s : AtPoint old n
    s = at_point old n cn

    far : whole ≡ (newer ++ s.newer) ++ s.at ∷ s.past
    far = split ∙ ap (λ (l : Past). newer ++ l) s.whole ∙ sym (append_assoc newer s.newer (s.at ∷ s.past))

    same_before : before_node whole n.number ≡ before_node old n.number
    same_before =
        let lt = at_point_below _ _ s in
        (ap (λ (l : Past). before_node l n.number) far ∙ before_inside (newer ++ s.newer) s.past s.at n.number s.new lt)
        ∙ sym (ap (λ (l : Past). before_node l n.number) s.whole ∙ before_inside s.newer s.past s.at n.number s.new lt)

    same_count : task_count whole n.act ≡ task_count old n.act
    same_count = go n.act refl
      where
        go : (a : Act) → n.act ≡ a → task_count whole a ≡ task_count old a
        go (Runs c) e = ap length (same_pieces whole newer old split new alive n c cn e)
        go (Hosts x) e = refl
        go (Waits w) e = refl
        go (Signals w) e = refl
        go (Depends r d) e = refl

    same_index : (k : ℕ) (c : Byte) → task_write whole n.act k c ≡ task_write old n.act k c
    same_index k c = go n.act refl
      where
        go : (a : Act) → n.act ≡ a → task_write whole a k c ≡ task_write old a k c
        go (Runs x) e = ap (λ (ps : List (List ByteWrite)). option_map (λ m. Rattle.vk_laws.specs.Machine.Puts m.source) (find (λ m. same_byte m.to c) (piece_writes (slice_get ps k)))) (same_pieces whole newer old split new alive n x cn e)
        go (Hosts x) e = refl
        go (Waits w) e = refl
        go (Signals w) e = refl
        go (Depends r d) e = refl

    same_forgets : (a : Act) (c : Byte) → forgets whole n.number a c ≡ forgets old n.number a c
    same_forgets (Hosts x) c = ap (λ (l : Past). entry_forgets l x c) same_before
    same_forgets (Runs x) c = refl
    same_forgets (Waits w) c = refl
    same_forgets (Signals w) c = refl
    same_forgets (Depends r d) c = refl

    same_cached : (c : Byte) → cached whole n.number c ≡ cached old n.number c
    same_cached c = ap (λ (l : Past). is_cached l (resource_at c)) same_before

    -- no new node is before it
    not_new : (v : Node) → Contains kept.added.0 v → before (nodes whole) v n ≡ false
    not_new v c =
        let high = front_number kept.added.0 (nodes old) v (subst (λ (l : List Node). IsNumbered l) kept.added.1 (numbered whole)) c in
        let low = number_below (nodes old) (numbered old) n cn in
        false_from_ne_true (before (nodes whole) v n) (λ h. let lt = leads_on (nodes whole) v n h in omega (arith, high, low, lt))

    over_nodes : (f g : Node → Bool) → ((v : Node) → Contains kept.added.0 v → f v ≡ false) → ((v : Node) → Contains (nodes old) v → f v ≡ g v) → list_any f (nodes whole) ≡ list_any g (nodes old)
    over_nodes f g never same = ap (list_any f) kept.added.1 ∙ grown f g kept.added.0 (nodes old) never same

    same_wrote : (c : Byte) → host_wrote whole n c ≡ host_wrote old n c
    same_wrote c = over_nodes _ _ (λ v cv. and_right (is_host v.act && is_in c (writes whole v)) (before (nodes whole) v n) (not_new v cv)) (λ v cv. by_act' v v.act refl ∙ ap (λ (b : Bool). is_host v.act && is_in c (writes old v) && b) (kept.orders v n cn))
      where
        by_act' : (v : Node) (a : Act) → v.act ≡ a → (is_host v.act && is_in c (writes whole v) && before (nodes whole) v n) ≡ (is_host v.act && is_in c (writes old v) && before (nodes whole) v n)
        by_act' v (Runs x) e = rw e refl
        by_act' v (Hosts x) e = rw e refl
        by_act' v (Waits w) e = rw e refl
        by_act' v (Signals w) e = rw e refl
        by_act' v (Depends r d) e = rw e refl

    same_passes : (test : Act → Bool) (one other : Byte → Bool) (m : Node) → passes one (nodes whole) test m n ≡ passes other (nodes old) test m n
    same_passes test one other m = over_nodes _ _ (λ v cv. and_right (test v.act && before (nodes whole) m v) (before (nodes whole) v n) (not_new v cv))
        (λ v cv. ap (λ (b : Bool). test v.act && b && before (nodes whole) v n) (kept.orders m v cv) ∙ ap (λ (b : Bool). test v.act && before (nodes old) m v && b) (kept.orders v n cn))

    same_visible : (a : ℕ) (c : Byte) → makes_visible_to whole n a c ≡ makes_visible_to old n a c
    same_visible zero c =
        ap (λ (z : Bool). if z then invalidates n.act c else to_host n.act && makes_writes_visible (cached whole n.number) (nodes whole) (host_mask Read) c n n.act && was_made whole n.number c) (same_cached c)
        ∙ ap (λ (l : Past). if cached old n.number c then invalidates n.act c else to_host n.act && makes_writes_visible (cached whole n.number) (nodes whole) (host_mask Read) c n n.act && is_some (made l (resource_at c))) same_before
        ∙ ap (λ (r : Bool). if cached old n.number c then invalidates n.act c else to_host n.act && r && was_made old n.number c) (visible_eq (cached whole n.number) (cached old n.number) (nodes whole) (nodes old) (host_mask Read) c n n.act)
    same_visible (suc k) c =
        ap (λ (r : Bool). not (is_host n.act) && n.point.queue == k && (r || is_wait n.act) || submits_to n.act k && host_wrote whole n c) (visible_eq (cached whole n.number) (cached old n.number) (nodes whole) (nodes old) (command_mask Read) c n n.act)
        ∙ ap (λ (r : Bool). not (is_host n.act) && n.point.queue == k && (makes_writes_visible (cached old n.number) (nodes old) (command_mask Read) c n n.act || is_wait n.act) || submits_to n.act k && r) (same_wrote c)

    -- what it makes available of a node's writes
    same_made : (w : Node) → Contains (nodes old) w → (w_cached : (c : Byte) → cached whole w.number c ≡ cached old w.number c) → (c : Byte) → makes_write_available whole n w c ≡ makes_write_available old n w c
    same_made w cw w_cached c = ap (λ (r : Bool). accesses w.act && r) (go w.act)
      where
        go : (a : Act) → available_by (cached whole w.number) (nodes whole) w a c n ≡ available_by (cached old w.number) (nodes old) w a c n
        go (Runs x) = ap (λ (r : Bool). r && makes_writes_available (cached whole w.number) (nodes whole) n c n.act) (kept.edges w n cn) ∙ ap (λ (r : Bool). edge (nodes old) w n && r) (available_eq (cached whole w.number) (cached old w.number) (nodes whole) (nodes old) n c n.act)
        go (Hosts x) =
            ap (λ (r : Bool). is_submit n.act && r && (not (cached whole w.number c) || passes (cached whole w.number) (nodes whole) (λ f. flushes f c) w n)) (kept.orders w n cn)
            ∙ ap (λ (r : Bool). is_submit n.act && before (nodes old) w n && (not r || passes (cached whole w.number) (nodes whole) (λ f. flushes f c) w n)) (w_cached c)
            ∙ ap (λ (r : Bool). is_submit n.act && before (nodes old) w n && (not (cached old w.number c) || r)) (same_passes (λ f. flushes f c) (cached whole w.number) (cached old w.number) w)
        go (Waits s) = refl
        go (Signals s) = refl
        go (Depends r d) = refl

    -- and of a newer node's: nothing
    none_made : (w : Node) → Contains (nodes whole) w → size ≤ w.number → (c : Byte) → makes_write_available whole n w c ≡ false
    none_made w cw le c = false_from_ne_true (makes_write_available whole n w c) (λ h.
        let g = and_parts _ _ h in
        let lt = leads_on (nodes whole) w n (made_of paths joins whole (cached whole w.number) w n c refl cw (raise n cn) g.0 g.1).later in
        let low = number_below (nodes old) (numbered old) n cn in
        omega (arith, le, lt, low))

  -- ---- the accesses and its caches

  has_same : (t : Task) → t.node < size → (with_discards whole).has t ≡ (with_discards old).has t
  has_same t lt =
      let n = at t.node lt in
      ap (by_act false (λ a. nat_lt t.index (task_count whole a))) n.in_whole ∙ ap (nat_lt t.index) (same_count n.node n.present) ∙ sym (ap (by_act false (λ a. nat_lt t.index (task_count old a))) n.in_old)

  write_same : (t : Task) (c : Byte) → t.node < size → (with_discards whole).write_of t c ≡ (with_discards old).write_of t c
  write_same t c lt =
      let n = at t.node lt in
      let f : (o : Option Node) → (u : Past) → Option Put = λ o u. or_unknown (t.index == 0 && by_act false (λ a. forgets u t.node a c) o) (by_act None (λ a. task_write u a t.index c) o) in
      let lost : forgets whole t.node n.node.act c ≡ forgets old t.node n.node.act c = subst (λ (k : ℕ). forgets whole k n.node.act c ≡ forgets old k n.node.act c) n.number (same_forgets n.node n.present n.node.act c) in
      ap (λ (o : Option Node). f o whole) n.in_whole
      ∙ ap (λ (b : Bool). or_unknown (t.index == 0 && b) (task_write whole n.node.act t.index c)) lost
      ∙ ap (λ (w : Option Put). or_unknown (t.index == 0 && forgets old t.node n.node.act c) w) (same_index n.node n.present t.index c)
      ∙ sym (ap (λ (o : Option Node). f o old) n.in_old)

  before_same : (a b : ℕ) → b < size → (with_discards whole).before a b ≡ (with_discards old).before a b
  before_same a b lt =
      let n = at b lt in
      ap (λ (o : Option Node). holds (node_at whole a) (λ m. holds o (λ n. before (nodes whole) m n))) n.in_whole
      ∙ by_first n (cases_lt a size)
      ∙ sym (ap (λ (o : Option Node). holds (node_at old a) (λ m. holds o (λ n. before (nodes old) m n))) n.in_old)
    where
      never : (n : At b) → size ≤ a → (o : Option Node) → node_at whole a ≡ o → holds o (λ m. before (nodes whole) m n.node) ≡ false
      never n le None e = refl
      never n le (Some m) e = false_from_ne_true (before (nodes whole) m n.node) (λ h.
          let less = leads_on (nodes whole) m n.node h in
          let f = (node_of whole a m e).1 in
          let g = n.number in
          omega (arith, le, less, f, g, lt))

      by_first : (n : At b) → (a < size) ⊎ (size ≤ a) → holds (node_at whole a) (λ m. before (nodes whole) m n.node) ≡ holds (node_at old a) (λ m. before (nodes old) m n.node)
      by_first n (inl low) =
          let m = at a low in
          ap (λ (o : Option Node). holds o (λ m. before (nodes whole) m n.node)) m.in_whole ∙ kept.orders m.node n.node n.present ∙ sym (ap (λ (o : Option Node). holds o (λ m. before (nodes old) m n.node)) m.in_old)
      by_first n (inr le) = never n le (node_at whole a) refl ∙ sym (ap (λ (o : Option Node). holds o (λ m. before (nodes old) m n.node)) (none_old a le))

  available_same : (p w : Task) (c : Byte) → p.node < size → (caching_of whole).makes_available p w c ≡ (caching_of old).makes_available p w c
  available_same p w c lt =
      let n = at p.node lt in
      ap (λ (o : Option Node). (accesses_of whole).has w && holds o (λ m. holds (node_at whole w.node) (λ n. makes_write_available whole m n c))) n.in_whole
      ∙ by_writer n (cases_lt w.node size)
      ∙ sym (ap (λ (o : Option Node). (accesses_of old).has w && holds o (λ m. holds (node_at old w.node) (λ n. makes_write_available old m n c))) n.in_old)
    where
      never : (n : At p.node) → size ≤ w.node → (o : Option Node) → node_at whole w.node ≡ o → holds o (λ m. makes_write_available whole n.node m c) ≡ false
      never n le None e = refl
      never n le (Some m) e = let f = node_of whole w.node m e in none_made n.node n.present m f.0 (let g = f.1 in omega (arith, le, g)) c

      by_writer : (n : At p.node) → (w.node < size) ⊎ (size ≤ w.node) → ((accesses_of whole).has w && holds (node_at whole w.node) (λ m. makes_write_available whole n.node m c)) ≡ ((accesses_of old).has w && holds (node_at old w.node) (λ m. makes_write_available old n.node m c))
      by_writer n (inl low) =
          let m = at w.node low in
          ap (λ (b : Bool). b && holds (node_at whole w.node) (λ m. makes_write_available whole n.node m c)) (has_same w low)
          ∙ ap (λ (o : Option Node). (accesses_of old).has w && holds o (λ m. makes_write_available whole n.node m c)) m.in_whole
          ∙ ap (λ (b : Bool). (accesses_of old).has w && b) (same_made n.node n.present m.node m.present (same_cached m.node m.present) c)
          ∙ sym (ap (λ (o : Option Node). (accesses_of old).has w && holds o (λ m. makes_write_available old n.node m c)) m.in_old)
      by_writer n (inr le) =
          and_right ((accesses_of whole).has w) _ (never n le (node_at whole w.node) refl)
          ∙ sym (and_right ((accesses_of old).has w) _ (ap (λ (o : Option Node). holds o (λ m. makes_write_available old n.node m c)) (none_old w.node le)))

  visible_same : (q : Task) (a : ℕ) (c : Byte) → q.node < size → (caching_of whole).makes_visible q a c ≡ (caching_of old).makes_visible q a c
  visible_same q a c lt =
      let n = at q.node lt in
      ap (λ (o : Option Node). holds o (λ n. makes_visible_to whole n a c)) n.in_whole ∙ same_visible n.node n.present a c ∙ sym (ap (λ (o : Option Node). holds o (λ n. makes_visible_to old n a c)) n.in_old)

  pub extends : Extends size (with_discards old) (caching_of old) (with_discards whole) (caching_of whole)
  extends = record {
    old = λ t h. there_below old t.node (λ a. nat_lt t.index (task_count old a)) h;
    has = has_same;
    write_of = write_same;
    before = before_same;
    forward = tasks_lead_on whole;
    agent = λ t lt. let n = at t.node lt in ap (λ (o : Option Node). elim o [ None ↦ 0 | Some n ↦ agent_of n ]) n.in_whole ∙ sym (ap (λ (o : Option Node). elim o [ None ↦ 0 | Some n ↦ agent_of n ]) n.in_old);
    makes_available = available_same;
    makes_visible = visible_same;
  }
