-- A trace without a fault has no hazard between its caches.
use Rattle.std.proofs.Common.{◌≡◌, ◌⊎◌, inl, inr, ℕ, ◌<◌, ◌≤◌, length, [], ◌∷◌, ◌++◌, Bool, true, false, ◌&&◌, not, IsTrue, Option, Some, None, refl, ap, sym, ◌∙◌, subst, arith}
use Rattle.std.specs.Prelude.{Contains, is_some, if◌then◌else◌}
use Rattle.std.proofs.lemmas.List.{append_assoc}
use Rattle.vk_model.specs.World.Bytes.{Byte, resource_at}
use Rattle.vk_model.specs.declared.entry.Entry.{Entry}
use Rattle.vk_model.specs.Trace.Objects.{made, is_cached}
use Rattle.vk_model.specs.Trace.Structure.{IsOrdered}
use Rattle.vk_model.specs.Trace.Point.{Past, Point}
use Rattle.vk_model.specs.Sync.Node.{Node, nodes}
use Rattle.vk_model.specs.Sync.Edge.{is_host}
use Rattle.vk_model.specs.Sync.Access.{writes}
use Rattle.vk_model.specs.Rules.Table.{fault}
use Rattle.vk_model.specs.Rules.Fault.{Comes, older, IsUnbroken}
use Rattle.vk_model.specs.Laws.{BeforeIsPath, BeforeIsTransitive, GrowthKeeps, PiecesAreByteWrites}
use Rattle.vk_laws.specs.Machine.{Task, Writes, Reads}
use Rattle.vk_laws.specs.Caches.{CacheFree, Seen, Available}
use Rattle.vk_laws.specs.Trace.{accesses, NoHazardLaw, SeenIsBefore, HostInOrder, CommandsStay}
use Rattle.vk_laws.specs.Tasks.{node_at, accesses_of}
use Rattle.vk_laws.specs.TraceCaches.{was_made, caching_of}
use Rattle.vk_laws.proofs.Nodes.Steady.{IsNew, made_step, made_up, new_ids, live_ids, IsLive, comes_within}
use Rattle.vk_laws.proofs.Nodes.Points.{AtPoint, at_point, comes_at, at_point_below}
use Rattle.vk_laws.proofs.Caching.CachedStays.{cached_stays}
use Rattle.vk_laws.specs.TraceBytes.{before_node}
use Rattle.vk_laws.proofs.Nodes.Counts.{more_nodes}
use Rattle.vk_laws.proofs.Bytes.BeforeNodes.{before_inside}
use Rattle.vk_laws.proofs.Nodes.Submits.{submits_there}
use Rattle.vk_laws.proofs.Caching.Named.{written_made}
use Rattle.vk_laws.proofs.Accesses.TaskAccesses.{writer, reader}
use Rattle.vk_laws.proofs.Nodes.Ordered.{judged_has, read_is_seen, write_is_seen}
use Rattle.vk_laws.proofs.Caching.TraceCaches.{agent_is, seen_task, available_task, available_later}
use Rattle.vk_laws.proofs.Accesses.TaskNodes.{has_task}
use Rattle.vk_model.proofs.World.BytePlaces.{is_in_of}

-- whether the host caches what a node writes is the same at any later point
module _ (all newer low : Past) (whole : all ≡ newer ++ low) (new : IsNew all) (alive : IsLive all) (x : Node) (cx : Contains (nodes low) x) (ax : IsTrue (accesses x.act)) (b : Byte) (judged : Past) (h : Contains (writes judged x) b) where
  s : AtPoint low x
  s = at_point low x cx

  base : Past
  base = s.at ∷ s.past

  come : (c : Past) (q : Point) → Comes low c q → Comes all c q
  come c q k = comes_within _ newer low whole c q k

  come_base : (c : Past) (q : Point) → Comes (s.at ∷ s.past) c q → Comes low c q
  come_base c q k = comes_within _ s.newer (s.at ∷ s.past) s.whole c q k

  split : all ≡ (newer ++ s.newer) ++ s.at ∷ s.past
  split = whole ∙ ap (λ (l : Past). newer ++ l) s.whole ∙ sym (append_assoc newer s.newer (s.at ∷ s.past))

  pub same_cached : is_cached low (resource_at b) ≡ is_cached all (resource_at b)
  same_cached =
      let new_low : IsNew low = λ c q k. new c q (come c q k) in
      let live_low : IsLive low = λ c q k. alive c q (come c q k) in
      let m = written_made low x s b new_low live_low ax judged x.point.queue h in
      let here : Comes low s.past s.at = comes_at _ _ s in
      let next = made_step s.past s.at (resource_at b) m.0 (new_low s.past s.at here) m.1 in
      let new_base : IsNew (s.at ∷ s.past) = λ c q k. new_low c q (come_base c q k) in
      let live_base : IsLive (s.at ∷ s.past) = λ c q k. live_low c q (come_base c q k) in
      let near = cached_stays s.newer (s.at ∷ s.past) (subst (λ (l : Past). IsNew l) s.whole new_low) live_base new_base (resource_at b) m.0 next in
      let far = cached_stays (newer ++ s.newer) (s.at ∷ s.past) (subst (λ (l : Past). IsNew l) split new) live_base new_base (resource_at b) m.0 next in
      ap (λ (l : Past). is_cached l (resource_at b)) s.whole ∙ near ∙ sym far ∙ sym (ap (λ (l : Past). is_cached l (resource_at b)) split)

-- of two points of a past one comes before the other
compare : (a b : Past) (p q : Point) (l m : Past) → a ++ p ∷ l ≡ b ++ q ∷ m → ((more : Past) × (l ≡ more ++ m)) ⊎ ((more : Past) × (m ≡ more ++ p ∷ l))
compare [] [] p q l m e = inl ([], let f : l ≡ m = cc in f)
compare [] (r ∷ b) p q l m e = inl (b ++ q ∷ [], (let f : l ≡ b ++ q ∷ m = cc in f) ∙ sym (append_assoc b (q ∷ []) m))
compare (r ∷ a) [] p q l m e = inr (a, let f : m ≡ a ++ p ∷ l = cc in f)
compare (r ∷ a) (s ∷ b) p q l m e = compare a b p q l m (let f : a ++ p ∷ l ≡ b ++ q ∷ m = cc in f)

-- and as it was when any later node came, by which the resource was made
module _ (all : Past) (new : IsNew all) (alive : IsLive all) (x : Node) (cx : Contains (nodes all) x) (ax : IsTrue (accesses x.act)) (b : Byte) (judged : Past) (h : Contains (writes judged x) b) (n : Node) (cn : Contains (nodes all) n) (le : x.number ≤ n.number) where
  sx : AtPoint all x
  sx = at_point all x cx

  sn : AtPoint all n
  sn = at_point all n cn

  come_to : (newer : Past) (p : Point) (past : Past) → all ≡ newer ++ p ∷ past → (c : Past) (q : Point) → Comes past c q → Comes all c q
  come_to newer p past whole c q k = comes_within _ newer (p ∷ past) whole c q (older k)

  further : ((more : Past) × (sn.past ≡ more ++ sx.past)) ⊎ ((more : Past) × (sx.past ≡ more ++ sn.at ∷ sn.past)) → (more : Past) × (sn.past ≡ more ++ sx.past)
  further (inl m) = m
  further (inr m) =
      let low = sx.new in
      let lt = at_point_below _ _ sn in
      let size : length (nodes sx.past) ≡ length (nodes (m.0 ++ sn.at ∷ sn.past)) = ap (λ (l : Past). length (nodes l)) m.1 in
      let long = more_nodes m.0 (sn.at ∷ sn.past) in
      absurd (omega (arith, le, low, lt, size, long))

  before_it : before_node all n.number ≡ sn.past
  before_it = ap (λ (l : Past). before_node l n.number) sn.whole ∙ before_inside sn.newer sn.past sn.at n.number sn.new (at_point_below _ _ sn)

  object : (y : Entry) × (made sx.past (resource_at b) ≡ Some y)
  object = written_made all x sx b new alive ax judged x.point.queue h

  more : (more : Past) × (sn.past ≡ more ++ sx.past)
  more = further (compare sn.newer sx.newer sn.at sx.at sn.past sx.past (sym sn.whole ∙ sx.whole))

  new_n : IsNew (more.0 ++ sx.past)
  new_n = subst (λ (l : Past). IsNew l) more.1 (λ c q k. new c q (come_to sn.newer sn.at sn.past sn.whole c q k))

  pub cached_then : is_cached (before_node all n.number) (resource_at b) ≡ is_cached all (resource_at b)
  cached_then =
      let new_x : IsNew sx.past = λ c q k. new c q (come_to sx.newer sx.at sx.past sx.whole c q k) in
      let live_x : IsLive sx.past = λ c q k. alive c q (come_to sx.newer sx.at sx.past sx.whole c q k) in
      let whole = sx.whole ∙ sym (append_assoc sx.newer (sx.at ∷ []) sx.past) in
      ap (λ (l : Past). is_cached l (resource_at b)) (before_it ∙ more.1) ∙ cached_stays more.0 sx.past new_n live_x new_x (resource_at b) object.0 object.1
      ∙ sym (cached_stays (sx.newer ++ sx.at ∷ []) sx.past (subst (λ (l : Past). IsNew l) whole new) live_x new_x (resource_at b) object.0 object.1) ∙ sym (ap (λ (l : Past). is_cached l (resource_at b)) whole)

  pub made_then : IsTrue (was_made all n.number b)
  made_then = ap (λ (o : Option Entry). is_some o) (ap (λ (l : Past). made l (resource_at b)) (before_it ∙ more.1) ∙ made_up more.0 sx.past (resource_at b) object.0 new_n object.1)

-- two tasks of the host have one agent
pub same_agent : BeforeIsPath → BeforeIsTransitive → (all : Past) (w u : Task) (x y : Node) → node_at all w.node ≡ Some x → node_at all u.node ≡ Some y → is_host x.act ≡ true → is_host y.act ≡ true → (caching_of all).agent w ≡ (caching_of all).agent u
same_agent paths joins all w u x y e f h k =
    agent_is paths joins all w x e ∙ ap (λ (b : Bool). if b then 0 else ℕ.suc x.point.queue) h ∙ sym (ap (λ (b : Bool). if b then 0 else ℕ.suc y.point.queue) k) ∙ sym (agent_is paths joins all u y f)

module _ (together : PiecesAreByteWrites) (paths : BeforeIsPath) (joins : BeforeIsTransitive) (stay : CommandsStay) (hazards : NoHazardLaw) (visibilities : SeenIsBefore) (hosts : HostInOrder) (keeps : GrowthKeeps) (all : Past) (ordered : IsOrdered all) (sound : IsUnbroken all) (none : fault all ≡ None) where
  by_agents : {P : Type 0} (a b : Bool) → (a ≡ true → b ≡ true → P) → (IsTrue (not (a && b)) → P) → P
  by_agents true true f g = f refl refl
  by_agents true false f g = g refl
  by_agents false b f g = g refl

  -- of two of which the earlier writes a byte and the later reads it, not both of the host, the write was seen, also where they have one agent
  pub made_seen : (w u : Task) (c : Byte) → w.node < u.node → (wr : Writes (accesses_of all) w c) (r : Reads (accesses_of all) u c) → IsTrue (not (is_host (writer together all w c wr).node.act && is_host (reader together all u c r).node.act))
      → Seen (accesses_of all) (caching_of all) w u c
  made_seen w u c lt wr r h =
      let x = writer together all w c wr in
      let y = reader together all u c r in
      let later : x.node.number < y.node.number = (let e = x.number in let f = y.number in omega arith) in
      let s : AtPoint all y.node = at_point all y.node y.present in
      let is_seen = read_is_seen stay hazards visibilities hosts keeps all none x.node y.node x.present y.present later x.is_access y.is_access c h (is_in_of c _ x.accessed) y.accessed in
      let has_x = judged_has stay hazards visibilities hosts keeps all none x.node y.node x.present y.present later x.is_access y.is_access c h in
      seen_task paths joins all w u x.node y.node x.at y.at (has_task all w x.node x.at x.there) x.present y.present x.is_access y.is_access (λ b. is_cached (s.at ∷ s.past) (resource_at b)) c
      (λ n cn le.
      same_cached all s.newer (s.at ∷ s.past) s.whole (new_ids all sound) (live_ids all sound) x.node has_x x.is_access c all x.accessed
      ∙ sym (cached_then all (new_ids all sound) (live_ids all sound) x.node x.present x.is_access c all x.accessed n cn le))
      (submits_there all ordered)
      (λ n cn le. made_then all (new_ids all sound) (live_ids all sound) x.node x.present x.is_access c all x.accessed n cn le)
      (λ host. record { by = x.node; present = x.present; host = host; wrote = is_in_of c _ x.accessed; order = inl refl }) is_seen

  read_after : (w u : Task) (c : Byte) → w.node < u.node → Writes (accesses_of all) w c → Reads (accesses_of all) u c → ((caching_of all).agent w ≡ (caching_of all).agent u) ⊎ Seen (accesses_of all) (caching_of all) w u c
  read_after w u c lt wr r =
      let x = writer together all w c wr in
      let y = reader together all u c r in
      by_agents (is_host x.node.act) (is_host y.node.act) (λ h k. inl (same_agent paths joins all w u x.node y.node x.at y.at h k)) (λ h. inr (made_seen w u c lt wr r h))

  -- of two that write a byte, not both of the host, the earlier write was made available, also where they have one agent
  pub made_available : (w u : Task) (c : Byte) → w.node < u.node → (wr : Writes (accesses_of all) w c) (r : Writes (accesses_of all) u c) → IsTrue (not (is_host (writer together all w c wr).node.act && is_host (writer together all u c r).node.act))
      → Available (accesses_of all) (caching_of all) w u c
  made_available w u c lt wr r h =
      let x = writer together all w c wr in
      let y = writer together all u c r in
      let later : x.node.number < y.node.number = (let e = x.number in let f = y.number in omega arith) in
      let s : AtPoint all y.node = at_point all y.node y.present in
      let is_seen = write_is_seen stay hazards visibilities hosts keeps all none x.node y.node x.present y.present later x.is_access y.is_access c h (is_in_of c _ x.accessed) y.accessed in
      let has_x = judged_has stay hazards visibilities hosts keeps all none x.node y.node x.present y.present later x.is_access y.is_access c h in
      available_task paths joins all w u x.node y.node x.at y.at (has_task all w x.node x.at x.there) x.present y.present x.is_access y.is_access (λ b. is_cached (s.at ∷ s.past) (resource_at b)) c
      (λ n cn le.
      same_cached all s.newer (s.at ∷ s.past) s.whole (new_ids all sound) (live_ids all sound) x.node has_x x.is_access c all x.accessed
      ∙ sym (cached_then all (new_ids all sound) (live_ids all sound) x.node x.present x.is_access c all x.accessed n cn le)) is_seen

  written_after : (w u : Task) (c : Byte) → w.node < u.node → Writes (accesses_of all) w c → Writes (accesses_of all) u c → ((caching_of all).agent w ≡ (caching_of all).agent u) ⊎ Available (accesses_of all) (caching_of all) w u c
  written_after w u c lt wr r =
      let x = writer together all w c wr in
      let y = writer together all u c r in
      by_agents (is_host x.node.act) (is_host y.node.act) (λ h k. inl (same_agent paths joins all w u x.node y.node x.at y.at h k)) (λ h. inr (made_available w u c lt wr r h))

  pub cache_free : CacheFree (accesses_of all) (caching_of all)
  cache_free = record {
    seen_read = read_after;
    seen_write = written_after;
    available_later = λ p w c h. available_later paths joins all p w c h;
  }
