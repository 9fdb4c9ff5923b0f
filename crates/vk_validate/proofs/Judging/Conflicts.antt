-- What is wrong with the bytes that a point accesses, by what it does.
use Rattle.std.proofs.Common.{◌≡◌, ◌≤◌, ◌+◌, ℕ, List, [], ◌∷◌, map, length, Bool, true, false, not, refl, ap, sym, ◌∙◌, subst, Some, arith}
use Rattle.std.specs.Prelude.{Contains, IsTrue, is_none}
use Rattle.std.specs.List.{list_any, flat_map}
use Rattle.vk_model.specs.declared.command.BufferCopy.{BufferCopy}
use Rattle.vk_model.specs.declared.command.Cmd.{Cmd}
use Rattle.vk_model.specs.declared.command.Cmd.TheVariants as cmd
use Rattle.vk_model.specs.declared.command.Length.{Length}
use Rattle.vk_model.specs.declared.entry.Entry.TheVariants as entry
use Rattle.vk_model.specs.World.Bytes.{Byte, in_buffer, resource_at}
use Rattle.vk_model.specs.World.ByteWrites.{buffer_size, fill_size, byte_writes, subresource_bytes}
use Rattle.vk_model.specs.World.Effect.{world}
use Rattle.vk_model.specs.Trace.Objects.{image, is_cached}
use Rattle.vk_model.specs.Trace.Point.{Past, Point, Action, Host, Run}
use Rattle.vk_model.specs.Sync.Node.{Act, Hosts, Runs, acts, nodes}
use Rattle.vk_model.specs.Sync.Edge.{is_host}
use Rattle.vk_model.specs.Sync.Seen.{Read, invalidates}
use Rattle.vk_model.specs.Sync.Access.{reads, writes, reads_of, writes_of, bytes_of, targets, origins}
use Rattle.vk_model.specs.Rules.Hazards.{breaks_hazard_war, breaks_hazard_raw, breaks_hazard_waw, breaks_read_undefined}
use Rattle.vk_model.proofs.Lists.Members.{only_one}
use Rattle.vk_order.specs.Frontiers.{IsNewNode}
use Rattle.vk_order.specs.Prefixes.{LinePrefix}
use Rattle.vk_order.specs.Cached.{FlushedSeen, UnflushedSeen, InvalidatedSeen, UninvalidatedSeen}
use Rattle.vk_order.specs.Visibility.{HostSeen}
use Rattle.vk_order.specs.Wide.{is_answered, access_of}
use Rattle.vk_order.specs.declared.access.Access.{Access}
use Rattle.vk_order.specs.declared.access.Access.TheVariants as access
use Rattle.vk_order.specs.declared.new_node.NewNode.{NewNode}
use Rattle.vk_history.specs.declared.resource_contents.ResourceContents.{ResourceContents}
use Rattle.vk_touches.specs.declared.accesses.ResourceAccess.{ResourceAccess}
use Rattle.vk_touches.specs.declared.bytes.Bytes.{Bytes}
use Rattle.vk_touches.specs.Bytes.{numbered_byte}
use Rattle.vk_touches.specs.Conflicts.{AreConflicts, IsAccess, FoundIn, FoundAt, FoundAmong, Misses, MissesRead, MissesWrite, IsEarly, HasEarlyCommand}
use Rattle.vk_history.specs.Contents.{AreBytesOf, AreContentsOf, AreBufferContents, is_defined, byte_at, size_at}
use Rattle.vk_history.specs.Judged.{IsJudged}
use Rattle.vk_touches.specs.Touched.{next_node, act_next, touched}
use Rattle.vk_history.proofs.Points.Ranges.{fill-targets, fill-origins, update-targets, update-origins}
use Rattle.vk_touches.proofs.Touching.LastHazards.{StaysCached}
use Rattle.vk_validate.proofs.Judging.Quiet.{no_war, no_raw, no_waw}
use Rattle.vk_validate.proofs.Judging.Conflicting.{new_node_of, missed_by, early_by, missed_is, raw_rule, waw_rule, war_rule}
use Rattle.vk_touches.proofs.Judging.Ways as ways
use Rattle.vk_touches.proofs.Judging.Found.{any_found, numbers_found}
use Rattle.vk_touches.proofs.Judging.Commands as found
use Rattle.vk_touches.proofs.Judging.Commands.{IsKept}
use Rattle.vk_model.specs.declared.command.SubresourceRange.{SubresourceRange}
use Rattle.vk_model.specs.declared.resource.ImageInfo.{ImageInfo}
use Rattle.vk_image_bytes.specs.Copies.{numbered_writes}
use Rattle.vk_history.proofs.Making.Numbers.{numbered_at, byte_of_image, size_of_image, targets_flat, origins_flat}
use Rattle.vk_touches.proofs.Judging.Covered.{AreThere}
use Rattle.vk_validate.specs.Inner.Subresources.{FoundInSubresources}

-- ---- a host read

module _ (past : Past) (judged : IsJudged past) (p : Point) (b o n : ℕ) (is : p.action ≡ Host (entry.Read b o n)) where
  read_alone : acts p.action ≡ act_next p.action ∷ []
  read_alone = rw is refl

  read_steady : (c : Cmd) → byte_writes (p ∷ past) c ≡ byte_writes past c
  read_steady c = subst (λ (d : Action). byte_writes (record p { action = d } ∷ past) c ≡ byte_writes past c) (sym is) refl

  read_keeps : StaysCached past p
  read_keeps r = subst (λ (d : Action). is_cached (record p { action = d } ∷ past) r ≡ is_cached past r) (sym is) refl

  read_invalidates : (byte : Byte) → invalidates (act_next p.action) byte ≡ false
  read_invalidates byte = ap (λ (d : Action). invalidates (act_next d) byte) is

  answered_as : (x : ResourceAccess) → x.access ≡ access.Read → (k : ℕ) → is_cached (p ∷ past) (resource_at (numbered_byte x.bytes k)) ≡ false → IsTrue (is_answered (λ c. is_cached (p ∷ past) (resource_at c)) (act_next p.action) (access_of x.access) (numbered_byte x.bytes k))
  answered_as x reads k off = subst (λ (b : Access). IsTrue (is_answered (λ c. is_cached (p ∷ past) (resource_at c)) (act_next p.action) (access_of b) (numbered_byte x.bytes k))) (sym reads)
      (subst (λ (d : Action). IsTrue (is_answered (λ c. is_cached (p ∷ past) (resource_at c)) (act_next d) Read (numbered_byte x.bytes k))) (sym is) (ap not off))

  no_writes : (a : Act) → Contains (acts p.action) a → (q : ℕ) → writes_of (p ∷ past) q a ≡ []
  no_writes a m q = subst (λ (b : Act). writes_of (p ∷ past) q b ≡ []) (only_one (Hosts (entry.Read b o n)) a (subst (λ (d : Action). Contains (acts d) a) is m)) refl

  pub read_conflicts : HostSeen → InvalidatedSeen → UninvalidatedSeen → (c : ResourceContents) → AreBufferContents c past b → o + n ≤ buffer_size past b → (s : NewNode) → IsNewNode (nodes past) (next_node past p (act_next p.action)) s
      → (x : ResourceAccess) → IsAccess past s x.bytes access.Read x → ((k : ℕ) → numbered_byte x.bytes k ≡ in_buffer b k) → (raw undefined : Bool)
      → (o + n ≤ length c.touches → FoundAt (MissesRead c.is_cached x) raw c.touches o (o + n)) → (o + n ≤ length c.defined → FoundIn (λ r d. r ≡ not d) undefined c.defined o (o + n))
      → AreConflicts (record { war = false; raw = raw; waw = false; undefined = undefined }) past p
  read_conflicts law invalidated uninvalidated c are fits s new_node x by of raw undefined missed unknown = record {
    war = sym (no_war past p no_writes);
    raw = sym (raw_rule past judged p read_steady read_alone read_keeps law ∙ ap (list_any (missed_by past judged p read_steady read_alone read_keeps access.Read)) bytes
        ∙ numbers_found past (in_buffer b) (buffer_size past b) (MissesRead c.is_cached x) (missed_by past judged p read_steady read_alone read_keeps access.Read) same c.touches are.touches o n fits raw (missed (rw are.touches_size fits)));
    waw = sym (no_waw past p no_writes);
    undefined = sym (rw is (any_found (λ k r d. r ≡ not d) c.defined o n undefined (λ k. is_none ((world past).value (in_buffer b k))) (unknown (rw are.defined_size fits)) (λ k low high q d at e.
        let same : Some d ≡ Some (is_defined past b k) = sym at ∙ are.defined k (omega (arith, high, fits)) in
        sym (e ∙ ap not (inside d (is_defined past b k) same) ∙ twice (is_none ((world past).value (in_buffer b k)))))));
  } where
    bytes : reads (p ∷ past) (next_node past p (act_next p.action)) ≡ bytes_of b o n
    bytes = ap (λ (d : Action). reads_of (p ∷ past) p.queue (act_next d)) is

    same : (k : ℕ) (r : Bool) → MissesRead c.is_cached x k r (touched past (in_buffer b k)) → missed_by past judged p read_steady read_alone read_keeps access.Read (in_buffer b k) ≡ r
    same k r = subst (λ (c1 : Byte). MissesRead c.is_cached x k r (touched past c1) → missed_by past judged p read_steady read_alone read_keeps access.Read c1 ≡ r) (of k)
        (ways.host_reads past judged.faultless p read_steady read_alone read_keeps x by.frontier (new_node_of past (next_node past p (act_next p.action)) s x.bytes access.Read x by new_node) k (ap (λ (d : Action). is_host (act_next d)) is) b (of k)
        invalidated uninvalidated read_invalidates by.access c.is_cached (are.cache ∙ ap (λ (c1 : Byte). is_cached past (resource_at c1)) (sym (of k))) (answered_as x by.access k) r)

    inside : (x y : Bool) → Some x ≡ Some y → x ≡ y
    inside x y e = cc

    twice : (t : Bool) → not (not t) ≡ t
    twice true = refl
    twice false = refl

-- ---- a host write

module _ (past : Past) (judged : IsJudged past) (p : Point) (b o : ℕ) (bytes : List ℕ) (is : p.action ≡ Host (entry.Write b o bytes)) where
  set_alone : acts p.action ≡ act_next p.action ∷ []
  set_alone = rw is refl

  set_steady : (c : Cmd) → byte_writes (p ∷ past) c ≡ byte_writes past c
  set_steady c = subst (λ (d : Action). byte_writes (record p { action = d } ∷ past) c ≡ byte_writes past c) (sym is) refl

  set_keeps : StaysCached past p
  set_keeps r = subst (λ (d : Action). is_cached (record p { action = d } ∷ past) r ≡ is_cached past r) (sym is) refl

  set_answered : (x : ResourceAccess) → x.access ≡ access.Write → (k : ℕ) → IsTrue (is_answered (λ c. is_cached (p ∷ past) (resource_at c)) (act_next p.action) (access_of x.access) (numbered_byte x.bytes k))
  set_answered x writing k = subst (λ (b : Access). IsTrue (is_answered (λ c. is_cached (p ∷ past) (resource_at c)) (act_next p.action) (access_of b) (numbered_byte x.bytes k))) (sym writing) (rw is refl)

  set_reads : (a : Act) → Contains (acts p.action) a → (q : ℕ) → reads_of (p ∷ past) q a ≡ []
  set_reads a m q = subst (λ (b : Act). reads_of (p ∷ past) q b ≡ []) (only_one (Hosts (entry.Write b o bytes)) a (subst (λ (d : Action). Contains (acts d) a) is m)) refl

  set_bytes : writes (p ∷ past) (next_node past p (act_next p.action)) ≡ bytes_of b o (length bytes)
  set_bytes = ap (λ (d : Action). writes_of (p ∷ past) p.queue (act_next d)) is

  pub set_conflicts : HostSeen → LinePrefix → (c : ResourceContents) → AreBufferContents c past b → o + length bytes ≤ buffer_size past b → (s : NewNode) → IsNewNode (nodes past) (next_node past p (act_next p.action)) s
      → (x : ResourceAccess) → IsAccess past s x.bytes access.Write x → ((k : ℕ) → numbered_byte x.bytes k ≡ in_buffer b k) → (war waw : Bool)
      → (o + length bytes ≤ length c.touches → FoundIn (HasEarlyCommand s) war c.touches o (o + length bytes)) → (o + length bytes ≤ length c.touches → FoundAt (MissesWrite x) waw c.touches o (o + length bytes))
      → AreConflicts (record { war = war; raw = false; waw = waw; undefined = false }) past p
  set_conflicts law line c are fits s new_node x by of war waw ahead missed = record {
    war = sym (war_rule past judged p set_steady set_alone set_keeps line ∙ ap (list_any (early_by past judged p set_steady set_alone set_keeps)) set_bytes
        ∙ numbers_found past (in_buffer b) (buffer_size past b) (λ k. HasEarlyCommand s) (early_by past judged p set_steady set_alone set_keeps) (λ k r h. ways.host_early past judged.faultless p set_steady set_alone set_keeps s new_node host b k r h) c.touches are.touches o (length bytes) fits war (ahead (rw are.touches_size fits)));
    raw = sym (no_raw past p set_reads);
    waw = sym (waw_rule past judged p set_steady set_alone set_keeps law ∙ ap (list_any (missed_by past judged p set_steady set_alone set_keeps access.Write)) set_bytes
        ∙ numbers_found past (in_buffer b) (buffer_size past b) (MissesWrite x) (missed_by past judged p set_steady set_alone set_keeps access.Write) same c.touches are.touches o (length bytes) fits waw (missed (rw are.touches_size fits)));
    undefined = subst (λ (d : Action). false ≡ breaks_read_undefined past (record p { action = d })) (sym is) refl;
  } where
    host : is_host (act_next p.action) ≡ true
    host = ap (λ (d : Action). is_host (act_next d)) is

    same : (k : ℕ) (r : Bool) → MissesWrite x k r (touched past (in_buffer b k)) → missed_by past judged p set_steady set_alone set_keeps access.Write (in_buffer b k) ≡ r
    same k r = subst (λ (c1 : Byte). MissesWrite x k r (touched past c1) → missed_by past judged p set_steady set_alone set_keeps access.Write c1 ≡ r) (of k)
        (subst (λ (a : Access). MissesWrite x k r (touched past (numbered_byte x.bytes k)) → missed_by past judged p set_steady set_alone set_keeps a (numbered_byte x.bytes k) ≡ r) by.access
        (ways.host_misses past judged.faultless p set_steady set_alone set_keeps x by.frontier (new_node_of past (next_node past p (act_next p.action)) s x.bytes access.Write x by new_node) k host b (of k) (set_answered x by.access k) r))

-- ---- a command with one act

module _ (past : Past) (judged : IsJudged past) (p : Point) (c : Cmd) (is : p.action ≡ Run c) (one : acts (Run c) ≡ Runs c ∷ []) where
  run_alone : acts p.action ≡ act_next p.action ∷ []
  run_alone = ap acts is ∙ one ∙ ap (λ (d : Action). act_next d ∷ []) (sym is)

  run_steady : (e : Cmd) → byte_writes (p ∷ past) e ≡ byte_writes past e
  run_steady e = subst (λ (d : Action). byte_writes (record p { action = d } ∷ past) e ≡ byte_writes past e) (sym is) refl

  run_keeps : StaysCached past p
  run_keeps r = subst (λ (d : Action). is_cached (record p { action = d } ∷ past) r ≡ is_cached past r) (sym is) refl

  run_device : is_host (act_next p.action) ≡ false
  run_device = ap (λ (d : Action). is_host (act_next d)) is

  run_answered : (k : Access) (byte : Byte) → IsTrue (is_answered (λ c. is_cached (p ∷ past) (resource_at c)) (act_next p.action) (access_of k) byte)
  run_answered k byte = rw is refl

  run_writes : writes (p ∷ past) (next_node past p (act_next p.action)) ≡ targets (byte_writes past c)
  run_writes = ap (λ (d : Action). writes_of (p ∷ past) p.queue (act_next d)) is ∙ ap targets (run_steady c)

  run_reads : reads (p ∷ past) (next_node past p (act_next p.action)) ≡ origins (byte_writes past c)
  run_reads = ap (λ (d : Action). reads_of (p ∷ past) p.queue (act_next d)) is ∙ ap origins (run_steady c)

  run_undefined : false ≡ breaks_read_undefined past p
  run_undefined = subst (λ (d : Action). false ≡ breaks_read_undefined past (record p { action = d })) (sym is) refl

  abbrev run_missed : Access → Byte → Bool
  run_missed k byte = missed_by past judged p run_steady run_alone run_keeps k byte

  abbrev run_early : Byte → Bool
  run_early byte = early_by past judged p run_steady run_alone run_keeps byte

  module _ (law : HostSeen) (flushed : FlushedSeen) (unflushed : UnflushedSeen) (line : LinePrefix) (s : NewNode) (new_node : IsNewNode (nodes past) (next_node past p (act_next p.action)) s) where
    raw : breaks_hazard_raw past p ≡ list_any (run_missed access.Read) (origins (byte_writes past c))
    raw = raw_rule past judged p run_steady run_alone run_keeps law ∙ ap (list_any (run_missed access.Read)) run_reads

    waw : breaks_hazard_waw past p ≡ list_any (run_missed access.Write) (targets (byte_writes past c))
    waw = waw_rule past judged p run_steady run_alone run_keeps law ∙ ap (list_any (run_missed access.Write)) run_writes

    war : breaks_hazard_war past p ≡ list_any run_early (targets (byte_writes past c))
    war = war_rule past judged p run_steady run_alone run_keeps line ∙ ap (list_any run_early) run_writes

    run_misses : (x : ResourceAccess) (b : Bytes) (a : Access) → IsAccess past s b a x → (k : ℕ) (c : Bool) → c ≡ is_cached past (resource_at (numbered_byte b k)) → (r : Bool) → Misses c x k r (touched past (numbered_byte b k)) → run_missed a (numbered_byte b k) ≡ r
    run_misses = missed_is past judged p run_steady run_alone run_keeps flushed unflushed run_device run_answered s new_node

    run_ahead : (b : Byte) (r : Bool) → IsEarly s r (touched past b) → run_early b ≡ r
    run_ahead = ways.command_early past judged.faultless p run_steady run_alone run_keeps s new_node run_device

    kept_of_buffer : (u : ResourceContents) (b : ℕ) → AreBufferContents u past b → (x : ResourceAccess) → ((k : ℕ) → numbered_byte x.bytes k ≡ in_buffer b k) → IsKept past x.bytes (in_buffer b) (buffer_size past b) u.is_cached u.touches
    kept_of_buffer u b are x of = record { named = of; remembered = are.touches; cache = λ k. are.cache }

    kept : (u : ResourceContents) (r : ℕ) → AreContentsOf u past r → (own : Bytes) → AreBytesOf past r own → IsKept past own (byte_at past r) (size_at past r) u.is_cached u.touches
    kept u r are own of = record { named = of.byte; remembered = are.touches; cache = λ k. are.cache ∙ ap (is_cached past) (sym ((numbered_at past r).own k)) }

    -- one that gives a range of a buffer values
    pub values_conflicts : (b o n : ℕ) → origins (byte_writes past c) ≡ [] → targets (byte_writes past c) ≡ bytes_of b o n → (u : ResourceContents) → AreBufferContents u past b → o + n ≤ buffer_size past b
        → (x : ResourceAccess) → IsAccess past s x.bytes access.Write x → ((k : ℕ) → numbered_byte x.bytes k ≡ in_buffer b k) → (war waw : Bool)
        → (o + n ≤ length u.touches → FoundIn (IsEarly s) war u.touches o (o + n)) → (o + n ≤ length u.touches → FoundAt (Misses u.is_cached x) waw u.touches o (o + n))
        → AreConflicts (record { war = war; raw = false; waw = waw; undefined = false }) past p
    values_conflicts b o n none bytes u are fits x by of early unseen ahead missed =
        found.values_conflicts past p (origins (byte_writes past c)) (targets (byte_writes past c)) run_missed run_early raw waw war run_undefined s run_misses run_ahead
        x.bytes (in_buffer b) (buffer_size past b) u.is_cached u.touches (kept_of_buffer u b are x of) o n fits none bytes x by early unseen (ahead (rw are.touches_size fits)) (missed (rw are.touches_size fits))

    -- a clear
    pub cleared_conflicts : (m : ImageInfo) (i : ℕ) (rs : List SubresourceRange) → image past i ≡ Some m → ((r : SubresourceRange) → Contains rs r → AreThere m r) → origins (byte_writes past c) ≡ [] → targets (byte_writes past c) ≡ flat_map (λ r. map (λ p. p.0) (subresource_bytes i m r)) rs
        → (u : ResourceContents) → AreContentsOf u past i → (x : ResourceAccess) → IsAccess past s x.bytes access.Write x → AreBytesOf past i x.bytes → (war waw : Bool)
        → FoundAmong (FoundInSubresources (λ r low high. FoundIn (IsEarly s) r u.touches low high) m) war rs → FoundAmong (FoundInSubresources (λ r low high. FoundAt (Misses u.is_cached x) r u.touches low high) m) waw rs
        → AreConflicts (record { war = war; raw = false; waw = waw; undefined = false }) past p
    cleared_conflicts m i rs of fits none bytes u are x by own =
        found.clear_conflicts past p (origins (byte_writes past c)) (targets (byte_writes past c)) run_missed run_early raw waw war run_undefined s run_misses run_ahead
        x.bytes (byte_at past i) (size_at past i) u.is_cached u.touches (kept u i are x.bytes own) m i rs (byte_of_image past i m of) (size_of_image past i m of) fits none bytes x by

    -- a copy of numbers
    pub numbers_conflicts : (b d : ℕ) (gs : List BufferCopy) → byte_writes past c ≡ flat_map (numbered_writes (byte_at past b) (byte_at past d)) gs
        → (u v : ResourceContents) → AreContentsOf u past b → AreContentsOf v past d → ((g : BufferCopy) → Contains gs g → g.source_offset + g.size ≤ size_at past b) → ((g : BufferCopy) → Contains gs g → g.destination_offset + g.size ≤ size_at past d)
        → (x : ResourceAccess) → IsAccess past s x.bytes access.Read x → AreBytesOf past b x.bytes → (y : ResourceAccess) → IsAccess past s y.bytes access.Write y → AreBytesOf past d y.bytes → (war raw waw : Bool)
        → FoundAmong (λ r g. g.destination_offset + g.size ≤ length v.touches → FoundIn (IsEarly s) r v.touches g.destination_offset (g.destination_offset + g.size)) war gs
        → FoundAmong (λ r g. g.source_offset + g.size ≤ length u.touches → FoundAt (Misses u.is_cached x) r u.touches g.source_offset (g.source_offset + g.size)) raw gs
        → FoundAmong (λ r g. g.destination_offset + g.size ≤ length v.touches → FoundAt (Misses v.is_cached y) r v.touches g.destination_offset (g.destination_offset + g.size)) waw gs
        → AreConflicts (record { war = war; raw = raw; waw = waw; undefined = false }) past p
    numbers_conflicts b d gs copies u v are_u are_v fits_u fits_v x x_by x_of y y_by y_of early unread unwritten ahead missed_read missed_write =
        found.copy_conflicts past p (origins (byte_writes past c)) (targets (byte_writes past c)) run_missed run_early raw waw war run_undefined s run_misses run_ahead
        x.bytes y.bytes (byte_at past b) (byte_at past d) (size_at past b) (size_at past d) u.is_cached v.is_cached u.touches v.touches (kept u b are_u x.bytes x_of) (kept v d are_v y.bytes y_of) gs
        (ap origins copies ∙ origins_flat (byte_at past b) (byte_at past d) gs) (ap targets copies ∙ targets_flat (byte_at past b) (byte_at past d) gs) fits_u fits_v x x_by y y_by early unread unwritten
        (within gs (λ g. g.destination_offset + g.size ≤ length v.touches) (λ g k. rw are_v.touches_size (fits_v g k)) (λ r g. FoundIn (IsEarly s) r v.touches g.destination_offset (g.destination_offset + g.size)) early ahead)
        (within gs (λ g. g.source_offset + g.size ≤ length u.touches) (λ g k. rw are_u.touches_size (fits_u g k)) (λ r g. FoundAt (Misses u.is_cached x) r u.touches g.source_offset (g.source_offset + g.size)) unread missed_read)
        (within gs (λ g. g.destination_offset + g.size ≤ length v.touches) (λ g k. rw are_v.touches_size (fits_v g k)) (λ r g. FoundAt (Misses v.is_cached y) r v.touches g.destination_offset (g.destination_offset + g.size)) unwritten missed_write)
      where
        -- of copies that lie in a resource
        within : (gs : List BufferCopy) (fit : BufferCopy → Type 0) → ((g : BufferCopy) → Contains gs g → fit g) → (is : Bool → BufferCopy → Type 0) → (r : Bool) → FoundAmong (λ r g. fit g → is r g) r gs → FoundAmong is r gs
        within gs fit fits is true h = (h.0, h.1, h.2 (fits h.0 h.1))
        within gs fit fits is false h = λ g k. h g k (fits g k)

-- ---- fills and updates

module _ (past : Past) (judged : IsJudged past) (p : Point) (law : HostSeen) (flushed : FlushedSeen) (unflushed : UnflushedSeen) (line : LinePrefix) (s : NewNode) (new_node : IsNewNode (nodes past) (next_node past p (act_next p.action)) s) where
  pub fill_conflicts : (b o : ℕ) (n : Length) (w : ℕ) → p.action ≡ Run (cmd.Fill b o n w) → (u : ResourceContents) → AreBufferContents u past b → o + fill_size (buffer_size past b) o n ≤ buffer_size past b
      → (x : ResourceAccess) → IsAccess past s x.bytes access.Write x → ((k : ℕ) → numbered_byte x.bytes k ≡ in_buffer b k) → (war waw : Bool)
      → (o + fill_size (buffer_size past b) o n ≤ length u.touches → FoundIn (IsEarly s) war u.touches o (o + fill_size (buffer_size past b) o n))
      → (o + fill_size (buffer_size past b) o n ≤ length u.touches → FoundAt (Misses u.is_cached x) waw u.touches o (o + fill_size (buffer_size past b) o n))
      → AreConflicts (record { war = war; raw = false; waw = waw; undefined = false }) past p
  fill_conflicts b o n w is = values_conflicts past judged p (cmd.Fill b o n w) is refl law flushed unflushed line s new_node b o (fill_size (buffer_size past b) o n) (fill-origins past b o n w) (fill-targets past b o n w)

  pub update_conflicts : (b o : ℕ) (bytes : List ℕ) → p.action ≡ Run (cmd.Update b o bytes) → (u : ResourceContents) → AreBufferContents u past b → o + length bytes ≤ buffer_size past b
      → (x : ResourceAccess) → IsAccess past s x.bytes access.Write x → ((k : ℕ) → numbered_byte x.bytes k ≡ in_buffer b k) → (war waw : Bool)
      → (o + length bytes ≤ length u.touches → FoundIn (IsEarly s) war u.touches o (o + length bytes)) → (o + length bytes ≤ length u.touches → FoundAt (Misses u.is_cached x) waw u.touches o (o + length bytes))
      → AreConflicts (record { war = war; raw = false; waw = waw; undefined = false }) past p
  update_conflicts b o bytes is = values_conflicts past judged p (cmd.Update b o bytes) is refl law flushed unflushed line s new_node b o (length bytes) (update-origins past b o bytes) (update-targets past b o bytes)
