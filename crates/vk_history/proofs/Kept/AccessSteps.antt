-- What is kept of the bytes of resources after host entries, fills and updates, and after what touches none.
use Rattle.std.proofs.Common.{arith, ◌≡◌, ◌≢◌, ◌≤◌, ◌<◌, ◌+◌, ℕ, List, [], ◌∷◌, map, length, Bool, true, false, not, ◌&&◌, ◌==◌, refl, ap, sym, ◌∙◌, subst, Option, Some, None, inl, inr, ◌⊎◌}
use Rattle.std.specs.Prelude.{is_some, is_none, if◌then◌else◌, ◌-◌, ◌%◌, nat_le, slice_get}
use Rattle.std.specs.Option.{option_or}
use Rattle.vk_ids.specs.Ids.{value_of}
use Rattle.std.proofs.lemmas.Bool.{eq-eqb, cases_lt, lt-ltb, le-ltb, le-leb, lt-leb}
use Rattle.std.proofs.Math.Bool.{and-false}
use Rattle.std.proofs.lemmas.Option.{slice_get-get_or, slice_get_past}
use Rattle.vk_model.specs.declared.command.Cmd.{Cmd}
use Rattle.vk_model.specs.declared.command.Cmd.TheVariants as cmd
use Rattle.vk_model.specs.declared.command.Length.{Length}
use Rattle.vk_model.specs.declared.entry.Entry.{Entry}
use Rattle.vk_model.specs.declared.entry.Entry.TheVariants as entry
use Rattle.vk_model.specs.Basics.{below, within, byte_of}
use Rattle.vk_model.specs.World.Bytes.{Byte, in_buffer, in_image, resource_at, World}
use Rattle.vk_model.specs.World.ByteWrites.{Value, byte_write, buffer_size, fill_size, byte_writes}
use Rattle.vk_model.specs.World.Effect.{world, after_action, after_command, after_host, after_writes, used, written}
use Rattle.vk_model.specs.World.Ownership.{family_of}
use Rattle.vk_model.specs.Trace.Objects.{buffer, resource, resource_in, is_cached}
use Rattle.vk_model.specs.Trace.Point.{Past, Point, Action, Host, Wait, Run, Signal}
use Rattle.vk_model.specs.Sync.Access.{is_in, targets, origins, host_reads, host_writes}
use Rattle.vk_model.specs.Sync.Node.{Hosts}
use Rattle.vk_model.specs.Sync.Seen.{flushes, invalidates}
use Rattle.vk_model.proofs.Lists.Members.{contains-head}
use Rattle.vk_history.specs.declared.resource_contents.ResourceContents.{ResourceContents}
use Rattle.vk_history.specs.declared.contents.Contents.{Contents}
use Rattle.vk_touches.specs.declared.touches.Touch.{Touch}
use Rattle.vk_touches.specs.declared.touches.Touch.TheVariants as touch
use Rattle.vk_model.specs.Rules.Table.{fault}
use Rattle.vk_touches.specs.Remembered.{with_touch}
use Rattle.vk_touches.specs.Touched.{touches, touched, next_spot, has_transition}
use Rattle.vk_history.specs.Contents.{AreContents, AreContentsIn, BecomesIn, IsRead, IsSet, IsWritten, IsWrittenBy, has_value, byte_at, size_at, as_before, assigns, defines, left_of, owner_after, holder_of}
use Rattle.vk_touches.specs.TouchedRanges.{touching}
use Rattle.vk_history.specs.declared.changes.Change.TheVariants as change
use Rattle.vk_history.specs.Changes.{Fits, is_quiet}
use Rattle.vk_history.proofs.Points.Ranges.{fill-targets, fill-origins, update-targets, update-origins}
use Rattle.vk_history.proofs.Making.Worlds.{used_dirty, values_define, turned_about}
use Rattle.vk_touches.proofs.Touching.Remembering.{touched_by_host, touched_by_command, merged_host_read, merged_host_write, merged_command}
use Rattle.vk_history.proofs.Kept.NextPoint.{there_on_host, there_for_command}
use Rattle.vk_history.proofs.Kept.ContentSteps.{IsStill, still_here, no_touch, untouched, one_changed, next_of, of_contents, taken_owner, left_is, used_apart}
use Rattle.vk_history.proofs.Making.Numbers.{numbered_at, in_bytes, in_bytes_is, bytes_of_other, byte_of_buffer, size_of_buffer, buffer_is_resource}

-- ---- points that touch no byte

module _ (past : Past) (p : Point) where
  quiet_batch : (d : Action) → is_quiet d ≡ true → (t : Touch) (b : Byte) → ((c : Cmd) → d ≡ Run c → byte_writes (p ∷ past) c ≡ []) → ((x : Entry) → d ≡ Host x → ⊥) → touches t b past p d ≡ false
  quiet_batch (Host x) q t b none host = absurd (host x refl)
  quiet_batch (Wait s) q touch.Write b none host = refl
  quiet_batch (Wait s) q touch.HostWrite b none host = refl
  quiet_batch (Wait s) q touch.HostRead b none host = refl
  quiet_batch (Wait s) q (touch.Read r) b none host = refl
  quiet_batch (Signal s) q touch.Write b none host = refl
  quiet_batch (Signal s) q touch.HostWrite b none host = refl
  quiet_batch (Signal s) q touch.HostRead b none host = refl
  quiet_batch (Signal s) q (touch.Read r) b none host = refl
  quiet_batch (Run c) q touch.Write b none host = ap (λ ms. is_in b (targets ms)) (none c refl)
  quiet_batch (Run c) q touch.HostWrite b none host = refl
  quiet_batch (Run c) q touch.HostRead b none host = refl
  quiet_batch (Run c) q (touch.Read r) b none host = ap (λ ms. p.queue == r && is_in b (origins ms)) (none c refl) ∙ and-false (p.queue == r)

  module _ (clean : fault (p ∷ past) ≡ None) where
    -- an entry that changes nothing
    plain : (x : Entry) → ((w : World) → after_host past x w ≡ w) → host_writes x ≡ [] → host_reads x ≡ [] → ((c : Byte) → flushes (Hosts x) c ≡ false) → ((c : Byte) → invalidates (Hosts x) c ≡ false) → is_some (resource_in x) ≡ false → IsStill past p clean (Host x)
    plain x same w r f v n = record {
      owner = λ b. ap (λ (w : World). w.owner b) (same (world past));
      value = λ c. ap (λ (w : World). is_none (w.value c)) (same (world past));
      dirty = λ c. ap (λ (w : World). w.dirty c) (same (world past));
      touches = no_touch past p clean x w r;
      unflushed = f;
      valid = v;
      unmoved = λ c. refl;
      resources = n;
    }

    still_host : (x : Entry) → is_quiet (Host x) ≡ true → IsStill past p clean (Host x)
    still_host (entry.Buffer i b) q = absurd cc
    still_host (entry.Image i m) q = absurd cc
    still_host (entry.Read b o n) q = absurd cc
    still_host (entry.Write b o bytes) q = absurd cc
    still_host (entry.Flush b o n) q = absurd cc
    still_host (entry.Invalidate b o n) q = absurd cc
    still_host (entry.Map b) q = plain (entry.Map b) (λ w. refl) refl refl (λ c. refl) (λ c. refl) refl
    still_host (entry.Unmap b) q = plain (entry.Unmap b) (λ w. refl) refl refl (λ c. refl) (λ c. refl) refl
    still_host (entry.Semaphore i v) q = plain (entry.Semaphore i v) (λ w. refl) refl refl (λ c. refl) (λ c. refl) refl
    still_host (entry.Wait ws) q = plain (entry.Wait ws) (λ w. refl) refl refl (λ c. refl) (λ c. refl) refl
    still_host (entry.Submit u bs) q = plain (entry.Submit u bs) (λ w. refl) refl refl (λ c. refl) (λ c. refl) refl
    still_host (entry.Pool i x) q = plain (entry.Pool i x) (λ w. refl) refl refl (λ c. refl) (λ c. refl) refl
    still_host (entry.Memory i m) q = plain (entry.Memory i m) (λ w. refl) refl refl (λ c. refl) (λ c. refl) refl
    still_host (entry.Free m) q = plain (entry.Free m) (λ w. refl) refl refl (λ c. refl) (λ c. refl) refl
    still_host (entry.Destroy r) q = plain (entry.Destroy r) (λ w. refl) refl refl (λ c. refl) (λ c. refl) refl
    still_host (entry.DropPool u) q = plain (entry.DropPool u) (λ w. refl) refl refl (λ c. refl) (λ c. refl) refl
    still_host (entry.Event i) q = plain (entry.Event i) (λ w. refl) refl refl (λ c. refl) (λ c. refl) refl
    still_host (entry.Signal s v) q = plain (entry.Signal s v) (λ w. refl) refl refl (λ c. refl) (λ c. refl) refl
    still_host (entry.Defrag i u n m) q = plain (entry.Defrag i u n m) (λ w. refl) refl refl (λ c. refl) (λ c. refl) refl
    still_host (entry.Pass d) q = plain (entry.Pass d) (λ w. refl) refl refl (λ c. refl) (λ c. refl) refl
    still_host (entry.EndPass d kept lost) q = plain (entry.EndPass d kept lost) (λ w. refl) refl refl (λ c. refl) (λ c. refl) refl
    still_host (entry.EndDefrag d) q = plain (entry.EndDefrag d) (λ w. refl) refl refl (λ c. refl) (λ c. refl) refl

    no_writes : (c : Cmd) → byte_writes (p ∷ past) c ≡ [] → (e : Cmd) → Run c ≡ Run e → byte_writes (p ∷ past) e ≡ []
    no_writes c none e is = let same : c ≡ e = cc in subst (λ (x : Cmd). byte_writes (p ∷ past) x ≡ []) same none

    still_command : (c : Cmd) → is_quiet (Run c) ≡ true → IsStill past p clean (Run c)
    still_command (cmd.Fill b o n w) q = absurd cc
    still_command (cmd.Update b o bytes) q = absurd cc
    still_command (cmd.Copy s d gs) q = absurd cc
    still_command (cmd.Clear i l color rs) q = absurd cc
    still_command (cmd.CopyIn b i l gs) q = absurd cc
    still_command (cmd.CopyOut i l b gs) q = absurd cc
    still_command (cmd.CopyImage s l d m gs) q = absurd cc
    still_command (cmd.Barrier es) q = absurd cc
    still_command (cmd.Set v ms) q = record { owner = λ b. refl; value = λ c. refl; dirty = λ c. refl; touches = λ t b. quiet_batch (Run (cmd.Set v ms)) q t b (no_writes (cmd.Set v ms) refl) (λ x e. absurd cc); unflushed = λ c. refl; valid = λ c. refl; unmoved = λ c. refl; resources = refl }
    still_command (cmd.Await v ms) q = record { owner = λ b. refl; value = λ c. refl; dirty = λ c. refl; touches = λ t b. quiet_batch (Run (cmd.Await v ms)) q t b (no_writes (cmd.Await v ms) refl) (λ x e. absurd cc); unflushed = λ c. refl; valid = λ c. refl; unmoved = λ c. refl; resources = refl }

    still : (d : Action) → is_quiet d ≡ true → IsStill past p clean d
    still (Host x) q = still_host x q
    still (Wait s) q = record { owner = λ b. refl; value = λ c. refl; dirty = λ c. refl; touches = λ t b. quiet_batch (Wait s) q t b (λ c e. absurd cc) (λ x e. absurd cc); unflushed = λ c. refl; valid = λ c. refl; unmoved = λ c. refl; resources = refl }
    still (Run c) q = still_command c q
    still (Signal s) q = record { owner = λ b. refl; value = λ c. refl; dirty = λ c. refl; touches = λ t b. quiet_batch (Signal s) q t b (λ c e. absurd cc) (λ x e. absurd cc); unflushed = λ c. refl; valid = λ c. refl; unmoved = λ c. refl; resources = refl }

    -- what makes no resource, and neither reads nor writes one, leaves all
    pub quiet_step : is_quiet p.action ≡ true → (contents : Contents) → AreContents contents past → AreContents contents (p ∷ past)
    quiet_step q contents are b = untouched past p clean (value_of contents.resources b) b (still_here past p clean p.action refl (still p.action q) b) (are b)

-- ---- accesses by the host

-- the bytes of a range of a buffer that is there, by their numbers
pub in_own : (past : Past) (b o n : ℕ) → is_some (buffer past b) ≡ true → (k : ℕ) → in_bytes b o n (byte_at past b k) ≡ within o n k
in_own past b o n there k = ap (in_bytes b o n) (byte_of_buffer past b there k) ∙ rw (eq-eqb b b refl) refl

module _ (past : Past) (p : Point) (clean : fault (p ∷ past) ≡ None) (b o n : ℕ) (is : p.action ≡ Host (entry.Read b o n)) where
  read_there : is_some (buffer past b) ≡ true
  read_there = there_on_host past p clean (entry.Read b o n) is b (contains-head _ [])

  pub read_step : (old new : Contents) → BecomesIn (λ u v. IsRead u v o n (next_spot past p)) (value_of old.resources b) (value_of new.resources b)
      → ((other : ℕ) → other ≢ b → value_of new.resources other ≡ value_of old.resources other) → AreContents old past → AreContents new (p ∷ past)
  read_step old new here others = one_changed past p clean b (buffer_is_resource past b read_there) (λ u v. IsRead u v o n (next_spot past p)) old new here others
      (λ u v a h. next_of past p clean b u v u.owner as_before as_before (touching (within o n) touch.HostRead (next_spot past p)) a h (a.owner ∙ sym (ap holder_of (owned b))) (λ k lt. sym (valued (byte_at past b k))) (λ k lt. sym (soiled (byte_at past b k)))
      (λ k lt. sym (seen (byte_at past b k) (within o n k) (in_own past b o n read_there k))))
      (λ r e. record { unmade = λ none. ap is_some (kept r) ∙ none; owner = owned r; defined = λ c own. valued c; dirty = λ c own. soiled c; touches = λ c own. seen c false (bytes_of_other b o n r c e own) })
    where
      kept : (c : ℕ) → resource (p ∷ past) c ≡ resource past c
      kept c = rw is refl

      owned : (c : ℕ) → (world (p ∷ past)).owner c ≡ (world past).owner c
      owned c = ap (λ (e : Action). (after_action past p.queue e (world past)).owner c) is

      valued : (c : Byte) → has_value (world (p ∷ past)) c ≡ has_value (world past) c
      valued c = ap (λ (e : Action). not (is_none ((after_action past p.queue e (world past)).value c))) is

      soiled : (c : Byte) → (world (p ∷ past)).dirty c ≡ (world past).dirty c
      soiled c = ap (λ (e : Action). (after_action past p.queue e (world past)).dirty c) is

      seen : (c : Byte) (t : Bool) → in_bytes b o n c ≡ t → touched (p ∷ past) c ≡ (if t then with_touch (touched past c) touch.HostRead (next_spot past p) else touched past c)
      seen c t e = touched_by_host past p c (entry.Read b o n) is false t refl (in_bytes_is b o n c ∙ e) refl refl ∙ merged_host_read t (touched past c) (next_spot past p)

-- what a host write gives
written_at : (b o : ℕ) (bytes : List ℕ) (c : Byte) (v : Option ℕ) → is_none (option_or (written b o bytes c) v) ≡ (if in_bytes b o (length bytes) c then false else is_none v)
written_at b o bytes (in_image i l a x y p) v = refl
written_at b o bytes (in_buffer c k) v = rw (turned_about b c) (go (c == b) (cases_lt k o) (cases_lt k (o + length bytes))) where
  go : (t : Bool) → (k < o) ⊎ (o ≤ k) → (k < o + length bytes) ⊎ (o + length bytes ≤ k) → is_none (option_or (if t && nat_le o k then slice_get bytes (k - o) else None) v) ≡ (if t && within o (length bytes) k then false else is_none v)
  go false below above = refl
  go true (inl lt) above = rw (lt-leb o k lt) refl
  go true (inr ge) (inl lt) = rw (le-leb o k ge, lt-ltb k (o + length bytes) lt, slice_get-get_or bytes (k - o) 0 (omega (arith, ge, lt))) refl
  go true (inr ge) (inr past) = rw (le-leb o k ge, le-ltb k (o + length bytes) past, slice_get_past bytes (k - o) (omega (arith, ge, past))) refl

-- and which bytes it makes dirty
soiled_at : (cached : Bool) (b o : ℕ) (bytes : List ℕ) (c : Byte) (was : Bool) → (let d : Bool = elim (written b o bytes c) [ None ↦ was | Some n ↦ cached ] in d) ≡ (if in_bytes b o (length bytes) c then cached else was)
soiled_at cached b o bytes c was = go (written b o bytes c) (in_bytes b o (length bytes) c) (written_at b o bytes c None) where
  go : (w : Option ℕ) (t : Bool) → is_none (option_or w None) ≡ (if t then false else true) → (let d : Bool = elim w [ None ↦ was | Some n ↦ cached ] in d) ≡ (if t then cached else was)
  go None true e = absurd cc
  go None false e = refl
  go (Some n) true e = refl
  go (Some n) false e = absurd cc

module _ (past : Past) (p : Point) (clean : fault (p ∷ past) ≡ None) (b o : ℕ) (bytes : List ℕ) (is : p.action ≡ Host (entry.Write b o bytes)) where
  set_there : is_some (buffer past b) ≡ true
  set_there = there_on_host past p clean (entry.Write b o bytes) is b (contains-head _ [])

  pub set_step : (old new : Contents) → BecomesIn (λ u v. IsSet u v o (length bytes) (next_spot past p)) (value_of old.resources b) (value_of new.resources b)
      → ((other : ℕ) → other ≢ b → value_of new.resources other ≡ value_of old.resources other) → AreContents old past → AreContents new (p ∷ past)
  set_step old new here others = one_changed past p clean b (buffer_is_resource past b set_there) (λ u v. IsSet u v o (length bytes) (next_spot past p)) old new here others
      (λ u v a h. next_of past p clean b u v u.owner (defines (within o (length bytes))) (assigns (within o (length bytes)) u.is_cached) (touching (within o (length bytes)) touch.HostWrite (next_spot past p)) a h (a.owner ∙ sym (ap holder_of (owned b)))
      (λ k lt. sym (valued (byte_at past b k) (within o (length bytes) k) (in_own past b o (length bytes) set_there k)))
      (λ k lt. ap (λ (t : Bool). if within o (length bytes) k then t else (world past).dirty (byte_at past b k)) a.cache ∙ sym (soiled (byte_at past b k) (within o (length bytes) k) (in_own past b o (length bytes) set_there k)))
      (λ k lt. sym (seen (byte_at past b k) (within o (length bytes) k) (in_own past b o (length bytes) set_there k))))
      (λ r e. record {
        unmade = λ none. ap is_some (kept r) ∙ none;
        owner = owned r;
        defined = λ c own. valued c false (bytes_of_other b o (length bytes) r c e own);
        dirty = λ c own. soiled c false (bytes_of_other b o (length bytes) r c e own);
        touches = λ c own. seen c false (bytes_of_other b o (length bytes) r c e own);
      })
    where
      kept : (c : ℕ) → resource (p ∷ past) c ≡ resource past c
      kept c = rw is refl

      owned : (c : ℕ) → (world (p ∷ past)).owner c ≡ (world past).owner c
      owned c = ap (λ (e : Action). (after_action past p.queue e (world past)).owner c) is

      valued : (c : Byte) (t : Bool) → in_bytes b o (length bytes) c ≡ t → has_value (world (p ∷ past)) c ≡ (if t then true else has_value (world past) c)
      valued c t e = ap (λ (e : Action). not (is_none ((after_action past p.queue e (world past)).value c))) is ∙ ap not (written_at b o bytes c ((world past).value c) ∙ ap (λ (t : Bool). if t then false else is_none ((world past).value c)) e) ∙ go t where
        go : (t : Bool) → not (if t then false else is_none ((world past).value c)) ≡ (if t then true else has_value (world past) c)
        go true = refl
        go false = refl

      soiled : (c : Byte) (t : Bool) → in_bytes b o (length bytes) c ≡ t → (world (p ∷ past)).dirty c ≡ (if t then is_cached past b else (world past).dirty c)
      soiled c t e = ap (λ (e : Action). (after_action past p.queue e (world past)).dirty c) is ∙ soiled_at (is_cached past b) b o bytes c ((world past).dirty c) ∙ ap (λ (t : Bool). if t then is_cached past b else (world past).dirty c) e

      seen : (c : Byte) (t : Bool) → in_bytes b o (length bytes) c ≡ t → touched (p ∷ past) c ≡ (if t then with_touch (touched past c) touch.HostWrite (next_spot past p) else touched past c)
      seen c t e = touched_by_host past p c (entry.Write b o bytes) is t false (in_bytes_is b o (length bytes) c ∙ e) refl refl refl ∙ merged_host_write t (touched past c) (next_spot past p)

-- ---- a command that gives bytes of a resource values

-- whether it writes a byte
abbrev pub writes_byte : Past → Cmd → Byte → Bool
writes_byte past c b = is_in b (targets (byte_writes past c))

-- such a command
pub record GivesValues (past : Past) (p : Point) (c : Cmd) (r : ℕ) : Type 0 where
  pub owner : (w : World) (s : ℕ) → (after_command past (family_of p.queue) c w).owner s ≡ (used past (family_of p.queue) r w).owner s
  pub dirty : (w : World) (byte : Byte) → (after_command past (family_of p.queue) c w).dirty byte ≡ (used past (family_of p.queue) r w).dirty byte
  pub value : (w : World) (byte : Byte) → (after_command past (family_of p.queue) c w).value byte ≡ after_writes (byte_writes past c) (used past (family_of p.queue) r w).value byte
  pub reads_none : origins (byte_writes past c) ≡ []
  pub unmoved : (byte : Byte) → has_transition byte past p (Run c) ≡ false
  pub writes_now : byte_writes (p ∷ past) c ≡ byte_writes past c
  pub there : is_some (resource past r) ≡ true
  pub others : (byte : Byte) (s : ℕ) → (s == r) ≡ false → resource_at byte ≡ s → writes_byte past c byte ≡ false

module _ (past : Past) (p : Point) (clean : fault (p ∷ past) ≡ None) (c : Cmd) (r : ℕ) (is : p.action ≡ Run c) (gives : GivesValues past p c r) where
  abbrev family : ℕ
  family = family_of p.queue

  abbrev ready : World
  ready = used past family r (world past)

  kept : (s : ℕ) → resource (p ∷ past) s ≡ resource past s
  kept s = rw is refl

  owned : (s : ℕ) → (world (p ∷ past)).owner s ≡ ready.owner s
  owned s = ap (λ (e : Action). (after_action past p.queue e (world past)).owner s) is ∙ gives.owner (world past) s

  soiled : (byte : Byte) → (world (p ∷ past)).dirty byte ≡ (world past).dirty byte
  soiled byte = ap (λ (e : Action). (after_action past p.queue e (world past)).dirty byte) is ∙ gives.dirty (world past) byte ∙ used_dirty past family r (world past) byte

  valued : (byte : Byte) (t : Bool) → writes_byte past c byte ≡ t → has_value (world (p ∷ past)) byte ≡ (if t then true else has_value ready byte)
  valued byte t e =
      ap (λ (e : Action). not (is_none ((after_action past p.queue e (world past)).value byte))) is ∙ ap (λ (v : Option ℕ). not (is_none v)) (gives.value (world past) byte)
      ∙ ap not (values_define ready.value byte (byte_writes past c) gives.reads_none ∙ ap (λ (t : Bool). if t then false else is_none (ready.value byte)) e) ∙ go t
    where
      go : (t : Bool) → not (if t then false else is_none (ready.value byte)) ≡ (if t then true else has_value ready byte)
      go true = refl
      go false = refl

  seen : (byte : Byte) (t : Bool) → writes_byte past c byte ≡ t → touched (p ∷ past) byte ≡ (if t then with_touch (touched past byte) touch.Write (next_spot past p) else touched past byte)
  seen byte t e =
      touched_by_command past p byte c is (gives.unmoved byte) t false (ap (λ ms. is_in byte (targets ms)) gives.writes_now ∙ e) (ap (λ ms. is_in byte (origins ms)) gives.writes_now ∙ ap (is_in byte) gives.reads_none)
      ∙ merged_command t false p.queue (touched past byte) (next_spot past p)

  pub values_step : (hits : ℕ → Bool) → ((k : ℕ) → k < size_at past r → writes_byte past c (byte_at past r k) ≡ hits k) → (old new : Contents) → BecomesIn (λ u v. IsWritten u v hits family (next_spot past p)) (value_of old.resources r) (value_of new.resources r)
      → ((other : ℕ) → other ≢ r → value_of new.resources other ≡ value_of old.resources other) → AreContents old past → AreContents new (p ∷ past)
  values_step hits hit old new here others = one_changed past p clean r gives.there (λ u v. IsWritten u v hits family (next_spot past p)) old new here others
      (λ u v a h. next_of past p clean r u v (owner_after u family) (λ k d. defines hits k (left_of u family k d)) as_before (touching hits touch.Write (next_spot past p)) a h
      (taken_owner past family (world past) r u (of_contents past r u a) ∙ sym (ap holder_of (owned r)))
      (λ k lt. ap (defines hits k) (left_is past family (world past) r u (of_contents past r u a) k (byte_at past r k) ((numbered_at past r).own k)) ∙ sym (valued (byte_at past r k) (hits k) (hit k lt)))
      (λ k lt. sym (soiled (byte_at past r k)))
      (λ k lt. sym (seen (byte_at past r k) (hits k) (hit k lt))))
      (λ s e. let apart = used_apart past family (world past) r s e in record {
        unmade = λ none. ap is_some (kept s) ∙ none;
        owner = owned s ∙ apart.0;
        defined = λ byte own. valued byte false (gives.others byte s e own) ∙ apart.1 byte own;
        dirty = λ byte own. soiled byte;
        touches = λ byte own. seen byte false (gives.others byte s e own);
      })

module _ (past : Past) (p : Point) (clean : fault (p ∷ past) ≡ None) (b o : ℕ) where
  same_buffer_size : (c : Cmd) → p.action ≡ Run c → buffer_size (p ∷ past) b ≡ buffer_size past b
  same_buffer_size c is = rw is refl

  pub fill_gives : (n : Length) (w : ℕ) → p.action ≡ Run (cmd.Fill b o n w) → GivesValues past p (cmd.Fill b o n w) b
  fill_gives n w is = record {
    owner = λ v s. refl;
    dirty = λ v byte. refl;
    value = λ v byte. refl;
    unmoved = λ byte. refl;
    reads_none = fill-origins past b o n w;
    writes_now = ap (λ (m : ℕ). map (λ k. byte_write (in_buffer b (o + k)) (Value (byte_of w (k % 4)))) (below (fill_size m o n))) (same_buffer_size (cmd.Fill b o n w) is);
    there = buffer_is_resource past b (there_for_command past p clean (cmd.Fill b o n w) is b (contains-head _ []));
    others = λ byte s e own. ap (is_in byte) (fill-targets past b o n w) ∙ in_bytes_is b o (fill_size (buffer_size past b) o n) byte ∙ bytes_of_other b o (fill_size (buffer_size past b) o n) s byte e own;
  }

  pub update_gives : (bytes : List ℕ) → p.action ≡ Run (cmd.Update b o bytes) → GivesValues past p (cmd.Update b o bytes) b
  update_gives bytes is = record {
    owner = λ v s. refl;
    dirty = λ v byte. refl;
    value = λ v byte. refl;
    unmoved = λ byte. refl;
    reads_none = update-origins past b o bytes;
    writes_now = refl;
    there = buffer_is_resource past b (there_for_command past p clean (cmd.Update b o bytes) is b (contains-head _ []));
    others = λ byte s e own. ap (is_in byte) (update-targets past b o bytes) ∙ in_bytes_is b o (length bytes) byte ∙ bytes_of_other b o (length bytes) s byte e own;
  }

-- the size that a buffer is kept with is its own
sized : (past : Past) (p : Point) (b o : ℕ) (n : Length) (size : ℕ) → is_some (buffer past b) ≡ true → fill_size (buffer_size past b) o n ≡ size → (u v : Option ResourceContents) → AreContentsIn u past b → BecomesIn (IsWrittenBy o n p.queue (next_spot past p)) u v
    → BecomesIn (λ u v. IsWritten u v (within o size) (family_of p.queue) (next_spot past p)) u v
sized past p b o n size there e None v a h = h
sized past p b o n size there e (Some u) None a h = absurd h
sized past p b o n size there e (Some u) (Some v) a h = subst (λ (m : ℕ). IsWritten u v (within o m) (family_of p.queue) (next_spot past p)) (ap (λ (m : ℕ). fill_size m o n) (a.defined_size ∙ size_of_buffer past b there) ∙ e) h

-- a fill or an update
pub written_step : (past : Past) (p : Point) (clean : fault (p ∷ past) ≡ None) (b o : ℕ) (n : Length) → Fits (change.Written b o n) p.action → (old new : Contents)
    → BecomesIn (IsWrittenBy o n p.queue (next_spot past p)) (value_of old.resources b) (value_of new.resources b)
    → ((other : ℕ) → other ≢ b → value_of new.resources other ≡ value_of old.resources other) → AreContents old past → AreContents new (p ∷ past)
written_step past p clean b o n (inl fill) old new here others are =
    let size : ℕ = fill_size (buffer_size past b) o n in
    let there = there_for_command past p clean (cmd.Fill b o n fill.0) fill.1 b (contains-head _ []) in
    values_step past p clean (cmd.Fill b o n fill.0) b fill.1 (fill_gives past p clean b o n fill.0 fill.1) (within o size)
    (λ k lt. ap (is_in (byte_at past b k)) (fill-targets past b o n fill.0) ∙ in_bytes_is b o size (byte_at past b k) ∙ in_own past b o size there k)
    old new (sized past p b o n size there refl (value_of old.resources b) (value_of new.resources b) (are b) here) others are
written_step past p clean b o n (inr update) old new here others are =
    let there = there_for_command past p clean (cmd.Update b o update.0) update.1 b (contains-head _ []) in
    values_step past p clean (cmd.Update b o update.0) b update.1 (update_gives past p clean b o update.0 update.1) (within o (length update.0))
    (λ k lt. ap (is_in (byte_at past b k)) (update-targets past b o update.0) ∙ in_bytes_is b o (length update.0) (byte_at past b k) ∙ in_own past b o (length update.0) there k)
    old new (sized past p b o n (length update.0) there (ap (fill_size (buffer_size past b) o) update.2) (value_of old.resources b) (value_of new.resources b) (are b) here) others are
