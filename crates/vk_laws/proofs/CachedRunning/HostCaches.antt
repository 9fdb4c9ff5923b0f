-- What the host's cache holds at a stage: bytes of cached memory alone, and dirty ones only where the world has them dirty.
use Rattle.std.proofs.Common.{◌≡◌, ℕ, List, [], ◌∷◌, ◌++◌, Bool, true, false, ◌&&◌, IsTrue, Option, Some, None, refl, ap, sym, ◌∙◌, subst, arith}
use Rattle.std.specs.Prelude.{Contains, ◌==◌, ◌/◌, ◌+◌, ◌-◌, nat_lt, nat_le, option_and_then, slice_get, if◌then◌else◌}
use Rattle.std.proofs.lemmas.Bool.{eqb-true, ltb-true, and_parts}
use Rattle.vk_model.specs.declared.entry.Entry.{Entry}
use Rattle.vk_model.specs.declared.entry.Entry.TheVariants as entry
use Rattle.vk_model.specs.Basics.{holds, among}
use Rattle.vk_model.specs.World.Bytes.{Byte, in_buffer, in_image, resource_at}
use Rattle.vk_model.specs.World.Effect.{written, reaches, world}
use Rattle.vk_model.specs.World.ByteWrites.{buffer_size}
use Rattle.vk_model.specs.World.Ownership.{family_of}
use Rattle.vk_model.specs.Trace.Point.{Past, Point, Action, Host, Wait, Run, Signal, host_of}
use Rattle.vk_model.specs.Trace.Objects.{made, resource_in, type_at, is_cached}
use Rattle.vk_model.specs.Trace.Order.{host, order}
use Rattle.vk_model.specs.Run.Caches.{Held, Clean, Dirty, Cell, queue_agent, written_back, dropped, loaded}
use Rattle.vk_model.specs.Run.Runs.{touched_by, atom_count, are_atoms}
use Rattle.vk_model.specs.Run.CachedRuns.{Cells, in_atoms, turned_over, after_atoms, in_all_caches, after_host_write, after_host}
use Rattle.vk_model.specs.Rules.Fault.{Comes}
use Rattle.vk_model.proofs.Lists.Members.{all_passes, some_member}
use Rattle.vk_model.proofs.Lists.Pairs.{Each}
use Rattle.vk_model.proofs.Lists.Truths.{clash}
use Rattle.vk_model.proofs.Trace.Growing.{Grows, Quiet}
use Rattle.vk_laws.proofs.Caching.CachedStays.{cached_stays}
use Rattle.vk_laws.proofs.Caching.Dirty.{command_dirty}
use Rattle.vk_laws.proofs.Nodes.Steady.{IsNew, new_ids, live_ids, comes_within}
use Rattle.vk_laws.proofs.Running.StageTasks.{Known}
use Rattle.vk_laws.proofs.CachedRunning.Touches.{held_there, Within, within_joins, back_within, drop_within, forget_within, back_clean}

-- ---- what is cached

pub made_where : (past : Past) (i : ℕ) → is_cached past i ≡ true → (x : Entry) × (made past i ≡ Some x)
made_where past i e = go (made past i) refl e
  where
    go : (o : Option Entry) → made past i ≡ o → holds (option_and_then (λ r. type_at past r.place) (option_and_then resource_in o)) (λ u. u == 2) ≡ true → (x : Entry) × (made past i ≡ Some x)
    go None f e = absurd cc
    go (Some x) f e = (x, f)

pub written_buffer : (b o : ℕ) (bytes : List ℕ) (c : Byte) (v : ℕ) → written b o bytes c ≡ Some v → resource_at c ≡ b
written_buffer b o bytes (in_buffer d k) v e = go (b == d) refl e
  where
    go : (z : Bool) → (b == d) ≡ z → (if z && nat_le o k then slice_get bytes (k - o) else None) ≡ Some v → d ≡ b
    go true f e = sym (eqb-true b d f)
    go false f e = absurd cc
written_buffer b o bytes (in_image i l m x y p) v e = absurd cc

-- ---- points of batches make nothing dirty

quiet_point : (p : Point) (past : Past) → Quiet p → (world (p ∷ past)).dirty ≡ (world past).dirty
quiet_point p past quiet = go p.action refl quiet
  where
    go : (d : Action) → p.action ≡ d → host_of d ≡ None → (world (p ∷ past)).dirty ≡ (world past).dirty
    go (Host x) e q = absurd cc
    go (Run c) e q = rw e (command_dirty past (family_of p.queue) c (world past))
    go (Wait s) e q = rw e refl
    go (Signal s) e q = rw e refl

quiet_points : (newer past : Past) → Each Quiet newer → (world (newer ++ past)).dirty ≡ (world past).dirty
quiet_points [] past each = refl
quiet_points (p ∷ newer) past each = quiet_point p (newer ++ past) each.0 ∙ quiet_points newer past each.1

-- ---- one byte in the host's cache

abbrev turned : Option Held → Cell → Cell
turned h cell = elim h [ None ↦ loaded 0 cell | Some g ↦ dropped 0 (written_back 0 cell) ]

pub all_within : (change : ℕ → Cell → Cell) → ((a : ℕ) (cell : Cell) (b : ℕ) → Within (cell.held b) ((change a cell).held b)) → (cell : Cell) → Within (cell.held 0) ((in_all_caches change cell).held 0)
all_within change each cell =
    let one = change 0 cell in
    let two = change 1 one in
    let three = change 2 two in
    let four = change 3 three in
    within_joins _ _ _ (each 0 cell 0) (within_joins _ _ _ (each 1 one 0) (within_joins _ _ _ (each 2 two 0) (within_joins _ _ _ (each 3 three 0) (each 4 four 0))))

-- the host's cache has atoms of cached memory alone
pub atoms_cached : (past : Past) (x : Entry) (atoms : List ℕ) → IsTrue (are_atoms past x atoms) → (c : Byte) → in_atoms (touched_by x) atoms c ≡ true → is_cached past (resource_at c) ≡ true
atoms_cached past x atoms are c e = go (touched_by x) refl c e
  where
    by_buffer : (b i : ℕ) (y : ℕ) → touched_by x ≡ Some b → Contains atoms y → IsTrue (b == i) → (k : Bool) → is_cached past b ≡ k → is_cached past i ≡ true
    by_buffer b i y is c same true e = subst (λ (j : ℕ). is_cached past j ≡ true) (eqb-true b i same) e
    by_buffer b i y is c same false e =
        let lt = all_passes (λ k. nat_lt k (atom_count past x)) atoms y are c in
        let none : atom_count past x ≡ 0 =
        ap (λ (o : Option ℕ). elim o [ None ↦ 0 | Some b ↦ if is_cached past b then (buffer_size past b + 63) / 64 else 0 ]) is
        ∙ ap (λ (k : Bool). if k then (buffer_size past b + 63) / 64 else 0) e in
        let less = ltb-true y (atom_count past x) lt in
        absurd (omega (arith, none, less))

    go : (o : Option ℕ) → touched_by x ≡ o → (c : Byte) → in_atoms o atoms c ≡ true → is_cached past (resource_at c) ≡ true
    go None is c e = absurd cc
    go (Some b) is (in_image i l m x y p) e = absurd cc
    go (Some b) is (in_buffer i k) e =
        let h = and_parts (b == i) (among (k / 64) atoms) e in
        let y = some_member (λ y. k / 64 == y) atoms h.1 in
        by_buffer b i y.0 is y.1 h.0 (is_cached past b) refl

module _ {t : List Entry} (known : Known t) where
  abbrev all : Past
  all = order t

  -- what is cached at some point stays so
  cached_up : (P : Point → Type 0) (past : Past) → Grows P past all → (i : ℕ) → is_cached past i ≡ true → is_cached all i ≡ true
  cached_up P past g i e =
      let m = made_where past i e in
      let new = new_ids all known.sound in
      let alive = live_ids all known.sound in
      let come : (b : Past) (q : Point) → Comes past b q → Comes all b q = λ b q h. comes_within all g.newer past g.whole b q h in
      ap (λ (l : Past). is_cached l i) g.whole
      ∙ cached_stays g.newer past (subst (λ (l : Past). IsNew l) g.whole new) (λ b q h. alive b q (come b q h)) (λ b q h. new b q (come b q h)) i m.0 m.1
      ∙ e

  -- the host's cache has a byte of cached memory, and a dirty one where it may be dirty
  pub record HostByte (c : Byte) (may : Bool) (cell : Cell) : Type 0 where
    pub cached : (h : Held) → cell.held 0 ≡ Some h → is_cached all (resource_at c) ≡ true
    pub dirty : (u : ℕ) → cell.held 0 ≡ Some (Dirty u) → IsTrue may

  abbrev pub HostOk : Past → Cells → Type 0
  HostOk past cells = (c : Byte) → HostByte c ((world past).dirty c) (cells c)

  pub byte_within : (c : Byte) (may : Bool) (old new : Cell) → Within (old.held 0) (new.held 0) → HostByte c may old → HostByte c may new
  byte_within c may old new w ok = record { cached = λ h e. let g = w.some h e in ok.cached g.0 g.1; dirty = λ u e. let g = w.dirty u e in ok.dirty g.0 g.1 }

  -- points of batches come
  pub host_batches : (past newer : Past) (cells : Cells) → Grows Quiet past newer → HostOk past cells → HostOk newer cells
  host_batches past newer cells g ok c =
      let same : (world newer).dirty ≡ (world past).dirty = ap (λ (l : Past). (world l).dirty) g.whole ∙ quiet_points g.newer past g.each in
      subst (λ (d : Byte → Bool). HostByte c (d c) (cells c)) (sym same) (ok c)

  -- ---- atoms are taken up and given back

  module _ (P : Point → Type 0) (past : Past) (g : Grows P past all) (x : Entry) (atoms : List ℕ) (are : IsTrue (are_atoms past x atoms)) where
    cached_in : (c : Byte) → in_atoms (touched_by x) atoms c ≡ true → is_cached all (resource_at c) ≡ true
    cached_in c e = cached_up P past g (resource_at c) (atoms_cached past x atoms are c e)

    turn_ok : (c : Byte) (may : Bool) (cell : Cell) → is_cached all (resource_at c) ≡ true → HostByte c may cell → HostByte c may (turned_over cell)
    turn_ok c may cell cached ok = go (cell.held 0) refl
      where
        go : (h : Option Held) → cell.held 0 ≡ h → HostByte c may (turned h cell)
        go None e = record { cached = λ h f. cached; dirty = λ u f. absurd (let is : (loaded 0 cell).held 0 ≡ Some (Clean cell.region) = rw e (held_there 0 (Some (Clean cell.region)) cell) in cc) }
        go (Some g) e = byte_within c may cell (dropped 0 (written_back 0 cell)) (within_joins _ _ _ (back_within 0 cell 0) (drop_within 0 (written_back 0 cell) 0)) ok

    pub atoms_ok : (cells : Cells) → HostOk past cells → HostOk past (after_atoms x atoms cells)
    atoms_ok cells ok c = go (in_atoms (touched_by x) atoms c) refl
      where
        go : (b : Bool) → in_atoms (touched_by x) atoms c ≡ b → HostByte c ((world past).dirty c) (if b then turned_over (cells c) else cells c)
        go true e = turn_ok c ((world past).dirty c) (cells c) (cached_in c e) (ok c)
        go false e = ok c

  -- ---- an entry comes

  module _ (past : Past) (moved : List ℕ) (c : Byte) (cell : Cell) (ok : HostByte c ((world past).dirty c) cell) where
    moved_ok : (change : ℕ → Cell → Cell) → ((a : ℕ) (cell : Cell) (b : ℕ) → Within (cell.held b) ((change a cell).held b)) → (k : Bool) → HostByte c ((world past).dirty c) (if k then in_all_caches change cell else cell)
    moved_ok change each true = byte_within c _ cell _ (all_within change each cell) ok
    moved_ok change each false = ok

    pub entry_ok : (e : ℕ) (x : Entry) → ((b o : ℕ) (bytes : List ℕ) (v : ℕ) → x ≡ entry.Write b o bytes → written b o bytes c ≡ Some v → is_cached past (resource_at c) ≡ is_cached all (resource_at c))
        → HostByte c ((world (host e x ∷ past)).dirty c) (after_host past moved x c cell)
    entry_ok e (entry.Write b o bytes) stays = go (written b o bytes c) (is_cached past b) refl refl
      where
        as_it_is : (v : ℕ) (k : Bool) → written b o bytes c ≡ Some v → is_cached past b ≡ k → is_cached all (resource_at c) ≡ k
        as_it_is v k w f = sym (stays b o bytes v refl w) ∙ ap (is_cached past) (written_buffer b o bytes c v w) ∙ f

        go : (w : Option ℕ) (k : Bool) → written b o bytes c ≡ w → is_cached past b ≡ k → HostByte c (elim w [ None ↦ (world past).dirty c | Some n ↦ k ]) (after_host_write k w cell)
        go None true w f = ok
        go None false w f = ok
        go (Some v) true w f = record { cached = λ h is. as_it_is v true w f; dirty = λ u is. refl }
        go (Some v) false w f = record { cached = ok.cached; dirty = λ u is. clash {b = is_cached all (resource_at c)} (ok.cached (Dirty u) is) (as_it_is v false w f) }
    entry_ok e (entry.Flush b o n) stays = go (is_cached past b) (reaches b o n c) refl refl
      where
        go : (k r : Bool) → is_cached past b ≡ k → reaches b o n c ≡ r → HostByte c ((world (host e (entry.Flush b o n) ∷ past)).dirty c) (after_host past moved (entry.Flush b o n) c cell)
        go true true f g = rw (f, g) (record { cached = λ h is. let w = (back_within 0 cell 0).some h is in ok.cached w.0 w.1; dirty = λ u is. absurd (back_clean 0 cell u is) })
        go true false f g = rw (f, g) ok
        go false r f g = rw f ok
    entry_ok e (entry.Invalidate b o n) stays = go (is_cached past b) (reaches b o n c) refl refl
      where
        go : (k r : Bool) → is_cached past b ≡ k → reaches b o n c ≡ r → HostByte c ((world (host e (entry.Invalidate b o n) ∷ past)).dirty c) (after_host past moved (entry.Invalidate b o n) c cell)
        go true true f g = rw (f, g) (record { cached = λ h is. let w = (forget_within 0 cell 0).some h is in ok.cached w.0 w.1; dirty = λ u is. let none = held_there 0 None cell in absurd cc })
        go true false f g = rw (f, g) ok
        go false r f g = rw f ok
    entry_ok e (entry.Submit q bs) stays = byte_within c _ cell _ (drop_within (queue_agent q) cell 0) ok
    entry_ok e (entry.Pass d) stays = moved_ok written_back back_within (among (resource_at c) moved)
    entry_ok e (entry.EndPass d kept lost) stays = moved_ok dropped drop_within (among (resource_at c) moved)
    entry_ok e _ stays = ok
