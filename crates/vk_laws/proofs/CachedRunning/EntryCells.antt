-- What a host entry does to bytes: touches of caches, and then its write in the machine.
use Rattle.std.proofs.Common.{◌≡◌, inl, inr, ℕ, List, Bool, true, false, ◌&&◌, Option, Some, None, refl, ap, sym, ◌∙◌}
use Rattle.std.specs.Prelude.{option_map, if◌then◌else◌}
use Rattle.vk_model.specs.declared.entry.Entry.{Entry}
use Rattle.vk_model.specs.declared.entry.Entry.TheVariants as entry
use Rattle.vk_model.specs.Basics.{among}
use Rattle.vk_model.specs.World.Bytes.{Byte, resource_at}
use Rattle.vk_model.specs.World.ByteWrites.{Value}
use Rattle.vk_model.specs.World.Effect.{written, reaches, world}
use Rattle.vk_model.specs.Trace.Objects.{is_cached}
use Rattle.vk_model.specs.Trace.Order.{order}
use Rattle.vk_model.specs.Trace.Point.{Past}
use Rattle.vk_model.specs.Run.Caches.{Held, Cell, queue_agent, written_back, dropped, forgotten}
use Rattle.vk_model.specs.Run.Runs.{touched_by}
use Rattle.vk_model.specs.Run.CachedRuns.{Cells, in_atoms, turned_over, after_atoms, in_all_caches, after_host_write, after_host}
use Rattle.vk_laws.specs.Machine.{Task, Puts, TraceAccesses}
use Rattle.vk_laws.specs.Caches.{Touched, CellRan, Caching, Reached, Touch}
use Rattle.vk_laws.specs.Tasks.{host_value}
use Rattle.vk_laws.specs.Discards.{entry_forgets, or_unknown}
use Rattle.vk_model.proofs.Lists.Truths.{clash}
use Rattle.vk_laws.proofs.Running.StageTasks.{Known}
use Rattle.vk_laws.proofs.CachedRunning.Touches.{unchanged, held_there, held_elsewhere, back_touches, drop_touches, turn_touches, Within, within_same, back_within, drop_within, drop_elsewhere, drop_region, forgets_clean, keeps_write}
use Rattle.vk_laws.proofs.CachedRunning.HostCaches.{all_within, written_buffer, HostByte, byte_within}

-- the byte when caches have done what the entry asks of them, before the entry itself
abbrev pub ready : Past → List ℕ → Entry → Byte → Cell → Cell
ready past moved (entry.Write b o bytes) c cell = cell
ready past moved (entry.Invalidate b o n) c cell = if is_cached past b && reaches b o n c then dropped 0 cell else cell
ready past moved x c cell = after_host past moved x c cell

-- ---- touches

module _ (tr : TraceAccesses) (ca : Caching) (done : List Task) (cells : Cells) (r : Reached tr ca done cells) where
  pub where_touched : (test : Byte → Bool) (change : Cell → Cell) → ((cell : Cell) → Touched cell (change cell)) → Reached tr ca done (λ c. if test c then change (cells c) else cells c)
  where_touched test change each = Touch done cells _ r (λ c. go (cells c) (test c))
    where
      go : (cell : Cell) (b : Bool) → Touched cell (if b then change cell else cell)
      go cell true = each cell
      go cell false = unchanged cell

  -- the atoms of an entry
  pub atoms_reached : (x : Entry) (atoms : List ℕ) → Reached tr ca done (after_atoms x atoms cells)
  atoms_reached x atoms =
      Touch done (λ c. if in_atoms (touched_by x) atoms c then written_back 0 (cells c) else cells c) _
      (where_touched (λ c. in_atoms (touched_by x) atoms c) (written_back 0) (back_touches 0)) (λ c. second c (in_atoms (touched_by x) atoms c))
    where
      second : (c : Byte) (b : Bool) → Touched (if b then written_back 0 (cells c) else cells c) (if b then turned_over (cells c) else cells c)
      second c true = turn_touches (cells c)
      second c false = unchanged (cells c)

  -- all caches do the same with some bytes, one after another
  all_reached : (test : Byte → Bool) (change : ℕ → Cell → Cell) → ((a : ℕ) (cell : Cell) → Touched cell (change a cell)) → Reached tr ca done (λ c. if test c then in_all_caches change (cells c) else cells c)
  all_reached test change each = five
    where
      more : (f : Cell → Cell) (a : ℕ) → Reached tr ca done (λ c. if test c then f (cells c) else cells c) → Reached tr ca done (λ c. if test c then change a (f (cells c)) else cells c)
      more f a before = Touch done _ _ before (λ c. go c (test c))
        where
          go : (c : Byte) (b : Bool) → Touched (if b then f (cells c) else cells c) (if b then change a (f (cells c)) else cells c)
          go c true = each a (f (cells c))
          go c false = unchanged (cells c)

      five : Reached tr ca done (λ c. if test c then in_all_caches change (cells c) else cells c)
      five =
          more (λ cell. change 3 (change 2 (change 1 (change 0 cell)))) 4
          (more (λ cell. change 2 (change 1 (change 0 cell))) 3
          (more (λ cell. change 1 (change 0 cell)) 2
          (more (λ cell. change 0 cell) 1
          (where_touched test (change 0) (each 0)))))

  pub ready_reached : (past : Past) (moved : List ℕ) (x : Entry) → Reached tr ca done (λ c. ready past moved x c (cells c))
  ready_reached past moved (entry.Write b o bytes) = r
  ready_reached past moved (entry.Invalidate b o n) = where_touched (λ c. is_cached past b && reaches b o n c) (dropped 0) (drop_touches 0)
  ready_reached past moved (entry.Flush b o n) = where_touched (λ c. is_cached past b && reaches b o n c) (written_back 0) (back_touches 0)
  ready_reached past moved (entry.Submit q bs) = Touch done cells _ r (λ c. drop_touches (queue_agent q) (cells c))
  ready_reached past moved (entry.Pass d) = all_reached (λ c. among (resource_at c) moved) written_back back_touches
  ready_reached past moved (entry.EndPass d kept lost) = all_reached (λ c. among (resource_at c) moved) dropped drop_touches
  ready_reached past moved _ = r

-- ---- what the host's cache holds then

ready_within : (past : Past) (moved : List ℕ) (x : Entry) (c : Byte) (cell : Cell) → Within (cell.held 0) ((ready past moved x c cell).held 0)
ready_within past moved (entry.Write b o bytes) c cell = within_same _ _ refl
ready_within past moved (entry.Invalidate b o n) c cell = go (is_cached past b && reaches b o n c)
  where
    go : (k : Bool) → Within (cell.held 0) ((if k then dropped 0 cell else cell).held 0)
    go true = drop_within 0 cell 0
    go false = within_same _ _ refl
ready_within past moved (entry.Flush b o n) c cell = go (is_cached past b && reaches b o n c)
  where
    go : (k : Bool) → Within (cell.held 0) ((if k then written_back 0 cell else cell).held 0)
    go true = back_within 0 cell 0
    go false = within_same _ _ refl
ready_within past moved (entry.Submit q bs) c cell = drop_within (queue_agent q) cell 0
ready_within past moved (entry.Pass d) c cell = go (among (resource_at c) moved)
  where
    go : (k : Bool) → Within (cell.held 0) ((if k then in_all_caches written_back cell else cell).held 0)
    go true = all_within written_back back_within cell
    go false = within_same _ _ refl
ready_within past moved (entry.EndPass d kept lost) c cell = go (among (resource_at c) moved)
  where
    go : (k : Bool) → Within (cell.held 0) ((if k then in_all_caches dropped cell else cell).held 0)
    go true = all_within dropped drop_within cell
    go false = within_same _ _ refl
ready_within past moved _ c cell = within_same _ _ refl

-- ---- the entry's write

module _ {t : List Entry} (known : Known t) where
  abbrev all : Past
  all = order t

  pub ready_ok : (past : Past) (moved : List ℕ) (x : Entry) (c : Byte) (cell : Cell) → HostByte known c ((world past).dirty c) cell → HostByte known c ((world past).dirty c) (ready past moved x c cell)
  ready_ok past moved x c cell ok = byte_within known c _ cell _ (ready_within past moved x c cell) ok

  module _ (past : Past) (moved : List ℕ) (cells : Cells) (c : Byte) (cell : Cell) (ok : HostByte known c ((world past).dirty c) cell) where
    pub entry_ran : (x : Entry) → ((b o : ℕ) (bytes : List ℕ) (v : ℕ) → x ≡ entry.Write b o bytes → written b o bytes c ≡ Some v → is_cached past (resource_at c) ≡ is_cached all (resource_at c))
        → CellRan (or_unknown (entry_forgets past x c) (option_map (λ v. Puts (Value v)) (host_value x c))) 0 cells (ready past moved x c cell) (after_host past moved x c cell)
    entry_ran (entry.Write b o bytes) stays = go (written b o bytes c) (is_cached past b) refl refl
      where
        none_held : is_cached all (resource_at c) ≡ false → (h : Option Held) → cell.held 0 ≡ h → cell.held 0 ≡ None
        none_held free None e = e
        none_held free (Some h) e = clash {b = is_cached all (resource_at c)} (ok.cached h e) free

        go : (w : Option ℕ) (k : Bool) → written b o bytes c ≡ w → is_cached past b ≡ k → CellRan (option_map (λ v. Puts (Value v)) w) 0 cells cell (after_host_write k w cell)
        go None true w f = (refl, λ b. refl)
        go None false w f = (refl, λ b. refl)
        go (Some v) true w f = keeps_write 0 v cell
        go (Some v) false w f =
            let no : is_cached all (resource_at c) ≡ false = sym (stays b o bytes v refl w) ∙ ap (is_cached past) (written_buffer b o bytes c v w) ∙ f in
            record { others = λ b n. refl; mine = inr (refl, inl (none_held no (cell.held 0) refl)) }
    entry_ran (entry.Invalidate b o n) stays = go (is_cached past b) (reaches b o n c) ((world past).dirty c) refl
      where
        go : (k r d : Bool) → (world past).dirty c ≡ d → CellRan (or_unknown (k && (r && d)) None) 0 cells (if k && r then dropped 0 cell else cell) (if k && r then forgotten 0 cell else cell)
        go true true true e = (cell.region, record { others = λ b other. held_elsewhere 0 None cell b other ∙ sym (drop_elsewhere 0 cell b other); mine = inr (refl, inl (held_there 0 None cell)) })
        go true true false e = (sym (drop_region 0 cell), forgets_clean 0 cell (λ u held. clash {b = (world past).dirty c} (ok.dirty u held) e))
        go true false d e = (refl, λ b. refl)
        go false r d e = (refl, λ b. refl)
    entry_ran _ stays = (refl, λ b. refl)
