-- What the host's cache and entries do with a byte, told in place: of a byte as it is without caches of queues, and as it is with them.
use Rattle.std.proofs.Common.{◌≡◌, ℕ, zero, suc, ◌<◌, List, Bool, true, false, ◌&&◌, Option, Some, None, refl, sym, ◌∙◌, subst, arith}
use Rattle.std.specs.Prelude.{if◌then◌else◌}
use Rattle.vk_model.specs.declared.entry.Entry.{Entry}
use Rattle.vk_model.specs.declared.entry.Entry.TheVariants as entry
use Rattle.vk_model.specs.Basics.{among}
use Rattle.vk_model.specs.Trace.Point.{Past}
use Rattle.vk_model.specs.Trace.Objects.{is_cached}
use Rattle.vk_model.specs.World.Bytes.{Byte, resource_at}
use Rattle.vk_model.specs.World.Effect.{written, reaches}
use Rattle.vk_model.specs.Run.Caches.{Held, Clean, Dirty, Cell, queue_agent, with_held, written_back_if, written_back, dropped_if, dropped, loaded, forgotten}
use Rattle.vk_model.specs.Run.Runs.{touched_by}
use Rattle.vk_model.specs.Run.CachedRuns.{in_atoms, turned_over, in_all_caches, after_host_write, after_host}
use Rattle.vk_laws.specs.DirectRuns.{held_by_host}
use Rattle.vk_laws.proofs.CachedRunning.Touches.{held_elsewhere, drop_within, back_clean}
use Rattle.vk_cache_laws.specs.InPlace.{Behind, IsAlikeHeld, IsTold, caught_up, lag_after_entry}
use Rattle.vk_cache_laws.proofs.Told.{alike_same, alike_copies, told_back, told_drop}

-- a byte without caches of queues, and one with them
abbrev pub Tells : Cell → Option Behind → Cell → Type 0
Tells plain behind cell = IsTold plain.region (plain.held 0) behind cell

-- where the host's cache has a write, memory isn't behind
abbrev pub IsAlone : Cell → Option Behind → Type 0
IsAlone plain behind = (v : ℕ) → plain.held 0 ≡ Some (Dirty v) → behind ≡ None

-- ---- one change

not_host : (q : ℕ) → queue_agent q ≡ 0 → ⊥
not_host q e = omega (arith, e)

-- what the host's cache holds changes, in both alike
held_anew : {value : ℕ} {host : Option Held} {behind : Option Behind} {cell : Cell} (h k : Option Held) → IsTold value host behind cell → IsAlikeHeld h k → IsTold value h behind (with_held 0 k cell)
held_anew {value} {host} {behind} {cell} h k i alike = record {
  region = i.region;
  dirty = λ q v e. i.dirty q v (sym (held_elsewhere 0 k cell (queue_agent q) (not_host q)) ∙ e);
  held = λ b is. held_elsewhere 0 k cell (queue_agent b.queue) (not_host b.queue) ∙ i.held b is;
  alike = alike;
}

-- memory changes, where it isn't behind
region_anew : {value : ℕ} {host : Option Held} {cell : Cell} (v : ℕ) → IsTold value host None cell → IsTold v host None (record cell { region = v })
region_anew {value} {host} {cell} v i = record {
  region = refl;
  dirty = λ q u e. let d = i.dirty q u e in let nobody : Option Behind = None in let no_one : nobody ≡ Some (record { queue = q; value = d.1 }) = d.2 in absurd cc;
  held = λ b is. absurd cc;
  alike = i.alike;
}

-- a value in place of a value
module _ (plain : Cell) (behind : Option Behind) (cell : Cell) (i : Tells plain behind cell) (alone : IsAlone plain behind) where
  dirty_both : (v : ℕ) → plain.held 0 ≡ Some (Dirty v) → IsTold v (Some (Clean v)) behind (record (with_held 0 (Some (Clean v)) cell) { region = v })
  dirty_both v e =
      let none = alone v e in
      subst (λ (b : Option Behind). IsTold v (Some (Clean v)) b (record (with_held 0 (Some (Clean v)) cell) { region = v })) (sym none)
      (region_anew v (held_anew (Some (Clean v)) (Some (Clean v)) (subst (λ (b : Option Behind). IsTold plain.region (plain.held 0) b cell) none i) (alike_same (Some (Clean v)))))

  -- the host's cache writes the byte back
  pub back_told : Tells (written_back 0 plain) behind (written_back 0 cell)
  back_told = go (plain.held 0) refl (cell.held 0) refl
    where
      go : (h : Option Held) → plain.held 0 ≡ h → (k : Option Held) → cell.held 0 ≡ k → Tells (written_back_if 0 h plain) behind (written_back_if 0 k cell)
      go None e k f = let n : cell.held 0 ≡ None = (i.alike.0).0 e in let is : k ≡ None = sym f ∙ n in subst (λ (h : Option Held). Tells plain behind (written_back_if 0 h cell)) (sym is) i
      go (Some (Dirty v)) e k f =
          let d : cell.held 0 ≡ Some (Dirty v) = (i.alike.1 v).0 e in
          let is : k ≡ Some (Dirty v) = sym f ∙ d in
          subst (λ (h : Option Held). IsTold v (Some (Clean v)) behind (written_back_if 0 h cell)) (sym is) (dirty_both v e)
      go (Some (Clean u)) e None f = i
      go (Some (Clean u)) e (Some (Clean w)) f = i
      go (Some (Clean u)) e (Some (Dirty w)) f = let d : plain.held 0 ≡ Some (Dirty w) = (i.alike.1 w).1 f in let no : Some (Clean u) ≡ Some (Dirty w) = sym e ∙ d in absurd cc

-- the host's cache drops a copy
pub drop_told : (plain : Cell) (behind : Option Behind) (cell : Cell) → Tells plain behind cell → Tells (dropped 0 plain) behind (dropped 0 cell)
drop_told plain behind cell i = go (plain.held 0) refl (cell.held 0) refl
  where
    go : (h : Option Held) → plain.held 0 ≡ h → (k : Option Held) → cell.held 0 ≡ k → Tells (dropped_if 0 h plain) behind (dropped_if 0 k cell)
    go None e None f = i
    go None e (Some w) f = let n : cell.held 0 ≡ None = (i.alike.0).0 e in let no : Some w ≡ None = sym f ∙ n in absurd cc
    go (Some (Clean u)) e None f = let n : plain.held 0 ≡ None = (i.alike.0).1 f in let no : Some (Clean u) ≡ None = sym e ∙ n in absurd cc
    go (Some (Clean u)) e (Some (Clean w)) f = held_anew None None i (alike_same None)
    go (Some (Clean u)) e (Some (Dirty w)) f = let d : plain.held 0 ≡ Some (Dirty w) = (i.alike.1 w).1 f in let no : Some (Clean u) ≡ Some (Dirty w) = sym e ∙ d in absurd cc
    go (Some (Dirty u)) e None f = i
    go (Some (Dirty u)) e (Some (Dirty w)) f = i
    go (Some (Dirty u)) e (Some (Clean w)) f = let d : cell.held 0 ≡ Some (Dirty u) = (i.alike.1 u).0 e in let no : Some (Clean w) ≡ Some (Dirty u) = sym f ∙ d in absurd cc

-- it has no write then
pub turned_clean : (x : Cell) (v : ℕ) → (turned_over x).held 0 ≡ Some (Dirty v) → ⊥
turned_clean x v held = go (x.held 0) refl held
  where
    loads : x.held 0 ≡ None → (loaded 0 x).held 0 ≡ Some (Clean x.region)
    loads e = rw (e, loaded) refl

    turned : Option Held → Cell
    turned h = elim h [ None ↦ loaded 0 x | Some g ↦ dropped 0 (written_back 0 x) ]

    go : (h : Option Held) → x.held 0 ≡ h → (turned h).held 0 ≡ Some (Dirty v) → ⊥
    go None e d = let no : Some (Clean x.region) ≡ Some (Dirty v) = sym (loads e) ∙ d in cc
    go (Some g) e d = let w = (drop_within 0 (written_back 0 x) 0).dirty v d in back_clean 0 x w.0 w.1

-- an atom that the host's cache takes up or gives back
pub turn_told : (plain : Cell) (behind : Option Behind) (cell : Cell) → Tells plain behind cell → IsAlone plain behind → Tells (turned_over plain) behind (turned_over cell)
turn_told plain behind cell i alone = go (plain.held 0) refl (cell.held 0) refl
  where
    turned : Option Held → Cell → Cell
    turned h x = elim h [ None ↦ loaded 0 x | Some g ↦ dropped 0 (written_back 0 x) ]

    loads : plain.held 0 ≡ None → cell.held 0 ≡ None → Tells (loaded 0 plain) behind (loaded 0 cell)
    loads e f = rw (e, f) (held_anew (Some (Clean plain.region)) (Some (Clean cell.region)) i (alike_copies plain.region cell.region))

    go : (h : Option Held) → plain.held 0 ≡ h → (k : Option Held) → cell.held 0 ≡ k → Tells (turned h plain) behind (turned k cell)
    go None e None f = loads e f
    go None e (Some w) f = let n : cell.held 0 ≡ None = (i.alike.0).0 e in let no : Some w ≡ None = sym f ∙ n in absurd cc
    go (Some u) e None f = let n : plain.held 0 ≡ None = (i.alike.0).1 f in let no : Some u ≡ None = sym e ∙ n in absurd cc
    go (Some u) e (Some w) f = drop_told (written_back 0 plain) behind (written_back 0 cell) (back_told plain behind cell i alone)

-- ---- an entry

-- memory is behind by no queue when all four have caught up
all_caught : (behind : Option Behind) → ((b : Behind) → behind ≡ Some b → b.queue < 4) → caught_up 3 true (caught_up 2 true (caught_up 1 true (caught_up 0 true behind))) ≡ None
all_caught None small = refl
all_caught (Some b) small = go b.queue refl (small b refl)
  where
    go : (q : ℕ) → b.queue ≡ q → b.queue < 4 → caught_up 3 true (caught_up 2 true (caught_up 1 true (caught_up 0 true (Some b)))) ≡ None
    go zero e lt = rw e refl
    go (suc zero) e lt = rw e refl
    go (suc (suc zero)) e lt = rw e refl
    go (suc (suc (suc zero))) e lt = rw e refl
    go (suc (suc (suc (suc q)))) e lt = absurd (omega (arith, e, lt))

-- a byte that no queue's cache holds
abbrev plain_of : ℕ → Option Held → Cell
plain_of value host = record { region = value; held = held_by_host host }

-- what moves is written back in all caches
all_back : {value : ℕ} {host : Option Held} (behind : Option Behind) (cell : Cell) → ((b : Behind) → behind ≡ Some b → b.queue < 4) → IsTold value host behind (written_back 0 cell) → IsTold value host None (in_all_caches written_back cell)
all_back {value} {host} behind cell small one =
    subst (λ (b : Option Behind). IsTold value host b (in_all_caches written_back cell)) (all_caught behind small)
    (told_back (caught_up 2 true (caught_up 1 true (caught_up 0 true behind)))
    (told_back (caught_up 1 true (caught_up 0 true behind)) (told_back (caught_up 0 true behind) (told_back behind one 0) 1) 2) 3)

moved_told : (value : ℕ) (host : Option Held) (behind : Option Behind) (cell : Cell) → Tells (plain_of value host) behind cell → IsAlone (plain_of value host) behind → ((b : Behind) → behind ≡ Some b → b.queue < 4)
    → Tells (in_all_caches written_back (plain_of value host)) None (in_all_caches written_back cell)
moved_told value None behind cell i alone small = all_back behind cell small (back_told (plain_of value None) behind cell i alone)
moved_told value (Some (Clean u)) behind cell i alone small = all_back behind cell small (back_told (plain_of value (Some (Clean u))) behind cell i alone)
moved_told value (Some (Dirty u)) behind cell i alone small = all_back behind cell small (back_told (plain_of value (Some (Dirty u))) behind cell i alone)

-- the copies of what has moved are dropped in all caches
all_drop : {value : ℕ} {host : Option Held} {behind : Option Behind} (cell : Cell) → IsTold value host behind (dropped 0 cell) → IsTold value host behind (in_all_caches dropped cell)
all_drop cell one = told_drop (told_drop (told_drop (told_drop one 0) 1) 2) 3

ended_told : (value : ℕ) (host : Option Held) (behind : Option Behind) (cell : Cell) → Tells (plain_of value host) behind cell → Tells (in_all_caches dropped (plain_of value host)) behind (in_all_caches dropped cell)
ended_told value None behind cell i = all_drop cell (drop_told (plain_of value None) behind cell i)
ended_told value (Some (Clean u)) behind cell i = all_drop cell (drop_told (plain_of value (Some (Clean u))) behind cell i)
ended_told value (Some (Dirty u)) behind cell i = all_drop cell (drop_told (plain_of value (Some (Dirty u))) behind cell i)

-- the host writes a byte
write_told : (cached : Bool) (v : Option ℕ) (plain : Cell) (behind : Option Behind) (cell : Cell) → Tells plain behind cell → (cached ≡ false → (u : ℕ) → v ≡ Some u → behind ≡ None) → Tells (after_host_write cached v plain) behind (after_host_write cached v cell)
write_told true None plain behind cell i up = i
write_told false None plain behind cell i up = i
write_told true (Some v) plain behind cell i up = held_anew (Some (Dirty v)) (Some (Dirty v)) i (alike_same (Some (Dirty v)))
write_told false (Some v) plain behind cell i up =
    let none = up refl v refl in
    subst (λ (b : Option Behind). IsTold v (plain.held 0) b (record cell { region = v })) (sym none) (region_anew v (subst (λ (b : Option Behind). Tells plain b cell) none i))

-- a change of some bytes
where_told : (test : Bool) (change : Cell → Cell) (plain : Cell) (behind : Option Behind) (cell : Cell) → Tells plain behind cell → (Tells plain behind cell → Tells (change plain) behind (change cell)) → Tells (if test then change plain else plain) behind (if test then change cell else cell)
where_told true change plain behind cell i more = more i
where_told false change plain behind cell i more = i

-- an entry of the host, where memory isn't behind in what it writes
pub host_told : (past : Past) (moved : List ℕ) (x : Entry) (c : Byte) (value : ℕ) (host : Option Held) (behind : Option Behind) (cell : Cell) (atoms : List ℕ) (lag : Byte → Option Behind) → lag c ≡ behind
    → Tells (plain_of value host) behind cell → IsAlone (plain_of value host) behind → ((b : Behind) → behind ≡ Some b → b.queue < 4)
    → ((b o u : ℕ) (bytes : List ℕ) → x ≡ entry.Write b o bytes → written b o bytes c ≡ Some u → behind ≡ None)
    → Tells (after_host past moved x c (if in_atoms (touched_by x) atoms c then turned_over (plain_of value host) else plain_of value host)) (lag_after_entry moved x lag c)
    (after_host past moved x c (if in_atoms (touched_by x) atoms c then turned_over cell else cell))
host_told past moved x c value host behind cell atoms lag is i alone small up = by x refl
  where
    plain : Cell
    plain = plain_of value host

    turned_if : Bool → Cell → Cell
    turned_if test x = if test then turned_over x else x

    -- once its atom is taken up or given back, the host's cache has no write of the byte
    after : (test : Bool) → Tells (turned_if test plain) behind (turned_if test cell) × IsAlone (turned_if test plain) behind
    after true = (turn_told plain behind cell i alone, λ v held. absurd (turned_clean plain v held))
    after false = (i, alone)

    by : (y : Entry) → x ≡ y → Tells (after_host past moved y c (if in_atoms (touched_by y) atoms c then turned_over plain else plain)) (lag_after_entry moved y lag c) (after_host past moved y c (if in_atoms (touched_by y) atoms c then turned_over cell else cell))
    by (entry.Write b o bytes) e = rw is
        (let t = in_atoms (Some b) atoms c in let a = after t in write_told (is_cached past b) (written b o bytes c) (turned_if t plain) behind (turned_if t cell) a.0 (λ uncached u w. up b o u bytes e w))
    by (entry.Flush b o n) e = rw is
        (let t = in_atoms (Some b) atoms c in let a = after t in where_told (is_cached past b && reaches b o n c) (written_back 0) (turned_if t plain) behind (turned_if t cell) a.0 (λ j. back_told (turned_if t plain) behind (turned_if t cell) j a.1))
    by (entry.Invalidate b o n) e = rw is
        (let t = in_atoms (Some b) atoms c in let a = after t in where_told (is_cached past b && reaches b o n c) (forgotten 0) (turned_if t plain) behind (turned_if t cell) a.0 (λ j. held_anew None None j (alike_same None)))
    by (entry.Submit q bs) e = rw is (told_drop i q)
    by (entry.Pass d) e = go (among (resource_at c) moved)
      where
        go : (test : Bool) → Tells (if test then in_all_caches written_back plain else plain) (if test then None else lag c) (if test then in_all_caches written_back cell else cell)
        go true = moved_told value host behind cell i alone small
        go false = rw is i
    by (entry.EndPass d kept lost) e = rw is (where_told (among (resource_at c) moved) (in_all_caches dropped) plain behind cell i (λ j. ended_told value host behind cell j))
    by y e = rw is (after (in_atoms (touched_by y) atoms c)).0
