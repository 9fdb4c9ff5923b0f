-- A run in which memory held other values where no resource is made.
use Rattle.std.proofs.Common.{◌≡◌, ℕ, zero, suc, List, [], ◌∷◌, ◌++◌, Bool, true, false, ◌&&◌, not, IsTrue, Option, Some, None, refl, ap, sym, ◌∙◌, subst, append_assoc}
use Rattle.std.specs.Prelude.{◌==◌, is_some, if◌then◌else◌}
use Rattle.std.specs.List.{fold}
use Rattle.vk_model.specs.declared.entry.Entry.{Entry}
use Rattle.vk_model.specs.declared.entry.Entry.TheVariants as entry
use Rattle.vk_model.specs.Basics.{among}
use Rattle.vk_model.specs.World.Bytes.{Byte, resource_at}
use Rattle.vk_model.specs.World.ByteWrites.{ByteWrite, Source, Value, From}
use Rattle.vk_model.specs.World.Effect.{written, reaches}
use Rattle.vk_model.specs.Trace.Point.{Past}
use Rattle.vk_model.specs.Trace.Objects.{made, is_cached}
use Rattle.vk_model.specs.Trace.Order.{Front, host, order}
use Rattle.vk_model.specs.Laws.{PiecesAreByteWrites}
use Rattle.vk_model.specs.Sync.Node.{Node}
use Rattle.vk_model.specs.Run.Caches.{Held, Cell, queue_agent, view, written_back, dropped, forgotten, with_write}
use Rattle.vk_model.specs.Run.Runs.{Name, Step, Apply, RunPiece, CopyPart, Stage, start, touched_by, entered, with_parts, past_with, Applies, Next}
use Rattle.vk_model.specs.Run.CachedRuns.{Cells, named_piece, write_to, source_through, after_write, after_piece, makes_last_available, makes_byte_visible, after_node, happening, after_nodes, in_atoms, turned_over, after_atoms, in_all_caches, after_host_write, after_host, after_next, after_step, Touch, touched, CachedStep, Does, Touches, CachedStage, CachedAllowed, cached_start}
use Rattle.vk_laws.specs.Machine.{Task}
use Rattle.vk_laws.specs.Tasks.{host_value}
use Rattle.vk_laws.specs.DefinedRuns.{with_step}
use Rattle.vk_laws.specs.CachedRuns.{steps_of}
use Rattle.vk_laws.specs.DirectRuns.{HostMemory, held_by_host, cells_of, DirectRun, is_made}
use Rattle.vk_model.proofs.Lists.Truths.{clash}
use Rattle.vk_model.proofs.Trace.Growing.{Grows, Quiet, entry_grows}
use Rattle.vk_laws.proofs.Nodes.Steady.{IsNew, new_ids, live_ids, made_up, comes_within}
use Rattle.vk_laws.proofs.Accesses.TaskAccesses.{host_writes_it}
use Rattle.vk_laws.proofs.Caching.Named.{host_names, named_made}
use Rattle.vk_laws.proofs.Running.StageTasks.{Known}
use Rattle.vk_laws.proofs.Running.AtStage.{AtPoint, begins, grows, after_grows}
use Rattle.vk_laws.proofs.Running.StageSteps.{all_steps}
use Rattle.vk_laws.proofs.CachedRunning.HostCaches.{made_where, atoms_cached}
use Rattle.vk_laws.proofs.CachedRunning.HostEntries.{split}
use Rattle.vk_laws.proofs.DirectRuns.Inside.{inside}

-- ---- bytes that pass a test hold other values, and no cache holds anything of them

module _ (new : Byte → Bool) (values : Byte → ℕ) where
  abbrev blank : Byte → Cell
  blank c = record { region = values c; held = λ a. None }

  abbrev pub with_new : Cells → Cells
  with_new cells c = if new c then blank c else cells c

  -- the caches don't touch those
  abbrev pub apart : List CachedStep → List CachedStep
  apart [] = []
  apart (Does step moved ∷ steps) = Does step moved ∷ apart steps
  apart (Touches touch queue test ∷ steps) = Touches touch queue (λ c. test c && not (new c)) ∷ apart steps

  pub apart_steps : (steps : List CachedStep) → steps_of (apart steps) ≡ steps_of steps
  apart_steps [] = refl
  apart_steps (Does step moved ∷ steps) = ap (λ (l : List Step). step ∷ l) (apart_steps steps)
  apart_steps (Touches touch queue test ∷ steps) = apart_steps steps

  node_apart : (past : Past) (done : List Name) (n : Node) (cells : Cells) → after_node past done n (with_new cells) ≡ with_new (after_node past done n cells)
  node_apart past done n cells = λ i c. at c i
    where
      at : (c : Byte) → after_node past done n (with_new cells) c ≡ with_new (after_node past done n cells) c
      at c = go (new c) (makes_last_available past done n c) (makes_byte_visible past n c)
        where
          go : (b k j : Bool) → (let a = queue_agent n.point.queue in let cell = if b then blank c else cells c in let back = if k then written_back a cell else cell in if j then dropped a back else back)
              ≡ (if b then blank c else (let a = queue_agent n.point.queue in let back = if k then written_back a (cells c) else cells c in if j then dropped a back else back))
          go true true true = refl
          go true true false = refl
          go true false true = refl
          go true false false = refl
          go false k j = refl

  each_apart : (past : Past) (done : List Name) (ns : List Node) (cells : Cells) → fold (λ cs n. after_node past done n cs) (with_new cells) ns ≡ with_new (fold (λ cs n. after_node past done n cs) cells ns)
  each_apart past done [] cells = refl
  each_apart past done (n ∷ ns) cells = ap (λ (cs : Cells). fold (λ cs n. after_node past done n cs) cs ns) (node_apart past done n cells) ∙ each_apart past done ns (after_node past done n cells)

  pub nodes_apart : (s e : Stage) (cells : Cells) → after_nodes s e (with_new cells) ≡ with_new (after_nodes s e cells)
  nodes_apart s e cells = each_apart e.front.past e.done (happening s e) cells

  pub touch_apart : (touch : Touch) (a : ℕ) (test : Byte → Bool) (cells : Cells)
      → (λ c. if test c && not (new c) then touched touch a (with_new cells c) else with_new cells c) ≡ with_new (λ c. if test c then touched touch a (cells c) else cells c)
  touch_apart touch a test cells = λ i c. at c i
    where
      at : (c : Byte) → (if test c && not (new c) then touched touch a (with_new cells c) else with_new cells c) ≡ with_new (λ c. if test c then touched touch a (cells c) else cells c) c
      at c = go (new c) (test c)
        where
          go : (b k : Bool) → (if k && not b then touched touch a (if b then blank c else cells c) else (if b then blank c else cells c)) ≡ (if b then blank c else (if k then touched touch a (cells c) else cells c))
          go true true = refl
          go true false = refl
          go false true = refl
          go false false = refl

  -- ---- a piece that writes and copies no such byte

  pub piece_apart : (a : ℕ) (ms : List ByteWrite) (cells : Cells) → ((c : Byte) (w : ByteWrite) → write_to c ms ≡ Some w → (new c ≡ false) × ((d : Byte) → w.source ≡ From d → new d ≡ false))
      → after_piece a ms (with_new cells) ≡ with_new (after_piece a ms cells)
  piece_apart a ms cells stays = λ i c. go c (new c) refl (write_to c ms) refl i
    where
      by_source : (c : Byte) (w : ByteWrite) → write_to c ms ≡ Some w → (x : Source) → w.source ≡ x → source_through a (with_new cells) x ≡ source_through a cells x
      by_source c w f (Value v) e = refl
      by_source c w f (From d) e = ap (λ (b : Bool). view a (if b then blank d else cells d)) ((stays c w f).1 d e)

      go : (c : Byte) (b : Bool) → new c ≡ b → (o : Option ByteWrite) → write_to c ms ≡ o → after_write a (with_new cells) o (if b then blank c else cells c) ≡ (if b then blank c else after_write a cells o (cells c))
      go c true e None f = refl
      go c false e None f = refl
      go c true e (Some w) f = absurd (clash {b = new c} e (stays c w f).0)
      go c false e (Some w) f = ap (λ (v : ℕ). with_write a v (cells c)) (by_source c w f w.source refl)

  -- ---- an entry that reaches no such byte

  module _ (past : Past) (moved : List ℕ) (x : Entry) (writes_old : (c : Byte) (v : ℕ) → host_value x c ≡ Some v → new c ≡ false) where
    blank_stays : (y : Entry) → x ≡ y → (c : Byte) → new c ≡ true → after_host past moved y c (blank c) ≡ blank c
    blank_stays (entry.Write b o bytes) e c is = go (is_cached past b) (written b o bytes c) refl
      where
        go : (k : Bool) (v : Option ℕ) → written b o bytes c ≡ v → after_host_write k v (blank c) ≡ blank c
        go true None f = refl
        go false None f = refl
        go k (Some v) f = absurd (clash {b = new c} is (writes_old c v (ap (λ (y : Entry). host_value y c) e ∙ f)))
    blank_stays (entry.Flush b o n) e c is = go (is_cached past b && reaches b o n c)
      where
        go : (k : Bool) → (if k then written_back 0 (blank c) else blank c) ≡ blank c
        go true = refl
        go false = refl
    blank_stays (entry.Invalidate b o n) e c is = go (is_cached past b && reaches b o n c)
      where
        nothing : (z : Bool) → ◌≡◌ {A = Option Held} (if z then None else None) None
        nothing true = refl
        nothing false = refl

        go : (k : Bool) → (if k then forgotten 0 (blank c) else blank c) ≡ blank c
        go true = λ i. record { region = values c; held = λ a. nothing (a == 0) i }
        go false = refl
    blank_stays (entry.Pass d) e c is = go (among (resource_at c) moved)
      where
        go : (k : Bool) → (if k then in_all_caches written_back (blank c) else blank c) ≡ blank c
        go true = refl
        go false = refl
    blank_stays (entry.EndPass d kept lost) e c is = go (among (resource_at c) moved)
      where
        go : (k : Bool) → (if k then in_all_caches dropped (blank c) else blank c) ≡ blank c
        go true = refl
        go false = refl
    blank_stays y e c is = refl

    pub entry_apart : (atoms : List ℕ) (cells : Cells) → ((c : Byte) → in_atoms (touched_by x) atoms c ≡ true → new c ≡ false)
        → (λ c. after_host past moved x c (after_atoms x atoms (with_new cells) c)) ≡ with_new (λ c. after_host past moved x c (after_atoms x atoms cells c))
    entry_apart atoms cells stays = λ i c. go c (new c) refl (in_atoms (touched_by x) atoms c) refl i
      where
        go : (c : Byte) (b : Bool) → new c ≡ b → (k : Bool) → in_atoms (touched_by x) atoms c ≡ k
            → after_host past moved x c (if k then turned_over (if b then blank c else cells c) else (if b then blank c else cells c)) ≡ (if b then blank c else after_host past moved x c (if k then turned_over (cells c) else cells c))
        go c true e true f = absurd (clash {b = new c} e (stays c f))
        go c true e false f = blank_stays x refl c e
        go c false e k f = refl

-- ---- along a run

front_with : (parts : ℕ) (x : Entry) (s : Stage) → (with_parts parts x s).front ≡ s.front
front_with parts (entry.Pass d) s = refl
front_with parts (entry.EndPass d kept lost) s = refl
front_with parts x s = refl

module _ {t : List Entry} (known : Known t) (together : PiecesAreByteWrites) (new : Byte → Bool) (values : Byte → ℕ) where
  abbrev all : Past
  all = order t

  -- the bytes of resources that were made don't pass the test
  abbrev pub IsOld : Stage → Type 0
  IsOld s = (c : Byte) → IsTrue (is_made s.front.past c) → new c ≡ false

  next_at : (s : Stage) (did : List Task) → AtPoint known s did → (step : Step) (e : Stage) → Next s step e → AtPoint known e (with_step s step did)
  next_at s did i step e next = all_steps known (step ∷ []) s did i e (e, next, refl)

  -- what was made stays made
  still_made : (s : Stage) (did : List Task) → AtPoint known s did → (step : Step) (e : Stage) → Next s step e → (c : Byte) → IsTrue (is_made s.front.past c) → IsTrue (is_made e.front.past c)
  still_made s did i (Apply atoms parts) e next c h = go s.left refl next
    where
      go : (left : List Entry) → s.left ≡ left → Applies s atoms parts left e → IsTrue (is_made e.front.past c)
      go [] left next = absurd next
      go (x ∷ xs) left next = some (made s.front.past (resource_at c)) refl h
        where
          b : Grows Quiet (host s.count x ∷ s.front.past) (past_with s x)
          b = entry_grows s.count x s.front

          whole : past_with s x ≡ (b.newer ++ host s.count x ∷ []) ++ s.front.past
          whole = b.whole ∙ sym (append_assoc b.newer (host s.count x ∷ []) s.front.past)

          fresh : IsNew (past_with s x)
          fresh p q k = let g = after_grows known s did i x xs left in new_ids all known.sound p q (comes_within all g.newer (past_with s x) g.whole p q k)

          past_is : e.front.past ≡ past_with s x
          past_is = ap (λ (m : Stage). m.front.past) next.2 ∙ ap (λ (f : Front). f.past) (front_with parts x (entered s x xs))

          some : (o : Option Entry) → made s.front.past (resource_at c) ≡ o → IsTrue (is_some o) → IsTrue (is_made e.front.past c)
          some None is h = absurd cc
          some (Some y) is h = ap is_some (ap (λ (l : Past). made l (resource_at c)) (past_is ∙ whole) ∙ made_up (b.newer ++ host s.count x ∷ []) s.front.past (resource_at c) y (subst (λ (l : Past). IsNew l) whole fresh) is)
  still_made s did i (RunPiece y) e next c h = subst (λ (m : Stage). IsTrue (is_made m.front.past c)) (sym next.1) h
  still_made s did i (CopyPart k) e next c h = subst (λ (m : Stage). IsTrue (is_made m.front.past c)) (sym next.1) h

  old_before : (steps : List CachedStep) (s : CachedStage) (did : List Task) → AtPoint known s.stage did → (e : CachedStage) → CachedAllowed s steps e → IsOld e.stage → IsOld s.stage
  old_before [] s did i e run old = subst (λ (m : CachedStage). IsOld m.stage) run old
  old_before (Does step moved ∷ steps) s did i e run old = λ c h.
      old_before steps run.0 (with_step s.stage step did) (next_at s.stage did i step run.0.stage run.1.0) e run.2 old c (still_made s.stage did i step run.0.stage run.1.0 c h)
  old_before (Touches touch queue test ∷ steps) s did i e run old =
      subst (λ (m : Stage). IsOld m) run.1.0 (old_before steps run.0 did (subst (λ (m : Stage). AtPoint known m did) (sym run.1.0) i) e run.2 old)

  step_apart : (s : Stage) (did : List Task) → AtPoint known s did → IsOld s → (step : Step) (moved : List ℕ) (e : Stage) → Next s step e → (cells : Cells)
      → after_step s step moved (with_new new values cells) ≡ with_new new values (after_step s step moved cells)
  step_apart s did i old (Apply atoms parts) moved e next cells = go s.left refl next
    where
      go : (left : List Entry) → s.left ≡ left → Applies s atoms parts left e → after_next s atoms moved left (with_new new values cells) ≡ with_new new values (after_next s atoms moved left cells)
      go [] left next = absurd next
      go (x ∷ xs) left next = entry_apart new values s.front.past moved x
          (λ c v is.
          let l = split known together s did i x xs left in
          let y = named_made all l.0 s.front.past (host s.count x) c l.1 (new_ids all known.sound) (live_ids all known.sound) (host_names x c (host_writes_it together all x c v is)) in
          old c (ap is_some y.1)) atoms cells
          (λ c is. let y = made_where s.front.past (resource_at c) (atoms_cached s.front.past x atoms next.1 c is) in old c (ap is_some y.1))
  step_apart s did i old (RunPiece y) moved e next cells = piece_apart new values _ (named_piece s.front.past y) cells
      (λ c w is. let f = inside known together _ s.front.past (grows known s did i) s.done y c w next.0 is in (old c f.0, λ d g. old d (f.1 d g)))
  step_apart s did i old (CopyPart k) moved e next cells = refl

  abbrev other : CachedStage → CachedStage
  other s = record s { cells = with_new new values s.cells }

  pub run_apart : (steps : List CachedStep) (s : CachedStage) (did : List Task) → AtPoint known s.stage did → (e : CachedStage) → CachedAllowed s steps e → IsOld e.stage → CachedAllowed (other s) (apart new values steps) (other e)
  run_apart [] s did i e run old = ap other run
  run_apart (Does step moved ∷ steps) s did i e run old = (
    other run.0,
    (
      run.1.0,
      ap (with_new new values) run.1.1
          ∙ sym (nodes_apart new values s.stage run.0.stage (after_step s.stage step moved s.cells))
          ∙ ap (after_nodes s.stage run.0.stage) (sym (step_apart s.stage did i (old_before (Does step moved ∷ steps) s did i e run old) step moved run.0.stage run.1.0 s.cells)),
    ),
    run_apart steps run.0 (with_step s.stage step did) (next_at s.stage did i step run.0.stage run.1.0) e run.2 old,
  )
  run_apart (Touches touch queue test ∷ steps) s did i e run old = (
    other run.0,
    (run.1.0, ap (with_new new values) run.1.1 ∙ sym (touch_apart new values touch (queue_agent queue) test s.cells)),
    run_apart steps run.0 did (subst (λ (m : Stage). AtPoint known m did) (sym run.1.0) i) e run.2 old,
  )

-- where it begins
pub other_start : (t : List Entry) (new : Byte → Bool) (values first : Byte → ℕ)
    → ◌≡◌ {A = CachedStage} (record { stage = start t; cells = with_new new values (cached_start t first).cells }) (cached_start t (λ c. if new c then values c else first c))
other_start t new values first = ap (λ (cells : Cells). record { stage = start t; cells = cells }) (λ i c. at c (new c) i)
  where
    at : (c : Byte) (b : Bool) → ◌≡◌ {A = Cell} (if b then record { region = values c; held = λ a. None } else record { region = first c; held = λ a. None }) (record { region = if b then values c else first c; held = λ a. None })
    at c true = refl
    at c false = refl

-- ---- so a run on memory directly leads to other memory, too

pub new_memory : {t : List Entry} (known : Known t) (together : PiecesAreByteWrites) (steps : List Step) (s : Stage) (m n : HostMemory) → DirectRun t steps s m
    → ((c : Byte) → IsTrue (is_made s.front.past c) → (m.region c ≡ n.region c) × (m.host c ≡ n.host c)) → ((c : Byte) → is_made s.front.past c ≡ false → n.host c ≡ None) → DirectRun t steps s n
new_memory {t} known together steps s m n r same empty = record {
  first = λ c. if new c then n.region c else r.first c;
  cached_steps = apart new n.region r.cached_steps;
  run = subst (λ (b : CachedStage). CachedAllowed b (apart new n.region r.cached_steps) (record { stage = s; cells = cells_of n })) (other_start t new n.region r.first)
      (subst (λ (cells : Cells). CachedAllowed (record { stage = start t; cells = with_new new n.region (cached_start t r.first).cells }) (apart new n.region r.cached_steps) (record { stage = s; cells = cells })) end
      (run_apart known together new n.region r.cached_steps (cached_start t r.first) [] (begins known) (record { stage = s; cells = cells_of m }) r.run (λ c h. ap not h)));
  same_steps = apart_steps new n.region r.cached_steps ∙ r.same_steps;
}
  where
    new : Byte → Bool
    new c = not (is_made s.front.past c)

    end : with_new new n.region (cells_of m) ≡ cells_of n
    end = λ i c. at c (is_made s.front.past c) refl i
      where
        by_agent : (c : Byte) → n.host c ≡ None → (a : ℕ) → None ≡ held_by_host (n.host c) a
        by_agent c e zero = sym e
        by_agent c e (suc q) = refl

        at : (c : Byte) (b : Bool) → is_made s.front.past c ≡ b → (if not b then record { region = n.region c; held = λ a. None } else cells_of m c) ≡ cells_of n c
        at c true e = λ i. record { region = (same c e).0 i; held = held_by_host ((same c e).1 i) }
        at c false e = λ i. record { region = n.region c; held = λ a. by_agent c (empty c e) a i }
