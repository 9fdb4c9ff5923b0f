-- What entries of passes do to resources and passes.
use Rattle.std.proofs.Common.{◌≡◌, ℕ, suc, List, ◌∷◌, length, true, false, Option, Some, None, arith, refl, ap, sym, ◌∙◌, subst, inl, inr}
use Rattle.std.specs.Prelude.{option_map, if◌then◌else◌}
use Rattle.std.specs.Option.{option_and_then}
use Rattle.std.proofs.lemmas.List.FromFn.{length-range_with_len}
use Rattle.vk_memory.specs.MemoryState.{MemoryState}
use Rattle.vk_model.specs.declared.entry.Entry.TheVariants as entry
use Rattle.vk_model.specs.Basics.{below}
use Rattle.vk_model.specs.Trace.Point.{Past}
use Rattle.vk_model.specs.Trace.Order.{host}
use Rattle.vk_model.specs.Run.Caches.{Cell, Clean, Dirty, written_back, dropped}
use Rattle.vk_model.specs.Run.Caches as caches
use Rattle.vk_model.specs.Run.CachedRuns.{after_host, in_all_caches}
use Rattle.vk_model.specs.World.Bytes.{Byte, resource_at}
use Rattle.vma_defrag.specs.State.{DefragState, moves_in}
use Rattle.vma_defrag.specs.Passes.{pass_of}
use Rattle.vk_model.specs.Memory.MoveTargets.{Moved, parts_of_moves}
use Rattle.vk_backing.specs.Backed.{Backed}
use Rattle.vk_backing.specs.Passing.{Passing, ArePassing, CopiesAgree, defrag_in, open_defrag, open_moves, parts_left, left_by, moves_by}
use Rattle.vk_backing.specs.PassSteps.{Begins, Opens, Closes}
use Rattle.vk_image_transfer.specs.Held.{place_of}
use Rattle.vk_model.specs.declared.resource.ImageInfo.{ImageInfo}
use Rattle.vk_resources.specs.declared.resources.Placed.{Placed}
use Rattle.vk_resources.specs.Held.{Held, IsThere, HasCell, placed, shape_of, form_of}
use Rattle.vk_resources.proofs.Lying.{where_lies, lies_there}
use Rattle.vk_resources.proofs.Matching.{some_sized}
use Rattle.vk_backing.proofs.Numbers.{listed_or}
use Rattle.vk_resources.specs.Matches.{Stands}
use Rattle.vk_resources.specs.PassSteps.{AreClean, WritesBack, Drops, EndsResources, KeepsForm, is_of_any}
use Rattle.vk_device.specs.Inner.Clean.{IsClean}
use Rattle.vk_device.specs.Inner.Ready.{GoesOn, IsOnHost}
use Rattle.vk_device.specs.Passes.{HasPasses, parts_begun}
use Rattle.vk_device.proofs.KeptPasses.{at_queue, was_there}
use Rattle.vk_device.proofs.PassPasts.{begun_passes, closed_passes, less_passes, opened_passes}
use Rattle.vk_device.proofs.PassStands.{defrag_stands, pass_stands, undefrag_stands}

-- ---- caches of queues that hold nothing

-- what one of them holds is written back where it holds nothing
none_back : (a : ℕ) (cell : Cell) → cell.held a ≡ None → written_back a cell ≡ cell
none_back a cell none = rw (written_back, none) refl

none_dropped : (a : ℕ) (cell : Cell) → cell.held a ≡ None → dropped a cell ≡ cell
none_dropped a cell none = rw (dropped, none) refl

-- the host's cache leaves the others
back_leaves : (cell : Cell) (q : ℕ) → (written_back 0 cell).held (suc q) ≡ cell.held (suc q)
back_leaves cell q = go (cell.held 0)
  where
    go : (h : Option caches.Held) → (caches.written_back_if 0 h cell).held (suc q) ≡ cell.held (suc q)
    go None = refl
    go (Some (Clean v)) = refl
    go (Some (Dirty v)) = at_queue (Some (Clean v)) cell.held q

drop_leaves : (cell : Cell) (q : ℕ) → (dropped 0 cell).held (suc q) ≡ cell.held (suc q)
drop_leaves cell q = go (cell.held 0)
  where
    go : (h : Option caches.Held) → (caches.dropped_if 0 h cell).held (suc q) ≡ cell.held (suc q)
    go None = refl
    go (Some (Clean v)) = at_queue None cell.held q
    go (Some (Dirty v)) = refl

all_back : (cell : Cell) → IsOnHost cell → in_all_caches written_back cell ≡ written_back 0 cell
all_back cell on_host =
    ap (λ (k : Cell). written_back 4 (written_back 3 (written_back 2 k))) (none 0) ∙ ap (λ (k : Cell). written_back 4 (written_back 3 k)) (none 1) ∙ ap (λ (k : Cell). written_back 4 k) (none 2) ∙ none 3
  where
    none : (q : ℕ) → written_back (suc q) (written_back 0 cell) ≡ written_back 0 cell
    none q = none_back (suc q) (written_back 0 cell) (back_leaves cell q ∙ on_host q)

all_dropped : (cell : Cell) → IsOnHost cell → in_all_caches dropped cell ≡ dropped 0 cell
all_dropped cell on_host =
    ap (λ (k : Cell). dropped 4 (dropped 3 (dropped 2 k))) (none 0) ∙ ap (λ (k : Cell). dropped 4 (dropped 3 k)) (none 1) ∙ ap (λ (k : Cell). dropped 4 k) (none 2) ∙ none 3
  where
    none : (q : ℕ) → dropped (suc q) (dropped 0 cell) ≡ dropped 0 cell
    none q = none_dropped (suc q) (dropped 0 cell) (drop_leaves cell q ∙ on_host q)

-- ---- the open pass where others change

-- the open pass stays where its defragmentation does
same_open : (p q : Passing) → q.opened ≡ p.opened → ((i : ℕ) → p.opened ≡ Some i → defrag_in q i ≡ defrag_in p i) → open_defrag q ≡ open_defrag p
same_open p q opened same = ap (λ (o : Option ℕ). option_and_then (defrag_in q) o) opened ∙ go p.opened refl
  where
    go : (o : Option ℕ) → p.opened ≡ o → option_and_then (defrag_in q) o ≡ option_and_then (defrag_in p) o
    go None is = refl
    go (Some i) is = same i is

-- what was copied stays copied then
same_agree : (p q : Passing) (b : Backed) (m : MemoryState) → open_defrag q ≡ open_defrag p → CopiesAgree p b m → CopiesAgree q b m
same_agree p q b m same agree = rw same agree

-- all parts of a pass that begins are left
pub parts_begin : (p q : Passing) (b c : Backed) (d : ℕ) → Opens p q b c d → parts_left q ≡ below (parts_of_moves (open_moves q))
parts_begin p q b c d opens =
    let now : open_defrag q ≡ Some (record opens.was { current = Some (pass_of (moves_in opens.now.current)) }) = ap (λ (o : Option ℕ). option_and_then (defrag_in q) o) opens.opened ∙ opens.here ∙ ap (λ (x : DefragState). Some x) (state opens.was opens.now _ opens.begun.state) in
    ap left_by now ∙ ap (λ (o : Option DefragState). below (parts_of_moves (moves_by o))) (sym now)
  where
    state : (was now : DefragState) (ms : List Moved) → now ≡ record was { current = Some (pass_of ms) } → now ≡ record was { current = Some (pass_of (moves_in now.current)) }
    state was now ms is = is ∙ ap (λ (l : List Moved). record was { current = Some (pass_of l) }) (sym (ap (λ (x : DefragState). moves_in x.current) is))

module _ (number : ℕ) (past : Past) (parts : List ℕ) (s : Held) (p q : Passing) (has : HasPasses parts past p s) where
  module _ (i r n m : ℕ) (clean : IsClean (host number (entry.Defrag i r n m) ∷ past)) (stands : Stands past s) where
    pub defrag_goes : defrag_in p i ≡ None → Begins p q s.backed i r n m → ArePassing q s.backed → GoesOn number (entry.Defrag i r n m) past parts s p s q
    defrag_goes absent begins passing = record {
      stands = defrag_stands number i r n m past s clean stands;
      cells = λ c cell on_host was there had. had;
      bare = λ c there absent. absurd (absent there);
      passes = record {
        passing = passing;
        matches = begun_passes number past s.backed p q i r n m clean has.matches begins;
        left = has.left ∙ sym (ap left_by still);
        agree = same_agree p q s.backed s.memory still has.agree;
        clean = rw begins.moving has.clean;
      };
    }
      where
        still : open_defrag q ≡ open_defrag p
        still = same_open p q begins.opened (λ j is. begins.others j (λ e. let o = has.passing.opened j is in let f = sym absent ∙ ap (defrag_in p) (sym e) ∙ o.1 in absurd cc))

  module _ (d : ℕ) (clean : IsClean (host number (entry.EndDefrag d) ∷ past)) (stands : Stands past s) where
    pub undefrag_goes : (p.opened ≡ Some d → ⊥) → defrag_in q d ≡ None → ((i : ℕ) → (i ≡ d → ⊥) → defrag_in q i ≡ defrag_in p i) → q.opened ≡ p.opened → q.moving ≡ p.moving → ArePassing q s.backed → GoesOn number (entry.EndDefrag d) past parts s p s q
    undefrag_goes closed gone others opened moving passing = record {
      stands = undefrag_stands number d past s clean stands;
      cells = λ c cell on_host was there had. had;
      bare = λ c there absent. absurd (absent there);
      passes = record {
        passing = passing;
        matches = less_passes number past s.backed p q d has.matches gone others opened;
        left = has.left ∙ sym (ap left_by still);
        agree = same_agree p q s.backed s.memory still has.agree;
        clean = rw moving has.clean;
      };
    }
      where
        still : open_defrag q ≡ open_defrag p
        still = same_open p q opened (λ j is. others j (λ e. closed (is ∙ ap (λ (k : ℕ). Some k) e)))

  -- ---- a pass begins

  module _ (t : Held) (d : ℕ) (clean : IsClean (host number (entry.Pass d) ∷ past)) (stands : Stands past t) where
    pub pass_goes : Opens p q s.backed t.backed d → ArePassing q t.backed → t.resources ≡ s.resources → t.shapes ≡ s.shapes → WritesBack q.moving s t → AreClean q.moving t → CopiesAgree q t.backed t.memory → GoesOn number (entry.Pass d) past parts s p t q
    pass_goes opens passing resources shapes written all agree = record {
      stands = pass_stands number d past t stands;
      cells = λ c cell on_host was there had. back c cell on_host (written c cell was had);
      bare = λ c there absent. absurd (absent (was_there s t resources shapes c there));
      passes = record {
        passing = passing;
        matches = opened_passes number past s.backed t.backed p q d clean has.passing has.matches opens;
        left = all_left;
        agree = agree;
        clean = all;
      };
    }
      where
        back : (c : Byte) (cell : Cell) → IsOnHost cell → HasCell t c (if is_of_any q.moving c then written_back 0 cell else cell) → HasCell t c (after_host past q.moving (entry.Pass d) c cell)
        back c cell on_host has = subst (λ (k : Cell). HasCell t c (if is_of_any q.moving c then k else cell)) (sym (all_back cell on_host)) has

        begins : parts_left q ≡ below (parts_of_moves (open_moves q))
        begins = parts_begin p q s.backed t.backed d opens

        all_left : below (parts_begun q (entry.Pass d)) ≡ parts_left q
        all_left = ap (λ (l : List ℕ). below (length l)) begins ∙ ap below (length-range_with_len 0 (parts_of_moves (open_moves q))) ∙ sym begins

  -- ---- and ends

  module _ (t : Held) (d : ℕ) (kept lost : List ℕ) (clean : IsClean (host number (entry.EndPass d kept lost) ∷ past)) where
    pub end_goes : Closes p q s.backed t.backed s.memory t.memory d kept lost → ArePassing q t.backed → Drops p.moving s t → EndsResources s t p.moving lost → Stands (host number (entry.EndPass d kept lost) ∷ past) t → GoesOn number (entry.EndPass d kept lost) past parts s p t q
    end_goes closes passing drops ends stands = record {
      stands = stands;
      cells = λ c cell on_host was there had. forget c cell on_host (drops c cell was there had);
      bare = λ c there absent. absurd (absent (there_before c there));
      passes = record {
        passing = passing;
        matches = closed_passes number past s.backed t.backed p q d kept lost s.memory t.memory clean has.matches closes;
        left = sym (ap left_by none_open);
        agree = λ i at from to lt. absurd (let none : length (open_moves q) ≡ 0 = ap (λ (o : Option DefragState). length (moves_by o)) none_open in omega (arith, lt, none));
        clean = λ c there moves. absurd (let none : false ≡ true = ap (λ (ids : List ℕ). is_of_any ids c) (sym closes.none_moving) ∙ moves in cc);
      };
    }
      where
        none_open : open_defrag q ≡ None
        none_open = ap (λ (o : Option ℕ). option_and_then (defrag_in q) o) closes.none_open

        forget : (c : Byte) (cell : Cell) → IsOnHost cell → HasCell t c (if is_of_any p.moving c then dropped 0 cell else cell) → HasCell t c (after_host past p.moving (entry.EndPass d kept lost) c cell)
        forget c cell on_host has = subst (λ (k : Cell). HasCell t c (if is_of_any p.moving c then k else cell)) (sym (all_dropped cell on_host)) has

        there_before : (c : Byte) → IsThere t c → IsThere s c
        there_before c there = elim (listed_or lost (resource_at c)) [
          | inl ended ↦ absurd (let f = sym (where_lies t c there).here ∙ (ends.gone (resource_at c) ended).0 in cc)
          | inr away ↦ stayed (ends.forms (resource_at c) away)
        ]
          where
            stayed : KeepsForm s t (resource_at c) → IsThere s c
            stayed form =
                let l = where_lies t c there in
                let p = some_sized (placed s (resource_at c)) l.place.size (sym form.size ∙ ap (λ (o : Option Placed). option_map (λ (y : Placed). y.size) o) l.here) in
                lies_there s c (record {
                  place = p.0;
                  at = l.at;
                  here = p.1;
                  is = ap (λ (i : Option ImageInfo). place_of (form_of i p.0.size) c) (sym form.shape) ∙ ap (λ (n : ℕ). place_of (form_of (shape_of t (resource_at c)) n) c) p.2 ∙ l.is;
                })
