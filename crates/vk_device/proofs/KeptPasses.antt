-- The passes of a device where no entry is applied.
use Rattle.std.proofs.Common.{◌≡◌, ℕ, suc, arith, List, [], ◌∷◌, Bool, true, false, not, ◌||◌, ◌==◌, Option, Some, None, refl, ap, sym, ◌∙◌}
use Rattle.std.specs.Prelude.{option_map, if◌then◌else◌}
use Rattle.std.specs.List.{filter}
use Rattle.std.proofs.lemmas.Bool.{ne_eqb}
use Rattle.vk_model.specs.Run.Caches as caches
use Rattle.vk_model.specs.declared.entry.Entry.{Entry}
use Rattle.vk_model.specs.declared.entry.Entry.TheVariants as entry
use Rattle.vk_model.specs.Basics.{below, among}
use Rattle.vk_model.specs.Trace.Point.{Past, entries}
use Rattle.vk_model.specs.Rules.Passes.{pool_of_defrag}
use Rattle.vk_model.specs.Run.Runs.{Stage, applied, parts_left}
use Rattle.vma_defrag.specs.State.{DefragState}
use Rattle.vk_backing.specs.Backed.{Backed, pool_of}
use Rattle.vk_backing.specs.Passing.{Passing, ArePassing, CopiesAgree, defrag_in}
use Rattle.vk_backing.specs.PassSteps.{Copies}
use Rattle.vk_map_cache.specs.Holdings.{Holdings}
use Rattle.vk_model.specs.declared.resource.ImageInfo.{ImageInfo}
use Rattle.vk_model.specs.World.Bytes.{Byte, in_buffer, in_image, resource_at}
use Rattle.vk_resources.specs.declared.resources.Placed.{Placed}
use Rattle.vk_resources.specs.Held.{Held, host_at, holding_in, placed, placed_in, shape_in, IsThere}
use Rattle.vk_resources.proofs.Lying.{there_stays}
use Rattle.vk_resources.specs.PassSteps.{KeepsCells}
use Rattle.vk_device.specs.Inner.Ready.{HasTouched, parts_with}
use Rattle.vk_device.specs.Passes.{HasPasses, IsDefragAs, parts_begun}
use Rattle.vk_device.proofs.PassCaches.{same_clean}
use Rattle.vk_device.proofs.PassPasts.{same_passes}

-- what the host's cache holds changes nothing of what a queue's does
pub at_queue : (h : Option caches.Held) (held : ℕ → Option caches.Held) (q : ℕ) → (if suc q == 0 then h else held (suc q)) ≡ held (suc q)
at_queue h held q = ap (λ (b : Bool). if b then h else held (suc q)) (ne_eqb (suc q) 0 (λ e. absurd (omega (arith, e))))

-- where resources stay, so does what is there
pub was_there : (old new : Held) → new.resources ≡ old.resources → new.shapes ≡ old.shapes → (c : Byte) → IsThere new c → IsThere old c
was_there old new same shapes c there = there_stays new old c (ap (λ (bs : List (ℕ × Placed)). placed_in bs (resource_at c)) (sym same)) (ap (λ (l : List (ℕ × ImageInfo)). shape_in l (resource_at c)) (sym shapes)) there

-- and what the host's cache holds of it, where that is the same
pub host_same : (old new : Held) → new.resources ≡ old.resources → new.cache ≡ old.cache → (c : Byte) → host_at new c ≡ host_at old c
host_same old new resources cache (in_buffer b k) = ap (λ (h : Holdings). holding_in h (placed new b) k) cache ∙ ap (λ (bs : List (ℕ × Placed)). holding_in old.cache (placed_in bs b) k) resources
host_same old new resources cache (in_image i l a x y p) = refl

-- points of batches leave them
pub passes_stay : (parts : List ℕ) (past all : Past) (p : Passing) (r : Held) → entries all ≡ entries past → HasPasses parts past p r → HasPasses parts all p r
passes_stay parts past all p r same has = record { passing = has.passing; matches = same_passes past all p r.backed same has.matches; left = has.left; agree = has.agree; clean = has.clean }

-- a piece does, where what was copied stays so
pub piece_passes : (parts : List ℕ) (past : Past) (p : Passing) (old new : Held) → new.backed ≡ old.backed → new.resources ≡ old.resources → new.shapes ≡ old.shapes → new.cache ≡ old.cache → CopiesAgree p new.backed new.memory → HasPasses parts past p old → HasPasses parts past p new
piece_passes parts past p old new backed resources shapes cache agree has = record {
  passing = rw backed has.passing;
  matches = rw backed has.matches;
  left = has.left;
  agree = agree;
  clean = same_clean old new p.moving resources shapes cache has.clean;
}

-- and so do atoms that the host's cache takes up or gives back
pub touched_passes : (parts : List ℕ) (past : Past) (p : Passing) (x : Entry) (atoms : List ℕ) (old new : Held) → HasTouched x atoms old new → HasPasses parts past p old → HasPasses parts past p new
touched_passes parts past p x atoms old new touched has =
    let both = touched.copies p has.passing has.clean has.agree in
    record {
      passing = rw touched.backed has.passing;
      matches = rw touched.backed has.matches;
      left = has.left;
      agree = both.1;
      clean = both.0;
    }

-- ---- a part is copied

-- the parts that are left but for one
fewer_left : (part : ℕ) (copied ks : List ℕ) → filter (λ k. not (among k (part ∷ copied))) ks ≡ filter (λ k. not (k == part)) (filter (λ k. not (among k copied)) ks)
fewer_left part copied [] = refl
fewer_left part copied (j ∷ ks) = go (j == part) refl (among j copied) refl (fewer_left part copied ks)
  where
    go : (a : Bool) → (j == part) ≡ a → (b : Bool) → among j copied ≡ b → filter (λ k. not (among k (part ∷ copied))) ks ≡ filter (λ k. not (k == part)) (filter (λ k. not (among k copied)) ks)
        → (if not (a || b) then j ∷ filter (λ k. not (among k (part ∷ copied))) ks else filter (λ k. not (among k (part ∷ copied))) ks) ≡ filter (λ k. not (k == part)) (if not b then j ∷ filter (λ k. not (among k copied)) ks else filter (λ k. not (among k copied)) ks)
    go true is true is' rest = rest
    go false is true is' rest = rest
    go true is false is' rest = rest ∙ sym (ap (λ (t : Bool). if not t then j ∷ filter (λ k. not (k == part)) (filter (λ k. not (among k copied)) ks) else filter (λ k. not (k == part)) (filter (λ k. not (among k copied)) ks)) is)
    go false is false is' rest = ap (λ (l : List ℕ). j ∷ l) rest ∙ sym (ap (λ (t : Bool). if not t then j ∷ filter (λ k. not (k == part)) (filter (λ k. not (among k copied)) ks) else filter (λ k. not (k == part)) (filter (λ k. not (among k copied)) ks)) is)

-- a defragmentation of the same pool is one of the trace all the same
same_defrag : (b : Backed) (pool : Option ℕ) (o q : Option DefragState) → option_map (λ (d : DefragState). d.pool) q ≡ option_map (λ (d : DefragState). d.pool) o → IsDefragAs b pool o → IsDefragAs b pool q
same_defrag b None o q same is = none q (same ∙ ap (λ (y : Option DefragState). option_map (λ (d : DefragState). d.pool) y) is)
  where
    none : (y : Option DefragState) → option_map (λ (d : DefragState). d.pool) y ≡ None → y ≡ None
    none None e = refl
    none (Some d) e = absurd cc
same_defrag b (Some pool) o q same is = some q (same ∙ ap (λ (y : Option DefragState). option_map (λ (d : DefragState). d.pool) y) is.1)
  where
    some : (y : Option DefragState) → option_map (λ (d : DefragState). d.pool) y ≡ Some is.0.pool → (d : DefragState) × (y ≡ Some d) × (pool_of b pool ≡ Some d.pool)
    some None e = absurd cc
    some (Some d) e = (d, refl, is.2 ∙ sym e)

pub copied_passes : (past : Past) (s : Stage) (part : ℕ) (p q : Passing) (old new : Held) → Copies p q old.backed part old.memory new.memory → KeepsCells old new → ArePassing q new.backed → (CopiesAgree p old.backed old.memory → CopiesAgree q new.backed new.memory)
    → HasPasses (parts_left s) past p old → HasPasses (parts_left (record s { copied = part ∷ s.copied })) past q new
copied_passes past s part p q old new copies keeps passing agree has = record {
  passing = passing;
  matches = rw keeps.backed (record {
    defrags = λ i. same_defrag old.backed (pool_of_defrag past i) (defrag_in p i) (defrag_in q i) (copies.pools i) (has.matches.defrags i);
    going = λ i is. has.matches.going i (sym copies.opened ∙ is);
    opened = λ i is. copies.opened ∙ has.matches.opened i is;
  });
  left = fewer_left part s.copied (below s.parts) ∙ ap (λ (l : List ℕ). filter (λ k. not (k == part)) l) has.left ∙ sym copies.left;
  agree = agree has.agree;
  clean = rw copies.moving (same_clean old new p.moving keeps.resources keeps.shapes keeps.cache has.clean);
}

-- ---- the parts when an entry has been applied

none_copied : (ks : List ℕ) → filter (λ k. not (among k [])) ks ≡ ks
none_copied [] = refl
none_copied (j ∷ ks) = ap (λ (l : List ℕ). j ∷ l) (none_copied ks)

pub parts_then : (s : Stage) (q : Passing) (x : Entry) (xs : List Entry) → parts_left (applied s (parts_begun q x) x xs) ≡ parts_with q x (parts_left s)
parts_then s q (entry.Pass d) xs = none_copied (below (parts_begun q (entry.Pass d)))
parts_then s q (entry.EndPass d kept lost) xs = refl
parts_then s q _ xs = refl
