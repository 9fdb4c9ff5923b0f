-- What entries do to passes that begin and end none.
use Rattle.std.proofs.Common.{◌≡◌, ℕ, List, [], ◌∷◌, false, refl, sym, subst}
use Rattle.vk_model.specs.declared.entry.Entry.{Entry}
use Rattle.vk_model.specs.declared.entry.Entry.TheVariants as entry
use Rattle.vk_model.specs.Trace.Point.{Past}
use Rattle.vk_model.specs.Trace.Order.{host}
use Rattle.vk_model.specs.Run.CachedRuns.{after_host}
use Rattle.vk_model.specs.Memory.Allocations.{Allocated, Changes, parts_after}
use Rattle.vk_backing.specs.Passing.{Passing, CopiesAgree}
use Rattle.vk_backing.specs.PassAllots.{FulfilsAll}
use Rattle.vk_resources.specs.declared.applied.Applied.{Applied}
use Rattle.vk_resources.specs.declared.applied.Applied.TheVariants as applied
use Rattle.vk_resources.specs.Allocating.{allotted, Allots, IsAllocated}
use Rattle.vk_resources.specs.Done.{DoneBy, Goes}
use Rattle.vk_resources.specs.Fits.{FitsEntry}
use Rattle.vk_resources.specs.Held.{Held, IsConsistent, HasCell}
use Rattle.vk_resources.specs.Matches.{Stands}
use Rattle.vk_resources.specs.Passes.{KeepsSpared}
use Rattle.vk_resources.proofs.AllottedPasses.{IsNoPass, all_allotted}
use Rattle.vk_device.specs.Inner.Clean.{IsClean}
use Rattle.vk_device.specs.Inner.Fits.{FitsHost, is_of_passes}
use Rattle.vk_device.specs.Inner.Ready.{GoesOn, IsDone, parts_with}
use Rattle.vk_device.specs.Passes.{AllotsAll, HasPasses, parts_begun, moved_by}
use Rattle.vk_device.proofs.PassCaches.{entry_clean}
use Rattle.vk_device.proofs.PassPasts.{plain_passes}
use Rattle.vk_device.proofs.PassRules.{spares_passes}

-- ---- entries of no passes

-- what the others ask of resources is what they ask
pub plain_fits : (past : Past) (x : Entry) → is_of_passes x ≡ false → FitsHost past x → FitsEntry past x
plain_fits past (entry.Defrag i q n m) plain fits = absurd cc
plain_fits past (entry.Pass d) plain fits = absurd cc
plain_fits past (entry.EndPass d kept lost) plain fits = absurd cc
plain_fits past (entry.EndDefrag d) plain fits = absurd cc
plain_fits past _ plain fits = fits

none_moved : (p q : Passing) (x : Entry) → is_of_passes x ≡ false → moved_by p x q ≡ []
none_moved p q (entry.Pass d) plain = absurd cc
none_moved p q (entry.EndPass d kept lost) plain = absurd cc
none_moved p q _ plain = refl

same_parts : (q : Passing) (x : Entry) (parts : List ℕ) → is_of_passes x ≡ false → parts_with q x parts ≡ parts
same_parts q (entry.Pass d) parts plain = absurd cc
same_parts q (entry.EndPass d kept lost) parts plain = absurd cc
same_parts q _ parts plain = refl

none_begun_by : (q : Passing) (e : Allocated) (x : Entry) → is_of_passes x ≡ false → parts_begun q x ≡ parts_after e x
none_begun_by q e (entry.Pass d) plain = absurd cc
none_begun_by q e _ plain = refl

no_pass : (x : Entry) → is_of_passes x ≡ false → IsNoPass x
unfolding IsNoPass
no_pass (entry.Defrag i q n m) plain = absurd cc
no_pass (entry.Pass d) plain = absurd cc
no_pass (entry.EndPass d kept lost) plain = absurd cc
no_pass (entry.EndDefrag d) plain = absurd cc
no_pass _ plain = tt

module _ (x : Entry) (plain : is_of_passes x ≡ false) (s t : Held) (p : Passing) (consistent : IsConsistent s) where
  module _ (number : ℕ) (past : Past) (parts : List ℕ) (clean : IsClean (host number x ∷ past)) (stands : Stands past s) (has : HasPasses parts past p s) (spared : KeepsSpared x s t) (agree : CopiesAgree p t.backed t.memory) where
    plain_goes : Goes number x past s t → GoesOn number x past parts s p t p
    plain_goes goes = record {
      stands = goes.0;
      cells = λ c cell on_host was there had. subst (λ (ms : List ℕ). HasCell t c (after_host past ms x c cell)) (sym (none_moved p p x plain)) (goes.1 c cell was there had);
      bare = goes.2;
      passes = subst (λ (ks : List ℕ). HasPasses ks (host number x ∷ past) p t) (sym (same_parts p x parts plain)) (record {
        passing = spared.passing p has.passing (spares_passes number x past s p clean stands consistent has.passing has.matches);
        matches = plain_passes number x past s t p plain clean has.matches spared.pools;
        left = has.left;
        agree = agree;
        clean = entry_clean number x past s t p plain clean stands consistent has.passing has.matches goes.1 goes.2 has.clean;
      });
    }

    pub plain_done : (a : Applied) → DoneBy a number x past s t → IsDone a number x past parts s p t p
    plain_done applied.Done done = (plain_goes done.0, done.1)
    plain_done (applied.Bytes bytes) done = (plain_goes done.0, done.1)
    plain_done applied.NoRoom done = (done.0, refl, done.1)

    changes_all : (d e : Allocated) → FulfilsAll (allotted s) p d → Changes d x e → IsAllocated t e → FulfilsAll (allotted t) p e
    changes_all d e is changes are =
        all_allotted x (no_pass x plain) s t consistent p has.passing (spares_passes number x past s p clean stands consistent has.passing has.matches) spared.pools d e is changes are

    pub plain_allots : (a : Applied) → DoneBy a number x past s t → Allots a x s t → AllotsAll a x s p t p
    plain_allots applied.Done done allots = λ d is. let e = allots d is.resources in (e.0, e.1, changes_all d e.0 is e.1 e.2, none_begun_by p e.0 x plain)
    plain_allots (applied.Bytes bytes) done allots = λ d is. let e = allots d is.resources in (e.0, e.1, changes_all d e.0 is e.1 e.2, none_begun_by p e.0 x plain)
    plain_allots applied.NoRoom done allots = λ d is. subst (λ (h : Held). FulfilsAll (allotted h) p d) (sym done.0) is
