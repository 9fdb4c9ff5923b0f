-- What was picked before an entry, and the entry.
use Rattle.std.proofs.Common.{◌≡◌, ℕ, List, [], ◌∷◌, ◌++◌, refl, ap, sym, ◌∙◌, subst, append_assoc, IsTrue}
use Rattle.vk_model.specs.declared.entry.Entry.{Entry}
use Rattle.vk_model.specs.Run.Runs.{Step, Stage, Apply, applied, may_go, atom_count}
use Rattle.vk_model.specs.Run.Picks.{Picked, before_entry, atom_picks}
use Rattle.vk_laws.specs.DirectRuns.{HostMemory, DirectRunsAreRuns}
use Rattle.vk_laws.specs.PickedRuns.{PicksLeadOn}
use Rattle.vk_cache_laws.specs.LateRuns.{Late}
use Rattle.vk_resources.specs.declared.applied.Applied.{Applied}
use Rattle.vk_resources.specs.declared.applied.Applied.TheVariants as done
use Rattle.vk_device.specs.Led.{Reads}
use Rattle.vk_device.specs.Passes.{parts_begun}
use Rattle.vk_device.proofs.Entering.{follows_before, reads_before}
use Rattle.vk_cached_device.specs.declared.device.CachedDevice.{CachedDevice}
use Rattle.vk_cached_device.specs.LedLate.{LedLate, IsBeforeLate, IsNextLate}
use Rattle.vk_cached_device.specs.Touching.{late_before_entry}
use Rattle.vk_cached_device.specs.Applies.{PicksLate, LedByEntry, AppliesLate, ReadsLate, late_when_applied}
use Rattle.vk_cached_device.specs.Inner.{MayGoNext, AppliesNext, LedByNext}
use Rattle.vk_cached_device.proofs.Turning.{plain_before}

module _ (answer : List ℕ → ℕ → ℕ) (next : List ℕ → ℕ → List ℕ) (runs : DirectRunsAreRuns) (lead_on : PicksLeadOn) (held between after : List ℕ) (x : Entry) (old mid : CachedDevice) (picked : PicksLate answer next held x old mid between) where
  module _ (t : List Entry) (steps : List Step) (s : Stage) (memory : HostMemory) (late : Late) (xs : List Entry) (is : IsBeforeLate t steps s memory late x xs old) where
    abbrev p : Picked
    p = before_entry answer next s held x

    abbrev l : HostMemory × Late
    l = late_before_entry answer next s held x (memory, late)

    pub before_next : IsBeforeLate t (steps ++ (before_entry answer next s held x).steps) (before_entry answer next s held x).stage (late_before_entry answer next s held x (memory, late)).0 (late_before_entry answer next s held x (memory, late)).1 x xs mid
    before_next =
        let by = picked t steps s memory late xs is in
        let plain = follows_before answer next t steps s held x xs old.device mid.device between runs lead_on (plain_before is) (by.0.led, by.1, by.2) in
        record { led = by.0; next = plain.next; sound = is.sound }

    module _ (new : CachedDevice) where
      pub joined : (a : Applied) → AppliesNext answer next a between x mid new after → LedByEntry answer next a t steps s memory late held x xs new after
      joined a applies = go a (applies t _ _ _ _ xs before_next (picked t steps s memory late xs is).2)
        where
          same : between ≡ p.held
          same = (picked t steps s memory late xs is).1

          entry : (let atoms = atom_picks answer next (atom_count p.stage.front.past x) 0 between in (m : HostMemory) × LedLate t ((steps ++ p.steps) ++ Apply atoms.0 (parts_begun new.device.passes x) ∷ []) (applied p.stage (parts_begun new.device.passes x) x xs) m (late_when_applied p.stage (parts_begun new.device.passes x) new.device.passes x xs l.1) new × (after ≡ atoms.1))
              → (let atoms = atom_picks answer next (atom_count p.stage.front.past x) 0 p.held in (m : HostMemory) × LedLate t (steps ++ (p.steps ++ Apply atoms.0 (parts_begun new.device.passes x) ∷ [])) (applied p.stage (parts_begun new.device.passes x) x xs) m (late_when_applied p.stage (parts_begun new.device.passes x) new.device.passes x xs l.1) new × (after ≡ atoms.1))
          entry by =
              let moved = subst (λ (h : List ℕ). LedLate t ((steps ++ p.steps) ++ Apply (atom_picks answer next (atom_count p.stage.front.past x) 0 h).0 (parts_begun new.device.passes x) ∷ []) (applied p.stage (parts_begun new.device.passes x) x xs) by.0 (late_when_applied p.stage (parts_begun new.device.passes x) new.device.passes x xs l.1) new × (after ≡ (atom_picks answer next (atom_count p.stage.front.past x) 0 h).1)) same (by.1, by.2) in
              (by.0, subst (λ (ss : List Step). LedLate t ss (applied p.stage (parts_begun new.device.passes x) x xs) by.0 (late_when_applied p.stage (parts_begun new.device.passes x) new.device.passes x xs l.1) new) (append_assoc steps p.steps _) moved.0, moved.1)

          go : (a : Applied) → LedByNext answer next a t (steps ++ p.steps) p.stage l.0 l.1 between x xs new after → LedByEntry answer next a t steps s memory late held x xs new after
          go done.NoRoom by = (by.0, by.1 ∙ same)
          go done.Done by = entry by
          go (done.Bytes b) by = entry by

    pub read_joined : (a : Applied) → ReadsLate a x mid → Reads a s x
    read_joined a reads = reads_before answer next t steps s held x xs old.device a runs lead_on (plain_before is) (reads t _ _ _ _ xs before_next)

  pub may_next : IsNextLate old x → MayGoNext mid x
  may_next r = (r.0, _, _, _, _, r.5, before_next r.0 r.1 r.2 r.3 r.4 r.5 r.6, (picked r.0 r.1 r.2 r.3 r.4 r.5 r.6).2)
