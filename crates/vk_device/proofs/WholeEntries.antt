-- The whole of an entry, on a device.
use Rattle.std.proofs.Common.{◌≡◌, ℕ, zero, suc, ◌+◌, ◌%◌, ◌≤◌, nat_lt, arith, List, [], ◌∷◌, ◌++◌, Bool, true, false, ◌==◌, refl, ap, sym, ◌∙◌, subst, None}
use Rattle.std.specs.Prelude.{IsTrue, if◌then◌else◌}
use Rattle.std.specs.List.{list_all}
use Rattle.std.proofs.lemmas.Bool.{lt-ltb}
use Rattle.vk_model.specs.declared.entry.Entry.{Entry}
use Rattle.vk_model.specs.Laws.{NoFaultIsSound}
use Rattle.vk_model.specs.Run.Runs.{Step, Stage, Apply, applied, parts_left, touched_by, atom_count}
use Rattle.vk_model.specs.Run.Picks.{Picked, before_entry, atom_picks}
use Rattle.vk_model.specs.Trace.Order.{Front, host}
use Rattle.vk_model.specs.Trace.Point.{Past}
use Rattle.vk_laws.specs.DefinedRuns.{DefinedRunsFollow}
use Rattle.vk_laws.specs.DirectRuns.{DirectRunsAreRuns, NewMemoryHoldsAnything, EntriesGoOn, DirectRunsReadTheTrace, memory_after_entry}
use Rattle.vk_laws.specs.PickedRuns.{PicksLeadOn}
use Rattle.vk_resources.specs.declared.applied.Applied.{Applied}
use Rattle.vk_resources.specs.declared.applied.Applied.TheVariants as applied
use Rattle.vk_model.specs.World.Bytes.{Byte}
use Rattle.vk_resources.specs.Held.{Held, IsThere}
use Rattle.vk_resources.specs.Done.{HoldsNoneNew}
use Rattle.vk_resources.specs.Matches.{Stands}
use Rattle.vk_backing.specs.Passing.{Passing}
use Rattle.vk_device.specs.declared.device.Device.{Device}
use Rattle.vk_device.specs.Inner.Clean.{IsClean}
use Rattle.vk_device.specs.Becomes.{Becomes, memory_after}
use Rattle.vk_device.specs.Inner.Ready.{HostDone, Touches, Picks, Between, PicksBecome, AdvanceReady, MayChange, HasDone, IsDone}
use Rattle.vk_device.specs.Passes.{HasPasses, moved_by, parts_begun}
use Rattle.vk_device.proofs.Becoming.{moved_same, steps_become}
use Rattle.vk_device.proofs.KeptPasses.{touched_passes, was_there}
use Rattle.vk_device.specs.Led.{Led, IsBefore, Applies, ChangesBytes, Reads, IsNext}
use Rattle.vk_device.proofs.Entering.{clean_next, host_done, goes_of, reads_of, goes_becomes, before, follows_before, reads_before, picked_atoms, applies}

-- where there was no room nothing was changed, and no atom was picked
no_change : (a : Applied) (e : ℕ) (x : Entry) (past : Past) (parts : List ℕ) (old : Held) (p : Passing) (new : Held) (q : Passing) → a ≡ applied.NoRoom → IsDone a e x past parts old p new q → (new ≡ old) × (q ≡ p) × (touched_by x ≡ None)
no_change a e x past parts old p new q is done = subst (λ (b : Applied). IsDone b e x past parts old p new q) is done

no_atoms : (past : Past) (x : Entry) → touched_by x ≡ None → atom_count past x ≡ 0
no_atoms past x none = rw (atom_count, none) refl

-- the atoms that are picked are there
module _ (answer : List ℕ → ℕ → ℕ) (next : List ℕ → ℕ → List ℕ) where
  pub atoms_below : (n k m : ℕ) (held : List ℕ) → k + n ≤ m → IsTrue (list_all (λ j. nat_lt j m) (atom_picks answer next n k held).0)
  atoms_below zero k m held le = refl
  atoms_below (suc n) k m held le = go (answer held 2 % 2 == 1) (atoms_below n (k + 1) m (next held 2) (omega (arith, le)))
    where
      go : (b : Bool) → IsTrue (list_all (λ j. nat_lt j m) (atom_picks answer next n (k + 1) (next held 2)).0)
          → IsTrue (list_all (λ j. nat_lt j m) (if b then k ∷ (atom_picks answer next n (k + 1) (next held 2)).0 else (atom_picks answer next n (k + 1) (next held 2)).0))
      go true rest = rw (lt-ltb k m (omega (arith, le))) rest
      go false rest = rest

-- ---- the whole of an entry

-- the laws that say so
pub record Laws : Type 0 where
  pub sound : NoFaultIsSound
  pub runs : DirectRunsAreRuns
  pub following : DefinedRunsFollow
  pub lead_on : PicksLeadOn
  pub anything : NewMemoryHoldsAnything
  pub entries_go : EntriesGoOn
  pub reads_trace : DirectRunsReadTheTrace

module _ (laws : Laws) (answer : List ℕ → ℕ → ℕ) (next : List ℕ → ℕ → List ℕ) (held between after : List ℕ) (x : Entry) (old mid : Device) (r : Held) where
  -- what was picked before it has led to the device between
  abbrev pub WasPicked : Type 0
  WasPicked = (t : List Entry) (steps : List Step) (s : Stage) (xs : List Entry) → IsBefore t steps s x xs old → Picks answer next t steps s held x mid between

  -- and then atoms were picked
  abbrev pub WasTouched : Type 0
  WasTouched = (t : List Entry) (steps : List Step) (s : Stage) (xs : List Entry) → IsBefore t steps s x xs mid → Touches answer next s.front.past x between mid.resources r after

  module _ (picked : WasPicked) where
    pub next_then : IsNext old x → IsNext mid x
    next_then n =
        let p = before answer next n.0 n.1 n.2 held x n.3 in
        (n.0, n.1 ++ p.steps, p.stage, n.3, follows_before answer next n.0 n.1 n.2 held x n.3 old mid between laws.runs laws.lead_on n.4 (picked n.0 n.1 n.2 n.3 n.4))

    module _ (touched : WasTouched) where
      -- the device between with these resources, for which the entry comes next
      pub may_change : IsNext old x → MayChange (record mid { resources = r }) x
      may_change n =
          let now = next_then n in
          let was = (touched now.0 now.1 now.2 now.3 now.4).touched in
          record {
            number = now.2.count;
            past = now.2.front.past;
            parts = parts_left now.2;
            clean = clean_next now.0 now.1 now.2 x now.3 mid laws.sound laws.runs laws.following now.4;
            stands = was.matches now.2.front.past now.4.led.matches;
            passes = touched_passes (parts_left now.2) now.2.front.past mid.passes x _ mid.resources r was now.4.led.passes;
          }

      module _ (t : List Entry) (steps : List Step) (s : Stage) (xs : List Entry) (h : IsBefore t steps s x xs old) where
        abbrev p : Picked
        p = before_entry answer next s held x

        now : IsBefore t (steps ++ (before_entry answer next s held x).steps) (before_entry answer next s held x).stage x xs mid
        now = follows_before answer next t steps s held x xs old mid between laws.runs laws.lead_on h (picked t steps s xs h)

        clean : IsClean (host (before_entry answer next s held x).stage.count x ∷ (before_entry answer next s held x).stage.front.past)
        clean = clean_next t (steps ++ (before_entry answer next s held x).steps) (before_entry answer next s held x).stage x xs mid laws.sound laws.runs laws.following now

        -- the atoms that were picked, from what the scheduler held
        touches : Touches answer next (before_entry answer next s held x).stage.front.past x (before_entry answer next s held x).held mid.resources r after
        touches = subst (λ (l : List ℕ). Touches answer next (before_entry answer next s held x).stage.front.past x l mid.resources r after) (picked t steps s xs h).1 (touched t _ _ xs now)

        matches : Stands (before_entry answer next s held x).stage.front.past r
        matches = touches.touched.matches (before_entry answer next s held x).stage.front.past now.led.matches

        passes : HasPasses (parts_left (before_entry answer next s held x).stage) (before_entry answer next s held x).stage.front.past mid.passes r
        passes = touched_passes (parts_left (before_entry answer next s held x).stage) (before_entry answer next s held x).stage.front.past mid.passes x _ mid.resources r touches.touched now.led.passes

        module _ (new : Device) (a : Applied) (done : HasDone a x (record mid { resources = r }) new) where
          did : IsDone a (before_entry answer next s held x).stage.count x (before_entry answer next s held x).stage.front.past (parts_left (before_entry answer next s held x).stage) r mid.passes new.resources new.passes
          did = done (before_entry answer next s held x).stage.count (before_entry answer next s held x).stage.front.past (parts_left (before_entry answer next s held x).stage) clean matches passes

          -- of what gets a place the host's cache holds nothing
          pub bare_then : (final : Device) → final.resources ≡ new.resources → Between old mid → HoldsNoneNew old.resources final.resources
          bare_then final same between = subst (λ (h : Held). HoldsNoneNew old.resources h) (sym same) (go a refl)
            where
              back : (c : Byte) → IsThere r c → IsThere old.resources c
              back c there = was_there old.resources r (touches.touched.resources ∙ between.resources) (touches.touched.shapes ∙ between.shapes) c there

              gone_on : (a ≡ applied.NoRoom → ⊥) → HoldsNoneNew old.resources new.resources
              gone_on other c there gone = (goes_of a _ x _ _ r mid.passes new.resources new.passes other did).bare c there (λ was. gone (back c was))

              go : (b : Applied) → a ≡ b → HoldsNoneNew old.resources new.resources
              go applied.NoRoom is = λ c there gone. absurd (gone (back c (subst (λ (h : Held). IsThere h c) (no_change a _ x _ _ r mid.passes new.resources new.passes is did).0 there)))
              go applied.Done is = gone_on (λ none. let both : applied.Done ≡ applied.NoRoom = sym is ∙ none in absurd cc)
              go (applied.Bytes bytes) is = gone_on (λ none. let both : applied.Bytes bytes ≡ applied.NoRoom = sym is ∙ none in absurd cc)

          -- where there was no room
          pub refused : a ≡ applied.NoRoom → (new.resources ≡ mid.resources) × (new.passes ≡ mid.passes) × (after ≡ between)
          refused is =
              let none = no_change a _ x _ _ r mid.passes new.resources new.passes is did in
              let many = no_atoms (before_entry answer next s held x).stage.front.past x none.2 in
              let same = touches.touched.same (ap (λ (n : ℕ). (atom_picks answer next n 0 (before_entry answer next s held x).held).0) many) in
              (none.0 ∙ same, none.1, touches.holds ∙ ap (λ (n : ℕ). (atom_picks answer next n 0 (before_entry answer next s held x).held).1) many ∙ sym (picked t steps s xs h).1)

          module _ (other : a ≡ applied.NoRoom → ⊥) where
            pub was_done : HostDone t (steps ++ (before_entry answer next s held x).steps) (before_entry answer next s held x).stage x xs (picked_atoms answer next t steps s held x xs).0 (record mid { resources = new.resources; passes = new.passes })
            was_done = host_done t (steps ++ (before_entry answer next s held x).steps) (before_entry answer next s held x).stage x xs (picked_atoms answer next t steps s held x xs).0 mid r new.resources new.passes laws.anything laws.entries_go now (picked t steps s xs h).2
                (atoms_below answer next (atom_count (before_entry answer next s held x).stage.front.past x) 0 (atom_count (before_entry answer next s held x).stage.front.past x) (before_entry answer next s held x).held (omega arith)) clean touches.touched
                (goes_of a _ x _ _ r mid.passes new.resources new.passes other did)

            -- what that makes of the bytes of resources
            entry_becomes : (final : Device) → final.resources ≡ new.resources → final.passes ≡ new.passes → Between old mid → PicksBecome answer next s held x old mid → Becomes old.resources final.resources (memory_after s.front.past (moved_by old.passes x final.passes) x ((before_entry answer next s held x).steps ++ Apply (picked_atoms answer next t steps s held x xs).0 (parts_begun final.passes x) ∷ []))
            entry_becomes final resources passes between becomes = steps_become s.front.past moved x old.resources mid.resources final.resources (before_entry answer next s held x).steps (Apply atoms (parts_begun final.passes x) ∷ []) between.resources between.shapes (becomes moved)
                (subst (λ (r : Held). Becomes mid.resources r (memory_after_entry s.front.past atoms moved x)) (sym resources)
                (subst (λ (l : List ℕ). Becomes mid.resources new.resources (memory_after_entry s.front.past atoms l x)) (moved_same mid.passes old.passes new.passes final.passes x between.moving (ap (λ (q : Passing). q.moving) (sym passes)))
                (subst (λ (f : Front). Becomes mid.resources new.resources (memory_after_entry f.past atoms (moved_by mid.passes x new.passes) x)) front
                (goes_becomes _ x _ _ atoms mid.resources r mid.passes new.resources new.passes touches.touched (goes_of a _ x _ _ r mid.passes new.resources new.passes other did)))))
              where
                atoms : List ℕ
                atoms = (picked_atoms answer next t steps s held x xs).0

                moved : List ℕ
                moved = moved_by old.passes x final.passes

                front : (before_entry answer next s held x).stage.front ≡ s.front
                front = (laws.lead_on answer next t steps s held x xs (laws.runs t steps s _ h.led.run) h.sound.faultless h.next).front

            pub changes_then : (final : Device) → final.resources ≡ new.resources → final.passes ≡ new.passes → Between old mid → PicksBecome answer next s held x old mid → ChangesBytes answer next a s held x xs old final
            changes_then final resources passes between becomes = go a other (entry_becomes final resources passes between becomes)
              where
                go : (b : Applied) → (b ≡ applied.NoRoom → ⊥) → Becomes old.resources final.resources (memory_after s.front.past (moved_by old.passes x final.passes) x ((before_entry answer next s held x).steps ++ Apply (picked_atoms answer next t steps s held x xs).0 (parts_begun final.passes x) ∷ []))
                    → ChangesBytes answer next b s held x xs old final
                go applied.Done some all = all
                go (applied.Bytes bytes) some all = all
                go applied.NoRoom some all = absurd (some refl)

            pub read_then : Reads a s x
            read_then = reads_before answer next t steps s held x xs old a laws.runs laws.lead_on h (reads_of t (steps ++ (before_entry answer next s held x).steps) (before_entry answer next s held x).stage x xs (picked_atoms answer next t steps s held x xs).0 mid r new.resources laws.reads_trace clean now touches.touched a new.passes did)

            pub applied_then : (final : Device) → ((t : List Entry) (steps : List Step) (s : Stage) (xs : List Entry) (atoms : List ℕ) → HostDone t steps s x xs atoms (record mid { resources = new.resources; passes = new.passes }) → Led t (steps ++ Apply atoms (parts_begun final.passes x) ∷ []) (applied s (parts_begun final.passes x) x xs) final)
                → Applies answer next a t steps s held x xs final after
            applied_then final advances = applies answer next t steps s held x xs final after touches.holds (advances t (steps ++ (before_entry answer next s held x).steps) (before_entry answer next s held x).stage xs (picked_atoms answer next t steps s held x xs).0 was_done) a other

      pub advance_ready : (new : Device) (a : Applied) → HasDone a x (record mid { resources = r }) new → (a ≡ applied.NoRoom → ⊥) → IsNext old x → AdvanceReady (record mid { resources = new.resources; passes = new.passes }) x
      advance_ready new a done other n = (n.0, n.1 ++ (before_entry answer next n.2 held x).steps, (before_entry answer next n.2 held x).stage, n.3, (picked_atoms answer next n.0 n.1 n.2 held x n.3).0, was_done n.0 n.1 n.2 n.3 n.4 new a done other)
