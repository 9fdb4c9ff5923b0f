-- Atoms that a scheduler picks just before an entry, one after another.
use Rattle.std.proofs.Common.{◌≡◌, ℕ, zero, suc, ◌+◌, ◌/◌, ◌%◌, ◌<◌, ◌≤◌, ◌==◌, List, [], ◌∷◌, ◌++◌, Bool, true, false, ◌&&◌, ◌||◌, eq-eqb, nat_lt, refl, ap, sym, ◌∙◌, subst, arith, Option, Some, None, if◌then◌else◌}
use Rattle.std.specs.Prelude.{IsTrue}
use Rattle.std.specs.List.{list_all}
use Rattle.std.proofs.lemmas.Bool.{and_parts, and_from, lt-ltb, ltb-true, eqb-true, false_from_ne_true}
use Rattle.std.proofs.lemmas.List.{append_assoc}
use Rattle.std.proofs.lemmas.List.Folds.{list_any-append}
use Rattle.vk_model.specs.declared.entry.Entry.{Entry}
use Rattle.vk_model.specs.declared.entry.Entry.TheVariants as entry
use Rattle.vk_model.specs.Basics.{among}
use Rattle.vk_model.specs.Trace.Point.{Past}
use Rattle.vk_model.specs.World.Bytes.{Byte, in_buffer, in_image, resource_at}
use Rattle.vk_model.specs.Run.Caches.{Cell}
use Rattle.vk_model.specs.Run.CachedRuns.{in_atoms, turned_over}
use Rattle.vk_model.specs.Run.Runs.{touched_by, atom_count}
use Rattle.vk_model.specs.Run.Picks.{atom_picks}
use Rattle.vk_resources.specs.Done.{TurnsOver}
use Rattle.vk_resources.specs.declared.resources.Placed.{Placed}
use Rattle.vk_resources.specs.Held.{Held, placed_in, shape_in, IsThere, HasCell}
use Rattle.vk_resources.proofs.Lying.{there_stays}
use Rattle.vk_model.specs.declared.resource.ImageInfo.{ImageInfo}
use Rattle.vk_resources.specs.Matches.{Stands}
use Rattle.vk_resources.specs.Fits.{FitsEntry}
use Rattle.vk_device.specs.Inner.Fits.{FitsHost}
use Rattle.vk_device.specs.Inner.Ready.{HasTouched, KeepsPasses, Touches}
use Rattle.vk_laws.proofs.DirectRuns.RunsOn.{no_atoms}

-- ---- tests of atoms

-- what lies below a number isn't that number
fresh : (atoms : List ℕ) (i : ℕ) → IsTrue (list_all (λ j. nat_lt j i) atoms) → among i atoms ≡ false
fresh [] i low = refl
fresh (a ∷ atoms) i low =
    let parts = and_parts (nat_lt a i) (list_all (λ j. nat_lt j i) atoms) low in
    let lt : a < i = ltb-true a i parts.0 in
    let ne : (i == a) ≡ false = false_from_ne_true (i == a) (λ h. let e = eqb-true i a h in omega (arith, e, lt)) in
    rw ne (fresh atoms i parts.1)

-- a cell after some atoms and then another one
twice : (o : Option ℕ) (atoms : List ℕ) (i : ℕ) (c : Byte) (cell : Cell) → IsTrue (list_all (λ j. nat_lt j i) atoms)
    → (if in_atoms o (i ∷ []) c then turned_over (if in_atoms o atoms c then turned_over cell else cell) else (if in_atoms o atoms c then turned_over cell else cell)) ≡ (if in_atoms o (atoms ++ i ∷ []) c then turned_over cell else cell)
twice None atoms i c cell low = refl
twice (Some b) atoms i (in_image j l a x y z) cell low = refl
twice (Some b) atoms i (in_buffer j k) cell low = go (b == j) (k / 64 == i) refl
  where
    cell_if : Bool → Bool → Bool → Cell
    cell_if t u v = if t && (u || false) then turned_over (if t && v then turned_over cell else cell) else (if t && v then turned_over cell else cell)

    go : (t u : Bool) → (k / 64 == i) ≡ u
        → (if t && (u || false) then turned_over (if t && among (k / 64) atoms then turned_over cell else cell) else (if t && among (k / 64) atoms then turned_over cell else cell)) ≡ (if t && among (k / 64) (atoms ++ i ∷ []) then turned_over cell else cell)
    go false u is = out u
      where
        out : (u : Bool) → (if false && (u || false) then turned_over cell else cell) ≡ cell
        out u = refl
    go true true is =
        let same : k / 64 ≡ i = eqb-true (k / 64) i is in
        let none : among (k / 64) atoms ≡ false = subst (λ (n : ℕ). among n atoms ≡ false) (sym same) (fresh atoms i low) in
        let all : among (k / 64) (atoms ++ i ∷ []) ≡ true = list_any-append (λ y. k / 64 == y) atoms (i ∷ []) ∙ rw (none, is) refl in
        rw (none, all) refl
    go true false is =
        let all : among (k / 64) (atoms ++ i ∷ []) ≡ among (k / 64) atoms = list_any-append (λ y. k / 64 == y) atoms (i ∷ []) ∙ rw is (or_false (among (k / 64) atoms)) in
        rw all refl
      where
        or_false : (t : Bool) → (t || (false || false)) ≡ t
        or_false true = refl
        or_false false = refl

same_there : (old new : Held) → new.resources ≡ old.resources → new.shapes ≡ old.shapes → (c : Byte) → IsThere old c → IsThere new c
same_there old new same shapes c there = there_stays old new c (ap (λ (bs : List (ℕ × Placed)). placed_in bs (resource_at c)) same) (ap (λ (l : List (ℕ × ImageInfo)). shape_in l (resource_at c)) shapes) there

-- ---- so far

-- of so many atoms those below a number have been asked for: what is left to pick, and what has been taken up or given back
pub record SoFar (answer : List ℕ → ℕ → ℕ) (next : List ℕ → ℕ → List ℕ) (x : Entry) (count i : ℕ) (first held : List ℕ) (old new : Held) : Type 0 where
  pub left : ℕ
  pub counts : i + left ≡ count
  pub taken : List ℕ
  pub low : IsTrue (list_all (λ j. nat_lt j i) taken)
  pub picks : atom_picks answer next count 0 first ≡ (taken ++ (atom_picks answer next left i held).0, (atom_picks answer next left i held).1)
  pub touched : HasTouched x taken old new

module _ (answer : List ℕ → ℕ → ℕ) (next : List ℕ → ℕ → List ℕ) (x : Entry) (count : ℕ) (first : List ℕ) (old : Held) where
  pub begins : SoFar answer next x count 0 first first old old
  begins = record {
    left = count;
    counts = omega arith;
    taken = [];
    low = refl;
    picks = refl;
    touched = record { cells = λ c cell there has. rw (no_atoms (touched_by x) c) has; matches = λ past m. m; resources = refl; shapes = refl; backed = refl; copies = λ p h all agree. (all, agree); same = λ e. refl };
  }

  lower : (atoms : List ℕ) (i : ℕ) → IsTrue (list_all (λ j. nat_lt j i) atoms) → IsTrue (list_all (λ j. nat_lt j (i + 1)) atoms)
  lower [] i low = refl
  lower (a ∷ atoms) i low =
      let parts = and_parts (nat_lt a i) (list_all (λ j. nat_lt j i) atoms) low in
      let lt : a < i = ltb-true a i parts.0 in
      and_from (nat_lt a (i + 1)) (list_all (λ j. nat_lt j (i + 1)) atoms) (lt-ltb a (i + 1) (omega (arith, lt))) (lower atoms i parts.1)

  with_last : (atoms : List ℕ) (i : ℕ) → IsTrue (list_all (λ j. nat_lt j i) atoms) → IsTrue (list_all (λ j. nat_lt j (i + 1)) (atoms ++ i ∷ []))
  with_last [] i low = rw (lt-ltb i (i + 1) (omega arith)) refl
  with_last (a ∷ atoms) i low =
      let parts = and_parts (nat_lt a i) (list_all (λ j. nat_lt j i) atoms) low in
      let lt : a < i = ltb-true a i parts.0 in
      and_from (nat_lt a (i + 1)) (list_all (λ j. nat_lt j (i + 1)) (atoms ++ i ∷ [])) (lt-ltb a (i + 1) (omega (arith, lt))) (with_last atoms i parts.1)

  module _ (i : ℕ) (held : List ℕ) (mid : Held) (below : i < count) (so : SoFar answer next x count i first held old mid) where
    -- one is left
    one_left : (n : ℕ) × (so.left ≡ suc n)
    one_left = go so.left so.counts
      where
        go : (n : ℕ) → i + n ≡ count → (m : ℕ) × (n ≡ suc m)
        go zero c = absurd (omega (arith, c, below))
        go (suc n) c = (n, refl)

    rest : ℕ
    rest = one_left.0

    more : List ℕ × List ℕ
    more = atom_picks answer next rest (i + 1) (next held 2)

    split : atom_picks answer next count 0 first ≡ (so.taken ++ (if answer held 2 % 2 == 1 then i ∷ (atom_picks answer next one_left.0 (i + 1) (next held 2)).0 else (atom_picks answer next one_left.0 (i + 1) (next held 2)).0), (atom_picks answer next one_left.0 (i + 1) (next held 2)).1)
    split = so.picks ∙ ap (λ (n : ℕ). (so.taken ++ (atom_picks answer next n i held).0, (atom_picks answer next n i held).1)) one_left.1

    -- the atom isn't picked
    pub skips : (answer held 2 % 2 == 1) ≡ false → SoFar answer next x count (i + 1) first (next held 2) old mid
    skips passed = record {
      left = one_left.0;
      counts = let c = so.counts in let one = one_left.1 in omega (arith, c, one);
      taken = so.taken;
      low = lower so.taken i so.low;
      picks = split ∙ ap (λ (t : Bool). (so.taken ++ (if t then i ∷ (atom_picks answer next one_left.0 (i + 1) (next held 2)).0 else (atom_picks answer next one_left.0 (i + 1) (next held 2)).0), (atom_picks answer next one_left.0 (i + 1) (next held 2)).1)) passed;
      touched = so.touched;
    }

    -- it is
    pub takes : (answer held 2 % 2 == 1) ≡ true → (new : Held) → TurnsOver x i mid new → ((past : Past) → Stands past mid → Stands past new) → new.resources ≡ mid.resources → new.shapes ≡ mid.shapes → new.backed ≡ mid.backed → KeepsPasses mid new → SoFar answer next x count (i + 1) first (next held 2) old new
    takes picked new turned matches resources shapes backed copies = record {
      left = one_left.0;
      counts = let c = so.counts in let one = one_left.1 in omega (arith, c, one);
      taken = so.taken ++ i ∷ [];
      low = with_last so.taken i so.low;
      picks = split ∙ ap (λ (t : Bool). (so.taken ++ (if t then i ∷ (atom_picks answer next one_left.0 (i + 1) (next held 2)).0 else (atom_picks answer next one_left.0 (i + 1) (next held 2)).0), (atom_picks answer next one_left.0 (i + 1) (next held 2)).1)) picked
          ∙ ap (λ (l : List ℕ). (l, (atom_picks answer next one_left.0 (i + 1) (next held 2)).1)) (sym (append_assoc so.taken (i ∷ []) (atom_picks answer next one_left.0 (i + 1) (next held 2)).0));
      touched = record {
        cells = λ c cell there has. subst (λ (y : Cell). HasCell new c y) (twice (touched_by x) so.taken i c cell so.low)
            (turned c (if in_atoms (touched_by x) so.taken c then turned_over cell else cell) (same_there old mid so.touched.resources so.touched.shapes c there) (so.touched.cells c cell there has));
        matches = λ past m. matches past (so.touched.matches past m);
        resources = resources ∙ so.touched.resources;
        shapes = shapes ∙ so.touched.shapes;
        backed = backed ∙ so.touched.backed;
        copies = λ p h all agree. (let both = so.touched.copies p h all agree in copies p (rw so.touched.backed h) both.0 both.1);
        same = λ e. absurd (not_empty so.taken e);
      };
    }
      where
        not_empty : (l : List ℕ) → (l ++ i ∷ []) ≡ [] → ⊥
        not_empty [] e = cc
        not_empty (a ∷ l) e = cc

  -- all have been asked for
  pub ends : (held : List ℕ) (new : Held) (i : ℕ) → count ≤ i → SoFar answer next x count i first held old new → HasTouched x (atom_picks answer next count 0 first).0 old new × (held ≡ (atom_picks answer next count 0 first).1)
  ends held new i all so = (subst (λ (l : List ℕ). HasTouched x l old new) (sym (ap (λ (p : List ℕ × List ℕ). p.0) whole)) so.touched, sym (ap (λ (p : List ℕ × List ℕ). p.1) whole))
    where
      none : so.left ≡ 0
      none = let c = so.counts in omega (arith, c, all)

      app_nil : (l : List ℕ) → (l ++ []) ≡ l
      app_nil [] = refl
      app_nil (a ∷ l) = ap (λ (m : List ℕ). a ∷ m) (app_nil l)

      whole : atom_picks answer next count 0 first ≡ (so.taken, held)
      whole = so.picks ∙ ap (λ (n : ℕ). (so.taken ++ (atom_picks answer next n i held).0, (atom_picks answer next n i held).1)) none ∙ ap (λ (l : List ℕ). (l, held)) (app_nil so.taken)

-- the same by what the scheduler answered and holds then
module _ (answer : List ℕ → ℕ → ℕ) (next : List ℕ → ℕ → List ℕ) (x : Entry) (count : ℕ) (first : List ℕ) (old : Held) (i : ℕ) (held after : List ℕ) (mid : Held) (below : i < count) (so : SoFar answer next x count i first held old mid) (picked : ℕ) (is : picked ≡ answer held 2) (so_next : after ≡ next held 2) where
  pub took : picked % 2 ≡ 1 → (new : Held) → TurnsOver x i mid new → ((past : Past) → Stands past mid → Stands past new) → new.resources ≡ mid.resources → new.shapes ≡ mid.shapes → new.backed ≡ mid.backed → KeepsPasses mid new → SoFar answer next x count (i + 1) first after old new
  took one new turned matches resources shapes backed copies =
      subst (λ (l : List ℕ). SoFar answer next x count (i + 1) first l old new) (sym so_next)
      (takes answer next x count first old i held mid below so (subst (λ (n : ℕ). (n % 2 == 1) ≡ true) is (eq-eqb (picked % 2) 1 one)) new turned matches resources shapes backed copies)

  pub skipped : (picked % 2 ≡ 1 → ⊥) → SoFar answer next x count (i + 1) first after old mid
  skipped other =
      subst (λ (l : List ℕ). SoFar answer next x count (i + 1) first l old mid) (sym so_next)
      (skips answer next x count first old i held mid below so (subst (λ (n : ℕ). (n % 2 == 1) ≡ false) is (false_from_ne_true (picked % 2 == 1) (λ h. other (eqb-true (picked % 2) 1 h)))))

-- and for the atoms of an entry
pub touches_all : (answer : List ℕ → ℕ → ℕ) (next : List ℕ → ℕ → List ℕ) (past : Past) (x : Entry) (count i : ℕ) (first held : List ℕ) (old new : Held) → count ≡ atom_count past x → count ≤ i → SoFar answer next x count i first held old new → Touches answer next past x first old new held
touches_all answer next past x count i first held old new is all so =
    let e = ends answer next x count first old held new i all so in
    record {
      touched = subst (λ (n : ℕ). HasTouched x (atom_picks answer next n 0 first).0 old new) is e.0;
      holds = e.1 ∙ ap (λ (n : ℕ). (atom_picks answer next n 0 first).1) is;
    }

-- ---- the atoms of an entry

-- an entry that accesses atoms fits what resources are
pub touched_fits : (past : Past) (x : Entry) (k : ℕ) → FitsHost past x → k < atom_count past x → FitsEntry past x
touched_fits past (entry.Defrag i q n m) k fits low = absurd (omega (arith, low))
touched_fits past (entry.Pass d) k fits low = absurd (omega (arith, low))
touched_fits past (entry.EndPass d kept lost) k fits low = absurd (omega (arith, low))
touched_fits past (entry.EndDefrag d) k fits low = absurd (omega (arith, low))
touched_fits past _ k fits low = fits

-- and their number is known of each
pub atoms_are : (past : Past) (x : Entry) (n : ℕ) → FitsHost past x → (FitsEntry past x → n ≡ atom_count past x) → (touched_by x ≡ None → n ≡ 0) → n ≡ atom_count past x
atoms_are past (entry.Defrag i q r m) n fits counted none = none refl
atoms_are past (entry.Pass d) n fits counted none = none refl
atoms_are past (entry.EndPass d kept lost) n fits counted none = none refl
atoms_are past (entry.EndDefrag d) n fits counted none = none refl
atoms_are past _ n fits counted none = counted fits
