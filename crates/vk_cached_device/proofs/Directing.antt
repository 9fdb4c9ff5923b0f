-- An entry that may be applied is picked at once by a scheduler that picks the last option first.
use Rattle.std.proofs.Common.{◌≡◌, ℕ, zero, suc, pred, ◌+◌, ◌<◌, ◌≤◌, ◌%◌, List, [], ◌∷◌, length, Bool, true, false, nat_le, nat_lt, refl, ap, sym, ◌∙◌, subst, arith, Some, None}
use Rattle.std.proofs.lemmas.Bool.{le-leb, lt-ltb}
use Rattle.std.proofs.Math.Nat.{mod-eq_of_lt}
use Rattle.std.specs.Prelude.{slice_get, ◌==◌, if◌then◌else◌}
use Rattle.vk_model.specs.declared.entry.Entry.{Entry}
use Rattle.vk_model.specs.Run.Runs.{Stage, offered, parts_left, may_go}
use Rattle.vk_model.specs.Run.Picks.{Picked, Go, options, pick_of, held_after, picks, before_entry, most_picks, atom_picks}
use Rattle.vk_device.specs.Asking.{option_count}
use Rattle.vk_device.proofs.Picking.{steps_at, turn_length, turn_go, picks_entry}
use Rattle.vk_cached_device.specs.Directly.{last_first, rest_after}

-- what it holds first
abbrev pub flagged : Bool → ℕ → List ℕ → List ℕ
flagged last name held = (if last then 1 else 0) ∷ name ∷ held

module _ (answer : List ℕ → ℕ → ℕ) (next : List ℕ → ℕ → List ℕ) where
  -- the last of some options is picked, and then it is left to the other
  last_picked : (name : ℕ) (held : List ℕ) (count : ℕ) (last : Bool) → last ≡ nat_lt 0 count
      → (pick_of (last_first answer) (rest_after next) (flagged last name held) (count + 1) ≡ count) × (held_after (last_first answer) (rest_after next) (flagged last name held) (count + 1) ≡ 0 ∷ name ∷ held)
  last_picked name held zero last is = rw is (refl, refl)
  last_picked name held (suc n) last is = rw (is, lt-ltb 0 (suc n) (omega arith)) (rw (le-leb 2 (suc n + 1) (omega arith)) (small, refl))
    where
      small : pred (suc n + 1) % (suc n + 1) ≡ suc n
      small = let p : pred (suc n + 1) ≡ suc n = omega arith in let lt : suc n < suc n + 1 = omega arith in ap (λ (k : ℕ). k % (suc n + 1)) p ∙ mod-eq_of_lt lt

  module _ (s : Stage) (x : Entry) (may : may_go s x ≡ true) (name : ℕ) (held : List ℕ) (last : Bool) (is : last ≡ nat_lt 0 (length (offered s.front.past s.done) + length (parts_left s))) where
    abbrev count : ℕ
    count = length (offered s.front.past s.done) + length (parts_left s)

    size : count + 1 ≡ length (options (last_first answer) (rest_after next) s x)
    size = ap (λ (b : Bool). option_count count b) (sym may) ∙ sym (turn_length (last_first answer) (rest_after next) s x)

    -- nothing is picked before it
    pub nothing_before : before_entry (last_first answer) (rest_after next) s (flagged last name held) x ≡ record { steps = []; stage = s; held = 0 ∷ name ∷ held }
    nothing_before = go (most_picks (last_first answer) (rest_after next) s) (omega arith)
      where
        go : (fuel : ℕ) → 0 < fuel → picks (last_first answer) (rest_after next) fuel s (flagged last name held) x ≡ record { steps = []; stage = s; held = 0 ∷ name ∷ held }
        go zero lt = absurd (omega (arith, lt))
        go (suc fuel) lt =
            let both = last_picked name held count last is in
            picks_entry (last_first answer) (rest_after next) fuel s (flagged last name held) x (count + 1) size (turn_go (last_first answer) (rest_after next) s x may (pick_of (last_first answer) (rest_after next) (flagged last name held) (count + 1)) both.0)
            ∙ ap (λ (h : List ℕ). record { steps = []; stage = s; held = h }) both.1

  -- the atoms are those that the other picks
  pub same_atoms : (name n k : ℕ) (held : List ℕ) → atom_picks (last_first answer) (rest_after next) n k (0 ∷ name ∷ held) ≡ ((atom_picks answer next n k held).0, 0 ∷ name ∷ (atom_picks answer next n k held).1)
  same_atoms name zero k held = refl
  same_atoms name (suc n) k held = rw (same_atoms name n (k + 1) (next held 2)) refl
