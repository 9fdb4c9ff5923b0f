-- Bytes with which acts do the same.
use Rattle.std.proofs.Common.{◌≡◌, ◌⊎◌, inl, inr, ℕ, ◌+◌, ◌-◌, ◌*◌, ◌/◌, ◌^◌, ◌<◌, ◌≤◌, min, Bool, true, false, ◌&&◌, refl, sym, arith}
use Rattle.std.specs.Prelude.{nat_le, nat_lt}
use Rattle.std.proofs.lemmas.Bool.{leb-true, ltb-true, ltb-false, le-leb, lt-ltb, and_parts, and_from, false_from_ne_true}
use Rattle.vk_model.specs.declared.command.Length.{Length}
use Rattle.vk_model.specs.declared.command.Length.TheVariants as length_of
use Rattle.vk_model.specs.World.Effect.{in_atoms}
use Rattle.vk_model.proofs.Lists.Truths.{bool_same}
use Rattle.vk_hazards.specs.Areas.{is_between}
use Rattle.vk_hazards.proofs.AreaLemmas.{between, between_parts}

-- where the atoms end that a range reaches, or the last number
abbrev pub IsAtomEnd : ℕ → Length → ℕ → Type 0
IsAtomEnd o (length_of.Bytes n) end = ((n ≡ 0) × (end ≡ o / 64 * 64)) ⊎ ((0 < n) × (end ≡ min (min (o + (n - 1)) (2 ^ 64 - 1) / 64 * 64 + 64) (2 ^ 64 - 1)))
IsAtomEnd o length_of.Whole end = end ≡ 2 ^ 64 - 1

none_between : (low k : ℕ) → is_between low low k ≡ false
none_between low k = false_from_ne_true (is_between low low k) (λ h. let p = between_parts low low k h in let le = p.0 in let lt = p.1 in omega arith)

no_atoms : (o k : ℕ) → in_atoms o (length_of.Bytes 0) k ≡ is_between (o / 64 * 64) (o / 64 * 64) k
no_atoms o k = sym (none_between (o / 64 * 64) k)

some_atoms : (o n end k : ℕ) → 0 < n → k < 2 ^ 64 - 1 → end ≡ min (min (o + (n - 1)) (2 ^ 64 - 1) / 64 * 64 + 64) (2 ^ 64 - 1) → in_atoms o (length_of.Bytes n) k ≡ is_between (o / 64 * 64) end k
some_atoms o n end k some small is = bool_same (in_atoms o (length_of.Bytes n) k) (is_between (o / 64 * 64) end k) to from
  where
    to : in_atoms o (length_of.Bytes n) k ≡ true → is_between (o / 64 * 64) end k ≡ true
    to h =
        let p = and_parts (nat_lt 0 n && nat_le (o / 64) (k / 64)) (nat_le (k / 64) ((o + n - 1) / 64)) h in
        let low : o / 64 ≤ k / 64 = leb-true (o / 64) (k / 64) (and_parts (nat_lt 0 n) (nat_le (o / 64) (k / 64)) p.0).1 in
        let high : k / 64 ≤ (o + n - 1) / 64 = leb-true (k / 64) ((o + n - 1) / 64) p.1 in
        between (o / 64 * 64) end k (omega arith) (omega arith)

    from : is_between (o / 64 * 64) end k ≡ true → in_atoms o (length_of.Bytes n) k ≡ true
    from h =
        let p = between_parts (o / 64 * 64) end k h in
        let low : o / 64 * 64 ≤ k = p.0 in
        let high : k < end = p.1 in
        and_from _ _ (and_from _ _ (lt-ltb 0 n some) (le-leb (o / 64) (k / 64) (omega arith))) (le-leb (k / 64) ((o + n - 1) / 64) (omega arith))

all_atoms : (o k : ℕ) → k < 2 ^ 64 - 1 → in_atoms o length_of.Whole k ≡ is_between (o / 64 * 64) (2 ^ 64 - 1) k
all_atoms o k small = bool_same (in_atoms o length_of.Whole k) (is_between (o / 64 * 64) (2 ^ 64 - 1) k)
    (λ h. let low : o / 64 ≤ k / 64 = leb-true (o / 64) (k / 64) h in between (o / 64 * 64) (2 ^ 64 - 1) k (omega arith) small)
    (λ h. let p = between_parts (o / 64 * 64) (2 ^ 64 - 1) k h in let low : o / 64 * 64 ≤ k = p.0 in le-leb (o / 64) (k / 64) (omega arith))

-- being in an atom that a range reaches is being between two numbers
pub atoms_between : (size : Length) (o end k : ℕ) → IsAtomEnd o size end → k < 2 ^ 64 - 1 → in_atoms o size k ≡ is_between (o / 64 * 64) end k
atoms_between (length_of.Bytes n) o end k (inl none) small = rw (none.0, none.1) (no_atoms o k)
atoms_between (length_of.Bytes n) o end k (inr some) small = some_atoms o n end k some.0 small some.1
atoms_between length_of.Whole o end k is small = rw is (all_atoms o k small)

-- what isn't zero is above it
pub positive : (n : ℕ) → (n ≡ 0 → ⊥) → 0 < n
positive n some = omega arith

-- a number is below another, or from it on
pub below_or_from : (k n : ℕ) → (k < n) ⊎ (n ≤ k)
below_or_from k n = go (nat_lt k n) refl
  where
    go : (b : Bool) → nat_lt k n ≡ b → (k < n) ⊎ (n ≤ k)
    go true e = inl (ltb-true k n e)
    go false e = inr (ltb-false k n e)
