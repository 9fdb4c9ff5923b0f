-- Numbers as the keys of maps. Other crates cite it.
use Rattle.std.proofs.Common.{◌≡◌, ℕ, ◌≤◌, false, arith}
use Rattle.std.specs.Ordering.{nat_cmp, is_gt}
use Rattle.std.specs.BTreeMap.{is_at}
use Rattle.std.proofs.lemmas.Grind.{common_steps}

-- another key isn't found at this one
pub other_key : (k q : ℕ) → (q ≡ k → ⊥) → is_at (nat_cmp k) q ≡ false
other_key k q other = grind (arith, common_steps)

pub not_above : (a b : ℕ) → a ≤ b → is_gt (nat_cmp a b) ≡ false
not_above a b le = grind arith
