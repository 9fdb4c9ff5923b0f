-- How numbers are kept apart, and the runs after an index.
use Rattle.std.proofs.Common.{◌≡◌, ◌<◌, ◌≤◌, ℕ, List, [], ◌∷◌, ◌++◌, refl, sym, ◌∙◌, arith}
use Rattle.std.specs.Ordering.{nat_cmp}
use Rattle.std.specs.Cmp.{nat_cmp_is}
use Rattle.std.specs.declared.cmp.Ordering.TheVariants.{Less, Equal, Greater}
use Rattle.vk_ranges.specs.Runs.{IsTiling, after}
use Rattle.vk_ranges.proofs.TilingLemmas.{tiling_le, after_here, after_later}

-- how a map's order keeps two numbers apart
pub less : (a b : ℕ) → a < b → nat_cmp a b ≡ Less
less a b lt = sym (nat_cmp_is a b Less lt)

pub same : (a b : ℕ) → a ≡ b → nat_cmp a b ≡ Equal
same a b e = sym (nat_cmp_is a b Equal e)

pub more : (a b : ℕ) → b < a → nat_cmp a b ≡ Greater
more a b gt = sym (nat_cmp_is a b Greater gt)

module _ {T : Type 0} where
  pub after_all : (start end index : ℕ) (runs : List (ℕ × T)) → IsTiling start end runs → index ≤ start → after index runs ≡ runs
  after_all start end index [] t le = refl
  after_all start end index (run ∷ runs) t le = let lt = t.0 in after_here index run runs (omega arith)

  pub after_append : (start mid index : ℕ) (xs ys : List (ℕ × T)) → IsTiling start mid xs → mid ≤ index → after index (xs ++ ys) ≡ after index ys
  after_append start mid index [] ys t le = refl
  after_append start mid index (x ∷ xs) ys t le =
      let below = tiling_le x.0 mid xs t.1 in
      after_later index x (xs ++ ys) (omega arith) ∙ after_append x.0 mid index xs ys t.1 le
