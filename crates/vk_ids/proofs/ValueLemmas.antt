-- What a longer list says of ids.
use Rattle.std.proofs.Common.{◌≡◌, ◌<◌, ℕ, zero, suc, List, [], ◌∷◌, ◌++◌, length, false, refl, Option, slice_get, arith}
use Rattle.std.specs.Option.{unwrap_or}
use Rattle.std.specs.Ordering.{nat_cmp}
use Rattle.std.specs.Cmp.{nat_cmp_is}
use Rattle.std.specs.declared.cmp.Ordering.TheVariants.{Less}
use Rattle.std.specs.BTreeMap.{is_at}

-- a key below another one isn't at it
pub later_key : (a b : ℕ) → a < b → is_at (nat_cmp a) b ≡ false
later_key a b lt = rw (← nat_cmp_is a b Less lt) refl

module _ {T : Type 0} where
  -- the value of an id, of one past the list by another map
  abbrev pub at : List (Option T) → (ℕ → Option T) → ℕ → Option T
  at low high id = unwrap_or (slice_get low id) (high id)

  -- what comes after the list is its next member
  pub after_push : (low : List (Option T)) (high left : ℕ → Option T) (value : Option T) → value ≡ high (length low) → ((id : ℕ) → length low < id → left id ≡ high id)
      → (id : ℕ) → at (low ++ value ∷ []) left id ≡ at low high id
  after_push [] high left value is others zero = is
  after_push [] high left value is others (suc id) = others (suc id) (omega arith)
  after_push (x ∷ low) high left value is others zero = refl
  after_push (x ∷ low) high left value is others (suc id) = after_push low (λ n. high (suc n)) (λ n. left (suc n)) value is (λ n lt. others (suc n) (omega (arith, lt))) id
