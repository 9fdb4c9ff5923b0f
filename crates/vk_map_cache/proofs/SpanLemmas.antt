-- Lemmas on ranges of bytes that are changed.
use Rattle.std.proofs.Common.{◌≡◌, ◌⊎◌, inl, inr, ℕ, ◌<◌, ◌≤◌, refl, ap, sym, ◌∙◌, arith, Bool, true, false, ◌&&◌, nat_lt, nat_le, if◌then◌else◌}
use Rattle.std.proofs.lemmas.Bool.{and_from, and_left, and_right, lt-ltb, le-ltb, le-leb, lt-leb}
use Rattle.vk_model.specs.Run.Caches.{Cell}
use Rattle.vk_map_cache.proofs.HoldingLemmas.{in_range_or}

-- a change where a test holds, and then again where another does
abbrev pub twice : (Cell → Cell) → Cell → Bool → Bool → Cell
twice f cell first second = let so_far = if first then f cell else cell in if second then f so_far else so_far

by_tests : (f : Cell → Cell) (cell : Cell) (a b c a' b' c' : Bool) → a ≡ a' → b ≡ b' → c ≡ c' → twice f cell a' b' ≡ (if c' then f cell else cell) → twice f cell a b ≡ (if c then f cell else cell)
by_tests f cell a b c a' b' c' first second both same = ap (λ (t : Bool). twice f cell t b) first ∙ ap (λ (t : Bool). twice f cell a' t) second ∙ same ∙ sym (ap (λ (t : Bool). if t then f cell else cell) both)

-- one range after another
pub joined : (f : Cell → Cell) (cell : Cell) (low done next k : ℕ) → low ≤ done → done ≤ next
    → twice f cell (nat_le low k && nat_lt k done) (nat_le done k && nat_lt k next) ≡ (if nat_le low k && nat_lt k next then f cell else cell)
joined f cell low done next k first second = elim (in_range_or low done k) [
  | inl (a, al, ah) ↦ by_tests f cell _ _ _ true false true a (and_left (nat_le done k) (nat_lt k next) (lt-leb done k ah)) (and_from (nat_le low k) (nat_lt k next) (le-leb low k al) (lt-ltb k next (omega (arith, ah)))) refl
  | inr (a, out) ↦ elim (in_range_or done next k) [
    | inl (b, bl, bh) ↦ by_tests f cell _ _ _ false true true a b (and_from (nat_le low k) (nat_lt k next) (le-leb low k (omega (arith, bl))) (lt-ltb k next bh)) refl
    | inr (b, beyond) ↦ by_tests f cell _ _ _ false false false a b (outside out beyond) refl
  ]
]
  where
    outside : (k < low) ⊎ (done ≤ k) → (k < done) ⊎ (next ≤ k) → (nat_le low k && nat_lt k next) ≡ false
    outside (inl lt) h = and_left (nat_le low k) (nat_lt k next) (lt-leb low k lt)
    outside (inr ge) (inl lt) = absurd (omega (arith, ge, lt))
    outside (inr ge) (inr ge') = and_right (nat_le low k) (nat_lt k next) (le-ltb k next ge')
