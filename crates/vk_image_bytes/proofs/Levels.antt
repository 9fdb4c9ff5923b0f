-- Where the levels of a layer begin.
use Rattle.std.proofs.Common.{◌≡◌, ℕ, zero, suc, ◌+◌, ◌-◌, ◌*◌, ◌/◌, ◌^◌, ◌<◌, ◌≤◌, Bool, true, false, cond, List, length, get_or, set, refl, ap, sym, subst, ◌∙◌, arith, inl, inr}
use Rattle.std.specs.Prelude.{max}
use Rattle.std.specs.List.{count_by, range_with_len}
use Rattle.std.proofs.lemmas.Bool.{cases_lt}
use Rattle.std.proofs.lemmas.List.Sums.{sum_by-cons}
use Rattle.std.proofs.lemmas.Nat.{mul-le, shr_le}
use Rattle.vk_model.specs.declared.resource.ImageInfo.{ImageInfo}
use Rattle.vk_model.specs.Basics.{below}
use Rattle.vk_model.specs.Trace.Image.{texel, level_width, level_height}
use Rattle.vk_model.specs.Rules.Sizes.{bad_image}
use Rattle.vk_image_tiles.proofs.Levels.{sum_more, sum_rises}
use Rattle.vk_image_tiles.proofs.LevelBounds.{few_bytes, counts, starts_more}
use Rattle.vk_image_bytes.specs.Numbers.{level_byte_count, level_first}
use Rattle.std.proofs.Math.Nat.{mul-pos}
use Rattle.vk_model.proofs.World.BytePlaces.{texel_some}

-- ---- one level more

pub level_more : (m : ImageInfo) (k : ℕ) → level_first m (k + 1) ≡ level_first m k + level_byte_count m k
unfolding level_first
level_more m k = sum_more (level_byte_count m) k

pub level_zero : (m : ImageInfo) → level_first m 0 ≡ 0
unfolding level_first
level_zero m = refl

rises_by : (m : ImageInfo) (j n : ℕ) → level_first m j ≤ level_first m (j + n)
unfolding level_first
rises_by m j n = sum_rises (level_byte_count m) j n

pub level_rises : (m : ImageInfo) (j k : ℕ) → j ≤ k → level_first m j ≤ level_first m k
level_rises m j k le =
    let at : j + (k - j) ≡ k = omega arith in
    subst (λ (n : ℕ). level_first m j ≤ level_first m n) at (rises_by m j (k - j))

-- ---- sizes

-- each level has bytes
pub some_in_level : (m : ImageInfo) (k : ℕ) → 0 < level_byte_count m k
some_in_level m k = mul-pos (mul-pos {m = level_height m k} {n = level_width m k} (omega arith) (omega arith)) (texel_some m.format)

few_texels : (side k : ℕ) → side ≤ 4096 → max 1 (side / 2 ^ k) ≤ 4096
few_texels side k few = let halved : side / 2 ^ k ≤ side = shr_le side k in omega arith

-- a level has 2 to the 28 bytes at most
pub few_in_level : (m : ImageInfo) (k : ℕ) → bad_image m ≡ false → level_byte_count m k ≤ 268435456
few_in_level m k good =
    let c = counts m good in
    let texels : level_height m k * level_width m k ≤ 4096 * 4096 = mul-le (level_height m k) (level_width m k) 4096 4096 (few_texels m.height k c.height.few) (few_texels m.width k c.width.few) in
    omega (arith, mul-le (level_height m k * level_width m k) (texel m.format) (4096 * 4096) 16 texels (few_bytes m.format))

pub few_below : (m : ImageInfo) (k : ℕ) → bad_image m ≡ false → level_first m k ≤ k * 268435456
few_below m zero good = omega (arith, level_zero m)
few_below m (suc k) good =
    let next : suc k ≡ k + 1 = omega arith in
    rw next (omega (arith, level_more m k, few_below m k good, few_in_level m k good))

pub some_below : (m : ImageInfo) (k : ℕ) → 0 < k → 0 < level_first m k
some_below m k some = let first : 0 + 1 ≡ 1 = refl in omega (arith, level_more m 0, some_in_level m 0, level_rises m 1 k (omega arith))

-- ---- the level of a byte of a layer

module _ (p : ℕ → Bool) where
  -- with one number more in front
  counted_more : (a n : ℕ) (one : Bool) → p a ≡ one → count_by p (range_with_len a (suc n)) ≡ (cond one 1 0) + count_by p (range_with_len (a + 1) n)
  counted_more a n one e = sum_by-cons (λ x. cond (p x) 1 0) a (range_with_len (a + 1) n) ∙ ap (λ (b : Bool). cond b 1 0 + count_by p (range_with_len (a + 1) n)) e

  module _ (l : ℕ) (yes : (k : ℕ) → k < l → p k ≡ true) (no : (k : ℕ) → l ≤ k → p k ≡ false) where
    none_from : (a n : ℕ) → l ≤ a → count_by p (range_with_len a n) ≡ 0
    none_from a zero ge = refl
    none_from a (suc n) ge = omega (arith, counted_more a n false (no a ge), none_from (a + 1) n (omega arith))

    counted_from : (a n : ℕ) → a ≤ l → l ≤ a + n → count_by p (range_with_len a n) ≡ l - a
    counted_from a zero low high = let none : l - a ≡ 0 = omega arith in sym none
    counted_from a (suc n) low high = elim (cases_lt a l) [
      | inl lt ↦ omega (arith, counted_more a n true (yes a lt), counted_from (a + 1) n (omega arith) (omega arith))
      | inr ge ↦ (let same : l - a ≡ 0 = omega arith in none_from a (suc n) ge ∙ sym same)
    ]

    pub counted : (n : ℕ) → l ≤ n → count_by p (below n) ≡ l
    counted n le = let all : l - 0 ≡ l = omega arith in counted_from 0 n (omega arith) (omega arith) ∙ all

-- ---- where the next level begins

pub firsts_more : (m : ImageInfo) (firsts : List ℕ) (n v : ℕ) → ((k : ℕ) → k ≤ n → get_or firsts k 0 ≡ level_first m k) → n + 1 < length firsts → v ≡ get_or firsts n 0 + level_byte_count m n
    → (k : ℕ) → k ≤ n + 1 → get_or (set firsts (n + 1) v) k 0 ≡ level_first m k
unfolding level_first
firsts_more m = starts_more (level_byte_count m)

-- a row of a level has 4,096 texels at most
pub few_columns : (m : ImageInfo) (k : ℕ) → bad_image m ≡ false → level_width m k ≤ 4096
few_columns m k good = few_texels m.width k (counts m good).width.few
