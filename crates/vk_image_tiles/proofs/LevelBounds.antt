-- How large the levels of an image of a good shape are.
use Rattle.std.proofs.Common.{◌≡◌, ◌≢◌, ℕ, ◌+◌, ◌*◌, ◌/◌, ◌^◌, ◌<◌, ◌≤◌, Bool, true, false, not, ◌&&◌, ◌||◌, ◌==◌, List, length, get_or, set, get_or-set_same, get_or-set_other, refl, sym, ap, ◌∙◌, inl, inr, arith}
use Rattle.std.specs.Prelude.{max, nat_lt, nat_le, if◌then◌else◌}
use Rattle.std.specs.List.{sum_by}
use Rattle.std.proofs.lemmas.Bool.{or_parts, eqb-false, eqb-true, ltb-false, cases_lt}
use Rattle.std.proofs.lemmas.Nat.{mul-le, shr_le}
use Rattle.vk_model.specs.declared.layout.Format.{Format}
use Rattle.vk_model.specs.declared.layout.Format.TheVariants as format
use Rattle.vk_model.specs.declared.resource.ImageInfo.{ImageInfo}
use Rattle.vk_model.specs.Basics.{below, round_up}
use Rattle.vk_model.specs.Trace.Image.{texel, tiles_across, tiles_down, level_size, most_levels}
use Rattle.vk_model.specs.declared.resource.Kind.{Kind}
use Rattle.vk_model.specs.declared.resource.Kind.TheVariants as kind
use Rattle.vk_model.specs.Rules.Sizes.{bad_image, bad_levels, is_outside}
use Rattle.vk_image_tiles.proofs.Levels.{sum_more}

-- a count that isn't outside its limit
pub record Counted (most n : ℕ) : Type 0 where
  pub some : 0 < n
  pub few : n ≤ most

counted : (most n : ℕ) → is_outside most n ≡ false → Counted most n
counted most n inside =
    let parts = or_parts (n == 0) (nat_lt most n) inside in
    let some = eqb-false n 0 parts.0 in
    record { some = omega arith; few = ltb-false most n parts.1 }

-- ---- how many levels

one_at_most : (b : Bool) → (if b then 1 else 0) ≤ 1
one_at_most true = omega arith
one_at_most false = omega arith

single : (i : ImageInfo) → bad_levels kind.Linear i ≡ false → i.levels ≡ 1
single i good = eqb-true i.levels 1 (both (i.levels == 1) (i.layers == 1) good)
  where
    both : (a b : Bool) → not (a && b) ≡ false → a ≡ true
    both true b e = refl
    both false b e = absurd cc

thirteen : (w h : ℕ) → most_levels w h ≤ 13
thirteen w h =
    let one : (k : ℕ) → (if nat_le (2 ^ k) (max w h) then 1 else 0) ≤ 1 = λ k. one_at_most (nat_le (2 ^ k) (max w h)) in
    omega (arith, one 0, one 1, one 2, one 3, one 4, one 5, one 6, one 7, one 8, one 9, one 10, one 11, one 12)

levels_counted : (k : Kind) (i : ImageInfo) → bad_levels k i ≡ false → Counted 13 i.levels
levels_counted kind.Linear i good = let one = single i good in record { some = omega arith; few = omega arith }
levels_counted kind.Optimal i good =
    let c = counted (most_levels i.width i.height) i.levels good in
    record { some = c.some; few = omega (arith, c.few, thirteen i.width i.height) }

-- the counts of an image of a good shape
pub record IsCounted (i : ImageInfo) : Type 0 where
  pub width : Counted 4096 i.width
  pub height : Counted 4096 i.height
  pub layers : Counted 256 i.layers
  pub levels : Counted 13 i.levels

pub counts : (i : ImageInfo) → bad_image i ≡ false → IsCounted i
counts i good =
    let three = or_parts (is_outside 4096 i.width || is_outside 4096 i.height || is_outside 256 i.layers) (bad_levels i.tiling i) good in
    let two = or_parts (is_outside 4096 i.width || is_outside 4096 i.height) (is_outside 256 i.layers) three.0 in
    let one = or_parts (is_outside 4096 i.width) (is_outside 4096 i.height) two.0 in
    record { width = counted 4096 i.width one.0; height = counted 4096 i.height one.1; layers = counted 256 i.layers two.1; levels = levels_counted i.tiling i three.1 }

pub few_bytes : (f : Format) → texel f ≤ 16
few_bytes format.R8Uint = omega arith
few_bytes format.R8G8Uint = omega arith
few_bytes format.R8G8B8A8Uint = omega arith
few_bytes format.R16Uint = omega arith
few_bytes format.R32Uint = omega arith
few_bytes format.R32G32Uint = omega arith
few_bytes format.R32G32B32A32Uint = omega arith

few_tiles : (side k : ℕ) → side ≤ 4096 → (max 1 (side / 2 ^ k) + 7) / 8 ≤ 512
few_tiles side k few = let halved : side / 2 ^ k ≤ side = shr_le side k in omega arith

rounded : (n : ℕ) → n ≤ 268435456 → round_up n 256 ≤ 268435456
rounded n few = omega arith

-- a level has 2 to the 28 bytes at most
pub level_within : (i : ImageInfo) (k : ℕ) → bad_image i ≡ false → level_size i k ≤ 268435456
level_within i k good =
    let c = counts i good in
    let tiles : tiles_across i k * tiles_down i k ≤ 512 * 512 = mul-le (tiles_across i k) (tiles_down i k) 512 512 (few_tiles i.width k c.width.few) (few_tiles i.height k c.height.few) in
    let texels : tiles_across i k * tiles_down i k * 64 ≤ 512 * 512 * 64 = mul-le (tiles_across i k * tiles_down i k) 64 (512 * 512) 64 tiles (omega arith) in
    rounded (tiles_across i k * tiles_down i k * 64 * texel i.format) (mul-le (tiles_across i k * tiles_down i k * 64) (texel i.format) (512 * 512 * 64) 16 texels (few_bytes i.format))

-- a level of a good shape
pub few_levels : (i : ImageInfo) (level : ℕ) → bad_image i ≡ false → level < i.levels → level ≤ 13
few_levels i level good there = omega (arith, (counts i good).levels.few)

-- where the next level starts
pub starts_more : (f : ℕ → ℕ) (starts : List ℕ) (n v : ℕ) → ((k : ℕ) → k ≤ n → get_or starts k 0 ≡ sum_by f (below k)) → n + 1 < length starts → v ≡ get_or starts n 0 + f n
    → (k : ℕ) → k ≤ n + 1 → get_or (set starts (n + 1) v) k 0 ≡ sum_by f (below k)
starts_more f starts n v each room is k few = elim (cases_lt n k) [
  | inl last ↦ (let same : k ≡ n + 1 = omega arith in
      rw same (get_or-set_same starts (n + 1) v 0 room ∙ is ∙ ap (λ s. s + f n) (each n (omega arith)) ∙ sym (sum_more f n)))
  | inr early ↦ (let other : k ≢ n + 1 = omega arith in get_or-set_other starts (n + 1) k v 0 other ∙ each k early)
]
