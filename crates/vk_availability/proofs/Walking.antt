-- Levels and layers of a range, one after another.
use Rattle.std.proofs.Common.{◌≡◌, ℕ, ◌+◌, ◌-◌, ◌^◌, ◌<◌, ◌≤◌, Bool, true, false, ◌&&◌, ◌||◌, ◌==◌, min, refl, ap, sym, ◌∙◌, arith, inl, inr}
use Rattle.std.specs.Prelude.{nat_le, nat_lt, Some}
use Rattle.std.proofs.lemmas.Bool.{cases_lt, cases_eq, leb-true, le-leb, lt-leb, lt-ltb, le-ltb, eq-eqb, ne_eqb}
use Rattle.vk_model.specs.declared.resource.ImageInfo.{ImageInfo}
use Rattle.vk_model.specs.declared.command.SubresourceRange.{SubresourceRange}
use Rattle.vk_model.specs.Basics.{within}
use Rattle.vk_model.specs.Rules.Sizes.{bad_image}
use Rattle.vk_model.specs.World.Bytes.{Byte, in_buffer, in_image, resource_at}
use Rattle.vk_model.specs.World.Effect.{in_range}
use Rattle.vk_image_tiles.proofs.LevelBounds.{counts}
use Rattle.vk_image_transfer.specs.Held.{ImageOf, place_of}
use Rattle.vk_lag.specs.Lags.{is_between}
use Rattle.vk_availability.specs.Inner.CatchingUp.{is_in_part}
use Rattle.vk_availability.proofs.Subresources.{image_byte}

-- ---- numbers one after another

-- one more of them
one_further : (first last n : ℕ) → first ≤ last → is_between first (last + 1) n ≡ (is_between first last n || n == last)
one_further first last n le = elim (cases_lt n first) [
  | inl below ↦ (let other : n ≡ last → ⊥ = λ e. omega (arith, below, le, e) in rw (lt-leb first n below, ne_eqb n last other) refl)
  | inr from ↦ elim (cases_lt n last) [
    | inl lt ↦ (let more : n < last + 1 = omega (arith, lt) in rw (le-leb first n from, lt-ltb n last lt, lt-ltb n (last + 1) more) refl)
    | inr ge ↦ elim (cases_eq n last) [
      | inl same ↦ (let more : n < last + 1 = omega (arith, same) in rw (le-leb first n from, le-ltb n last ge, lt-ltb n (last + 1) more, eq-eqb n last same) refl)
      | inr differs ↦ (let past : last + 1 ≤ n = omega (arith, ge, differs) in rw (le-leb first n from, le-ltb n last ge, le-ltb n (last + 1) past, ne_eqb n last differs) refl)
    ]
  ]
]

-- all that there are of a range, when the walk over them has ended
all_there : (first count most end last n : ℕ) → end ≡ min (min (first + count) (2 ^ 32 - 1)) most → most < 2 ^ 32 → end ≤ last → (first ≤ end → last ≤ end) → n < most → is_between first last n ≡ within first count n
all_there first count most end last n is few done no_more there = go (nat_le first n) refl
  where
    same : first ≤ n → nat_lt n last ≡ nat_lt n (first + count)
    same le =
        let from : first ≤ end = omega (arith, is, few, le, there) in
        let to : last ≤ end = no_more from in
        elim (cases_lt n last) [
          | inl lt ↦ (let also : n < first + count = omega (arith, is, lt, to) in rw (lt-ltb n last lt, lt-ltb n (first + count) also) refl)
          | inr ge ↦ (let also : first + count ≤ n = omega (arith, is, ge, done, there, few) in rw (le-ltb n last ge, le-ltb n (first + count) also) refl)
        ]

    go : (b : Bool) → nat_le first n ≡ b → (b && nat_lt n last) ≡ (b && nat_lt n (first + count))
    go false e = refl
    go true e = same (leb-true first n e)

-- ---- layers of a level, and levels

over_or : (a b d : Bool) → (a && (b || d)) ≡ (a && b || a && d)
over_or true b d = refl
over_or false b d = refl

or_over : (a b d : Bool) → ((a || b) && d) ≡ (a && d || b && d)
or_over true b true = refl
or_over true true false = refl
or_over true false false = refl
or_over false b d = refl

pub next_layer : (level first layer : ℕ) → first ≤ layer → (c : Byte) → is_in_part (λ n a. n == level && is_between first (layer + 1) a) c ≡ (is_in_part (λ n a. n == level && is_between first layer a) c || is_in_part (λ n a. n == level && a == layer) c)
next_layer level first layer le (in_buffer b k) = refl
next_layer level first layer le (in_image i n a x y p) = ap (λ (t : Bool). n == level && t) (one_further first layer a le) ∙ over_or (n == level) (is_between first layer a) (a == layer)

pub next_level : (test : ℕ → Bool) (first level : ℕ) → first ≤ level → (c : Byte) → is_in_part (λ n a. is_between first (level + 1) n && test a) c ≡ (is_in_part (λ n a. is_between first level n && test a) c || is_in_part (λ n a. n == level && test a) c)
next_level test first level le (in_buffer b k) = refl
next_level test first level le (in_image i n a x y p) = ap (λ (t : Bool). t && test a) (one_further first level n le) ∙ or_over (is_between first level n) (n == level) (test a)

-- a walk over the numbers of a range that are below a limit has ended
pub record HasEnded (first count most last : ℕ) : Type 0 where
  pub end : ℕ
  pub is : end ≡ min (min (first + count) (2 ^ 32 - 1)) most
  pub done : end ≤ last
  pub no_more : first ≤ end → last ≤ end

pub all_layers : (m : ImageInfo) → bad_image m ≡ false → (level first count last : ℕ) → HasEnded first count m.layers last → (c : Byte) (k : ℕ) → place_of (ImageOf m) c ≡ Some k
    → is_in_part (λ n a. n == level && within first count a) c ≡ is_in_part (λ n a. n == level && is_between first last a) c
all_layers m good level first count last ended (in_buffer b j) k place = refl
all_layers m good level first count last ended (in_image i n a x y p) k place =
    let its = image_byte m good i n a x y p k place in
    ap (λ (t : Bool). n == level && t) (sym (all_there first count m.layers ended.end last a ended.is (let few = (counts m good).layers.few in omega (arith, few)) ended.done ended.no_more its.0.layer_there))

pub all_levels : (m : ImageInfo) → bad_image m ≡ false → (image : ℕ) (range : SubresourceRange) (last : ℕ) → HasEnded range.first_level range.levels m.levels last → (c : Byte) (k : ℕ) → resource_at c ≡ image → place_of (ImageOf m) c ≡ Some k
    → in_range image range c ≡ is_in_part (λ n a. is_between range.first_level last n && within range.first_layer range.layers a) c
all_levels m good image range last ended (in_buffer b j) k same place = refl
all_levels m good image range last ended (in_image i n a x y p) k same place =
    let its = image_byte m good i n a x y p k place in
    ap (λ (t : Bool). t && within range.first_level range.levels n && within range.first_layer range.layers a) (eq-eqb image i (sym same))
    ∙ ap (λ (t : Bool). t && within range.first_layer range.layers a) (sym (all_there range.first_level range.levels m.levels ended.end last n ended.is (let few = (counts m good).levels.few in omega (arith, few)) ended.done ended.no_more its.0.level_there))
