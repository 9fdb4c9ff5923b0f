-- When two bytes are the same, by where they are; texels and rows of them. Other crates cite it.
use Rattle.std.proofs.Common.{◌≡◌, ℕ, ◌+◌, ◌*◌, ◌<◌, ◌≤◌, List, true, false, ◌==◌, refl, sym, subst, arith, inl, inr, ◌⊎◌}
use Rattle.std.specs.Prelude.{Contains}
use Rattle.std.proofs.Math.Nat.{mul-le-mul_right}
use Rattle.std.proofs.lemmas.Bool.{eqb-true, eq-eqb, lt-ltb, and_parts, and_from, false_from_ne_true}
use Rattle.vk_model.specs.Memory.Suballocation.{ranges_meet}
use Rattle.vk_model.specs.World.Bytes.{Byte, in_buffer, in_image, same_byte}
use Rattle.vk_model.specs.Sync.Access.{is_in}
use Rattle.vk_model.proofs.Lists.Truths.{no}
use Rattle.vk_model.proofs.Lists.Members.{member_passes, some_member}
use Rattle.vk_model.proofs.Lists.Grids.{Less}
use Rattle.vk_model.specs.declared.layout.Format.{Format}
use Rattle.vk_model.specs.declared.layout.Format.TheVariants as format
use Rattle.vk_model.specs.Trace.Image.{texel}

-- ---- bytes that are the same

pub buffer_same : (b k c l : ℕ) → same_byte (in_buffer b k) (in_buffer c l) ≡ true → (b ≡ c) × (k ≡ l)
buffer_same b k c l e = (eqb-true b c (and_parts (b == c) (k == l) e).0, eqb-true k l (and_parts (b == c) (k == l) e).1)

-- the places of two texels in their images
pub record SamePlace (i a l x y p j c m u v q : ℕ) : Type 0 where
  pub image : i ≡ j
  pub level : a ≡ c
  pub layer : l ≡ m
  pub x_is : x ≡ u
  pub y_is : y ≡ v
  pub part : p ≡ q

pub image_same : (i a l x y p j c m u v q : ℕ) → same_byte (in_image i a l x y p) (in_image j c m u v q) ≡ true → SamePlace i a l x y p j c m u v q
image_same i a l x y p j c m u v q e =
    let e5 = (and_parts _ (p == q) e).0 in
    let e4 = (and_parts _ (y == v) e5).0 in
    let e3 = (and_parts _ (x == u) e4).0 in
    let e2 = (and_parts _ (l == m) e3).0 in record {
      image = eqb-true i j (and_parts (i == j) (a == c) e2).0;
      level = eqb-true a c (and_parts (i == j) (a == c) e2).1;
      layer = eqb-true l m (and_parts _ (l == m) e3).1;
      x_is = eqb-true x u (and_parts _ (x == u) e4).1;
      y_is = eqb-true y v (and_parts _ (y == v) e5).1;
      part = eqb-true p q (and_parts _ (p == q) e).1;
    }

pub byte_same : (b c : Byte) → same_byte b c ≡ true → b ≡ c
byte_same (in_buffer b k) (in_buffer c l) e = let s = buffer_same b k c l e in rw (s.0, s.1) refl
byte_same (in_image i a l x y p) (in_image j c m u v q) e =
    let s = image_same i a l x y p j c m u v q e in rw (s.image, s.level, s.layer, s.x_is, s.y_is, s.part) refl
byte_same (in_buffer b k) (in_image j c m u v q) e = no e
byte_same (in_image i a l x y p) (in_buffer c k) e = no e

pub byte_itself : (b : Byte) → same_byte b b ≡ true
byte_itself (in_buffer b k) = rw (eq-eqb b b refl, eq-eqb k k refl) refl
byte_itself (in_image i a l x y p) = rw (eq-eqb i i refl, eq-eqb a a refl, eq-eqb l l refl, eq-eqb x x refl, eq-eqb y y refl, eq-eqb p p refl) refl

-- ---- a byte among others

pub is_in_from : (b : Byte) (bs : List Byte) → is_in b bs ≡ true → Contains bs b
is_in_from b bs h = let m = some_member (same_byte b) bs h in subst (λ (c : Byte). Contains bs c) (sym (byte_same b m.0 m.2)) m.1

pub is_in_of : (b : Byte) (bs : List Byte) → Contains bs b → is_in b bs ≡ true
is_in_of b bs c = member_passes (same_byte b) bs b c (byte_itself b)

-- ---- ranges with a common number meet

pub common_meets : (a n b m v : ℕ) → a ≤ v → v < a + n → b ≤ v → v < b + m → ranges_meet a n b m ≡ true
common_meets a n b m v la ha lb hb =
    and_from _ _ (and_from _ _ (and_from _ _ (lt-ltb 0 n (omega arith)) (lt-ltb 0 m (omega arith))) (lt-ltb a (b + m) (omega arith))) (lt-ltb b (a + n) (omega arith))

abbrev pub Differ : Byte → Byte → Type 0
Differ b c = same_byte b c ≡ false

-- ---- numbers written with digits of given sizes

-- a smaller first digit makes a smaller number, whatever the second
pub digit_first : (a a' n y y' : ℕ) → a < a' → y < n → a * n + y < a' * n + y'
digit_first a a' n y y' lt low =
    let more : (a + 1) * n ≤ a' * n = mul-le-mul_right n (let le : a + 1 ≤ a' = omega arith in le) in
    let one : (a + 1) * n ≡ a * n + n = omega arith in
    omega arith

-- the same place isn't before itself
pub no_less : (z y x k z' y' x' k' : ℕ) → z ≡ z' → y ≡ y' → x ≡ x' → k ≡ k' → Less z y x k z' y' x' k' → ⊥
no_less z y x k z' y' x' k' a b c d (inl lt) = omega arith
no_less z y x k z' y' x' k' a b c d (inr more) = deeper more.1
  where
    deeper : (y < y') ⊎ ((y ≡ y') × ((x < x') ⊎ ((x ≡ x') × (k < k')))) → ⊥
    deeper (inl lt) = omega arith
    deeper (inr more) = deepest more.1
      where
        deepest : (x < x') ⊎ ((x ≡ x') × (k < k')) → ⊥
        deepest (inl lt) = omega arith
        deepest (inr more) = let lt = more.1 in omega arith

-- ---- texels

-- a texel has bytes
pub texel_some : (f : Format) → 0 < texel f
texel_some format.R8Uint = omega arith
texel_some format.R8G8Uint = omega arith
texel_some format.R8G8B8A8Uint = omega arith
texel_some format.R16Uint = omega arith
texel_some format.R32Uint = omega arith
texel_some format.R32G32Uint = omega arith
texel_some format.R32G32B32A32Uint = omega arith

-- ---- texels of boxes

module _ (i level : ℕ) (l x0 y0 : ℕ) where
  abbrev pub texel_at : ℕ → ℕ → ℕ → ℕ → Byte
  texel_at z y x k = in_image i level (l + z) (x0 + x) (y0 + y) k

  pub texels_differ : (z y x k z' y' x' k' : ℕ) → Less z y x k z' y' x' k' → Differ (texel_at z y x k) (texel_at z' y' x' k')
  texels_differ z y x k z' y' x' k' less = false_from_ne_true (same_byte (texel_at z y x k) (texel_at z' y' x' k')) (λ e.
      let s = image_same i level (l + z) (x0 + x) (y0 + y) k i level (l + z') (x0 + x') (y0 + y') k' e in
      no_less z y x k z' y' x' k' (let h = s.layer in omega arith) (let h = s.y_is in omega arith) (let h = s.x_is in omega arith) s.part less)

-- ---- rows of texels in a buffer

module _ (off t height_step width_step : ℕ) where
  abbrev pub place : ℕ → ℕ → ℕ → ℕ → ℕ
  place z y x k = off + ((z * height_step + y) * width_step + x) * t + k

  pub place_less : (z y x k z' y' x' k' : ℕ) → y < height_step → x < width_step → k < t → Less z y x k z' y' x' k' → place z y x k < place z' y' x' k'
  place_less z y x k z' y' x' k' ly lx lk less = go less
    where
      by_texel : (a a' : ℕ) → a < a' → off + a * t + k < off + a' * t + k'
      by_texel a a' lt = let d = digit_first a a' t k k' lt lk in omega arith

      by_row : (r r' : ℕ) → r < r' → off + (r * width_step + x) * t + k < off + (r' * width_step + x') * t + k'
      by_row r r' lt = by_texel (r * width_step + x) (r' * width_step + x') (digit_first r r' width_step x x' lt lx)

      same_row : z ≡ z' → y ≡ y' → x < x' → place z y x k < place z' y' x' k'
      same_row a b lt = by_texel ((z * height_step + y) * width_step + x) ((z' * height_step + y') * width_step + x') (rw (a, b) (omega arith))

      last : z ≡ z' → y ≡ y' → x ≡ x' → k < k' → place z y x k < place z' y' x' k'
      last a b c lt = rw (a, b, c) (omega arith)

      go : Less z y x k z' y' x' k' → place z y x k < place z' y' x' k'
      go (inl lt) = by_row (z * height_step + y) (z' * height_step + y') (digit_first z z' height_step y y' lt ly)
      go (inr more) = deeper more.0 more.1
        where
          deepest : z ≡ z' → y ≡ y' → (x < x') ⊎ ((x ≡ x') × (k < k')) → place z y x k < place z' y' x' k'
          deepest a b (inl lt) = same_row a b lt
          deepest a b (inr more) = last a b more.0 more.1

          deeper : z ≡ z' → (y < y') ⊎ ((y ≡ y') × ((x < x') ⊎ ((x ≡ x') × (k < k')))) → place z y x k < place z' y' x' k'
          deeper a (inl lt) = by_row (z * height_step + y) (z' * height_step + y') (rw a (omega arith))
          deeper a (inr more) = deepest a more.0 more.1

pub less_differs : (b k l : ℕ) → k < l → Differ (in_buffer b k) (in_buffer b l)
less_differs b k l lt = false_from_ne_true (same_byte (in_buffer b k) (in_buffer b l)) (λ e. let same = (buffer_same b k b l e).1 in omega arith)
