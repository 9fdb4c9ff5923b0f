-- Tests that give the same for each item of a list, of a grid or of some subresources.
use Rattle.std.proofs.Common.{◌≡◌, ◌+◌, ℕ, zero, suc, List, [], ◌∷◌, Bool, true, false, ◌&&◌, ◌||◌, nat_lt, refl, ap, ◌∙◌, arith}
use Rattle.std.specs.List.{list_any, flat_map, range_with_len, enumerate_from}
use Rattle.std.proofs.lemmas.Bool.{lt-ltb}
use Rattle.std.proofs.lemmas.List.Folds.{list_any-append}
use Rattle.std.proofs.Math.Bool.{and-false}
use Rattle.vk_model.specs.declared.command.SubresourceRange.{SubresourceRange}
use Rattle.vk_model.specs.declared.layout.Format.{Format}
use Rattle.vk_model.specs.declared.layout.Format.TheVariants as format
use Rattle.vk_model.specs.declared.resource.ImageInfo.{ImageInfo}
use Rattle.vk_model.specs.Basics.{below, grid}
use Rattle.vk_model.specs.Trace.Image.{texel, level_width, level_height}
use Rattle.vk_model.specs.World.Bytes.{Byte, in_image}
use Rattle.vk_model.specs.World.ByteWrites.{level_bytes, subresource_bytes}
use Rattle.vk_model.proofs.Lists.Members.{any_map}

-- a part that is the same for all
pub any_and : {A : Type 0} (t : A → Bool) (v : Bool) (xs : List A) → list_any (λ x. t x && v) xs ≡ (list_any t xs && v)
any_and t v [] = refl
any_and t v (x ∷ xs) = ap (λ b. t x && v || b) (any_and t v xs) ∙ spread (t x) (list_any t xs) v where
  spread : (a b v : Bool) → (a && v || (b && v)) ≡ ((a || b) && v)
  spread true b true = refl
  spread true true false = refl
  spread true false false = refl
  spread false b v = refl

pub any_flat : {A B : Type 0} (f : B → Bool) (h : A → List B) (xs : List A) → list_any f (flat_map h xs) ≡ list_any (λ x. list_any f (h x)) xs
any_flat f h [] = refl
any_flat f h (x ∷ xs) = list_any-append f (h x) (flat_map h xs) ∙ ap (λ b. list_any f (h x) || b) (any_flat f h xs)

pub any_numbers : (f : ℕ → Bool) (v : Bool) → ((k : ℕ) → f k ≡ v) → (a n : ℕ) → list_any f (range_with_len a n) ≡ (nat_lt 0 n && v)
any_numbers f v same a zero = refl
any_numbers f v same a (suc n) = rw (same a, any_numbers f v same (a + 1) n, lt-ltb 0 (suc n) (omega arith)) (go v (nat_lt 0 n)) where
  go : (v b : Bool) → (v || (b && v)) ≡ (true && v)
  go true b = refl
  go false b = and-false b

pub any_below : (f : ℕ → Bool) (v : Bool) → ((k : ℕ) → f k ≡ v) → (n : ℕ) → list_any f (below n) ≡ (nat_lt 0 n && v)
any_below f v same n = any_numbers f v same 0 n

pub any_grid : {A : Type 0} (f : A → Bool) (v : Bool) (a b c d : ℕ) (g : ℕ → ℕ → ℕ → ℕ → A) → ((z y x k : ℕ) → f (g z y x k) ≡ v)
    → list_any f (grid a b c d g) ≡ (nat_lt 0 a && (nat_lt 0 b && (nat_lt 0 c && (nat_lt 0 d && v))))
any_grid f v a b c d g same =
    any_flat f _ (below a) ∙ any_below _ _ (λ z.
    any_flat f _ (below b) ∙ any_below _ _ (λ y.
    any_flat f _ (below c) ∙ any_below _ _ (λ x.
    any_map f (λ k. g z y x k) (below d) ∙ any_below _ v (λ k. same z y x k) d) c) b) a

some_texel : (f : Format) → nat_lt 0 (texel f) ≡ true
some_texel format.R8Uint = refl
some_texel format.R8G8Uint = refl
some_texel format.R8G8B8A8Uint = refl
some_texel format.R16Uint = refl
some_texel format.R32Uint = refl
some_texel format.R32G32Uint = refl
some_texel format.R32G32B32A32Uint = refl

-- in a box of texels
pub any_texel : {A : Type 0} (f : A → Bool) (v : Bool) (layers height width : ℕ) (m : ImageInfo) (g : ℕ → ℕ → ℕ → ℕ → A) → ((z y x k : ℕ) → f (g z y x k) ≡ v)
    → list_any f (grid layers height width (texel m.format) g) ≡ ((nat_lt 0 layers && nat_lt 0 height && nat_lt 0 width) && v)
any_texel f v layers height width m g same = any_grid f v layers height width (texel m.format) g same ∙ rw (some_texel m.format) (regroup (nat_lt 0 layers) (nat_lt 0 height) (nat_lt 0 width)) where
  regroup : (a b c : Bool) → (a && (b && (c && v))) ≡ ((a && b && c) && v)
  regroup true true c = refl
  regroup true false c = refl
  regroup false b c = refl

some_width : (m : ImageInfo) (k : ℕ) → nat_lt 0 (level_width m k) ≡ true
some_width m k = lt-ltb 0 (level_width m k) (omega arith)

some_height : (m : ImageInfo) (k : ℕ) → nat_lt 0 (level_height m k) ≡ true
some_height m k = lt-ltb 0 (level_height m k) (omega arith)

-- in a range of subresources
pub any_subresource : (f : Byte × ℕ → Bool) (v : Bool) (i : ℕ) (m : ImageInfo) (r : SubresourceRange) → ((l z y x k : ℕ) → f (in_image i l z x y k, k) ≡ v)
    → list_any f (subresource_bytes i m r) ≡ ((nat_lt 0 r.levels && nat_lt 0 r.layers) && v)
any_subresource f v i m r same =
    any_flat f (λ k. level_bytes i m r (r.first_level + k)) (below r.levels)
    ∙ any_below _ (nat_lt 0 r.layers && v) (λ k.
    any_grid f v r.layers (level_height m (r.first_level + k)) (level_width m (r.first_level + k)) (texel m.format) _ (λ z y x b. same (r.first_level + k) (r.first_layer + z) y x b)
    ∙ rw (some_height m (r.first_level + k), some_width m (r.first_level + k), some_texel m.format) refl) r.levels
    ∙ regroup (nat_lt 0 r.levels) (nat_lt 0 r.layers)
  where
    regroup : (a b : Bool) → (a && (b && v)) ≡ ((a && b) && v)
    regroup true b = refl
    regroup false b = refl

pub any_enumerated : {A : Type 0} (f : ℕ × A → Bool) (v : Bool) → ((p : ℕ × A) → f p ≡ v) → (i : ℕ) (xs : List A) → list_any f (enumerate_from i xs) ≡ (list_any (λ x. true) xs && v)
any_enumerated f v same i [] = refl
any_enumerated f v same i (x ∷ xs) = rw (same (i, x), any_enumerated f v same (i + 1) xs) (go v (list_any (λ x. true) xs)) where
  go : (v b : Bool) → (v || (b && v)) ≡ (true && v)
  go true b = refl
  go false b = and-false b
