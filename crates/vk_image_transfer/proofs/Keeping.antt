-- What lies apart from a row that is written is kept.
use Rattle.std.proofs.Common.{◌≡◌, inl, inr, ℕ, ◌+◌, ◌<◌, ◌≤◌, List, refl, ap, sym, ◌∙◌, arith, slice_index, Option, Some, None}
use Rattle.vk_model.specs.Memory.PlaceLaws.{TexelsInside}
use Rattle.vk_model.specs.World.Bytes.{Byte}
use Rattle.vk_transfer.specs.Ran.{AreApart}
use Rattle.vk_image_transfer.specs.Held.{Held, Form, form_size, place_of, byte_held}
use Rattle.vk_image_transfer.specs.Rows.{AreWritten, RowsApart}
use Rattle.vk_image_transfer.proofs.Places.{IsSound, place_within}

-- all texels of a row lie in some bytes from a place on
abbrev pub RowInside : (w t : ℕ) → (ℕ → ℕ) → (start size : ℕ) → Type 0
RowInside w t place start size = (x p : ℕ) → x < w → p < t → (start ≤ place x + p) × (place x + p < start + size)

pub rows_apart : (w t : ℕ) (one other : ℕ → ℕ) (s m start n : ℕ) → RowInside w t one s m → RowInside w t other start n → AreApart s m start n → RowsApart w t one other
rows_apart w t one other s m start n inside within (inl before) x u p q lx lu lp lq same = omega (arith, before, same, inside x p lx lp, within u q lu lq)
rows_apart w t one other s m start n inside within (inr after) x u p q lx lu lp lq same = omega (arith, after, same, inside x p lx lp, within u q lu lq)

pub turned : (s m start n : ℕ) → AreApart s m start n → AreApart start n s m
turned s m start n (inl before) = inr before
turned s m start n (inr after) = inl after

-- the same of rows by other names
pub rows_apart_as : (w t t' : ℕ) (one one' other other' : ℕ → ℕ) → t ≡ t' → ((x : ℕ) → one x ≡ one' x) → ((x : ℕ) → other x ≡ other' x) → RowsApart w t' one' other' → RowsApart w t one other
rows_apart_as w t t' one one' other other' bytes first second apart x u p q lx lu lp lq same =
    apart x u p q lx lu (omega (arith, lp, bytes)) (omega (arith, lq, bytes)) (ap (λ (k : ℕ). k + p) (sym (first x)) ∙ same ∙ ap (λ (k : ℕ). k + q) (second u))

module _ (law : TexelsInside) (f : Form) (good : IsSound f) (old new : List ℕ) (w t : ℕ) (place : ℕ → ℕ) (value : ℕ → ℕ → ℕ) (s start size : ℕ)
    (written : AreWritten old new w t place value) (inside : RowInside w t place start size) (apart : AreApart s (form_size f) start size) where
  abbrev lying : List ℕ → Held
  lying xs = record { region = xs; start = s; form = f }

  abbrev at : List ℕ → Option ℕ → ℕ
  at xs None = 0
  at xs (Some k) = slice_index xs (s + k)

  pub kept_held : (c : Byte) → byte_held (Some (lying new)) c ≡ byte_held (Some (lying old)) c
  kept_held c = go (place_of f c) refl
    where
      beyond : (k : ℕ) → k < form_size f → AreApart s (form_size f) start size → (x p : ℕ) → x < w → p < t → place x + p ≡ s + k → ⊥
      beyond k lt (inl before) x p lx lp is = omega (arith, lt, before, is, inside x p lx lp)
      beyond k lt (inr after) x p lx lp is = omega (arith, lt, after, is, inside x p lx lp)

      go : (o : Option ℕ) → place_of f c ≡ o → at new o ≡ at old o
      go None e = refl
      go (Some k) e = written.kept (s + k) (beyond k (place_within law f good c k e) apart)
