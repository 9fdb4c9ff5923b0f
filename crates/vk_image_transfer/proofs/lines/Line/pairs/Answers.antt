use Rattle.std.proofs.Common.{◌≡◌, ◌+◌, ◌*◌, ◌^◌, ◌<◌, ℕ, zero, suc, List, [], ◌∷◌, ap, sym, ◌∙◌, arith, slice_index}
use Rattle.vk_image_tiles.specs.Rows.{ArePairs, TexelRow, place_in}
use Rattle.vk_image_transfer.specs.Inner.Lines.{line_place, line_texel}
use Rattle.vk_image_transfer.specs.declared.lines.Line.{Line}
use Rattle.vk_image_transfer.specs.declared.lines.Line.TheVariants as line
use Rattle.vk_image_transfer.proofs.lines.Line.pairs.Goals as goal

module _ (l : Line) (start first : ℕ) (row : TexelRow) (x : ℕ) (starts : List ℕ) (is : l ≡ line.Image start first row) (pairs : ArePairs (place_in row) row.texel (first + x) starts) where
  first_of : (k : ℕ) → k < 4 → line_place l (x + 2 * k) ≡ start + slice_index starts k
  first_of k low =
      let after : first + (x + 2 * k) ≡ first + x + 2 * k = omega arith in
      let pair = pairs k low in
      ap (λ (m : Line). line_place m (x + 2 * k)) is ∙ ap (λ (j : ℕ). start + place_in row j) after ∙ ap (λ (a : ℕ). start + a) pair.0

  second_of : (k : ℕ) → k < 4 → line_place l (x + 2 * k + 1) ≡ start + slice_index starts k + line_texel l
  second_of k low =
      let after : first + (x + 2 * k + 1) ≡ first + x + 2 * k + 1 = omega arith in
      let pair = pairs k low in
      let same : start + (slice_index starts k + row.texel) ≡ start + slice_index starts k + row.texel = omega arith in
      ap (λ (m : Line). line_place m (x + 2 * k + 1)) is ∙ ap (λ (j : ℕ). start + place_in row j) after ∙ ap (λ (a : ℕ). start + a) pair.1 ∙ same ∙ ap (λ (m : Line). start + slice_index starts k + line_texel m) (sym is)

  in_bounds : ((k : ℕ) → k < 8 → line_place l (x + k) < 2 ^ 64) → (k : ℕ) → k < 4 → start + slice_index starts k < 2 ^ 64
  in_bounds places k low = let at = first_of k low in let end = places (2 * k) (omega arith) in omega (arith, at, end)

  all_pairs : ArePairs (line_place l) (line_texel l) x ((start + slice_index starts 0) ∷ (start + slice_index starts 1) ∷ (start + slice_index starts 2) ∷ (start + slice_index starts 3) ∷ [])
  all_pairs zero low = (first_of 0 low, second_of 0 low)
  all_pairs (suc zero) low = (first_of 1 low, second_of 1 low)
  all_pairs (suc (suc zero)) low = (first_of 2 low, second_of 2 low)
  all_pairs (suc (suc (suc zero))) low = (first_of 3 low, second_of 3 low)
  all_pairs (suc (suc (suc (suc k)))) low = absurd (omega arith)

pub overflow_add-result-in-Image : goal.overflow_add-result-in-Image
overflow_add-result-in-Image c = let fits = in_bounds c.args.self.now c.in-Image.start c.in-Image.first c.in-Image.row c.args.x c.in_ok-one-in-Image.field-0 c.in-Image.is c.in_ok-one-in-Image.ensures.pairs c.requires.places 0 (omega arith) in omega (arith, fits)

pub overflow_add-result-in-Image-2 : goal.overflow_add-result-in-Image-2
overflow_add-result-in-Image-2 c = let fits = in_bounds c.args.self.now c.in-Image.start c.in-Image.first c.in-Image.row c.args.x c.in_ok-one-in-Image.field-0 c.in-Image.is c.in_ok-one-in-Image.ensures.pairs c.requires.places 1 (omega arith) in omega (arith, fits)

pub overflow_add-result-in-Image-3 : goal.overflow_add-result-in-Image-3
overflow_add-result-in-Image-3 c = let fits = in_bounds c.args.self.now c.in-Image.start c.in-Image.first c.in-Image.row c.args.x c.in_ok-one-in-Image.field-0 c.in-Image.is c.in_ok-one-in-Image.ensures.pairs c.requires.places 2 (omega arith) in omega (arith, fits)

pub overflow_add-result-in-Image-4 : goal.overflow_add-result-in-Image-4
overflow_add-result-in-Image-4 c = let fits = in_bounds c.args.self.now c.in-Image.start c.in-Image.first c.in-Image.row c.args.x c.in_ok-one-in-Image.field-0 c.in-Image.is c.in_ok-one-in-Image.ensures.pairs c.requires.places 3 (omega arith) in omega (arith, fits)

pub returns-in_ok-one-in-Image : goal.returns-in_ok-one-in-Image
returns-in_ok-one-in-Image c = all_pairs c.args.self.now c.in-Image.start c.in-Image.first c.in-Image.row c.args.x c.in_ok-one-in-Image.field-0 c.in-Image.is c.in_ok-one-in-Image.ensures.pairs
