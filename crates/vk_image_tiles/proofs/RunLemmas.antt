-- The stretches of a row that lie together.
use Rattle.std.proofs.Common.{[], ◌∷◌, ◌≡◌, ◌≢◌, ℕ, zero, suc, ◌+◌, ◌-◌, ◌*◌, ◌%◌, ◌<◌, ◌≤◌, refl, ap, sym, ◌∙◌, subst, arith, slice_index}
use Rattle.std.proofs.lemmas.Nat.{same_from_place}
use Rattle.vk_model.specs.declared.resource.Kind.{Kind}
use Rattle.vk_model.specs.declared.resource.Kind.TheVariants as kind
use Rattle.vk_image_tiles.specs.declared.rows.Run.{Run}
use Rattle.vk_model.specs.Memory.Addresses.{number_in_tile}
use Rattle.vk_image_tiles.specs.Rows.{TexelRow, ArePairs, EndWithin, IsRun, texels_to, place_in}

-- the pairs of eight texels at these places of their tile
pairs_of_steps : (place : ℕ → ℕ) (texel x at : ℕ) → at ≡ place x → ((j : ℕ) → j < 8 → place (x + j) ≡ place x + number_in_tile j 0 * texel)
    → ArePairs place texel x (at ∷ (at + 4 * texel) ∷ (at + 16 * texel) ∷ (at + 20 * texel) ∷ [])
pairs_of_steps place texel x at is step k low =
    let first = step (2 * k) (omega arith) in
    let after : x + 2 * k + 1 ≡ x + (2 * k + 1) = omega arith in
    let second = ap place after ∙ step (2 * k + 1) (omega arith) in
    each k low first second
  where
    each : (k : ℕ) → k < 4 → place (x + 2 * k) ≡ place x + number_in_tile (2 * k) 0 * texel → place (x + 2 * k + 1) ≡ place x + number_in_tile (2 * k + 1) 0 * texel
        → (place (x + 2 * k) ≡ slice_index (at ∷ (at + 4 * texel) ∷ (at + 16 * texel) ∷ (at + 20 * texel) ∷ []) k) × (place (x + 2 * k + 1) ≡ slice_index (at ∷ (at + 4 * texel) ∷ (at + 16 * texel) ∷ (at + 20 * texel) ∷ []) k + texel)
    each zero low first second = (omega (arith, is, first), omega (arith, is, second))
    each (suc zero) low first second = (omega (arith, is, first), omega (arith, is, second))
    each (suc (suc zero)) low first second = (omega (arith, is, first), omega (arith, is, second))
    each (suc (suc (suc zero))) low first second = (omega (arith, is, first), omega (arith, is, second))
    each (suc (suc (suc (suc k)))) low first second = absurd (omega arith)

module _ (first texel : ℕ) where
  abbrev linear_row : TexelRow
  linear_row = record { first = first; texel = texel; tiling = kind.Linear }

  abbrev tiled_row : TexelRow
  tiled_row = record { first = first; texel = texel; tiling = kind.Optimal }

  -- all of a linear row lies together
  pub linear_run : (x end : ℕ) → x < end → IsRun linear_row x end (record { at = place_in linear_row x; texels = end - x })
  linear_run x end before = record {
    starts = refl;
    some = omega arith;
    ends = omega arith;
    together = λ k few. omega arith;
    longest = λ more. absurd (omega arith);
  }

  -- places that many texels apart have numbers that far apart
  far : (a b n : ℕ) → 0 < texel → first + b * texel ≡ first + a * texel + n * texel → b ≡ a + n
  far a b n some same = (same_from_place b 0 (a + n) 0 texel some some (omega arith)).0

  next_of_even : (x : ℕ) → x % 2 ≡ 0 → texels_to kind.Optimal (x + 1) ≡ texels_to kind.Optimal x + 1
  next_of_even x even = omega arith

  not_two_on : (x : ℕ) → x % 2 ≡ 0 → texels_to kind.Optimal (x + 2) ≢ texels_to kind.Optimal x + 2
  not_two_on x even same = omega arith

  not_one_on : (x : ℕ) → x % 2 ≢ 0 → texels_to kind.Optimal (x + 1) ≢ texels_to kind.Optimal x + 1
  not_one_on x odd same = omega arith

  -- of an even texel and the next both
  pub pair_run : (x end : ℕ) → 0 < texel → x % 2 ≡ 0 → 1 < end - x → IsRun tiled_row x end (record { at = place_in tiled_row x; texels = 2 })
  pair_run x end some even more = record {
    starts = refl;
    some = omega arith;
    ends = omega arith;
    together = each;
    longest = λ left same. not_two_on x even (far (texels_to kind.Optimal x) (texels_to kind.Optimal (x + 2)) 2 some same);
  }
    where
      each : (k : ℕ) → k < 2 → place_in tiled_row (x + k) ≡ place_in tiled_row x + k * texel
      each zero few = let same : x + 0 ≡ x = omega arith in rw same (omega arith)
      each (suc zero) few = let next : texels_to kind.Optimal (x + 1) ≡ texels_to kind.Optimal x + 1 = next_of_even x even in rw next (omega arith)
      each (suc (suc k)) few = absurd (omega arith)

  -- of an odd texel, or the last one, it alone
  pub single_run : (x end : ℕ) → 0 < texel → x < end → (1 < end - x → x % 2 ≢ 0) → IsRun tiled_row x end (record { at = place_in tiled_row x; texels = 1 })
  single_run x end some before odd = record {
    starts = refl;
    some = omega arith;
    ends = omega arith;
    together = each;
    longest = λ left same. not_one_on x (odd (omega arith)) (far (texels_to kind.Optimal x) (texels_to kind.Optimal (x + 1)) 1 some same);
  }
    where
      each : (k : ℕ) → k < 1 → place_in tiled_row (x + k) ≡ place_in tiled_row x + k * texel
      each zero few = let same : x + 0 ≡ x = omega arith in rw same (omega arith)
      each (suc k) few = absurd (omega arith)

  tile_step : (x : ℕ) → x % 8 ≡ 0 → (j : ℕ) → j < 8 → texels_to kind.Optimal (x + j) ≡ texels_to kind.Optimal x + number_in_tile j 0
  tile_step x whole zero low = omega arith
  tile_step x whole (suc zero) low = omega arith
  tile_step x whole (suc (suc zero)) low = omega arith
  tile_step x whole (suc (suc (suc zero))) low = omega arith
  tile_step x whole (suc (suc (suc (suc zero)))) low = omega arith
  tile_step x whole (suc (suc (suc (suc (suc zero))))) low = omega arith
  tile_step x whole (suc (suc (suc (suc (suc (suc zero)))))) low = omega arith
  tile_step x whole (suc (suc (suc (suc (suc (suc (suc zero))))))) low = omega arith
  tile_step x whole (suc (suc (suc (suc (suc (suc (suc (suc k)))))))) low = absurd (omega arith)

  in_tile : (x : ℕ) → x % 8 ≡ 0 → (j : ℕ) → j < 8 → place_in tiled_row (x + j) ≡ place_in tiled_row x + number_in_tile j 0 * texel
  in_tile x whole j low = let step : texels_to kind.Optimal (x + j) ≡ texels_to kind.Optimal x + number_in_tile j 0 = tile_step x whole j low in rw step (omega arith)

  -- a row of a tile has four pairs
  pub tile_pairs : (x at : ℕ) → at ≡ place_in tiled_row x → x % 8 ≡ 0 → ArePairs (place_in tiled_row) texel x (at ∷ (at + 4 * texel) ∷ (at + 16 * texel) ∷ (at + 20 * texel) ∷ [])
  tile_pairs x at is whole = pairs_of_steps (place_in tiled_row) texel x at is (in_tile x whole)

-- a run of a row whose tiling, start and length are known
pub run_as : (row : TexelRow) (k : Kind) (x end at texels n : ℕ) → row.tiling ≡ k → at ≡ place_in row x → texels ≡ n
    → (let named : TexelRow = record { first = row.first; texel = row.texel; tiling = k } in IsRun named x end (record { at = place_in named x; texels = n }))
    → IsRun row x end (record { at = at; texels = texels })
run_as row k x end at texels n is place count run =
    let there : IsRun row x end (record { at = place_in row x; texels = n }) =
    subst (λ (m : Kind). let named : TexelRow = record { first = row.first; texel = row.texel; tiling = m } in IsRun named x end (record { at = place_in named x; texels = n })) (sym is) run in
    let counted : IsRun row x end (record { at = place_in row x; texels = texels }) = subst (λ (m : ℕ). IsRun row x end (record { at = place_in row x; texels = m })) (sym count) there in
    subst (λ (m : ℕ). IsRun row x end (record { at = m; texels = texels })) (sym place) counted

-- the bytes of a run end in what holds the texels of its row
pub run_ends : (row : TexelRow) (x end size : ℕ) (run : Run) → IsRun row x end run → EndWithin size row end → run.at + run.texels * row.texel ≤ size
run_ends row x end size run is inside =
    let last : place_in row (x + (run.texels - 1)) ≡ run.at + (run.texels - 1) * row.texel = is.together (run.texels - 1) (omega (arith, is.some)) in
    let there : place_in row (x + (run.texels - 1)) + row.texel ≤ size = inside (x + (run.texels - 1)) (omega (arith, is.some, is.ends)) in
    let one : run.texels * row.texel ≡ (run.texels - 1) * row.texel + row.texel = whole run.texels is.some in
    omega (arith, last, there, one)
  where
    whole : (n : ℕ) → 0 < n → n * row.texel ≡ (n - 1) * row.texel + row.texel
    whole zero none = absurd (omega arith)
    whole (suc n) some = let less : suc n - 1 ≡ n = omega arith in rw less (omega arith)
