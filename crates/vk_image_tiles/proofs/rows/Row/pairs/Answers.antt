use Rattle.std.proofs.Common.{◌≡◌, ℕ, ◌∷◌, [], ◌+◌, ◌*◌, ◌%◌, sym, ap, ◌∙◌, subst}
use Rattle.vk_model.specs.declared.resource.Kind.{Kind}
use Rattle.vk_model.specs.declared.resource.Kind.TheVariants as kind
use Rattle.vk_image_tiles.specs.Rows.{TexelRow, ArePairs, place_in}
use Rattle.vk_image_tiles.proofs.RunLemmas.{tile_pairs}
use Rattle.vk_image_tiles.proofs.rows.Row.pairs.Goals as goal

pub returns-in-Optimal-clause-pairs : goal.returns-in-Optimal-clause-pairs
returns-in-Optimal-clause-pairs c =
    let row : TexelRow = c.args.self.now in
    let texel = c.self.inside.texel in
    let at = c.address-at.result in
    let is : row.tiling ≡ kind.Optimal = subst (λ (r : TexelRow). r.tiling ≡ kind.Optimal) c.self.view_is c.in-Optimal.is in
    let bytes : texel ≡ row.texel = ap (λ (r : TexelRow). r.texel) c.self.view_is in
    of_row row c.args.x at texel is bytes c.address-at.ensures c.if-x-eq0.true
  where
    of_row : (row : TexelRow) (x at texel : ℕ) → row.tiling ≡ kind.Optimal → texel ≡ row.texel → at ≡ place_in row x → x % 8 ≡ 0 → ArePairs (place_in row) row.texel x (at ∷ (at + 4 * texel) ∷ (at + 16 * texel) ∷ (at + 20 * texel) ∷ [])
    of_row row x at texel is bytes place whole =
        let placed : at ≡ place_in (record { first = row.first; texel = row.texel; tiling = kind.Optimal }) x = place ∙ ap (λ (k : Kind). place_in (record { first = row.first; texel = row.texel; tiling = k }) x) is in
        subst (λ (k : Kind). ArePairs (place_in (record { first = row.first; texel = row.texel; tiling = k })) row.texel x (at ∷ (at + 4 * texel) ∷ (at + 16 * texel) ∷ (at + 20 * texel) ∷ [])) (sym is)
        (subst (λ (t : ℕ). ArePairs (place_in (record { first = row.first; texel = row.texel; tiling = kind.Optimal })) row.texel x (at ∷ (at + 4 * t) ∷ (at + 16 * t) ∷ (at + 20 * t) ∷ [])) (sym bytes) (tile_pairs row.first row.texel x at placed whole))
