use Rattle.std.proofs.Common.{◌≡◌, ◌+◌, ◌*◌, arith}
use Rattle.vk_model.specs.World.ByteWrites.{row_texels, layer_rows}
use Rattle.vk_hazards.proofs.AreaLemmas.{past_texels}
use Rattle.vk_hazards.proofs.areas.row_start.Goals as goal

pub returns-in_err-texels-clause-none : goal.returns-in_err-texels-clause-none
returns-in_err-texels-clause-none c = λ e.
    let g = c.args.region.now in
    let rows : c.from.result * c.from-2.result ≡ c.args.layer * layer_rows g = cc in
    let place : c.in_ok-row.row ≡ c.args.layer * layer_rows g + c.args.row = omega (arith, rows, c.in_ok-row.ensures.1) in
    let texels : c.in_ok-row.row * c.from-4.result ≡ (c.args.layer * layer_rows g + c.args.row) * row_texels g = cc in
    let none = c.in_err-texels.ensures in
    past_texels g c.args.texel c.args.layer c.args.row _ c.requires.texel (omega (arith, texels))
