use Rattle.std.proofs.Common.{◌≤◌, ◌+◌, ◌*◌, arith}
use Rattle.std.proofs.lemmas.Nat.{mul-le}
use Rattle.vk_image_tiles.proofs.LevelBounds.{counts}
use Rattle.vk_image_bytes.proofs.Keeping.{kept_at}
use Rattle.vk_image_bytes.proofs.Levels.{few_columns}
use Rattle.vk_image_bytes.proofs.image_bytes.ImageBytes.places.Goals as goal

few_texels : (c : goal.After-level_first) → (c.from.result * c.from-width.result + c.from-2.result) * c.texel_len-texel.result ≤ 562949953421312
few_texels c =
    let width : c.from-width.result ≤ 4096 = omega (arith, few_columns c.self.inside.image c.args.level c.self.invariant.shaped) in
    let rows : c.from.result * c.from-width.result ≤ 4294967296 * 4096 = mul-le c.from.result c.from-width.result 4294967296 4096 (omega arith) width in
    omega (arith, mul-le (c.from.result * c.from-width.result + c.from-2.result) c.texel_len-texel.result (2 * 4294967296 * 4096) 16 (omega arith) (omega arith))

pub overflow_mul-in_layer : goal.overflow_mul-in_layer
overflow_mul-in_layer c = omega (arith, few_texels c)

pub overflow_add-in_layer : goal.overflow_add-in_layer
overflow_add-in_layer c = omega (arith, few_texels c)

pub overflow_add-result : goal.overflow_add-result
overflow_add-result c =
    let layers = (counts c.args.self.now (kept_at _ c.args.self.now c.self.view_is c.self.invariant).shaped).layers in
    let before : c.from-3.result * c.layer_len-len.result ≤ 256 * (13 * 268435456) = mul-le c.from-3.result c.layer_len-len.result 256 (13 * 268435456) (omega (arith, layers.few)) (omega arith) in
    omega (arith, few_texels c)
