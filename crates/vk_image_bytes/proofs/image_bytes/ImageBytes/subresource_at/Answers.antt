use Rattle.std.proofs.Common.{◌≡◌, ◌<◌, ◌≤◌, ◌/◌, ◌*◌, ◌+◌, ap, arith}
use Rattle.std.proofs.lemmas.Nat.{mul-le}
use Rattle.vk_image_tiles.proofs.LevelBounds.{counts}
use Rattle.vk_image_bytes.specs.Numbers.{subresource_at}
use Rattle.vk_image_bytes.proofs.Keeping.{kept_at}
use Rattle.vk_image_bytes.proofs.Numbering.{lies}
use Rattle.vk_image_bytes.proofs.Reached.{AtLevel, at_level, subresource_below}
use Rattle.vk_image_bytes.proofs.image_bytes.ImageBytes.subresource_at.Goals as goal

at : (c : goal.After-level_at-level) → AtLevel c.args.self.now c.args.byte c.layer_len-len.result c.level_at-level.result
at c =
    let of = c.level_at-level.ensures in
    at_level c.args.self.now c.args.byte c.layer_len-len.result c.level_at-level.result c.layer_len-len.ensures.count of.there of.from of.to

layer_few : (c : goal.After-level_at-level) → c.args.byte / c.layer_len-len.result < c.args.self.now.layers
layer_few c = omega (arith, (at c).layer_is, (lies c.args.self.now c.args.byte c.requires).layer_there)

number : (c : goal.After-level_at-level) → c.args.byte / c.layer_len-len.result * c.self.inside.image.levels + c.level_at-level.result ≡ subresource_at c.args.self.now c.args.byte
number c = rw ((at c).layer_is, (at c).level_is) (ap (λ m. c.args.byte / c.layer_len-len.result * m.levels + c.level_at-level.result) c.self.view_is)

few : (c : goal.After-level_at-level) → c.args.byte / c.layer_len-len.result * c.self.inside.image.levels ≤ 3328
few c =
    let counted = counts c.args.self.now (kept_at _ c.args.self.now c.self.view_is c.self.invariant).shaped in
    let levels = counts c.self.inside.image c.self.invariant.shaped in
    mul-le (c.args.byte / c.layer_len-len.result) c.self.inside.image.levels 256 13 (omega (arith, layer_few c, counted.layers.few)) levels.levels.few

pub overflow_cast-result : goal.overflow_cast-result
overflow_cast-result c = omega (arith, layer_few c, (counts c.args.self.now (kept_at _ c.args.self.now c.self.view_is c.self.invariant).shaped).layers.few)

pub overflow_mul-result : goal.overflow_mul-result
overflow_mul-result c = omega (arith, few c)

pub overflow_add-result : goal.overflow_add-result
overflow_add-result c = omega (arith, few c, c.level_at-level.ensures.there, (counts c.args.self.now (kept_at _ c.args.self.now c.self.view_is c.self.invariant).shaped).levels.few)

pub returns-clause-subresource : goal.returns-clause-subresource
returns-clause-subresource c = number c

pub returns-clause-there : goal.returns-clause-there
returns-clause-there c = rw (number c) (subresource_below c.args.self.now c.args.byte c.requires)
