use Rattle.std.proofs.Common.{refl, arith}
use Rattle.vk_hazards.proofs.AreaLemmas.{area_of_box}
use Rattle.vk_hazards.proofs.areas.destination_box.Goals as goal

pub returns : goal.returns
returns c =
    let g = c.args.region.now in
    area_of_box c.args.image c.args.texel g.destination_level g.destination_first_layer g.destination_x g.destination_y g.layers g.height g.width _ refl refl refl refl refl refl
    (record { inner = omega arith; outer = λ k a b. omega arith }) (record { inner = omega arith; outer = λ k a b. omega arith }) (record { inner = omega arith; outer = λ k a b. omega arith })
