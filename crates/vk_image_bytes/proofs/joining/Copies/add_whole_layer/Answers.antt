use Rattle.std.proofs.Common.{◌≡◌, ◌*◌, ◌<◌, ◌^◌, refl, ap, arith}
use Rattle.vk_image_bytes.specs.Inner.Rows.{place_at}
use Rattle.vk_image_bytes.proofs.Joins.{copy_of, whole_layer_added, whole_fits}
use Rattle.vk_image_bytes.proofs.joining.Copies.add_whole_layer.Goals as goal

pub returns : goal.returns
returns c there fit =
    let r = c.args.rows.now in
    let z = c.args.layer in
    let source : place_at r.source z 0 < 2 ^ 64 = omega (arith, fit.source z 0 there fit.some) in
    let destination : place_at r.destination z 0 < 2 ^ 64 = omega (arith, fit.destination z 0 there fit.some) in
    let size : c.saturating_mul.result ≡ r.height * r.size = omega (arith, whole_fits r z there c.requires.source fit, c.saturating_mul.ensures, ap (λ n. r.size * n) c.from.ensures) in
    whole_layer_added c.args.self.now c.add.new.self r z (copy_of c.at-source_offset.result c.at-destination_offset.result c.saturating_mul.result) c.requires.source c.requires.destination fit
    (rw (c.at-source_offset.ensures source, c.at-destination_offset.ensures destination, size) refl) c.in_ok-add.ensures
