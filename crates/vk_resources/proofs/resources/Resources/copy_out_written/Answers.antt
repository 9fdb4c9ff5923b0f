use Rattle.std.proofs.Common.{◌≡◌, List, ap, sym, subst, ◌∙◌, arith, Some}
use Rattle.vk_model.specs.declared.resource.ImageInfo.{ImageInfo}
use Rattle.vk_model.specs.Trace.Image.{texel}
use Rattle.vk_model.specs.World.Areas.{region_box}
use Rattle.vk_model.specs.World.ByteWrites.{ByteWrite}
use Rattle.vk_image_transfer.specs.Pieces.{piece_in, copy_out_pieces, all_copied_out}
use Rattle.vk_image_transfer.specs.Rows.{BoxFits, RegionFits}
use Rattle.vk_resources.specs.Held.{Held, shape_of}
use Rattle.vk_resources.specs.Inner.Images.{RegionsReady}
use Rattle.vk_resources.specs.Stretches.{HasWrites}
use Rattle.vk_resources.proofs.ImageSteps.{region_found}
use Rattle.vk_resources.proofs.WrittenBytes.{flat_has_writes}
use Rattle.vk_resources.proofs.WrittenRows.{one_shape}
use Rattle.vk_resources.proofs.resources.Resources.copy_out_written.Goals as goal

fits : (c : goal.After-stretches) → BoxFits c.shape_at-shape.result.now (region_box c.find-row.result.region) × RegionFits c.find-row.result.region (texel c.shape_at-shape.result.now.format) c.args.placed.size
fits c =
    let s : Held = record { memory = c.self.inside.memories; backed = c.self.inside.backing; resources = c.self.inside.resources.entries; shapes = c.self.inside.shapes.entries; cache = c.self.inside.cache } in
    region_found s c.self.invariant c.args.placed.size c.args.image c.shape_at-shape.result.now c.shape_at-shape.ensures c.args.rows.now c.args.number
    (subst (λ (h : Held). RegionsReady h c.args.placed.size c.args.image c.args.rows.now c.args.number) (sym c.self.view_is) c.requires.ready) c.find-row.result.region c.find-row.ensures.region

pub stretches-requires-clause-region : goal.stretches-requires-clause-region
stretches-requires-clause-region c =
    let s : Held = record { memory = c.self.inside.memories; backed = c.self.inside.backing; resources = c.self.inside.resources.entries; shapes = c.self.inside.shapes.entries; cache = c.self.inside.cache } in
    (region_found s c.self.invariant c.args.placed.size c.args.image c.shape_at-shape.result.now c.shape_at-shape.ensures c.args.rows.now c.args.number
    (subst (λ (h : Held). RegionsReady h c.args.placed.size c.args.image c.args.rows.now c.args.number) (sym c.self.view_is) c.requires.ready) c.find-row.result.region c.find-row.ensures.region).0

pub stretches-requires-clause-end : goal.stretches-requires-clause-end
stretches-requires-clause-end c = λ z y x k z_there y_there x_there k_there.
    let s : Held = record { memory = c.self.inside.memories; backed = c.self.inside.backing; resources = c.self.inside.resources.entries; shapes = c.self.inside.shapes.entries; cache = c.self.inside.cache } in
    let there = (region_found s c.self.invariant c.args.placed.size c.args.image c.shape_at-shape.result.now c.shape_at-shape.ensures c.args.rows.now c.args.number
    (subst (λ (h : Held). RegionsReady h c.args.placed.size c.args.image c.args.rows.now c.args.number) (sym c.self.view_is) c.requires.ready) c.find-row.result.region c.find-row.ensures.region).1 z y x k z_there y_there x_there k_there in
    omega (arith, there)

pub returns : goal.returns
returns c = λ n shaped.
    let s : Held = record { memory = c.self.inside.memories; backed = c.self.inside.backing; resources = c.self.inside.resources.entries; shapes = c.self.inside.shapes.entries; cache = c.self.inside.cache } in
    let row = c.find-row.result in
    let m = c.shape_at-shape.result.now in
    let shaped' : shape_of s c.args.image ≡ Some n = ap (λ (h : Held). shape_of h c.args.image) c.self.view_is ∙ shaped in
    let same : piece_in (all_copied_out c.args.image c.args.buffer n c.args.rows.now) c.args.number ≡ piece_in (copy_out_pieces c.args.image c.args.buffer m row.region) row.number =
    ap (λ (x : ImageInfo). piece_in (all_copied_out c.args.image c.args.buffer x c.args.rows.now) c.args.number) (one_shape s c.args.image n m shaped' c.shape_at-shape.ensures) ∙ c.find-row.ensures.copied_out c.args.image c.args.buffer m in
    subst (λ (ms : List ByteWrite). HasWrites c.args.self.now ms (record { resource = c.args.buffer; left = c.stretches.result })) (sym same)
    (flat_has_writes c.args.self.now c.args.buffer c.args.placed c.requires.placed (piece_in (copy_out_pieces c.args.image c.args.buffer m row.region) row.number) c.stretches.result (c.stretches.ensures c.args.image c.args.buffer c.args.placed.size (fits c).1))
