use Rattle.std.proofs.Common.{◌≡◌, ap, sym, subst, ◌∙◌, Some}
use Rattle.vk_model.specs.declared.resource.ImageInfo.{ImageInfo}
use Rattle.vk_image_transfer.specs.Pieces.{piece_in, copy_image_pieces}
use Rattle.vk_resources.specs.Held.{Held, placed, shape_of}
use Rattle.vk_resources.specs.Inner.Images.{ImageRowReady}
use Rattle.vk_resources.specs.Inner.Steps.{HasRun}
use Rattle.vk_resources.proofs.ImageSteps.{across_within, across_between, across_step}
use Rattle.vk_resources.proofs.resources.Resources.run_across.Goals as goal

pub copy_by-requires-clause-within : goal.copy_by-requires-clause-within
copy_by-requires-clause-within c = λ same.
    let s : Held = record { memory = c.self.inside.memories; backed = c.self.inside.backing; resources = c.self.inside.resources.entries; shapes = c.self.inside.shapes.entries; cache = c.self.inside.cache } in
    across_within s c.self.invariant c.args.source c.args.destination c.args.row.region c.args.row.number (subst (λ (h : Held). ImageRowReady h c.args.source c.args.destination c.args.row.region c.args.row.number) (sym c.self.view_is) c.requires.ready)
    c.shape_at.result.now c.shape_at-2.result.now c.picture-from.result c.picture-to.result c.shape_at.ensures c.shape_at-2.ensures (ap (λ (h : Held). placed h c.args.source) c.self.view_is ∙ c.picture-from.ensures) (ap (λ (h : Held). placed h c.args.destination) c.self.view_is ∙ c.picture-to.ensures)
    c.requires.two same

pub copy_by-requires-clause-between : goal.copy_by-requires-clause-between
copy_by-requires-clause-between c = λ two.
    let s : Held = record { memory = c.self.inside.memories; backed = c.self.inside.backing; resources = c.self.inside.resources.entries; shapes = c.self.inside.shapes.entries; cache = c.self.inside.cache } in
    across_between s c.self.invariant c.args.source c.args.destination c.args.row.region c.args.row.number (subst (λ (h : Held). ImageRowReady h c.args.source c.args.destination c.args.row.region c.args.row.number) (sym c.self.view_is) c.requires.ready)
    c.shape_at.result.now c.shape_at-2.result.now c.picture-from.result c.picture-to.result c.shape_at.ensures c.shape_at-2.ensures (ap (λ (h : Held). placed h c.args.source) c.self.view_is ∙ c.picture-from.ensures) (ap (λ (h : Held). placed h c.args.destination) c.self.view_is ∙ c.picture-to.ensures)

pub invariant_of-self : goal.invariant_of-self
invariant_of-self c =
    let s : Held = record { memory = c.self.inside.memories; backed = c.self.inside.backing; resources = c.self.inside.resources.entries; shapes = c.self.inside.shapes.entries; cache = c.self.inside.cache } in
    (across_step s c.self.invariant c.args.source c.args.destination c.args.row.region c.args.row.number (subst (λ (h : Held). ImageRowReady h c.args.source c.args.destination c.args.row.region c.args.row.number) (sym c.self.view_is) c.requires.ready)
    c.shape_at.result.now c.shape_at-2.result.now c.picture-from.result c.picture-to.result c.shape_at.ensures c.shape_at-2.ensures (ap (λ (h : Held). placed h c.args.source) c.self.view_is ∙ c.picture-from.ensures) (ap (λ (h : Held). placed h c.args.destination) c.self.view_is ∙ c.picture-to.ensures)
    c.texels_apart.ensures c.texels_inside.ensures c.copy_by.new.self c.copy_by.ensures).0

pub returns : goal.returns
returns c =
    let s : Held = record { memory = c.self.inside.memories; backed = c.self.inside.backing; resources = c.self.inside.resources.entries; shapes = c.self.inside.shapes.entries; cache = c.self.inside.cache } in
    let new : Held = record s { memory = c.copy_by.new.self } in
    subst (λ (h : Held). (m : ImageInfo) → shape_of h c.args.destination ≡ Some m → HasRun h new (piece_in (copy_image_pieces c.args.source c.args.destination m c.args.row.region) c.args.row.number)) c.self.view_is
    (across_step s c.self.invariant c.args.source c.args.destination c.args.row.region c.args.row.number (subst (λ (h : Held). ImageRowReady h c.args.source c.args.destination c.args.row.region c.args.row.number) (sym c.self.view_is) c.requires.ready)
    c.shape_at.result.now c.shape_at-2.result.now c.picture-from.result c.picture-to.result c.shape_at.ensures c.shape_at-2.ensures (ap (λ (h : Held). placed h c.args.source) c.self.view_is ∙ c.picture-from.ensures) (ap (λ (h : Held). placed h c.args.destination) c.self.view_is ∙ c.picture-to.ensures)
    c.texels_apart.ensures c.texels_inside.ensures c.copy_by.new.self c.copy_by.ensures).1
