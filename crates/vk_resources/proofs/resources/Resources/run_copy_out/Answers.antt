use Rattle.std.proofs.Common.{◌≡◌, ℕ, ap, sym, subst, ◌∙◌, Some}
use Rattle.vk_model.specs.declared.resource.ImageInfo.{ImageInfo}
use Rattle.vk_image_transfer.specs.Pieces.{piece_in, all_copied_out}
use Rattle.vk_resources.specs.Held.{Held, placed, shape_of, flat}
use Rattle.vk_resources.specs.Inner.Images.{RegionsReady}
use Rattle.vk_resources.specs.Inner.Steps.{IsPlaced, HasRun}
use Rattle.vk_resources.proofs.ImageSteps.{out_within, both_between, out_step}
use Rattle.vk_resources.proofs.resources.Resources.run_copy_out.Goals as goal

pub copy_by-requires-clause-within : goal.copy_by-requires-clause-within
copy_by-requires-clause-within c = λ same.
    let s : Held = record { memory = c.self.inside.memories; backed = c.self.inside.backing; resources = c.self.inside.resources.entries; shapes = c.self.inside.shapes.entries; cache = c.self.inside.cache } in
    out_within s c.self.invariant c.args.buffer (subst (λ (h : Held). IsPlaced h c.args.buffer) (sym c.self.view_is) c.requires.buffer) c.args.image c.shape_at.result.now c.picture-at.result c.shape_at.ensures (ap (λ (h : Held). placed h c.args.image) c.self.view_is ∙ c.picture-at.ensures)
    c.args.rows.now c.args.number (subst (λ (h : Held). RegionsReady h c.args.buffer.size c.args.image c.args.rows.now c.args.number) (sym c.self.view_is) c.requires.ready) c.find.result c.find.ensures.region c.find.ensures.row c.find.ensures.columns same

pub copy_by-requires-clause-between : goal.copy_by-requires-clause-between
copy_by-requires-clause-between c = λ two.
    let s : Held = record { memory = c.self.inside.memories; backed = c.self.inside.backing; resources = c.self.inside.resources.entries; shapes = c.self.inside.shapes.entries; cache = c.self.inside.cache } in
    both_between s c.self.invariant c.args.buffer (subst (λ (h : Held). IsPlaced h c.args.buffer) (sym c.self.view_is) c.requires.buffer) c.args.image c.shape_at.result.now c.picture-at.result c.shape_at.ensures (ap (λ (h : Held). placed h c.args.image) c.self.view_is ∙ c.picture-at.ensures)
    c.args.rows.now c.args.number (subst (λ (h : Held). RegionsReady h c.args.buffer.size c.args.image c.args.rows.now c.args.number) (sym c.self.view_is) c.requires.ready) c.find.result c.find.ensures.region c.find.ensures.row c.find.ensures.columns

pub invariant_of-self : goal.invariant_of-self
invariant_of-self c =
    let s : Held = record { memory = c.self.inside.memories; backed = c.self.inside.backing; resources = c.self.inside.resources.entries; shapes = c.self.inside.shapes.entries; cache = c.self.inside.cache } in
    (out_step s c.self.invariant c.args.buffer (subst (λ (h : Held). IsPlaced h c.args.buffer) (sym c.self.view_is) c.requires.buffer) c.args.image c.shape_at.result.now c.picture-at.result c.shape_at.ensures (ap (λ (h : Held). placed h c.args.image) c.self.view_is ∙ c.picture-at.ensures)
    c.args.rows.now c.args.number (subst (λ (h : Held). RegionsReady h c.args.buffer.size c.args.image c.args.rows.now c.args.number) (sym c.self.view_is) c.requires.ready) c.find.result c.find.ensures.region c.find.ensures.row c.find.ensures.columns
    c.copy_by.new.self c.texels_apart.ensures c.texels_inside.ensures c.copy_by.ensures c.find.ensures.copied_out).0

pub returns : goal.returns
returns c =
    let s : Held = record { memory = c.self.inside.memories; backed = c.self.inside.backing; resources = c.self.inside.resources.entries; shapes = c.self.inside.shapes.entries; cache = c.self.inside.cache } in
    let new : Held = record s { memory = c.copy_by.new.self } in
    subst (λ (h : Held). (b : ℕ) (m : ImageInfo) → flat h b ≡ Some c.args.buffer → shape_of h c.args.image ≡ Some m → HasRun h new (piece_in (all_copied_out c.args.image b m c.args.rows.now) c.args.number)) c.self.view_is
    (out_step s c.self.invariant c.args.buffer (subst (λ (h : Held). IsPlaced h c.args.buffer) (sym c.self.view_is) c.requires.buffer) c.args.image c.shape_at.result.now c.picture-at.result c.shape_at.ensures (ap (λ (h : Held). placed h c.args.image) c.self.view_is ∙ c.picture-at.ensures)
    c.args.rows.now c.args.number (subst (λ (h : Held). RegionsReady h c.args.buffer.size c.args.image c.args.rows.now c.args.number) (sym c.self.view_is) c.requires.ready) c.find.result c.find.ensures.region c.find.ensures.row c.find.ensures.columns
    c.copy_by.new.self c.texels_apart.ensures c.texels_inside.ensures c.copy_by.ensures c.find.ensures.copied_out).1
