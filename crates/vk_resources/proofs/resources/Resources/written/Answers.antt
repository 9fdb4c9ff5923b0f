use Rattle.std.proofs.Common.{refl, subst, sym, ◌∙◌, List}
use Rattle.vk_model.specs.World.ByteWrites.{ByteWrite}
use Rattle.vk_resources.specs.Stretches.{HasWrites}
use Rattle.vk_resources.proofs.Fitting.{fill_there, fill_may, fill_is, update_there, update_may, update_is, source_there, destination_there, copy_may, copy_is, regions_of}
use Rattle.vk_resources.proofs.resources.Resources.written.Goals as goal

-- ---- fills

pub there-placed-requires : goal.there-placed-requires
there-placed-requires c = fill_there c.args.self.now c.args.work.now c.args.number c.requires c.in-Fill.buffer c.in-Fill.offset c.in-Fill.word c.in-Fill.size (sym c.work.view_is ∙ c.in-Fill.is)

pub fill_written-requires-clause-inside : goal.fill_written-requires-clause-inside
fill_written-requires-clause-inside c = (fill_may c.args.self.now c.args.work.now c.args.number c.requires c.in-Fill.buffer c.in-Fill.offset c.in-Fill.word c.in-Fill.size (sym c.work.view_is ∙ c.in-Fill.is) c.there-placed.result c.there-placed.ensures c.filling-fill.result c.filling-fill.ensures).1

pub fill_written-requires-clause-piece : goal.fill_written-requires-clause-piece
fill_written-requires-clause-piece c = (fill_may c.args.self.now c.args.work.now c.args.number c.requires c.in-Fill.buffer c.in-Fill.offset c.in-Fill.word c.in-Fill.size (sym c.work.view_is ∙ c.in-Fill.is) c.there-placed.result c.there-placed.ensures c.filling-fill.result c.filling-fill.ensures).2

pub returns-in-Fill : goal.returns-in-Fill
returns-in-Fill c = λ past ms m fits at.
    subst (λ (xs : List ByteWrite). HasWrites c.args.self.now xs c.fill_written.result) (fill_is c.args.self.now c.args.work.now c.args.number c.requires c.in-Fill.buffer c.in-Fill.offset c.in-Fill.word c.in-Fill.size (sym c.work.view_is ∙ c.in-Fill.is) c.there-placed.result c.there-placed.ensures c.filling-fill.result c.filling-fill.ensures past ms m.live at)
    c.fill_written.ensures

-- ---- updates

pub there-placed-requires-in-Update : goal.there-placed-requires-in-Update
there-placed-requires-in-Update c = update_there c.args.self.now c.args.work.now c.args.number c.requires c.in-Update.buffer c.in-Update.offset c.in-Update.bytes (sym c.work.view_is ∙ c.in-Update.is)

pub update_written-requires-clause-inside : goal.update_written-requires-clause-inside
update_written-requires-clause-inside c =
    (update_may c.args.self.now c.args.work.now c.args.number c.requires c.in-Update.buffer c.in-Update.offset c.in-Update.bytes (sym c.work.view_is ∙ c.in-Update.is) c.there-placed-in-Update.result c.there-placed-in-Update.ensures
    (record { offset = c.in-Update.offset; bytes = c.as_slice.result }) refl c.as_slice.ensures).0

pub update_written-requires-clause-piece : goal.update_written-requires-clause-piece
update_written-requires-clause-piece c =
    (update_may c.args.self.now c.args.work.now c.args.number c.requires c.in-Update.buffer c.in-Update.offset c.in-Update.bytes (sym c.work.view_is ∙ c.in-Update.is) c.there-placed-in-Update.result c.there-placed-in-Update.ensures
    (record { offset = c.in-Update.offset; bytes = c.as_slice.result }) refl c.as_slice.ensures).1

pub returns-in-Update : goal.returns-in-Update
returns-in-Update c = λ past ms m fits at.
    subst (λ (xs : List ByteWrite). HasWrites c.args.self.now xs c.update_written.result)
    (update_is c.args.self.now c.args.work.now c.args.number c.requires c.in-Update.buffer c.in-Update.offset c.in-Update.bytes (sym c.work.view_is ∙ c.in-Update.is) c.there-placed-in-Update.result c.there-placed-in-Update.ensures
    (record { offset = c.in-Update.offset; bytes = c.as_slice.result }) refl c.as_slice.ensures past ms m.live at)
    c.update_written.ensures

-- ---- copies

pub there-from-requires : goal.there-from-requires
there-from-requires c = source_there c.args.self.now c.args.work.now c.args.number c.requires c.in-Copy.source c.in-Copy.destination c.in-Copy.regions (sym c.work.view_is ∙ c.in-Copy.is)

pub there-to-requires : goal.there-to-requires
there-to-requires c = destination_there c.args.self.now c.args.work.now c.args.number c.requires c.in-Copy.source c.in-Copy.destination c.in-Copy.regions (sym c.work.view_is ∙ c.in-Copy.is)

pub copy_written-requires-clause-piece : goal.copy_written-requires-clause-piece
copy_written-requires-clause-piece c =
    copy_may c.args.self.now c.args.work.now c.args.number c.requires c.in-Copy.source c.in-Copy.destination c.in-Copy.regions (sym c.work.view_is ∙ c.in-Copy.is) c.there-from.result c.there-to.result c.there-from.ensures c.there-to.ensures c.in-OfBuffers.pieces
    (regions_of c.work.inside.command.now c.work.inside.regions c.in-Copy.source c.in-Copy.destination c.in-Copy.regions c.in-OfBuffers.pieces c.work.invariant c.in-Copy.is c.in-OfBuffers.is)

pub returns-in-OfBuffers : goal.returns-in-OfBuffers
returns-in-OfBuffers c = λ past ms m fits at.
    subst (λ (xs : List ByteWrite). HasWrites c.args.self.now xs c.copy_written.result)
    (copy_is c.args.self.now c.args.work.now c.args.number c.requires c.in-Copy.source c.in-Copy.destination c.in-Copy.regions (sym c.work.view_is ∙ c.in-Copy.is) c.in-OfBuffers.pieces
    (regions_of c.work.inside.command.now c.work.inside.regions c.in-Copy.source c.in-Copy.destination c.in-Copy.regions c.in-OfBuffers.pieces c.work.invariant c.in-Copy.is c.in-OfBuffers.is) past ms at)
    (c.copy_written.ensures c.in-Copy.source)
