use Rattle.std.proofs.Common.{refl, subst, sym, ◌∙◌}
use Rattle.vk_resources.specs.Held.{IsConsistent}
use Rattle.vk_resources.specs.Rest.{is_written}
use Rattle.vk_resources.proofs.Fitting.{fill_there, fill_may, fill_made, update_there, update_may, update_made, source_there, destination_there, copy_may, copy_made, regions_of}
use Rattle.vk_resources.proofs.KeptCopies.{kept_copies}
use Rattle.vk_resources.proofs.Matching.{keeps_stands}
use Rattle.vk_resources.proofs.resources.Resources.run_piece.Goals as goal

-- ---- fills

pub there-placed-requires : goal.there-placed-requires
there-placed-requires c = fill_there c.args.self.now c.args.work.now c.args.number c.requires c.in-Fill.buffer c.in-Fill.offset c.in-Fill.word c.in-Fill.size (sym c.work.view_is ∙ c.in-Fill.is)

pub run_fill-requires-clause-whole : goal.run_fill-requires-clause-whole
run_fill-requires-clause-whole c =
    (fill_may c.args.self.now c.args.work.now c.args.number c.requires c.in-Fill.buffer c.in-Fill.offset c.in-Fill.word c.in-Fill.size (sym c.work.view_is ∙ c.in-Fill.is) c.there-placed.result c.there-placed.ensures c.filling.result c.filling.ensures).0

pub run_fill-requires-clause-inside : goal.run_fill-requires-clause-inside
run_fill-requires-clause-inside c =
    (fill_may c.args.self.now c.args.work.now c.args.number c.requires c.in-Fill.buffer c.in-Fill.offset c.in-Fill.word c.in-Fill.size (sym c.work.view_is ∙ c.in-Fill.is) c.there-placed.result c.there-placed.ensures c.filling.result c.filling.ensures).1

pub run_fill-requires-clause-piece : goal.run_fill-requires-clause-piece
run_fill-requires-clause-piece c =
    (fill_may c.args.self.now c.args.work.now c.args.number c.requires c.in-Fill.buffer c.in-Fill.offset c.in-Fill.word c.in-Fill.size (sym c.work.view_is ∙ c.in-Fill.is) c.there-placed.result c.there-placed.ensures c.filling.result c.filling.ensures).2

pub returns-in-Fill-clause-ran : goal.returns-in-Fill-clause-ran
returns-in-Fill-clause-ran c = λ past ms m fits at.
    (fill_made c.args.self.now c.args.work.now c.args.number c.requires c.in-Fill.buffer c.in-Fill.offset c.in-Fill.word c.in-Fill.size (sym c.work.view_is ∙ c.in-Fill.is) c.there-placed.result c.there-placed.ensures c.filling.result c.filling.ensures
    c.run_fill.new.self (c.run_fill.ensures c.in-Fill.buffer c.there-placed.ensures) past ms m.live at).1

pub returns-in-Fill-clause-matches : goal.returns-in-Fill-clause-matches
returns-in-Fill-clause-matches c = λ past m. keeps_stands past c.args.self.now c.run_fill.new.self (c.run_fill.ensures c.in-Fill.buffer c.there-placed.ensures).0 m

pub returns-in-Fill-clause-rest : goal.returns-in-Fill-clause-rest
returns-in-Fill-clause-rest c = λ past ms m fits at.
    (fill_made c.args.self.now c.args.work.now c.args.number c.requires c.in-Fill.buffer c.in-Fill.offset c.in-Fill.word c.in-Fill.size (sym c.work.view_is ∙ c.in-Fill.is) c.there-placed.result c.there-placed.ensures c.filling.result c.filling.ensures
    c.run_fill.new.self (c.run_fill.ensures c.in-Fill.buffer c.there-placed.ensures) past ms m.live at).3

pub returns-in-Fill-clause-agree : goal.returns-in-Fill-clause-agree
returns-in-Fill-clause-agree c = λ past ms m fits at.
    kept_copies c.args.self.now c.run_fill.new.self (subst IsConsistent c.self.view_is c.self.invariant) past m (is_written ms) (returns-in-Fill-clause-rest c past ms m fits at) (c.run_fill.ensures c.in-Fill.buffer c.there-placed.ensures).0.same

-- ---- updates

pub there-placed-requires-in-Update : goal.there-placed-requires-in-Update
there-placed-requires-in-Update c = update_there c.args.self.now c.args.work.now c.args.number c.requires c.in-Update.buffer c.in-Update.offset c.in-Update.bytes (sym c.work.view_is ∙ c.in-Update.is)

pub run_update-requires-clause-inside : goal.run_update-requires-clause-inside
run_update-requires-clause-inside c =
    (update_may c.args.self.now c.args.work.now c.args.number c.requires c.in-Update.buffer c.in-Update.offset c.in-Update.bytes (sym c.work.view_is ∙ c.in-Update.is) c.there-placed-in-Update.result c.there-placed-in-Update.ensures
    (record { offset = c.in-Update.offset; bytes = c.as_slice.result }) refl c.as_slice.ensures).0

pub run_update-requires-clause-piece : goal.run_update-requires-clause-piece
run_update-requires-clause-piece c =
    (update_may c.args.self.now c.args.work.now c.args.number c.requires c.in-Update.buffer c.in-Update.offset c.in-Update.bytes (sym c.work.view_is ∙ c.in-Update.is) c.there-placed-in-Update.result c.there-placed-in-Update.ensures
    (record { offset = c.in-Update.offset; bytes = c.as_slice.result }) refl c.as_slice.ensures).1

pub returns-in-Update-clause-ran : goal.returns-in-Update-clause-ran
returns-in-Update-clause-ran c = λ past ms m fits at.
    (update_made c.args.self.now c.args.work.now c.args.number c.requires c.in-Update.buffer c.in-Update.offset c.in-Update.bytes (sym c.work.view_is ∙ c.in-Update.is) c.there-placed-in-Update.result c.there-placed-in-Update.ensures
    (record { offset = c.in-Update.offset; bytes = c.as_slice.result }) refl c.as_slice.ensures c.run_update.new.self (c.run_update.ensures c.in-Update.buffer c.there-placed-in-Update.ensures) past ms m.live at).1

pub returns-in-Update-clause-matches : goal.returns-in-Update-clause-matches
returns-in-Update-clause-matches c = λ past m. keeps_stands past c.args.self.now c.run_update.new.self (c.run_update.ensures c.in-Update.buffer c.there-placed-in-Update.ensures).0 m

pub returns-in-Update-clause-rest : goal.returns-in-Update-clause-rest
returns-in-Update-clause-rest c = λ past ms m fits at.
    (update_made c.args.self.now c.args.work.now c.args.number c.requires c.in-Update.buffer c.in-Update.offset c.in-Update.bytes (sym c.work.view_is ∙ c.in-Update.is) c.there-placed-in-Update.result c.there-placed-in-Update.ensures
    (record { offset = c.in-Update.offset; bytes = c.as_slice.result }) refl c.as_slice.ensures c.run_update.new.self (c.run_update.ensures c.in-Update.buffer c.there-placed-in-Update.ensures) past ms m.live at).3

pub returns-in-Update-clause-agree : goal.returns-in-Update-clause-agree
returns-in-Update-clause-agree c = λ past ms m fits at.
    kept_copies c.args.self.now c.run_update.new.self (subst IsConsistent c.self.view_is c.self.invariant) past m (is_written ms) (returns-in-Update-clause-rest c past ms m fits at) (c.run_update.ensures c.in-Update.buffer c.there-placed-in-Update.ensures).0.same

-- ---- copies

pub there-from-requires : goal.there-from-requires
there-from-requires c = source_there c.args.self.now c.args.work.now c.args.number c.requires c.in-Copy.source c.in-Copy.destination c.in-Copy.regions (sym c.work.view_is ∙ c.in-Copy.is)

pub run_copy-requires-clause-piece : goal.run_copy-requires-clause-piece
run_copy-requires-clause-piece c =
    copy_may c.args.self.now c.args.work.now c.args.number c.requires c.in-Copy.source c.in-Copy.destination c.in-Copy.regions (sym c.work.view_is ∙ c.in-Copy.is) c.there-from.result c.there-to.result c.there-from.ensures c.there-to.ensures c.in-OfBuffers.pieces
    (regions_of c.work.inside.command.now c.work.inside.regions c.in-Copy.source c.in-Copy.destination c.in-Copy.regions c.in-OfBuffers.pieces c.work.invariant c.in-Copy.is c.in-OfBuffers.is)

pub returns-in-OfBuffers-clause-matches : goal.returns-in-OfBuffers-clause-matches
returns-in-OfBuffers-clause-matches c = λ past m. keeps_stands past c.args.self.now c.run_copy.new.self (c.run_copy.ensures c.in-Copy.source c.in-Copy.destination c.there-from.ensures c.there-to.ensures).0 m

pub there-to-requires : goal.there-to-requires
there-to-requires c = destination_there c.args.self.now c.args.work.now c.args.number c.requires c.in-Copy.source c.in-Copy.destination c.in-Copy.regions (sym c.work.view_is ∙ c.in-Copy.is)

pub returns-in-OfBuffers-clause-ran : goal.returns-in-OfBuffers-clause-ran
returns-in-OfBuffers-clause-ran c = λ past ms m fits at.
    (copy_made c.args.self.now c.args.work.now c.args.number c.requires c.in-Copy.source c.in-Copy.destination c.in-Copy.regions (sym c.work.view_is ∙ c.in-Copy.is) c.run_copy.new.self c.in-OfBuffers.pieces
    (regions_of c.work.inside.command.now c.work.inside.regions c.in-Copy.source c.in-Copy.destination c.in-Copy.regions c.in-OfBuffers.pieces c.work.invariant c.in-Copy.is c.in-OfBuffers.is)
    (c.run_copy.ensures c.in-Copy.source c.in-Copy.destination c.there-from.ensures c.there-to.ensures) past ms at).1

pub returns-in-OfBuffers-clause-rest : goal.returns-in-OfBuffers-clause-rest
returns-in-OfBuffers-clause-rest c = λ past ms m fits at.
    (copy_made c.args.self.now c.args.work.now c.args.number c.requires c.in-Copy.source c.in-Copy.destination c.in-Copy.regions (sym c.work.view_is ∙ c.in-Copy.is) c.run_copy.new.self c.in-OfBuffers.pieces
    (regions_of c.work.inside.command.now c.work.inside.regions c.in-Copy.source c.in-Copy.destination c.in-Copy.regions c.in-OfBuffers.pieces c.work.invariant c.in-Copy.is c.in-OfBuffers.is)
    (c.run_copy.ensures c.in-Copy.source c.in-Copy.destination c.there-from.ensures c.there-to.ensures) past ms at).3

pub returns-in-OfBuffers-clause-agree : goal.returns-in-OfBuffers-clause-agree
returns-in-OfBuffers-clause-agree c = λ past ms m fits at.
    kept_copies c.args.self.now c.run_copy.new.self (subst IsConsistent c.self.view_is c.self.invariant) past m (is_written ms) (returns-in-OfBuffers-clause-rest c past ms m fits at)
    (c.run_copy.ensures c.in-Copy.source c.in-Copy.destination c.there-from.ensures c.there-to.ensures).0.same

pub returns-in-OfBuffers-clause-placed : goal.returns-in-OfBuffers-clause-placed
returns-in-OfBuffers-clause-placed c = (c.run_copy.ensures c.in-Copy.source c.in-Copy.destination c.there-from.ensures c.there-to.ensures).0.resources

pub returns-in-OfBuffers-clause-shapes : goal.returns-in-OfBuffers-clause-shapes
returns-in-OfBuffers-clause-shapes c = (c.run_copy.ensures c.in-Copy.source c.in-Copy.destination c.there-from.ensures c.there-to.ensures).0.shapes

pub returns-in-OfBuffers-clause-cache : goal.returns-in-OfBuffers-clause-cache
returns-in-OfBuffers-clause-cache c = (c.run_copy.ensures c.in-Copy.source c.in-Copy.destination c.there-from.ensures c.there-to.ensures).2

pub returns-in-OfBuffers-clause-allotted : goal.returns-in-OfBuffers-clause-allotted
returns-in-OfBuffers-clause-allotted c = (c.run_copy.ensures c.in-Copy.source c.in-Copy.destination c.there-from.ensures c.there-to.ensures).0.same

-- ---- images

pub returns-in_default-clause-matches : goal.returns-in_default-clause-matches
returns-in_default-clause-matches c = λ past m. keeps_stands past c.args.self.now c.run_for_images.new.self c.run_for_images.ensures.keeps m

pub returns-in_default-clause-agree : goal.returns-in_default-clause-agree
returns-in_default-clause-agree c = λ past ms m fits at.
    kept_copies c.args.self.now c.run_for_images.new.self (subst IsConsistent c.self.view_is c.self.invariant) past m (is_written ms) (c.run_for_images.ensures.rest past ms m fits at) c.run_for_images.ensures.keeps.same
