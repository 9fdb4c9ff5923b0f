use Rattle.std.proofs.Common.{refl, ap, sym, ◌∙◌}
use Rattle.vk_model.specs.Rules.Ranges.{regions_of}
use Rattle.vk_resources.specs.Inner.Works.{image_regions_of}
use Rattle.vk_resources.proofs.ImageFitting.{clear_ready, clear_made, in_there, in_ready, in_made, out_there, out_ready, out_made, images_below, images_ready, images_made}
use Rattle.vk_resources.proofs.resources.Resources.run_for_images.Goals as goal

-- ---- clears

pub run_clear-requires : goal.run_clear-requires
run_clear-requires c = clear_ready c.args.self.now c.args.work.now c.args.number c.requires.ready c.in-Clear.image c.in-Clear.layout c.in-Clear.color c.in-Clear.ranges c.as_slice.result.now (sym c.work.view_is ∙ c.in-Clear.is) c.as_slice.ensures

pub returns-in-Clear : goal.returns-in-Clear
returns-in-Clear c = clear_made c.args.self.now c.args.work.now c.args.number c.requires.ready c.in-Clear.image c.in-Clear.layout c.in-Clear.color c.in-Clear.ranges c.as_slice.result.now (sym c.work.view_is ∙ c.in-Clear.is) c.as_slice.ensures
    c.run_clear.new.self c.run_clear.ensures

-- ---- copies between a buffer and an image

pub there-from-requires : goal.there-from-requires
there-from-requires c = in_there c.args.self.now c.args.work.now c.args.number c.requires.ready c.in-CopyIn.buffer c.in-CopyIn.image c.in-CopyIn.layout c.in-CopyIn.regions c.in-CopyIn.regions (sym c.work.view_is ∙ c.in-CopyIn.is) refl

pub run_copy_in-requires-clause-ready : goal.run_copy_in-requires-clause-ready
run_copy_in-requires-clause-ready c = in_ready c.args.self.now c.args.work.now c.args.number c.requires.ready c.in-CopyIn.buffer c.in-CopyIn.image c.in-CopyIn.layout c.in-CopyIn.regions c.rows.result.now (sym c.work.view_is ∙ c.in-CopyIn.is) (sym c.rows.ensures ∙ ap regions_of (sym c.work.view_is ∙ c.in-CopyIn.is))
    c.there-from.result c.there-from.ensures

pub returns-in-CopyIn : goal.returns-in-CopyIn
returns-in-CopyIn c = in_made c.args.self.now c.args.work.now c.args.number c.requires.ready c.in-CopyIn.buffer c.in-CopyIn.image c.in-CopyIn.layout c.in-CopyIn.regions c.rows.result.now (sym c.work.view_is ∙ c.in-CopyIn.is) (sym c.rows.ensures ∙ ap regions_of (sym c.work.view_is ∙ c.in-CopyIn.is))
    c.run_copy_in.new.self (λ n shaped. c.run_copy_in.ensures c.in-CopyIn.buffer n c.there-from.ensures shaped)

pub there-to-requires : goal.there-to-requires
there-to-requires c = out_there c.args.self.now c.args.work.now c.args.number c.requires.ready c.in-CopyOut.image c.in-CopyOut.buffer c.in-CopyOut.layout c.in-CopyOut.regions c.in-CopyOut.regions (sym c.work.view_is ∙ c.in-CopyOut.is) refl

pub run_copy_out-requires-clause-ready : goal.run_copy_out-requires-clause-ready
run_copy_out-requires-clause-ready c = out_ready c.args.self.now c.args.work.now c.args.number c.requires.ready c.in-CopyOut.image c.in-CopyOut.buffer c.in-CopyOut.layout c.in-CopyOut.regions c.rows-in-CopyOut.result.now (sym c.work.view_is ∙ c.in-CopyOut.is) (sym c.rows-in-CopyOut.ensures ∙ ap regions_of (sym c.work.view_is ∙ c.in-CopyOut.is))
    c.there-to.result c.there-to.ensures

pub returns-in-CopyOut : goal.returns-in-CopyOut
returns-in-CopyOut c = out_made c.args.self.now c.args.work.now c.args.number c.requires.ready c.in-CopyOut.image c.in-CopyOut.buffer c.in-CopyOut.layout c.in-CopyOut.regions c.rows-in-CopyOut.result.now (sym c.work.view_is ∙ c.in-CopyOut.is) (sym c.rows-in-CopyOut.ensures ∙ ap regions_of (sym c.work.view_is ∙ c.in-CopyOut.is))
    c.run_copy_out.new.self (λ n shaped. c.run_copy_out.ensures c.in-CopyOut.buffer n c.there-to.ensures shaped)

-- ---- copies between images

pub find-row-requires : goal.find-row-requires
find-row-requires c = images_below c.args.self.now c.args.work.now c.args.number c.requires.ready c.in-CopyImage.source c.in-CopyImage.destination c.in-CopyImage.source_layout c.in-CopyImage.destination_layout c.in-CopyImage.regions c.image_rows.result.now (sym c.work.view_is ∙ c.in-CopyImage.is) (sym c.image_rows.ensures ∙ ap image_regions_of (sym c.work.view_is ∙ c.in-CopyImage.is))

pub run_copy_image-requires : goal.run_copy_image-requires
run_copy_image-requires c = images_ready c.args.self.now c.args.work.now c.args.number c.requires.ready c.in-CopyImage.source c.in-CopyImage.destination c.in-CopyImage.source_layout c.in-CopyImage.destination_layout c.in-CopyImage.regions c.image_rows.result.now (sym c.work.view_is ∙ c.in-CopyImage.is) (sym c.image_rows.ensures ∙ ap image_regions_of (sym c.work.view_is ∙ c.in-CopyImage.is))
    c.find-row.result c.find-row.ensures.region c.find-row.ensures.row c.find-row.ensures.columns

pub returns-in-CopyImage : goal.returns-in-CopyImage
returns-in-CopyImage c = images_made c.args.self.now c.args.work.now c.args.number c.requires.ready c.in-CopyImage.source c.in-CopyImage.destination c.in-CopyImage.source_layout c.in-CopyImage.destination_layout c.in-CopyImage.regions c.image_rows.result.now (sym c.work.view_is ∙ c.in-CopyImage.is) (sym c.image_rows.ensures ∙ ap image_regions_of (sym c.work.view_is ∙ c.in-CopyImage.is))
    c.run_copy_image.new.self c.find-row.result (λ n. c.find-row.ensures.piece c.in-CopyImage.source c.in-CopyImage.destination n) c.run_copy_image.ensures
