use Rattle.std.proofs.Common.{refl, ap, sym, ◌∙◌}
use Rattle.vk_model.specs.Rules.Ranges.{regions_of}
use Rattle.vk_resources.specs.Inner.Works.{image_regions_of}
use Rattle.vk_resources.proofs.ImageFitting.{clear_ready, clear_found, in_may, in_found, out_there, out_ready, out_found, images_below, images_ready, images_found}
use Rattle.vk_resources.proofs.resources.Resources.written_of_images.Goals as goal

-- ---- clears

pub clear_written-requires : goal.clear_written-requires
clear_written-requires c = clear_ready c.args.self.now c.args.work.now c.args.number c.requires.ready c.in-Clear.image c.in-Clear.layout c.in-Clear.color c.in-Clear.ranges c.as_slice.result.now (sym c.work.view_is ∙ c.in-Clear.is) c.as_slice.ensures

pub returns-in-Clear : goal.returns-in-Clear
returns-in-Clear c = clear_found c.args.self.now c.args.work.now c.args.number c.requires.ready c.in-Clear.image c.in-Clear.layout c.in-Clear.color c.in-Clear.ranges c.as_slice.result.now (sym c.work.view_is ∙ c.in-Clear.is) c.as_slice.ensures
    c.clear_written.result c.clear_written.ensures

-- ---- copies between a buffer and an image

pub copy_in_written-requires : goal.copy_in_written-requires
copy_in_written-requires c = in_may c.args.self.now c.args.work.now c.args.number c.requires.ready c.in-CopyIn.buffer c.in-CopyIn.image c.in-CopyIn.layout c.in-CopyIn.regions c.rows.result.now (sym c.work.view_is ∙ c.in-CopyIn.is) (sym c.rows.ensures ∙ ap regions_of (sym c.work.view_is ∙ c.in-CopyIn.is))

pub returns-in-CopyIn : goal.returns-in-CopyIn
returns-in-CopyIn c = in_found c.args.self.now c.args.work.now c.args.number c.requires.ready c.in-CopyIn.buffer c.in-CopyIn.image c.in-CopyIn.layout c.in-CopyIn.regions c.rows.result.now (sym c.work.view_is ∙ c.in-CopyIn.is) (sym c.rows.ensures ∙ ap regions_of (sym c.work.view_is ∙ c.in-CopyIn.is))
    c.copy_in_written.result (c.copy_in_written.ensures c.in-CopyIn.buffer)

pub there-to-requires : goal.there-to-requires
there-to-requires c = out_there c.args.self.now c.args.work.now c.args.number c.requires.ready c.in-CopyOut.image c.in-CopyOut.buffer c.in-CopyOut.layout c.in-CopyOut.regions c.in-CopyOut.regions (sym c.work.view_is ∙ c.in-CopyOut.is) refl

pub copy_out_written-requires-clause-ready : goal.copy_out_written-requires-clause-ready
copy_out_written-requires-clause-ready c = out_ready c.args.self.now c.args.work.now c.args.number c.requires.ready c.in-CopyOut.image c.in-CopyOut.buffer c.in-CopyOut.layout c.in-CopyOut.regions c.rows-in-CopyOut.result.now (sym c.work.view_is ∙ c.in-CopyOut.is) (sym c.rows-in-CopyOut.ensures ∙ ap regions_of (sym c.work.view_is ∙ c.in-CopyOut.is))
    c.there-to.result c.there-to.ensures

pub returns-in-CopyOut : goal.returns-in-CopyOut
returns-in-CopyOut c = out_found c.args.self.now c.args.work.now c.args.number c.requires.ready c.in-CopyOut.image c.in-CopyOut.buffer c.in-CopyOut.layout c.in-CopyOut.regions c.rows-in-CopyOut.result.now (sym c.work.view_is ∙ c.in-CopyOut.is) (sym c.rows-in-CopyOut.ensures ∙ ap regions_of (sym c.work.view_is ∙ c.in-CopyOut.is))
    c.copy_out_written.result c.copy_out_written.ensures

-- ---- copies between images

pub find-row-requires : goal.find-row-requires
find-row-requires c = images_below c.args.self.now c.args.work.now c.args.number c.requires.ready c.in-CopyImage.source c.in-CopyImage.destination c.in-CopyImage.source_layout c.in-CopyImage.destination_layout c.in-CopyImage.regions c.image_rows.result.now (sym c.work.view_is ∙ c.in-CopyImage.is) (sym c.image_rows.ensures ∙ ap image_regions_of (sym c.work.view_is ∙ c.in-CopyImage.is))

pub copy_image_written-requires : goal.copy_image_written-requires
copy_image_written-requires c = images_ready c.args.self.now c.args.work.now c.args.number c.requires.ready c.in-CopyImage.source c.in-CopyImage.destination c.in-CopyImage.source_layout c.in-CopyImage.destination_layout c.in-CopyImage.regions c.image_rows.result.now (sym c.work.view_is ∙ c.in-CopyImage.is) (sym c.image_rows.ensures ∙ ap image_regions_of (sym c.work.view_is ∙ c.in-CopyImage.is))
    c.find-row.result c.find-row.ensures.region c.find-row.ensures.row c.find-row.ensures.columns

pub returns-in-CopyImage : goal.returns-in-CopyImage
returns-in-CopyImage c = images_found c.args.self.now c.args.work.now c.args.number c.requires.ready c.in-CopyImage.source c.in-CopyImage.destination c.in-CopyImage.source_layout c.in-CopyImage.destination_layout c.in-CopyImage.regions c.image_rows.result.now (sym c.work.view_is ∙ c.in-CopyImage.is) (sym c.image_rows.ensures ∙ ap image_regions_of (sym c.work.view_is ∙ c.in-CopyImage.is))
    c.copy_image_written.result c.find-row.result (λ n. c.find-row.ensures.piece c.in-CopyImage.source c.in-CopyImage.destination n) c.copy_image_written.ensures
