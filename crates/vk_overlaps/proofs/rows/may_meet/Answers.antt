use Rattle.std.proofs.Common.{◌≡◌, [], map, false, sym, ap, ◌∙◌}
use Rattle.std.proofs.lemmas.Result.{IfOk-weaker}
use Rattle.vk_model.specs.Basics.{some_pair}
use Rattle.vk_model.specs.Trace.Image.{texel}
use Rattle.vk_model.specs.World.Areas.{rows_meet}
use Rattle.vk_overlaps.specs.Extents.{parts_overlap}
use Rattle.vk_overlaps.specs.Inner.Places.{hull}
use Rattle.vk_overlaps.proofs.ListPairs.{too_few}
use Rattle.vk_overlaps.proofs.Hulls.{no_hulls}
use Rattle.vk_overlaps.proofs.rows.may_meet.Goals as goal

pub returns-then-regions-lt2 : goal.returns-then-regions-lt2
returns-then-regions-lt2 c = λ e. too_few (λ g h. rows_meet (texel c.args.format) g (texel c.args.format) h) c.args.regions.now c.if-regions-lt2.true

pub returns-in-Some : goal.returns-in-Some
returns-in-Some c =
    let made : c.in-Some.hulls.items ≡ map (hull (texel c.args.format)) c.args.regions.now = rw c.in-Some.is at c.in_ok-hulls.ensures in
    IfOk-weaker c.overlap.result (λ may. may ≡ parts_overlap c.as_slice.result.now []) (λ may. may ≡ false → some_pair (λ g h. rows_meet (texel c.args.format) g (texel c.args.format) h) c.args.regions.now ≡ false)
    (λ may e none. no_hulls (texel c.args.format) c.args.regions.now (ap (λ ws. parts_overlap ws []) (sym (c.as_slice.ensures.value ∙ made)) ∙ sym e ∙ none))
    c.overlap.ensures
