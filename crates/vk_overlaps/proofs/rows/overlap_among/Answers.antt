use Rattle.std.proofs.Common.{[], is_some, sym, ap, ◌∙◌}
use Rattle.vk_model.specs.Trace.Image.{texel}
use Rattle.vk_overlaps.specs.Extents.{parts_overlap}
use Rattle.vk_overlaps.proofs.RowParts.{no_parts}
use Rattle.vk_overlaps.proofs.rows.overlap_among.Goals as goal

pub returns-in-None : goal.returns-in-None
returns-in-None c = sym (no_parts (texel c.args.format) c.args.regions.now (ap (λ ws. parts_overlap ws []) (sym c.requires) ∙ sym c.in_ok-overlapping.ensures.found ∙ ap is_some c.in-None.is))
