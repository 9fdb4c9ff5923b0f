use Rattle.std.proofs.Common.{sym, ◌∙◌}
use Rattle.vk_model.specs.World.Areas.{areas_meet}
use Rattle.vk_findings.specs.declared.areas.Area.TheVariants as area
use Rattle.vk_findings.specs.Inner.Areas.{area_of}
use Rattle.vk_findings.proofs.FinderLemmas.{any_more}
use Rattle.vk_findings.proofs.finder.first_met.Goals as goal

pub loop-number-preserved : goal.loop-number-preserved
loop-number-preserved c =
    any_more c.args.others.now c.loop-number.number (area.Bytes 0 0 0) c.loop-number-test.true (areas_meet (area_of c.args.one.now)) (sym c.in_default.ensures.meet) ∙ c.loop-number.invariant
