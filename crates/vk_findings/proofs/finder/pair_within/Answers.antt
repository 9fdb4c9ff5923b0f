use Rattle.std.proofs.Common.{map, get_or, sym, ◌∙◌}
use Rattle.vk_findings.specs.declared.areas.Area.TheVariants as area
use Rattle.vk_findings.specs.Inner.Areas.{area_of}
use Rattle.vk_findings.specs.Inner.Found.{IsRising}
use Rattle.vk_findings.proofs.FinderLemmas.{pair_more, area_at, rising_of_met, rising_reported}
use Rattle.vk_findings.proofs.finder.pair_within.Goals as goal

pub returns-in-Some : goal.returns-in-Some
returns-in-Some c =
    let xs = c.args.areas.now in
    let k = c.loop-number.number in
    let reported : IsRising (map area_of xs) c.pair_of.result = rising_of_met (map area_of xs) k (area_of (get_or xs k (area.Bytes 0 0 0))) c.in-Some.met c.pair_of.result (area_at xs k (area.Bytes 0 0 0) c.loop-number-test.true) c.in-Some.ensures.some c.pair_of.ensures in
    record {
      meet = sym (rising_reported (map area_of xs) c.pair_of.result reported);
      reported = reported;
    }

pub loop-number-preserved : goal.loop-number-preserved
loop-number-preserved c =
    pair_more c.args.areas.now c.loop-number.number (area.Bytes 0 0 0) c.loop-number-test.true c.in_default.ensures.none ∙ c.loop-number.invariant
