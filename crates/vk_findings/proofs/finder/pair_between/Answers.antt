use Rattle.std.proofs.Common.{map, get_or, sym, ◌∙◌}
use Rattle.std.specs.List.{list_any}
use Rattle.vk_model.specs.World.Areas.{areas_meet}
use Rattle.vk_findings.specs.declared.areas.Area.TheVariants as area
use Rattle.vk_findings.specs.Inner.Areas.{area_of}
use Rattle.vk_findings.specs.Inner.Found.{IsPair}
use Rattle.vk_findings.proofs.FinderLemmas.{any_more, area_at, pair_of_met, pair_reported}
use Rattle.vk_findings.proofs.finder.pair_between.Goals as goal

pub returns-in-Some : goal.returns-in-Some
returns-in-Some c =
    let xs = c.args.ones.now in
    let k = c.loop-number.number in
    let reported : IsPair (map area_of xs) (map area_of c.args.others.now) c.pair_of.result = pair_of_met (map area_of xs) (map area_of c.args.others.now) k 0 (area_of (get_or xs k (area.Bytes 0 0 0))) c.in-Some.met c.pair_of.result (area_at xs k (area.Bytes 0 0 0) c.loop-number-test.true) c.in-Some.ensures.some c.pair_of.ensures in
    record {
      meet = sym (pair_reported (map area_of xs) (map area_of c.args.others.now) c.pair_of.result reported);
      reported = reported;
    }

pub loop-number-preserved : goal.loop-number-preserved
loop-number-preserved c =
    any_more c.args.ones.now c.loop-number.number (area.Bytes 0 0 0) c.loop-number-test.true (λ w. list_any (areas_meet w) (map area_of c.args.others.now)) c.in_default.ensures.none ∙ c.loop-number.invariant
