use Rattle.std.proofs.Common.{map, true, false, ap, ◌∙◌}
use Rattle.vk_findings.specs.Inner.Areas.{area_of}
use Rattle.vk_findings.proofs.AreaLemmas.{of_ids, ids_reported}
use Rattle.vk_findings.proofs.lists.ids_overlap.Goals as goal

pub returns-in-Some : goal.returns-in-Some
returns-in-Some c =
    let ids = c.args.ids.now in
    let areas = map area_of c.as_slice.result.now in
    let laid = ap (map area_of) c.as_slice.ensures.value ∙ c.in_ok-areas.ensures in
    record {
      meet = of_ids ids areas true laid (rw c.in-Some.is at c.in_ok-pair.ensures.meet);
      reported = ids_reported ids areas c.in-Some.pair c.two_listed.result laid (rw c.in-Some.is at c.in_ok-pair.ensures.reported) c.two_listed.ensures.one c.two_listed.ensures.other c.two_listed.ensures.id;
    }

pub returns-clause-meet : goal.returns-clause-meet
returns-clause-meet c =
    of_ids c.args.ids.now (map area_of c.as_slice.result.now) false (ap (map area_of) c.as_slice.ensures.value ∙ c.in_ok-areas.ensures) (rw c.in-None.is at c.in_ok-pair.ensures.meet)
