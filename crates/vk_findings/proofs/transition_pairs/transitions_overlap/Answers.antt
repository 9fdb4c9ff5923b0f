use Rattle.std.proofs.Common.{map, true, false, ap, ◌∙◌}
use Rattle.vk_findings.specs.Inner.Areas.{area_of}
use Rattle.vk_findings.proofs.AreaLemmas.{of_transitions, transitions_reported}
use Rattle.vk_findings.proofs.transition_pairs.transitions_overlap.Goals as goal

pub returns-in-Some : goal.returns-in-Some
returns-in-Some c =
    let es = c.args.elements.now in
    let areas = map area_of c.as_slice.result.now in
    let laid = ap (map area_of) c.as_slice.ensures.value ∙ c.in_ok-areas.ensures in
    record {
      meet = of_transitions es areas true laid (rw c.in-Some.is at c.in_ok-pair.ensures.meet);
      reported = transitions_reported es areas c.in-Some.pair c.two_transitions.result laid (rw c.in-Some.is at c.in_ok-pair.ensures.reported) c.two_transitions.ensures;
    }

pub returns-clause-meet : goal.returns-clause-meet
returns-clause-meet c =
    of_transitions c.args.elements.now (map area_of c.as_slice.result.now) false (ap (map area_of) c.as_slice.ensures.value ∙ c.in_ok-areas.ensures) (rw c.in-None.is at c.in_ok-pair.ensures.meet)
