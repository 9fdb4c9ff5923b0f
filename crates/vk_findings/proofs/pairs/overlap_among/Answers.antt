use Rattle.std.proofs.Common.{map, sym}
use Rattle.vk_findings.specs.Inner.Areas.{area_of}
use Rattle.vk_findings.proofs.AreaLemmas.{areas_reported}
use Rattle.vk_findings.proofs.pairs.overlap_among.Goals as goal

pub returns-in-Some-clause-meet : goal.returns-in-Some-clause-meet
returns-in-Some-clause-meet c =
    let o = c.in-Some.overlap in
    sym (areas_reported (map area_of c.args.written.now) (map area_of c.args.read.now) o.one o.other o.common (rw c.in-Some.is at c.in_ok-overlap.ensures))
