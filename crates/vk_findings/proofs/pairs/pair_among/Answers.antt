use Rattle.std.proofs.Common.{map, sym}
use Rattle.vk_findings.specs.Inner.Areas.{area_of}
use Rattle.vk_findings.proofs.FinderLemmas.{rising_reported}
use Rattle.vk_findings.proofs.pairs.pair_among.Goals as goal

pub returns-in-Some-clause-meet : goal.returns-in-Some-clause-meet
returns-in-Some-clause-meet c = sym (rising_reported (map area_of c.args.areas.now) c.in-Some.pair (rw c.in-Some.is at c.in_ok-pair.ensures))
