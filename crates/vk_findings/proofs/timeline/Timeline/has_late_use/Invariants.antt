use Rattle.vk_findings.specs.Inner.Uses.{AreBeforeTo}
use Rattle.vk_findings.proofs.timeline.Timeline.has_late_use.Given as goal

abbrev pub invariant-loop-node : goal.invariant-loop-node
invariant-loop-node l = AreBeforeTo l.self l.spot l.resource l.node
