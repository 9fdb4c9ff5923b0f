use Rattle.vk_findings.specs.Inner.Users.{AreCommandsDone}
use Rattle.vk_findings.proofs.users.user_in_batch.Given as goal

abbrev pub invariant-loop-place : goal.invariant-loop-place
invariant-loop-place l = AreCommandsDone l.timeline l.resource l.entry l.number l.commands l.place
