use Rattle.vk_findings.specs.Inner.Users.{AreBatchesDone}
use Rattle.vk_findings.proofs.users.user_in_submit.Given as goal

abbrev pub invariant-loop-number : goal.invariant-loop-number
invariant-loop-number l = AreBatchesDone l.timeline l.resource l.entry l.batches l.number
