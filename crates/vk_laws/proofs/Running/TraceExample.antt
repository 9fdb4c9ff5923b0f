-- The example trace breaks no rule, and its run is allowed.
use Rattle.std.proofs.Common.{◌≡◌, ◌≤◌, length, IsTrue, Some, None, refl, arith}
use Rattle.vk_model.specs.World.Bytes.{in_buffer}
use Rattle.vk_model.specs.Sync.Node.{nodes}
use Rattle.vk_model.specs.Sync.Edge.{meet, edge}
use Rattle.vk_model.specs.Sync.Before.{before}
use Rattle.vk_model.specs.Sync.Seen.{seen}
use Rattle.vk_model.specs.Rules.Table.{breaks, first_rule, fault, first_fault}
use Rattle.vk_model.specs.Laws.{BeforeLeadsOn}
use Rattle.vk_laws.specs.Machine.{Unknown, Reads, IsAllowed, MayRun}
use Rattle.vk_laws.specs.Example.{task}
use Rattle.vk_laws.specs.Discards.{with_discards}
use Rattle.vk_laws.specs.TraceBytes.{value_before}
use Rattle.vk_laws.specs.TraceExample.{example, points, run}
use Rattle.vk_laws.proofs.Running.Runs.{may_run, is_allowed, may_run_holds, allowed_holds, may_too, allowed_too}

pub no_fault : first_fault example ≡ None
unfolding meet edge before seen breaks first_rule fault first_fault
no_fault = refl

pub defined : value_before points 11 (in_buffer 1 0) ≡ Some 1
defined = refl

pub forgotten : (with_discards points).write_of (task 10) (in_buffer 1 8) ≡ Some Unknown
forgotten = refl

pub reads_byte : Reads (with_discards points) (task 11) (in_buffer 1 0)
reads_byte = refl

twelve : length (nodes points) ≤ 12
twelve = omega arith

module _ (leads : BeforeLeadsOn) where
  is_run : IsTrue (is_allowed leads points 12 run)
  unfolding meet edge before
  is_run = refl

  is_next : IsTrue (may_run leads points 12 run (task 11))
  unfolding meet edge before
  is_next = refl

  pub allowed : IsAllowed (with_discards points) run
  allowed = allowed_too points run (allowed_holds leads points 12 run twelve is_run)

  pub next : MayRun (with_discards points) run (task 11)
  next = may_too points run (task 11) (may_run_holds leads points 12 run (task 11) twelve is_next)
