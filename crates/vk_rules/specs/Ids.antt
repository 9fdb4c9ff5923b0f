-- QUEUE and QUEUE_KIND: which numbers are compared.
use Rattle.std.specs.Prelude.{◌≡◌, ◌<◌, ◌≤◌, Option, Some, None, option_and_then}
use Rattle.vk_model.specs.declared.command.Cmd.{Cmd}
use Rattle.vk_model.specs.declared.command.Cmd.TheVariants as cmd
use Rattle.vk_model.specs.declared.entry.Entry.TheVariants as entry
use Rattle.vk_model.specs.Trace.Point.{Point, Action, Host, command_of}
use Rattle.vk_rules.specs.declared.queues.QueueNumber.{QueueNumber}
use Rattle.vk_rules.specs.declared.queues.QueueUse.{QueueUse}
use Rattle.vk_rules.specs.declared.queues.QueueCommand.{QueueCommand}
use Rattle.vk_rules.specs.declared.queues.QueueCommand.TheVariants as command

-- What is reported of an action that breaks QUEUE: it submits to this queue, which is over 3.
abbrev pub IsQueue : Action → QueueNumber → Type 0
IsQueue (Host (entry.Submit q bs)) m = (m.queue ≡ q) × (3 < m.queue)
IsQueue _ m = ⊥

-- What a command does that queues of transfer alone can't (Vulkan, "Clearing Images Outside a Render Pass Instance" and "Events", on supported queue types).
abbrev pub queue_command : Cmd → Option QueueCommand
queue_command (cmd.Clear i l color rs) = Some command.Clear
queue_command (cmd.Set v ms) = Some command.Set
queue_command (cmd.Await v ms) = Some command.Await
queue_command _ = None

-- What is reported of a point that breaks QUEUE_KIND: it is on this queue, which is 2 or above, and does that.
abbrev pub IsQueueKind : Point → QueueUse → Type 0
IsQueueKind p m = (m.queue ≡ p.queue) × (2 ≤ m.queue) × (option_and_then queue_command (command_of p.action) ≡ Some m.command)
