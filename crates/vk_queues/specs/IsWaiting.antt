-- The batches that wait, and what decides when each is started.
use Rattle.std.specs.Prelude.{ℕ, List, [], map}
use Rattle.vk_model.specs.Trace.Order.{Front, order_from}
use Rattle.vk_model.specs.declared.entry.Entry.{Entry}
use Rattle.vk_queues.specs.declared.waiting.Waiting.{Waiting}
use Rattle.vk_queues.specs.Inner.Lined.{queued, count_of}
use Rattle.vk_queues.specs.Inner.AreWaiting.{AreWaiting}

-- It is what has happened and the batches that wait, where the numbers of the entries so far are below a count (Vulkan, "Queue Submission" and "Semaphore Waiting").
pub record IsWaiting (w : Waiting) (count : ℕ) (f : Front) : Type 0 where
  pub parts : AreWaiting w.tallies w.lines.items count f

-- What has happened, and the batches that wait, after the entries of a trace; its past is the trace's reference order.
abbrev pub front_of : List Entry → Front
front_of t = order_from 0 (record { past = []; waiting = [] }) t

-- How many batches wait.
abbrev pub waiting_count : Waiting → ℕ
waiting_count w = count_of (map queued w.lines.items)
