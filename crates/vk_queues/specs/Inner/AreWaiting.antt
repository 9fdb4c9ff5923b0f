-- Tallies and lines that go with what has happened and the batches that wait.
use Rattle.std.specs.Prelude.{ℕ, ◌<◌, List, map, Contains}
use Rattle.vk_model.specs.Trace.Order.{Front, SubmittedBatch}
use Rattle.vk_queues.specs.declared.lines.Line.{Line}
use Rattle.vk_queues.specs.declared.tallies.Tallies.{Tallies}
use Rattle.vk_queues.specs.Inner.Tallied.{IsTallied}
use Rattle.vk_queues.specs.Inner.Lined.{queued, IsLined, IsRising, AreAllMet}

-- The tallies are the past's, and the lines have the batches that wait, which were submitted one after another by entries with numbers below a count.
pub record AreWaiting (tallies : Tallies) (lines : List Line) (count : ℕ) (f : Front) : Type 0 where
  pub tallied : IsTallied tallies f.past
  pub lined : IsLined (map queued lines) f.waiting
  pub met : AreAllMet f.past lines
  pub rising : IsRising f.waiting
  pub below : (t : SubmittedBatch) → Contains f.waiting t → t.entry < count
