-- What every order gives: host entries one after another, and the points of batches after their submits, each queue's in the order of submission.
use Rattle.std.specs.Prelude.{◌≡◌, ℕ, ◌<◌, ⊤, List, [], ◌∷◌, length, Some, None, Contains, slice_get}
use Rattle.vk_model.specs.declared.entry.Batch.{Batch}
use Rattle.vk_model.specs.declared.entry.Entry.TheVariants as entry
use Rattle.vk_model.specs.Trace.Point.{Point, Past, Action, Host, Wait, Run, Signal, host_of, entries}
use Rattle.vk_model.specs.Trace.Order.{host}

-- Place k of a batch has this wait, command or signal (Vulkan, "Queue Submission").
abbrev pub HasAction : Batch → ℕ → Action → Type 0
HasAction b k (Wait w) = slice_get b.waits k ≡ Some w
HasAction b k (Run c) = slice_get b.commands k ≡ Some c
HasAction b k (Signal s) = slice_get b.signals k ≡ Some s
HasAction b k (Host x) = ⊥

-- A batch's waits come first, then its commands, then its signals (Vulkan, "Queue Submission").
abbrev pub turn : Action → ℕ
turn (Run c) = 1
turn (Signal s) = 2
turn _ = 0

-- One point of a queue is before another in submission order: by entry, then by batch, then by turn, then by place (Vulkan, "Implicit Synchronization Guarantees").
pub data IsEarlier (q p : Point) : Type 0 where
  by_entry : q.entry < p.entry → IsEarlier q p
  by_batch : q.entry ≡ p.entry → q.batch < p.batch → IsEarlier q p
  by_turn : q.entry ≡ p.entry → q.batch ≡ p.batch → turn q.action < turn p.action → IsEarlier q p
  by_place : q.entry ≡ p.entry → q.batch ≡ p.batch → turn q.action ≡ turn p.action → q.place < p.place → IsEarlier q p

-- A point of a batch comes after the submit that has the batch, which is to its queue, and after the earlier points of its queue alone (Vulkan, "Queue Submission" and "Implicit Synchronization Guarantees").
pub record IsOfBatch (before : Past) (p : Point) : Type 0 where
  pub batches : List Batch
  pub batch : Batch
  pub submitted : Contains before (host p.entry (entry.Submit p.queue batches))
  pub listed : slice_get batches p.batch ≡ Some batch
  pub here : HasAction batch p.place p.action
  pub in_order : (q : Point) → Contains before q → host_of q.action ≡ None → q.queue ≡ p.queue → IsEarlier q p

-- How a point may come after a past: a host entry with the number of those before it, or a point of a batch (profile).
abbrev pub Follows : Past → Point → Action → Type 0
Follows before p (Host x) = p ≡ host (length (entries before)) x
Follows before p _ = IsOfBatch before p

-- Each point of a past follows on what is before it (profile).
abbrev pub IsOrdered : Past → Type 0
IsOrdered [] = ⊤
IsOrdered (p ∷ past) = Follows past p p.action × IsOrdered past
