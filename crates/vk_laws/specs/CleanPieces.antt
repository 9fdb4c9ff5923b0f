-- What caches hold of the bytes that a piece accesses, just before it runs.
use Rattle.std.specs.Prelude.{◌≡◌, ℕ, List, Some, None, IsTrue}
use Rattle.vk_model.specs.declared.entry.Entry.{Entry}
use Rattle.vk_model.specs.World.Bytes.{Byte}
use Rattle.vk_model.specs.World.ByteWrites.{ByteWrite, From}
use Rattle.vk_model.specs.Sync.Node.{Node}
use Rattle.vk_model.specs.Rules.Table.{first_fault}
use Rattle.vk_model.specs.Run.Caches.{Dirty, queue_agent, view}
use Rattle.vk_model.specs.Run.Runs.{Name, is_done, offered, Step, Stage}
use Rattle.vk_model.specs.Run.CachedRuns.{Cells, numbered, named_piece, write_to}
use Rattle.vk_laws.specs.CacheRuns.{CachedRun}

-- In a run through caches of a trace without a fault, where a piece is offered: what it writes, and what it copies, no queue's cache holds dirty, its own neither; and what it copies its queue sees as memory has it (Vulkan, "Execution and Memory Dependencies", on data hazards).
pub record PiecesFindNothingDirty : Type 0 where
  pub written : (t : List Entry) (steps : List Step) (s : Stage) (cells : Cells) (x : Name) (c : Byte) (w : ByteWrite) (q u : ℕ) → first_fault t ≡ None → CachedRun t steps s cells → IsTrue (is_done (offered s.front.past s.done) x)
      → write_to c (named_piece s.front.past x) ≡ Some w → (cells c).held (queue_agent q) ≡ Some (Dirty u) → ⊥
  pub copied : (t : List Entry) (steps : List Step) (s : Stage) (cells : Cells) (x : Name) (c d : Byte) (w : ByteWrite) (q u : ℕ) → first_fault t ≡ None → CachedRun t steps s cells → IsTrue (is_done (offered s.front.past s.done) x)
      → write_to c (named_piece s.front.past x) ≡ Some w → w.source ≡ From d → (cells d).held (queue_agent q) ≡ Some (Dirty u) → ⊥
  pub seen : (t : List Entry) (steps : List Step) (s : Stage) (cells : Cells) (x : Name) (n : Node) (c d : Byte) (w : ByteWrite) → first_fault t ≡ None → CachedRun t steps s cells → IsTrue (is_done (offered s.front.past s.done) x)
      → numbered s.front.past x.0 ≡ Some n → write_to c (named_piece s.front.past x) ≡ Some w → w.source ≡ From d → view (queue_agent n.point.queue) (cells d) ≡ (cells d).region
