-- What queues write stays in their caches until it is written back.
use Rattle.std.specs.Prelude.{◌≡◌, ◌≢◌, ◌⊎◌, ℕ, Bool, true, false, Contains, List, Some}
use Rattle.vk_model.specs.World.Bytes.{Byte}
use Rattle.vk_model.specs.World.ByteWrites.{ByteWrite}
use Rattle.vk_model.specs.Sync.Node.{Node}
use Rattle.vk_model.specs.Run.Caches.{Dirty, queue_agent}
use Rattle.vk_model.specs.Run.Runs.{Name, Step, RunPiece, Stage}
use Rattle.vk_model.specs.Run.CachedRuns.{numbered, named_piece, write_to, makes_last_available, after_step, happening, Touch, WriteBack, Does, Touches, CachedStage, CachedNext}

-- From one stage to the next a dependency or signal happens that makes the last write of a byte available (Vulkan, "Execution and Memory Dependencies" and "Semaphore Signaling").
abbrev pub IsMadeAvailable : Stage → Stage → Byte → Type 0
IsMadeAvailable s e c = (k : Node) × Contains (happening s e) k × (makes_last_available e.front.past e.done k c ≡ true)

-- After a piece each byte that it wrote is dirty in the cache of its queue, and memory has it as it was, unless the write is made available then.
abbrev pub WritesStayInCaches : Type 0
WritesStayInCaches =
    (s e : CachedStage) (x : Name) (moved : List ℕ) (n : Node) (c : Byte) (w : ByteWrite) → CachedNext s (Does (RunPiece x) moved) e → numbered s.stage.front.past x.0 ≡ Some n → write_to c (named_piece s.stage.front.past x) ≡ Some w
    → ((v : ℕ) × ((e.cells c).held (queue_agent n.point.queue) ≡ Some (Dirty v)) × ((e.cells c).region ≡ (s.cells c).region)) ⊎ IsMadeAvailable s.stage e.stage c

-- A piece changes memory only by what happens then: where the last write of a byte is made available.
abbrev pub PiecesLeaveMemory : Type 0
PiecesLeaveMemory =
    (s e : CachedStage) (x : Name) (moved : List ℕ) (c : Byte) → CachedNext s (Does (RunPiece x) moved) e → ((e.cells c).region ≡ (s.cells c).region) ⊎ IsMadeAvailable s.stage e.stage c

-- Any step that is none of a cache changes memory only by its own effect and so.
abbrev pub StepsLeaveMemory : Type 0
StepsLeaveMemory =
    (s e : CachedStage) (step : Step) (moved : List ℕ) (c : Byte) → CachedNext s (Does step moved) e → ((e.cells c).region ≡ (after_step s.stage step moved s.cells c).region) ⊎ IsMadeAvailable s.stage e.stage c

-- What a queue's cache does by itself changes what no other cache holds, no byte that it isn't done with, and memory only where it writes back.
pub record ChangesItsOwn (s e : CachedStage) (touch : Touch) (q : ℕ) (test : Byte → Bool) (c : Byte) : Type 0 where
  pub others : (a : ℕ) → a ≢ queue_agent q → (e.cells c).held a ≡ (s.cells c).held a
  pub untouched : test c ≡ false → e.cells c ≡ s.cells c
  pub memory : touch ≢ WriteBack → (e.cells c).region ≡ (s.cells c).region

abbrev pub TouchesChangeTheirOwn : Type 0
TouchesChangeTheirOwn = (s e : CachedStage) (touch : Touch) (q : ℕ) (test : Byte → Bool) (c : Byte) → CachedNext s (Touches touch q test) e → ChangesItsOwn s e touch q test c
