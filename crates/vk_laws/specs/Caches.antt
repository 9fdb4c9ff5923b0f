-- The machine's memory: a byte in its region, and in front of it a cache for each agent, which is a queue or the host.
use Rattle.std.specs.Prelude.{◌≡◌, ◌⊎◌, ℕ, ◌<◌, Bool, IsTrue, List, [], ◌∷◌, Option, Some, None}
use Rattle.vk_model.specs.World.Bytes.{Byte}
use Rattle.vk_model.specs.World.ByteWrites.{Value, From}
use Rattle.vk_model.specs.Run.Caches.{Clean, Dirty, Cell, view}
use Rattle.vk_laws.specs.Machine.{Task, Put, Puts, Unknown, TraceAccesses, Writes, Reads, Precedes, MayRun, latest}

-- ---- what happens to a byte

-- No other agent's cache is changed.
abbrev pub Others : ℕ → Cell → Cell → Type 0
Others a old new = (b : ℕ) → (b ≡ a → ⊥) → new.held b ≡ old.held b

-- What caches may do to a byte at any time: drop copies (perhaps none), write a dirty byte back, or load a byte (Vulkan, "Host Access to Device Memory Objects"; queues' caches: profile).
pub data Touched (old new : Cell) : Type 0 where
  Dropped : new.region ≡ old.region → ((b : ℕ) → (new.held b ≡ old.held b) ⊎ (new.held b ≡ None) × ((u : ℕ) → old.held b ≡ Some (Dirty u) → ⊥)) → Touched old new
  WrittenBack : (a v : ℕ) → Others a old new → old.held a ≡ Some (Dirty v) → new.held a ≡ Some (Clean v) → new.region ≡ v → Touched old new
  Loaded : (a : ℕ) → Others a old new → old.held a ≡ None → new.held a ≡ Some (Clean old.region) → new.region ≡ old.region → Touched old new

-- An agent writes y: the cache keeps it dirty, or passes it on to the region. An agent without a cache always does the latter.
pub record Wrote (a y : ℕ) (old new : Cell) : Type 0 where
  pub others : Others a old new
  pub mine : (new.held a ≡ Some (Dirty y)) ⊎ (new.region ≡ y) × ((new.held a ≡ None) ⊎ (new.held a ≡ Some (Clean y)))

-- One byte before and after a task of an agent that writes this to it, if anything; `cells` are all bytes before it.
abbrev pub CellRan : Option Put → ℕ → (Byte → Cell) → Cell → Cell → Type 0
CellRan None a cells old new = (new.region ≡ old.region) × ((b : ℕ) → new.held b ≡ old.held b)
CellRan (Some (Puts (Value v))) a cells old new = Wrote a v old new
CellRan (Some (Puts (From d))) a cells old new = Wrote a (view a (cells d)) old new
CellRan (Some Unknown) a cells old new = (y : ℕ) × Wrote a y old new

-- ---- availability and visibility

-- Through which agent each task accesses memory; which event makes the write of a byte by another task available, and which makes a byte visible to an agent (Vulkan, "Execution and Memory Dependencies", on memory dependencies).
pub record Caching : Type 0 where
  pub agent : Task → ℕ
  pub makes_available : Task → Task → Byte → Bool
  pub makes_visible : Task → ℕ → Byte → Bool

-- The write of a byte by w is made available by p, before t (Vulkan, "Execution and Memory Dependencies", on memory dependencies).
pub record Available (tr : TraceAccesses) (ca : Caching) (w t : Task) (c : Byte) : Type 0 where
  pub p : Task
  pub available : IsTrue (ca.makes_available p w c)
  pub before : Precedes tr p t

-- It is made available by p, and then visible to the agent of t by q, which is p or comes later, and before t (Vulkan, "Execution and Memory Dependencies", on memory dependencies).
pub record Seen (tr : TraceAccesses) (ca : Caching) (w t : Task) (c : Byte) : Type 0 where
  pub p : Task
  pub q : Task
  pub available : IsTrue (ca.makes_available p w c)
  pub order : (p ≡ q) ⊎ Precedes tr p q
  pub visible : IsTrue (ca.makes_visible q (ca.agent t) c)
  pub before : Precedes tr q t

-- What one agent wrote another reads only when it has been made visible to it, and overwrites only when it has been made available; and a write is made available only after it (Vulkan, "Execution and Memory Dependencies", on data hazards).
pub record CacheFree (tr : TraceAccesses) (ca : Caching) : Type 0 where
  pub seen_read : (w t : Task) (c : Byte) → w.node < t.node → Writes tr w c → Reads tr t c → (ca.agent w ≡ ca.agent t) ⊎ Seen tr ca w t c
  pub seen_write : (w t : Task) (c : Byte) → w.node < t.node → Writes tr w c → Writes tr t c → (ca.agent w ≡ ca.agent t) ⊎ Available tr ca w t c
  pub available_later : (p w : Task) (c : Byte) → IsTrue (ca.makes_available p w c) → Precedes tr w p

-- ---- the states of runs

-- An event counts as done only when the caches have done what it asks: no byte is held dirty whose last write it makes available, and no agent keeps a copy of a byte that it makes visible to the agent (Vulkan, "Execution and Memory Dependencies", on availability and visibility operations).
pub record Guard (tr : TraceAccesses) (ca : Caching) (done : List Task) (cells : Byte → Cell) (t : Task) : Type 0 where
  pub written_back : (c : Byte) (w : Task) (u : ℕ) → latest tr c done ≡ Some w → IsTrue (ca.makes_available t w c) → (cells c).held (ca.agent w) ≡ Some (Dirty u) → ⊥
  pub dropped : (c : Byte) (a u : ℕ) → IsTrue (ca.makes_visible t a c) → (cells c).held a ≡ Some (Clean u) → ⊥

-- The tasks done so far, the newest first, and the bytes that an allowed run of them may have led to: it starts with empty caches, the caches are touched at any time, and a task that may come next runs on each byte at once (Vulkan, "Execution and Memory Dependencies").
pub data Reached (tr : TraceAccesses) (ca : Caching) : List Task → (Byte → Cell) → Type 0 where
  Start : (cells : Byte → Cell) → ((c : Byte) (a : ℕ) → (cells c).held a ≡ None) → Reached tr ca [] cells
  Touch : (done : List Task) (old new : Byte → Cell) → Reached tr ca done old → ((c : Byte) → Touched (old c) (new c)) → Reached tr ca done new
  Run : (done : List Task) (t : Task) (old new : Byte → Cell) → Reached tr ca done old → MayRun tr done t → Guard tr ca done old t → ((c : Byte) → CellRan (tr.write_of t c) (ca.agent t) old (old c) (new c)) → Reached tr ca (t ∷ done) new
