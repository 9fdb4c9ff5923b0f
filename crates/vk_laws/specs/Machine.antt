-- An abstract machine that runs pieces of commands, host entries and events in any order that a dependency leaves.
-- In these files a comment names the chapter or section of the Vulkan 1.3 specification that a definition comes from, and says `profile` where it is our own choice. One that names neither is a word for the definitions beside it.
use Rattle.std.specs.Prelude.{◌≡◌, ◌⊎◌, ℕ, suc, ◌<◌, Bool, IsTrue, List, [], ◌∷◌, Option, Some, None, ⊤}
use Rattle.vk_model.specs.World.Bytes.{Byte}
use Rattle.vk_model.specs.World.ByteWrites.{Source, From}
use Rattle.vk_model.specs.World.Effect.{source_value}

-- An item is in a list.
abbrev pub IsIn : {A : Type 0} → A → List A → Type 0
IsIn x [] = ⊥
IsIn x (y ∷ ys) = (x ≡ y) ⊎ IsIn x ys

-- What happens at one moment of a run: a piece of node number `node`. A command has a task for each of its pieces, by the piece's index; a host entry and an event (a barrier's, set's or await's element, a batch's wait or signal) have one, of index 0 (profile).
pub record Task : Type 0 where
  pub node : ℕ
  pub index : ℕ

-- What a task writes to a byte: a value, what another byte holds just then, or an unknown value (Vulkan, "Clear Commands" and "Copy Commands"; the last for a host write that an invalidation discards: "Host Access to Device Memory Objects").
pub data Put : Type 0 where
  Puts : (source : Source) → Put
  Unknown : Put

-- All that the machine knows of a trace: which tasks there are, what each writes to and reads of each byte, and which nodes come before which in every allowed order (Vulkan, "Execution and Memory Dependencies").
pub record TraceAccesses : Type 0 where
  pub has : Task → Bool
  pub write_of : Task → Byte → Option Put
  pub reads : Task → Byte → Bool
  pub before : ℕ → ℕ → Bool

-- ---- accesses

-- A task writes a byte.
abbrev pub Writes : TraceAccesses → Task → Byte → Type 0
Writes tr t c = (x : Put) × (tr.write_of t c ≡ Some x)

-- A task reads a byte.
abbrev pub Reads : TraceAccesses → Task → Byte → Type 0
Reads tr t c = IsTrue (tr.reads t c)

-- A task that there is comes before another in every allowed order (Vulkan, "Execution and Memory Dependencies", on execution dependencies).
abbrev pub Precedes : TraceAccesses → Task → Task → Type 0
Precedes tr s t = IsTrue (tr.has s) × IsTrue (tr.before s.node t.node)

-- Both access the byte, and not both only read it (Vulkan, "Execution and Memory Dependencies", on data hazards).
abbrev pub Conflict : TraceAccesses → Task → Task → Byte → Type 0
Conflict tr s t c = (Writes tr s c × Reads tr t c) ⊎ (Reads tr s c × Writes tr t c) ⊎ (Writes tr s c × Writes tr t c)

-- Accesses of two nodes that conflict are ordered; pieces of one command don't meet; and what a task copies it reads (Vulkan, "Execution and Memory Dependencies" and "Copy Commands", on overlapping regions).
pub record HazardFree (tr : TraceAccesses) : Type 0 where
  pub ordered : (s t : Task) (c : Byte) → s.node < t.node → Conflict tr s t c → Precedes tr s t
  pub apart : (s t : Task) (c : Byte) → s.node ≡ t.node → Writes tr s c → Reads tr t c → ⊥
  pub single : (s t : Task) (c : Byte) → s.node ≡ t.node → Writes tr s c → Writes tr t c → s ≡ t
  pub source_read : (t : Task) (c d : Byte) → tr.write_of t c ≡ Some (Puts (From d)) → Reads tr t d

-- ---- runs

-- A task may come next when others are done: there is such a task, it isn't done, and all that comes before it is (Vulkan, "Execution and Memory Dependencies" and "Implicit Synchronization Guarantees").
pub record MayRun (tr : TraceAccesses) (done : List Task) (t : Task) : Type 0 where
  pub there : IsTrue (tr.has t)
  pub fresh : IsIn t done → ⊥
  pub after : (s : Task) → Precedes tr s t → IsIn s done

-- Tasks were done in an allowed order; the newest comes first.
abbrev pub IsAllowed : TraceAccesses → List Task → Type 0
IsAllowed tr [] = ⊤
IsAllowed tr (t ∷ done) = MayRun tr done t × IsAllowed tr done

-- The newer of a task that writes this to a byte, if it does, and an earlier one.
abbrev pub newest : Option Put → Task → Option Task → Option Task
newest None t rest = rest
newest (Some x) t rest = Some t

-- The task that wrote a byte last.
abbrev pub latest : TraceAccesses → Byte → List Task → Option Task
latest tr c [] = None
latest tr c (t ∷ done) = newest (tr.write_of t c) t (latest tr c done)

-- ---- what the model says

-- The value that a write gives to a byte, from the values before it; none where it isn't defined.
abbrev pub put_value : Put → (Byte → Option ℕ) → Option ℕ
put_value (Puts x) values = source_value values x
put_value Unknown values = None

-- `value n` has the bytes that the model defines before node n: none at first; then those that node n writes, from the values before it, and those that it leaves alone. A node may also make bytes undefined, by a loss of ownership, a transition from UNDEFINED or a discarded host write (Vulkan, "Resource Sharing Mode", "Image Layout Transitions" and "Host Access to Device Memory Objects").
pub record IsModel (tr : TraceAccesses) (value : ℕ → Byte → Option ℕ) : Type 0 where
  pub undefined : (c : Byte) → value 0 c ≡ None
  pub written : (t : Task) (c : Byte) (x : Put) (v : ℕ) → tr.write_of t c ≡ Some x → value (suc t.node) c ≡ Some v → put_value x (value t.node) ≡ Some v
  pub kept : (n : ℕ) (c : Byte) (v : ℕ) → ((t : Task) → t.node ≡ n → tr.write_of t c ≡ None) → value (suc n) c ≡ Some v → value n c ≡ Some v
