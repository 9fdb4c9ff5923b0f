-- A trace goes on, and what a task must wait for.
use Rattle.std.specs.Prelude.{◌≡◌, ℕ, ◌<◌, Bool, true, false, IsTrue, List}
use Rattle.vk_model.specs.World.Bytes.{Byte}
use Rattle.vk_laws.specs.Machine.{IsIn, Task, TraceAccesses, Precedes, MayRun}
use Rattle.vk_model.specs.Run.Caches.{Cell}
use Rattle.vk_laws.specs.Caches.{Caching, Reached}

-- A trace begins as a shorter one whose nodes are those below `size`: with its tasks, accesses, order and caches. More nodes come before none of these (profile; by the definition of the order of nodes it is so).
pub record Extends (size : ℕ) (tr : TraceAccesses) (ca : Caching) (tr' : TraceAccesses) (ca' : Caching) : Type 0 where
  pub old : (t : Task) → IsTrue (tr.has t) → t.node < size
  pub has : (t : Task) → t.node < size → tr'.has t ≡ tr.has t
  pub write_of : (t : Task) (c : Byte) → t.node < size → tr'.write_of t c ≡ tr.write_of t c
  pub before : (a b : ℕ) → b < size → tr'.before a b ≡ tr.before a b
  pub forward : (a b : ℕ) → IsTrue (tr'.before a b) → a < b
  pub agent : (t : Task) → t.node < size → ca'.agent t ≡ ca.agent t
  pub makes_available : (p w : Task) (c : Byte) → p.node < size → ca'.makes_available p w c ≡ ca.makes_available p w c
  pub makes_visible : (q : Task) (a : ℕ) (c : Byte) → q.node < size → ca'.makes_visible q a c ≡ ca.makes_visible q a c

-- What a run has reached it has reached in the longer trace too, so a run may go on when an entry or a batch comes.
abbrev pub GrowthLaw : Type 0
GrowthLaw =
    (size : ℕ) (tr : TraceAccesses) (ca : Caching) (tr' : TraceAccesses) (ca' : Caching) (done : List Task) (cells : Byte → Cell) → Extends size tr ca tr' ca'
    → Reached tr ca done cells → Reached tr' ca' done cells

-- What comes before what comes before a node comes before it (Vulkan, "Execution and Memory Dependencies", on dependency chains).
abbrev pub IsTransitive : TraceAccesses → Type 0
IsTransitive tr = (a b c : ℕ) → IsTrue (tr.before a b) → IsTrue (tr.before b c) → IsTrue (tr.before a c)

-- All pieces and host entries before a task are done.
abbrev pub IsDue : TraceAccesses → (Task → Bool) → List Task → Task → Type 0
IsDue tr is_event done t = (s : Task) → is_event s ≡ false → Precedes tr s t → IsIn s done

-- Each event is done once all pieces and host entries before it are: events happen as soon as they can (profile).
abbrev pub IsEager : TraceAccesses → (Task → Bool) → List Task → Type 0
IsEager tr is_event done = (e : Task) → is_event e ≡ true → IsTrue (tr.has e) → IsDue tr is_event done e → IsIn e done

-- Where events happen as soon as they can, a task waits for pieces and host entries alone.
abbrev pub EagerLaw : Type 0
EagerLaw =
    (tr : TraceAccesses) (is_event : Task → Bool) (done : List Task) (t : Task) → IsTransitive tr → IsEager tr is_event done
    → IsTrue (tr.has t) → (IsIn t done → ⊥) → IsDue tr is_event done t → MayRun tr done t
