-- What holds at every moment of a run: the ghost bytes, and each byte's region and caches beside them.
use Rattle.std.proofs.Common.{◌≡◌, ◌⊎◌, ℕ, suc, ◌<◌, ◌≤◌, IsTrue, List, Option, Some, None}
use Rattle.std.specs.Prelude.{⊤}
use Rattle.vk_model.specs.World.Bytes.{Byte}
use Rattle.vk_model.specs.World.ByteWrites.{Value, From}
use Rattle.vk_laws.specs.Machine.{IsIn, Task, Put, Puts, Unknown, TraceAccesses, Writes, Precedes, latest}
use Rattle.vk_model.specs.Run.Caches.{Clean, Dirty, Cell}
use Rattle.vk_laws.specs.Caches.{Caching}

-- A byte before and after a task that writes this to it, by the bytes before.
abbrev pub Stores : Option Put → (Byte → ℕ) → ℕ → ℕ → Type 0
Stores None memory old new = new ≡ old
Stores (Some (Puts (Value value))) memory old new = new ≡ value
Stores (Some (Puts (From byte))) memory old new = new ≡ memory byte
Stores (Some Unknown) memory old new = ⊤

-- The writes of the byte before node n are done, and none of the later ones is.
pub record Settled (tr : TraceAccesses) (done : List Task) (c : Byte) (n : ℕ) : Type 0 where
  pub earlier : (t : Task) → t.node < n → Writes tr t c → IsIn t done
  pub later : (t : Task) → n ≤ t.node → Writes tr t c → IsIn t done → ⊥

-- Each byte has the model's value after the command that wrote it last.
abbrev pub Follows : TraceAccesses → (ℕ → Byte → Option ℕ) → List Task → (Byte → ℕ) → Type 0
Follows tr value done memory = (c : Byte) (w : Task) (v : ℕ) → latest tr c done ≡ Some w → value (suc w.node) c ≡ Some v → memory c ≡ v

-- x is the byte that was written last, and owner the agent that may hold it dirty; whether it has been made available, and visible to an agent.
pub record CellOk (x : ℕ) (cell : Cell) (owner : Option ℕ) (made_available : Type 0) (made_visible : ℕ → Type 0) : Type 0 where
  pub dirty : (a u : ℕ) → cell.held a ≡ Some (Dirty u) → (u ≡ x) × (owner ≡ Some a) × (made_available → ⊥)
  pub home : (cell.region ≡ x) ⊎ (a : ℕ) × (owner ≡ Some a) × (cell.held a ≡ Some (Dirty x))
  pub clean : (a u : ℕ) → made_visible a → cell.held a ≡ Some (Clean u) → u ≡ x
  pub is_visible : (a : ℕ) → made_visible a → (owner ≡ Some a) ⊎ made_available

module _ (tr : TraceAccesses) (ca : Caching) where
  abbrev pub owner_of : Option Task → Option ℕ
  owner_of None = None
  owner_of (Some w) = Some (ca.agent w)

  abbrev pub MadeAvailable : List Task → Byte → Option Task → Type 0
  MadeAvailable done c None = ⊤
  MadeAvailable done c (Some w) = (p : Task) × IsIn p done × IsTrue (ca.makes_available p w c)

  abbrev pub MadeVisible : List Task → Byte → Option Task → ℕ → Type 0
  MadeVisible done c None a = ⊤
  MadeVisible done c (Some w) a = (ca.agent w ≡ a) ⊎ (p : Task) × (q : Task) × IsIn p done × IsIn q done × IsTrue (ca.makes_available p w c) × ((p ≡ q) ⊎ Precedes tr p q) × IsTrue (ca.makes_visible q a c)

  abbrev pub Coherent : List Task → (Byte → Cell) → (Byte → ℕ) → Type 0
  Coherent done cells memory = (c : Byte) → CellOk (memory c) (cells c) (owner_of (latest tr c done)) (MadeAvailable done c (latest tr c done)) (MadeVisible done c (latest tr c done))
