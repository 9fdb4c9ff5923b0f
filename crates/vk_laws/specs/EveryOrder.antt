-- The law of the machine: in every allowed order, the model's bytes are visible to tasks.
use Rattle.std.specs.Prelude.{◌≡◌, ℕ, suc, ◌<◌, List, Option, Some}
use Rattle.vk_model.specs.World.Bytes.{Byte}
use Rattle.vk_laws.specs.Machine.{IsIn, Task, TraceAccesses, Reads, Conflict, HazardFree, MayRun, IsModel, latest}
use Rattle.vk_model.specs.Run.Caches.{Cell, view}
use Rattle.vk_laws.specs.Caches.{Caching, CacheFree, Reached}
use Rattle.vk_laws.specs.Commands.{Effects, meaning, IsCut}

-- Of the tasks whose accesses conflict with one's own: those of earlier nodes are done, and those of later nodes aren't.
pub record IsSettled (tr : TraceAccesses) (done : List Task) (t : Task) : Type 0 where
  pub earlier : (s : Task) (c : Byte) → s.node < t.node → Conflict tr s t c → IsIn s done
  pub later : (s : Task) (c : Byte) → t.node < s.node → Conflict tr t s c → IsIn s done → ⊥

-- When a task comes next, what meets its accesses is settled.
abbrev pub SettledLaw : Type 0
SettledLaw = (tr : TraceAccesses) (ca : Caching) (done : List Task) (cells : Byte → Cell) (t : Task) → HazardFree tr → Reached tr ca done cells → MayRun tr done t → IsSettled tr done t

-- When a task comes next, what is visible to its agent of each byte that it reads is the model's value before its node, where the model defines one.
abbrev pub FreshLaw : Type 0
FreshLaw =
    (tr : TraceAccesses) (ca : Caching) (value : ℕ → Byte → Option ℕ) (done : List Task) (cells : Byte → Cell) (t : Task) (c : Byte) (v : ℕ) → HazardFree tr → CacheFree tr ca → IsModel tr value
    → Reached tr ca done cells → MayRun tr done t → Reads tr t c → value t.node c ≡ Some v → view (ca.agent t) (cells c) ≡ v

-- After any step, the model's value after the node of a byte's last write is visible to the agent that wrote it, where the model defines one.
abbrev pub WrittenLaw : Type 0
WrittenLaw =
    (tr : TraceAccesses) (ca : Caching) (value : ℕ → Byte → Option ℕ) (done : List Task) (cells : Byte → Cell) (w : Task) (c : Byte) (v : ℕ) → HazardFree tr → CacheFree tr ca → IsModel tr value
    → Reached tr ca done cells → latest tr c done ≡ Some w → value (suc w.node) c ≡ Some v → view (ca.agent w) (cells c) ≡ v

-- Whole commands, one at a time in reference order, are a model of the tasks that they are cut into.
abbrev pub WholeCommandsLaw : Type 0
WholeCommandsLaw = (fx : Effects) (tr : TraceAccesses) → IsCut fx tr → IsModel tr (meaning fx)
