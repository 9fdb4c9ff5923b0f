-- That there are runs: of any accesses, and of each past.
use Rattle.std.specs.Prelude.{◌≡◌, List, ◌++◌, None, IsTrue}
use Rattle.vk_model.specs.Rules.Table.{fault}
use Rattle.vk_model.specs.World.Bytes.{Byte}
use Rattle.vk_model.specs.Trace.Point.{Past}
use Rattle.vk_laws.specs.Machine.{IsIn, Task, TraceAccesses, IsAllowed, MayRun}
use Rattle.vk_model.specs.Run.Caches.{Cell}
use Rattle.vk_laws.specs.Caches.{Caching, Reached}
use Rattle.vk_laws.specs.Discards.{with_discards}
use Rattle.vk_laws.specs.TraceCaches.{caching_of}

-- Each allowed order leads to a reached state, whatever the caches may ask: one where caches hold nothing.
abbrev pub AllowedIsReached : Type 0
AllowedIsReached = (tr : TraceAccesses) (ca : Caching) (done : List Task) → IsAllowed tr done → (cells : Byte → Cell) × Reached tr ca done cells

-- Of each past every task has an allowed run after which it may come next: that in reference order.
abbrev pub EachTaskRuns : Type 0
EachTaskRuns = (all : Past) (next : Task) → IsTrue ((with_discards all).has next) → (done : List Task) × IsAllowed (with_discards all) done × MayRun (with_discards all) done next

-- No run of a past gets stuck: while some task isn't done, some task may come next.
abbrev pub NeverStuck : Type 0
NeverStuck = (all : Past) (done : List Task) (left : Task) → IsTrue ((with_discards all).has left) → (IsIn left done → ⊥) → (next : Task) × MayRun (with_discards all) done next

-- A run of a past is a run of each longer one without a fault, so it may go on when points come.
abbrev pub TraceGrowthLaw : Type 0
TraceGrowthLaw =
    (newer all : Past) (done : List Task) (cells : Byte → Cell) → fault (newer ++ all) ≡ None → Reached (with_discards all) (caching_of all) done cells
    → Reached (with_discards (newer ++ all)) (caching_of (newer ++ all)) done cells
