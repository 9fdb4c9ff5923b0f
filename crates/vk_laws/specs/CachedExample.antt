-- A trace that breaks no rule, and a run of it through caches: the host's cache holds an old copy of what a fill wrote, until an invalidation.
use Rattle.std.specs.Prelude.{◌≡◌, List, [], ◌∷◌, ◌++◌, None}
use Rattle.vk_model.specs.declared.entry.Entry.{Entry}
use Rattle.vk_model.specs.declared.entry.Entry.TheVariants as entry
use Rattle.vk_model.specs.declared.resource.Sharing.TheVariants as sharing
use Rattle.vk_model.specs.declared.resource.Place.TheVariants as place
use Rattle.vk_model.specs.declared.command.Cmd.TheVariants as cmd
use Rattle.vk_model.specs.declared.command.Element.TheVariants as element
use Rattle.vk_model.specs.declared.command.Length.TheVariants as length_of
use Rattle.vk_model.specs.World.Bytes.{Byte, in_buffer}
use Rattle.vk_model.specs.Trace.Order.{order}
use Rattle.vk_model.specs.Rules.Table.{first_fault}
use Rattle.vk_model.specs.Run.Runs.{Apply, RunPiece}
use Rattle.vk_model.specs.Run.Caches.{view}
use Rattle.vk_model.specs.Run.CachedRuns.{CachedStep, Does, CachedStage}
use Rattle.vk_laws.specs.Machine.{Reads}
use Rattle.vk_laws.specs.Discards.{with_discards}
use Rattle.vk_laws.specs.DefinedRuns.{entry_task, MayCome}
use Rattle.vk_laws.specs.CachedRuns.{CachedRunOf}

-- A buffer in memory that the host caches, mapped and flushed; a submit of a fill, a barrier to the host and a signal; a wait, an invalidation and a read. The fill is node 5.
abbrev pub example : List Entry
example =
    entry.Buffer 1 (record { size = 16; usage = record { 0 = 3 }; sharing = sharing.Exclusive; place = place.Dedicated 2 })
    ∷ entry.Semaphore 2 0
    ∷ entry.Map 1
    ∷ entry.Flush 1 0 length_of.Whole
    ∷ entry.Submit 0 (record {
      waits = [];
      commands = cmd.Fill 1 0 (length_of.Bytes 16) 67305985
          ∷ cmd.Barrier (element.Memory (record { source_stages = record { 0 = 4096 }; source_accesses = record { 0 = 4096 }; destination_stages = record { 0 = 16384 }; destination_accesses = record { 0 = 8192 } }) ∷ [])
          ∷ [];
      signals = record { semaphore = 2; value = 1; stages = record { 0 = 65536 } } ∷ [];
    } ∷ [])
    ∷ entry.Wait (record { semaphore = 2; value = 1 } ∷ [])
    ∷ entry.Invalidate 1 0 length_of.Whole
    ∷ entry.Read 1 0 4
    ∷ []

-- An entry, of which the host's cache touches no atom.
abbrev pub applies : CachedStep
applies = Does (Apply [] 0) []

-- Before the flush the host's cache takes up the buffer's atom; then the fill runs, and the host has waited for it.
abbrev pub steps : List CachedStep
steps = applies ∷ applies ∷ applies ∷ Does (Apply (0 ∷ []) 0) [] ∷ applies ∷ Does (RunPiece (5, 0)) [] ∷ applies ∷ []

-- The first byte of the buffer.
abbrev pub byte : Byte
byte = in_buffer 1 0

-- The trace breaks no rule. After these steps, from memory that holds 205 everywhere, memory has what the fill wrote, and the host still sees what was there before; when the invalidation has been applied the read may be, and sees the fill.
pub record CachedRunsMeetPremises : Type 0 where
  pub no_fault : first_fault example ≡ None
  pub old_copy : (e : CachedStage) × CachedRunOf example (λ c. 205) steps e × ((e.cells byte).region ≡ 1) × (view 0 (e.cells byte) ≡ 205)
  pub is_seen : (e : CachedStage) × CachedRunOf example (λ c. 205) (steps ++ applies ∷ []) e × MayCome e.stage (entry_task e.stage) × Reads (with_discards (order example)) (entry_task e.stage) byte × (view 0 (e.cells byte) ≡ 1)
