-- What the steps of a run make of the bytes of resources.
use Rattle.std.specs.Prelude.{ℕ, List, [], ◌∷◌}
use Rattle.vk_model.specs.declared.entry.Entry.{Entry}
use Rattle.vk_model.specs.Trace.Point.{Past}
use Rattle.vk_model.specs.Run.Runs.{Step, Apply, RunPiece, CopyPart}
use Rattle.vk_model.specs.Run.CachedRuns.{named_piece}
use Rattle.vk_model.specs.World.Bytes.{Byte}
use Rattle.vk_laws.specs.DirectRuns.{HostMemory, cells_of, memory_after_piece, memory_after_entry}
use Rattle.vk_resources.specs.Held.{Held, IsThere, HasCell}

-- Each byte of a resource has its value in this memory, and the host's cache holds of it what it holds there (Vulkan, "Host Access to Device Memory Objects").
abbrev pub HasBytes : Held → HostMemory → Type 0
HasBytes r m = (c : Byte) → IsThere r c → HasCell r c (cells_of m c)

-- Bytes of the resources that are there before and after have become what a change makes of those that were there before, in memory and in the host's cache.
abbrev pub Becomes : Held → Held → (HostMemory → HostMemory) → Type 0
Becomes old new change = (m : HostMemory) → HasBytes old m → (c : Byte) → IsThere old c → IsThere new c → HasCell new c (cells_of (change m) c)

module _ (past : Past) (moved : List ℕ) (x : Entry) where
  -- Memory after some steps, one after another: a piece has made its writes, a part of a pass changes no byte of a resource, and the entry, which moves these resources, has its effect after its atoms (Vulkan, "Clear Commands", "Copy Commands" and "Host Access to Device Memory Objects"; VMA, "Defragmentation").
  abbrev pub memory_after : List Step → HostMemory → HostMemory
  memory_after [] m = m
  memory_after (RunPiece n ∷ steps) m = memory_after steps (memory_after_piece (named_piece past n) m)
  memory_after (CopyPart k ∷ steps) m = memory_after steps m
  memory_after (Apply atoms parts ∷ steps) m = memory_after steps (memory_after_entry past atoms moved x m)
