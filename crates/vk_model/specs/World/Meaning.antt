-- What a trace means: the bytes that its reads give.
use Rattle.std.specs.Prelude.{ℕ, ◌+◌, List, [], ◌∷◌, ◌++◌, map, take, unwrap_or}
use Rattle.vk_model.specs.declared.entry.Entry.{Entry}
use Rattle.vk_model.specs.declared.entry.Entry.TheVariants as entry
use Rattle.vk_model.specs.Basics.{below}
use Rattle.vk_model.specs.Trace.Point.{Past, Action, Host}
use Rattle.vk_model.specs.World.Bytes.{World, in_buffer}
use Rattle.vk_model.specs.World.Effect.{world}
use Rattle.vk_model.specs.Trace.Order.{order}

-- The bytes that the host reads in a buffer. 0 is put for an undefined one, which no trace without a broken rule reads (profile).
abbrev pub bytes_at : World → ℕ → ℕ → ℕ → List ℕ
bytes_at w b offset size = map (λ k. unwrap_or (w.value (in_buffer b (offset + k))) 0) (below size)

-- Reads, each with the number of its entry, in order.
abbrev pub Reads : Type 0
Reads = List (ℕ × List ℕ)

-- What an entry reads (Vulkan, "Host Access to Device Memory Objects").
abbrev pub read_in : World → ℕ → Entry → Reads
read_in w e (entry.Read b o n) = (e, bytes_at w b o n) ∷ []
read_in w e _ = []

-- What an action reads for the host: commands give it nothing.
abbrev pub read_by : World → ℕ → Action → Reads
read_by w e (Host x) = read_in w e x
read_by w e _ = []

-- The reads of a past, each in the world before it (profile).
abbrev pub reads : Past → Reads
reads [] = []
reads (p ∷ past) = reads past ++ read_by (world past) p.entry p.action

-- The reads among the first n entries of a trace: each resource has bytes of its own, and commands take effect one at a time in reference order (profile).
unfoldable pub meaning : List Entry → ℕ → Reads
meaning t n = reads (order (take n t))
