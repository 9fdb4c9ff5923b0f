-- What lives while a trace runs: pieces and host entries reach live resources alone, and what an entry ends no piece reaches any more.
use Rattle.std.specs.Prelude.{◌≡◌, ◌<◌, ℕ, List, ◌∷◌, Bool, false, Some, None, IsTrue, is_some, length, Contains}
use Rattle.vk_model.specs.declared.command.Cmd.{Cmd}
use Rattle.vk_model.specs.declared.entry.Entry.{Entry}
use Rattle.vk_model.specs.Basics.{holds}
use Rattle.vk_model.specs.Trace.Point.{Past}
use Rattle.vk_model.specs.Trace.Objects.{live}
use Rattle.vk_model.specs.World.Bytes.{Byte, resource_at}
use Rattle.vk_model.specs.World.ByteWrites.{ByteWrite, From}
use Rattle.vk_model.specs.Sync.Node.{Node, Runs, nodes}
use Rattle.vk_model.specs.Sync.Edge.{is_host}
use Rattle.vk_model.specs.Sync.Before.{before}
use Rattle.vk_model.specs.Rules.Ids.{asked_by_entry, asked_by_command}
use Rattle.vk_model.specs.Rules.Table.{first_fault}
use Rattle.vk_model.specs.Run.Pieces.{pieces}
use Rattle.vk_model.specs.Run.Runs.{Name, is_done, node_pieces, offered, Step, Stage}
use Rattle.vk_model.specs.Run.CachedRuns.{named_piece, write_to}
use Rattle.vk_laws.specs.DefinedRuns.{RunOf}

-- In a run of a trace without a fault, where a host entry has been applied, all pieces of the commands before its node have run (Vulkan, "Execution and Memory Dependencies").
abbrev pub PiecesBeforeHaveRun : Type 0
PiecesBeforeHaveRun =
    (t : List Entry) (steps : List Step) (s : Stage) (m h : Node) (x : Name) → RunOf t steps s → first_fault t ≡ None → Contains (nodes s.front.past) m → Contains (nodes s.front.past) h
    → IsTrue (is_host h.act) → IsTrue (before (nodes s.front.past) m h) → Contains (node_pieces s.front.past m m.act) x → IsTrue (is_done s.done x)

-- Whether the resource of a byte is live (Vulkan, "Object Lifetime").
abbrev pub is_live : Past → Byte → Bool
is_live past c = is_some (live past (resource_at c))

-- In such a run a piece that is offered writes and copies bytes of resources that are live: what has been destroyed, or lost in a pass, is reached no more (Vulkan, "Object Lifetime"; passes: VMA, "Defragmentation").
abbrev pub PiecesStayLive : Type 0
PiecesStayLive =
    (t : List Entry) (steps : List Step) (s : Stage) (x : Name) (c : Byte) (w : ByteWrite) → RunOf t steps s → first_fault t ≡ None → IsTrue (is_done (offered s.front.past s.done) x)
    → write_to c (named_piece s.front.past x) ≡ Some w → IsTrue (is_live s.front.past c) × ((d : Byte) → w.source ≡ From d → IsTrue (is_live s.front.past d))

-- And the next entry names live objects, each of the kind that it needs: so the buffer that the host maps, reads or writes by it is live, and what it ends was (Vulkan, "Object Lifetime").
abbrev pub EntriesNameLive : Type 0
EntriesNameLive =
    (t : List Entry) (steps : List Step) (s : Stage) (x : Entry) (xs : List Entry) (i : ℕ) (kind : Entry → Bool) → RunOf t steps s → first_fault t ≡ None → s.left ≡ x ∷ xs
    → Contains (asked_by_entry x) (i, kind) → IsTrue (holds (live s.front.past i) kind)

-- And a command that has come and has a piece that hasn't run names live objects, each of the kind that it needs: what it reads and writes isn't destroyed before it has run whole (Vulkan, "Object Lifetime").
abbrev pub CommandsNameLive : Type 0
CommandsNameLive =
    (t : List Entry) (steps : List Step) (s : Stage) (n : Node) (c : Cmd) (k i : ℕ) (kind : Entry → Bool) → RunOf t steps s → first_fault t ≡ None → Contains (nodes s.front.past) n → n.act ≡ Runs c
    → k < length (pieces s.front.past c) → is_done s.done (n.number, k) ≡ false → Contains (asked_by_command c) (i, kind) → IsTrue (holds (live s.front.past i) kind)
