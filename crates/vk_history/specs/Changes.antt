-- What actions change of the bytes of resources.
use Rattle.std.specs.Prelude.{◌≡◌, ◌⊎◌, ℕ, List, Bool, true, false, length}
use Rattle.vk_model.specs.declared.command.Cmd.{Cmd}
use Rattle.vk_model.specs.declared.command.Cmd.TheVariants as cmd
use Rattle.vk_model.specs.declared.command.Length.TheVariants as length_of
use Rattle.vk_model.specs.declared.entry.Entry.TheVariants as entry
use Rattle.vk_model.specs.Trace.Point.{Action, Host, Run}
use Rattle.vk_history.specs.declared.changes.Change.{Change}
use Rattle.vk_history.specs.declared.changes.Change.TheVariants as change

-- Whether a command is a copy (Vulkan, "Copy Commands").
abbrev pub is_copy : Cmd → Bool
is_copy (cmd.Copy s d gs) = true
is_copy (cmd.CopyIn b i l gs) = true
is_copy (cmd.CopyOut i l b gs) = true
is_copy (cmd.CopyImage s l d m gs) = true
is_copy _ = false

-- Whether an action makes no resource, neither reads nor writes one, nor flushes or invalidates it, and is no barrier.
abbrev pub is_quiet : Action → Bool
is_quiet (Host (entry.Buffer i b)) = false
is_quiet (Host (entry.Image i m)) = false
is_quiet (Host (entry.Read b o n)) = false
is_quiet (Host (entry.Write b o bytes)) = false
is_quiet (Host (entry.Flush b o n)) = false
is_quiet (Host (entry.Invalidate b o n)) = false
is_quiet (Run (cmd.Fill b o n w)) = false
is_quiet (Run (cmd.Update b o bytes)) = false
is_quiet (Run (cmd.Copy s d gs)) = false
is_quiet (Run (cmd.Clear i l color rs)) = false
is_quiet (Run (cmd.CopyIn b i l gs)) = false
is_quiet (Run (cmd.CopyOut i l b gs)) = false
is_quiet (Run (cmd.CopyImage s l d m gs)) = false
is_quiet (Run (cmd.Barrier es)) = false
is_quiet _ = true

-- A change is what an action does.
abbrev pub Fits : Change → Action → Type 0
Fits change.Nothing d = is_quiet d ≡ true
Fits (change.Made i info) d = d ≡ Host (entry.Buffer i info.now)
Fits (change.ImageMade i info) d = d ≡ Host (entry.Image i info.now)
Fits (change.HostRead b o n) d = d ≡ Host (entry.Read b o n)
Fits (change.HostWritten b o n) d = (bytes : List ℕ) × (d ≡ Host (entry.Write b o bytes)) × (n ≡ length bytes)
Fits (change.Flushed b o n) d = d ≡ Host (entry.Flush b o n)
Fits (change.Invalidated b o n) d = d ≡ Host (entry.Invalidate b o n)
Fits (change.Written b o n) d = ((w : ℕ) × (d ≡ Run (cmd.Fill b o n w))) ⊎ ((bytes : List ℕ) × (d ≡ Run (cmd.Update b o bytes)) × (n ≡ length_of.Bytes (length bytes)))
Fits (change.Copied s d gs) x = x ≡ Run (cmd.Copy s d gs.now)
Fits (change.Cleared i rs) d = (l : ℕ) × (color : List ℕ) × (d ≡ Run (cmd.Clear i l color rs.now))
Fits (change.CopiedIn b i gs) x = (l : ℕ) × (x ≡ Run (cmd.CopyIn b i l gs.now))
Fits (change.CopiedOut i b gs) x = (l : ℕ) × (x ≡ Run (cmd.CopyOut i l b gs.now))
Fits (change.CopiedImage s d gs) x = (l : ℕ) × (m : ℕ) × (x ≡ Run (cmd.CopyImage s l d m gs.now))
Fits (change.Passed es) d = d ≡ Run (cmd.Barrier es.now)
