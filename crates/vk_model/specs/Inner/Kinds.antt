-- Kinds of commands and entries that are copied together.
use Rattle.std.specs.Prelude.{Bool, true, false}
use Rattle.vk_model.specs.declared.command.Cmd.{Cmd}
use Rattle.vk_model.specs.declared.command.Cmd.TheVariants as cmd
use Rattle.vk_model.specs.declared.entry.Entry.{Entry}
use Rattle.vk_model.specs.declared.entry.Entry.TheVariants as entry

-- Whether a command writes values of its own to a buffer.
abbrev pub is_buffer_write : Cmd → Bool
is_buffer_write (cmd.Fill b o n w) = true
is_buffer_write (cmd.Update b o bytes) = true
is_buffer_write _ = false

-- Whether a command is on images alone.
abbrev pub is_image_command : Cmd → Bool
is_image_command (cmd.Clear i l color rs) = true
is_image_command (cmd.CopyImage s l d m gs) = true
is_image_command _ = false

-- Whether a command copies between a buffer and an image.
abbrev pub is_buffer_image_copy : Cmd → Bool
is_buffer_image_copy (cmd.CopyIn b i l gs) = true
is_buffer_image_copy (cmd.CopyOut i l b gs) = true
is_buffer_image_copy _ = false

-- Whether the host accesses a mapped buffer by an entry.
abbrev pub is_access : Entry → Bool
is_access (entry.Write b o bytes) = true
is_access (entry.Read b o n) = true
is_access _ = false

-- Whether the host flushes or invalidates by an entry.
abbrev pub is_flush : Entry → Bool
is_flush (entry.Flush b o n) = true
is_flush (entry.Invalidate b o n) = true
is_flush _ = false

-- Whether an entry is of a defragmentation that has begun.
abbrev pub is_of_pass : Entry → Bool
is_of_pass (entry.Pass d) = true
is_of_pass (entry.EndPass d kept lost) = true
is_of_pass (entry.EndDefrag d) = true
is_of_pass _ = false
