use Rattle.std.proofs.Common.{◌≡◌, ◌++◌, drop}
use Rattle.std.specs.Prelude.{string_bytes}
use Rattle.vk_row_text.specs.Texts.{command_lines}
use Rattle.vk_row_text.proofs.batches.push_commands.Given as goal

abbrev pub invariant-loop-place : goal.invariant-loop-place
invariant-loop-place l = string_bytes l.out ++ command_lines l.entry l.batch l.place (drop l.place l.commands) ≡ string_bytes l.initial.out ++ command_lines l.entry l.batch 0 l.commands
