use Rattle.std.proofs.Common.{◌≡◌, ◌++◌, drop}
use Rattle.std.specs.Prelude.{string_bytes}
use Rattle.std.specs.List.{flat_map}
use Rattle.vk_row_text.specs.Steps.{byte_line, commands_bytes}
use Rattle.vk_row_text.proofs.bytes.push_of_commands.Given as goal

abbrev pub invariant-loop-place : goal.invariant-loop-place
invariant-loop-place l = string_bytes l.out ++ flat_map byte_line (commands_bytes l.entry l.batch l.place (drop l.place l.commands)) ≡ string_bytes l.initial.out ++ flat_map byte_line (commands_bytes l.entry l.batch 0 l.commands)
