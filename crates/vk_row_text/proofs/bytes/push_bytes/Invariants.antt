use Rattle.std.proofs.Common.{◌≡◌, ◌++◌, drop}
use Rattle.std.specs.Prelude.{string_bytes}
use Rattle.std.specs.List.{flat_map}
use Rattle.vk_row_text.specs.Steps.{byte_line, step_bytes}
use Rattle.vk_row_text.proofs.bytes.push_bytes.Given as goal

abbrev pub invariant-loop-step : goal.invariant-loop-step
invariant-loop-step l = string_bytes l.out ++ flat_map byte_line (step_bytes l.promised (drop l.step-index l.steps)) ≡ string_bytes l.initial.out ++ flat_map byte_line (step_bytes l.initial.promised l.steps)
