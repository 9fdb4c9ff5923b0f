use Rattle.std.proofs.Common.{◌≡◌, ◌++◌, take}
use Rattle.std.specs.Prelude.{string_bytes}
use Rattle.std.specs.List.{flat_map}
use Rattle.vk_row_text.specs.Texts.{submit_line}
use Rattle.vk_row_text.proofs.batches.push_submits.Given as goal

abbrev pub invariant-loop-submit : goal.invariant-loop-submit
invariant-loop-submit l = string_bytes l.out ≡ string_bytes l.initial.out ++ flat_map (submit_line l.name) (take l.submit-index l.submits)
