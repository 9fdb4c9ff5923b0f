use Rattle.std.proofs.Common.{◌≡◌, rules}
use Rattle.vk_calls.specs.Calls.{data_of}
use Rattle.vk_calls.proofs.Calling.{called_parts}
use Rattle.vk_calls.proofs.placing.with_calls.Goals as goal

pub returns : goal.returns
returns c =
    let first : c.in_ok-shown.shown.items ≡ c.parts_of_lines.result.verdict.now = search rules in
    called_parts (data_of c.args.calls.now) c.args.text.now
    c.parts_of_lines.result.verdict.now c.parts_of_lines.result.said.now c.parts_of_lines.result.repair.now c.parts_of_lines.result.notes.now
    c.in_ok-shown.shown.items c.push_called.new.out.items c.extend_from_slice.new.self.items c.push_called-2.new.out.items
    c.parts_of_lines.ensures first c.in_ok-push_called.ensures c.in_ok-extend_from_slice.ensures.items c.in_ok-push_called-2.ensures
