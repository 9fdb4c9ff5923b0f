use Rattle.std.proofs.Common.{◌++◌, ◌∙◌, ap}
use Rattle.std.specs.Prelude.{string_bytes}
use Rattle.vk_calls.specs.Calls.{data_of}
use Rattle.vk_calls.proofs.Calling.{added_named}
use Rattle.vk_calls.proofs.placing.push_named.Goals as goal

pub returns : goal.returns
returns c =
    added_named (data_of c.args.calls.now) c.args.out.now.items c.args.front.now c.args.at c.contains-is_said.result
    c.extend_from_slice.new.self.items (string_bytes c.in_ok-name.name) c.extend_from_slice-2.new.self.items
    c.in_ok-extend_from_slice.ensures.items c.in_ok-name.ensures
    (c.in_ok-extend_from_slice-2.ensures.items ∙ ap (λ l. c.extend_from_slice.new.self.items ++ l) c.as_bytes.ensures.value)
