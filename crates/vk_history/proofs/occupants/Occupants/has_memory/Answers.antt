use Rattle.std.proofs.Common.{◌∙◌, ap, sym, nat_lt}
use Rattle.vk_model.specs.Trace.Objects.{live_resources, memory_of}
use Rattle.vk_history.specs.Counted.{is_id}
use Rattle.vk_history.proofs.Living.Counting.{any_counted}
use Rattle.vk_history.proofs.occupants.Occupants.has_memory.Goals as goal

pub returns : goal.returns
returns c = λ past are. c.has.ensures ∙ ap (nat_lt 0) (are.memories c.args.memory) ∙ sym (any_counted (λ r. is_id c.args.memory (memory_of past r)) (live_resources past))
