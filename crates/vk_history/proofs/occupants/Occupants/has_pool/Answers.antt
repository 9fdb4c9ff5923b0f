use Rattle.std.proofs.Common.{◌∙◌, ap, sym, nat_lt}
use Rattle.vk_model.specs.Trace.Objects.{live_resources, pool_of}
use Rattle.vk_history.specs.Counted.{is_id}
use Rattle.vk_history.proofs.Living.Counting.{any_counted}
use Rattle.vk_history.proofs.occupants.Occupants.has_pool.Goals as goal

pub returns : goal.returns
returns c = λ past are. c.has.ensures ∙ ap (nat_lt 0) (are.pools c.args.pool) ∙ sym (any_counted (λ r. is_id c.args.pool (pool_of past r)) (live_resources past))
