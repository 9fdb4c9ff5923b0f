use Rattle.std.proofs.Common.{ap, map, refl}
use Rattle.vk_model.specs.Sync.Node.{Runs}
use Rattle.vk_laws.specs.DirectRuns.{bare_memory}
use Rattle.vk_resources.specs.Held.{byte_at}
use Rattle.vk_device.proofs.Allocating.{nothing_first}
use Rattle.vk_device.proofs.Coming.{nothing_begun, nothing_held, none_there}
use Rattle.vk_device.proofs.device.Device.new.Goals as goal

pub returns-clause-led : goal.returns-clause-led
returns-clause-led c = λ t. record {
  memory = bare_memory (byte_at c.new.result);
  run = c.direct_runs_go_on.ensures.begins t (byte_at c.new.result);
  holds = λ b there. absurd (none_there c.new.result c.new.ensures.resources b there);
  matches = nothing_held c.new.result c.new.ensures.backed c.new.ensures.resources c.new.ensures.shapes;
  works = ap (λ works. map Runs works) c.new-5.ensures.items;
  waits = c.new-3.ensures;
  counts = refl;
  offers = c.new-4.ensures;
  passes = nothing_begun c.new-2.result c.new-2.ensures c.new.result c.new.ensures.backed;
}

pub returns-clause-allocated : goal.returns-clause-allocated
returns-clause-allocated c = nothing_first c.args.config c.new.result c.new-2.result c.new.ensures.memory c.new.ensures.backed c.new-2.ensures
