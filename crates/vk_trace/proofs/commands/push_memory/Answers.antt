use Rattle.vk_model.specs.declared.command.Element.TheVariants.{Memory}
use Rattle.vk_trace.proofs.MemberLemmas.{mapped_on, mapped_all}
use Rattle.vk_trace.proofs.commands.push_memory.Goals as goal

pub loop-dependency-preserved : goal.loop-dependency-preserved
loop-dependency-preserved c = mapped_on Memory c.push.new.self.items c.loop-dependency.elements.items _ c.args.memory.now c.loop-dependency.dependency-index _ c.loop-dependency-test.true c.in_ok-push.ensures.items c.loop-dependency.invariant

pub returns : goal.returns
returns c = mapped_all Memory c.loop-dependency.elements.items _ c.args.memory.now c.loop-dependency.dependency-index c.loop-dependency-test.false c.loop-dependency.invariant
