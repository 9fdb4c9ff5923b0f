use Rattle.vk_model.specs.declared.command.Element.TheVariants.{Buffer}
use Rattle.vk_trace.proofs.MemberLemmas.{mapped_on, mapped_all}
use Rattle.vk_trace.proofs.commands.push_buffers.Goals as goal

pub loop-on_buffer-preserved : goal.loop-on_buffer-preserved
loop-on_buffer-preserved c = mapped_on Buffer c.push.new.self.items c.loop-on_buffer.elements.items _ c.args.buffers.now c.loop-on_buffer.on_buffer-index _ c.loop-on_buffer-test.true c.in_ok-push.ensures.items c.loop-on_buffer.invariant

pub returns : goal.returns
returns c = mapped_all Buffer c.loop-on_buffer.elements.items _ c.args.buffers.now c.loop-on_buffer.on_buffer-index c.loop-on_buffer-test.false c.loop-on_buffer.invariant
