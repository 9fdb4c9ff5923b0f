use Rattle.allocator_steps.proofs.Starting.{taken_there, others_stay}
use Rattle.allocator_steps.proofs.list_block.ListBlockLiveBlock.give_back.Goals as goal

pub free-requires : goal.free-requires
free-requires c = taken_there c.args.self.now.block c.args.self.now.starts.items _ _ c.args.self.now.live c.in_ok-start.ensures.some

pub invariant_of-self-2 : goal.invariant_of-self-2
invariant_of-self-2 c = record { live = others_stay c.args.self.now.block c.free.new.self c.args.self.now.starts.items _ _ c.args.self.now.live c.in_ok-start.ensures.some c.free.ensures.freed }
