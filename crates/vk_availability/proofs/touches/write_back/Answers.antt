use Rattle.vk_availability.proofs.WritingBack.{writes_back}
use Rattle.vk_availability.proofs.touches.write_back.Goals as goal

pub returns-clause-back : goal.returns-clause-back
returns-clause-back c = writes_back c.args.resource c.args.queue c.args.lags.now c.catch_up_whole.new.self c.catch_up_whole.ensures
