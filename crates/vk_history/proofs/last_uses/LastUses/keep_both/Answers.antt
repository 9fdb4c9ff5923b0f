use Rattle.vk_model.specs.Basics.{option_list}
use Rattle.vk_history.proofs.Using.Lasts.{both_kept}
use Rattle.vk_history.proofs.last_uses.LastUses.keep_both.Goals as goal

pub returns : goal.returns
returns c = both_kept c.args.self.now c.keep_some.new.self c.keep_some-2.new.self (option_list c.args.used.first) (option_list c.args.used.second) c.args.last c.in_ok-keep_some.ensures c.in_ok-keep_some-2.ensures
