use Rattle.std.proofs.Common.{refl}
use Rattle.std.proofs.lemmas.Result.{on_ok_weaker}
use Rattle.vk_offers.proofs.Steps.{passed}
use Rattle.vk_offers.proofs.offers.Offers.pass.Goals as goal

pub returns : goal.returns
returns c = on_ok_weaker c.advance.result (λ frontier. λ past done count is next other. passed c.growth_keeps.ensures c.before_is_order.ensures.forward c.args.self.now past _ done count is next _ other refl refl (frontier _ next.new is.frontier)) c.advance.ensures
