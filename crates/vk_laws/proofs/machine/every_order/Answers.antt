use Rattle.vk_laws.proofs.EveryOrder.Fresh.{earlier_done, later_not_done}
use Rattle.vk_laws.proofs.EveryOrder.Coherence.{allowed, fresh, wrote}
use Rattle.vk_laws.proofs.machine.every_order.Goals as goal

pub returns : goal.returns
returns c = record {
  settled = λ tr ca done cells t free r may. record {
    earlier = λ s b lt meet. earlier_done tr free done t s b may lt meet;
    later = λ s b lt meet h. later_not_done tr free done t s b (allowed tr ca done cells r) may lt meet h;
  };
  fresh = λ tr ca value done cells t b v free cache model r may reads h. fresh tr ca free cache value model done cells t b v r may reads h;
  written = λ tr ca value done cells w b v free cache model r is h. wrote tr ca free cache value model done cells w b v r is h;
}
