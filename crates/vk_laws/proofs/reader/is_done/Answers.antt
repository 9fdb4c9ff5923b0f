use Rattle.std.proofs.Common.{sym, ◌∙◌}
use Rattle.vk_laws.proofs.EveryOrder.Fresh.{done_by_number}
use Rattle.vk_laws.proofs.reader.is_done.Goals as goal

pub returns : goal.returns
returns c = λ tr ca done cells s t b free r may es et ne meet back.
    rw (sym es, sym et) (done_by_number tr done s t b (c.every_order.ensures.settled tr ca done cells t free r may) (λ e. ne (sym es ∙ e ∙ et)) meet back)
