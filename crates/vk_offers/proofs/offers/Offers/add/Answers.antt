use Rattle.std.proofs.lemmas.Result.{on_ok_weaker}
use Rattle.vk_offers.proofs.offers.Offers.add.Goals as goal

pub start-requires : goal.start-requires
start-requires c = (c.requires.0, c.requires.1, record { offers = c.requires.2; next = c.requires.3; action = c.in-Some.ensures.some.0; run = c.in-Some.ensures.some.1 })

pub returns-in-Some : goal.returns-in-Some
returns-in-Some c = on_ok_weaker c.start.result (λ starts. λ past done is next. starts past done (record { offers = is; next = next; action = c.in-Some.ensures.some.0; run = c.in-Some.ensures.some.1 })) c.start.ensures

pub returns-in-None : goal.returns-in-None
returns-in-None c = on_ok_weaker c.pass.result (λ passes. λ past done is next. passes past done c.args.pieces is next c.in-None.ensures.none) c.pass.ensures
