use Rattle.vk_order.proofs.frontier.Frontier.add.Goals as goal

pub returns-clause-kept : goal.returns-clause-kept
returns-clause-kept c = λ ns n node front is.
    c.in_ok-add_at.ensures.kept ns n node front (record { numbers = is.numbers; total = is.total; tallied = is.tallied; names = is.names; parts = is.parts })
