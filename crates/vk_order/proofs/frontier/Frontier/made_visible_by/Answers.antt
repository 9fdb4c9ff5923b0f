use Rattle.vk_order.proofs.frontier.Frontier.made_visible_by.Goals as goal

pub returns-in-loop-step-clause-shows : goal.returns-in-loop-step-clause-shows
returns-in-loop-step-clause-shows c = c.shows_at.ensures.shows c.if-shows_at.true

pub returns-in-loop-step-2-clause-shows : goal.returns-in-loop-step-2-clause-shows
returns-in-loop-step-2-clause-shows c = c.shows_at-in-loop-step.ensures.shows c.if-shows_at-2.true
