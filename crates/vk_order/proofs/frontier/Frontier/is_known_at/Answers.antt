use Rattle.std.proofs.Common.{inl, inr, sym, ◌∙◌}
use Rattle.vk_order.specs.Inner.Tallies.{lines_of}
use Rattle.vk_order.proofs.ServeLemmas.{part_reached}
use Rattle.vk_order.proofs.frontier.Frontier.is_known_at.Goals as goal

pub returns-then-reaches : goal.returns-then-reaches
returns-then-reaches c = λ yes ns w m cached numbers part hw on at.
    inl ((part_reached ns numbers (lines_of c.args.self.now.tallies.items) m c.args.part.now part w c.args.write.line c.args.write.place hw on at).0 (sym c.reaches.ensures ∙ c.if-reaches.true))

pub returns-else-reaches : goal.returns-else-reaches
returns-else-reaches c = λ yes ns w m cached numbers part hw on at.
    inr (sym (c.marks.ensures ns (lines_of c.args.self.now.tallies.items) w m cached numbers part hw on at) ∙ yes)
