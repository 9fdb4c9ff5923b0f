use Rattle.std.proofs.Common.{sym, ◌∙◌}
use Rattle.vk_order.specs.Inner.Tallies.{lines_of}
use Rattle.vk_order.proofs.frontier.Frontier.shows_alone.Goals as goal

pub returns-then-is_open : goal.returns-then-is_open
returns-then-is_open c = λ yes ns n w m cached new_node any part hw on at.
    (sym (c.is_open.ensures ns (lines_of c.args.self.now.tallies.items) n m cached new_node part any) ∙ c.if-is_open.true, c.is_known_at.ensures yes ns w m cached new_node.numbers.1 part hw on at)
