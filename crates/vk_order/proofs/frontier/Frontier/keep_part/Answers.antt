use Rattle.std.proofs.Common.{ap, ◌∙◌}
use Rattle.vk_model.specs.Sync.Node.{Node}
use Rattle.vk_order.specs.Limited.{part_of}
use Rattle.vk_order.specs.Inner.Tallies.{lines_of}
use Rattle.vk_order.proofs.PartLemmas.{parts_same}
use Rattle.vk_order.proofs.frontier.Frontier.keep_part.Goals as goal

pub returns-then-not-is_limited-clause-parts : goal.returns-then-not-is_limited-clause-parts
returns-then-not-is_limited-clause-parts c = λ ns n node front is.
    parts_same ns n (lines_of c.args.self.now.tallies.items) c.args.self.now.parts (ap (λ (m : Node). m.number) node, is.numbers)
    (ap (λ (m : Node). part_of m.act) node ∙ c.is_limited.ensures c.if-not-is_limited.true) is.parts

pub returns-clause-parts : goal.returns-clause-parts
returns-clause-parts c = λ ns n node front is.
    c.in_ok-keep.ensures ns (lines_of c.args.self.now.tallies.items) n (ap (λ (m : Node). m.number) node, is.numbers) is.parts (c.in_ok-part.ensures ns n node front is)
