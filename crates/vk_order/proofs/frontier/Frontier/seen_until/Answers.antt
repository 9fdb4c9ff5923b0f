use Rattle.std.proofs.Common.{ap, ◌∙◌, subst}
use Rattle.vk_model.specs.World.Bytes.{Byte}
use Rattle.vk_order.specs.SeenWrites.{SaysSeen}
use Rattle.vk_order.specs.Inner.Parts.{parts_at}
use Rattle.vk_order.specs.Units.{unit_byte}
use Rattle.vk_order.specs.Wide.{access_of}
use Rattle.vk_order.proofs.ServeLemmas.{answered_any}
use Rattle.vk_order.proofs.UnseenLemmas.{units_alike, visible_each}
use Rattle.vk_order.proofs.frontier.Frontier.seen_until.Goals as goal

pub returns-then-shows-clause-seen : goal.returns-then-shows-clause-seen
returns-then-shows-clause-seen c = λ k low high.
    visible_each c.args.self.now c.args.new_node.now c.args.write c.args.from c.args.access (unit_byte c.args.units k)
    (λ ns n w cached new_node wrote on place asked. (c.shows.ensures ns n w new_node wrote.there on place (answered_any cached n.act (access_of c.args.access) (unit_byte c.args.units k) asked)).0 c.if-shows.true)

pub returns-clause-seen : goal.returns-clause-seen
returns-clause-seen c = λ k low high.
    units_alike c.args.self.now c.args.new_node.now c.args.write c.args.from c.args.access c.args.units c.args.low k c.parts_on.result.now c.parts_from-parts.result.now
    (c.parts_on.ensures ∙ ap (parts_at c.args.self.now.parts) c.resource.ensures) c.parts_from-parts.ensures
    (λ x has. c.parts_until.ensures.alike x has k low high) c.is_seen.result
    (subst (λ (b : Byte). SaysSeen c.args.self.now c.args.new_node.now c.args.write c.args.from c.args.access b c.is_seen.result) c.byte-byte.ensures c.is_seen.ensures)
