use Rattle.std.proofs.Common.{sym, ◌∙◌}
use Rattle.vk_order.specs.Bytes.{byte_of}
use Rattle.vk_hazards.specs.Hazards.{node_at}
use Rattle.vk_hazards.proofs.AvailabilityLemmas.{available_within, available_same}
use Rattle.vk_hazards.proofs.nodes.Nodes.is_available_at.Goals as goal

pub is_after_some-requires-clause-within : goal.is_after_some-requires-clause-within
is_after_some-requires-clause-within c =
    let write = c.args.write.now in
    available_within c.args.self.now (node_at write.by) (byte_of write.byte) c.args.firsts.now c.requires.firsts.each

pub returns-else-is_made_available_at : goal.returns-else-is_made_available_at
returns-else-is_made_available_at c = λ n cn is.
    let write = c.args.write.now in
    available_same c.args.self.now (node_at write.by) c.requires.write.there (byte_of write.byte) c.args.firsts.now c.requires.firsts n cn c.prefixes.ensures.line c.is_after_some.result
    (λ on. c.is_after_some.ensures.yes on n cn is) (λ off. c.is_after_some.ensures.no off n cn is) (sym (c.is_made_available_at.ensures n cn is) ∙ c.if-is_made_available_at.false)
