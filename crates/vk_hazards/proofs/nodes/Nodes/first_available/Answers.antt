use Rattle.std.proofs.Common.{arith, sym, ◌∙◌}
use Rattle.vk_order.specs.Bytes.{byte_of}
use Rattle.vk_hazards.specs.Hazards.{node_at}
use Rattle.vk_hazards.specs.Links.{makes_available}
use Rattle.vk_hazards.proofs.FirstLemmas.{below_next, first_found, none_found}
use Rattle.vk_hazards.proofs.nodes.Nodes.first_available.Goals as goal

pub loop-number-preserved : goal.loop-number-preserved
loop-number-preserved c =
    let past = c.args.self.now in
    let write = c.args.write.now in
    below_next past (makes_available past (node_at write.by) (byte_of write.byte)) c.loop-number.number c.loop-number.invariant
    (λ n cn is. sym (c.is_made_available_at.ensures n cn is) ∙ c.if-is_made_available_at.false)

pub returns-then-is_made_available_at : goal.returns-then-is_made_available_at
returns-then-is_made_available_at c =
    let past = c.args.self.now in
    let write = c.args.write.now in
    first_found past (makes_available past (node_at write.by) (byte_of write.byte)) c.placed-first.result c.loop-number.number c.loop-number.invariant c.placed-first.ensures.there c.placed-first.ensures.number
    (sym (c.is_made_available_at.ensures (node_at c.placed-first.result) c.placed-first.ensures.there c.placed-first.ensures.number) ∙ c.if-is_made_available_at.true)

pub returns : goal.returns
returns c =
    let past = c.args.self.now in
    let write = c.args.write.now in
    none_found past (makes_available past (node_at write.by) (byte_of write.byte)) c.loop-number.number c.loop-number.invariant (omega (arith, c.count-number-end.ensures, c.loop-number-test.false))
