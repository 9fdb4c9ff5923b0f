use Rattle.std.proofs.Common.{arith, sym, ◌∙◌}
use Rattle.vk_order.specs.Bytes.{byte_of}
use Rattle.vk_order.specs.Wide.{access_of}
use Rattle.vk_hazards.specs.Hazards.{node_at}
use Rattle.vk_hazards.specs.Links.{shows_host}
use Rattle.vk_hazards.proofs.FirstLemmas.{below_next, first_found, none_found}
use Rattle.vk_hazards.proofs.nodes.Nodes.first_visible.Goals as goal

pub loop-number-preserved : goal.loop-number-preserved
loop-number-preserved c =
    let past = c.args.self.now in
    let pair = c.args.pair.now in
    below_next past (shows_host past (node_at pair.write.by) (node_at pair.later) (access_of pair.access) (byte_of pair.write.byte)) c.loop-number.number c.loop-number.invariant
    (λ n cn is. sym (c.shows_host.ensures n cn is) ∙ c.if-shows_host.false)

pub returns-then-shows_host : goal.returns-then-shows_host
returns-then-shows_host c =
    let past = c.args.self.now in
    let pair = c.args.pair.now in
    first_found past (shows_host past (node_at pair.write.by) (node_at pair.later) (access_of pair.access) (byte_of pair.write.byte)) c.placed.result c.loop-number.number c.loop-number.invariant c.placed.ensures.there c.placed.ensures.number
    (sym (c.shows_host.ensures (node_at c.placed.result) c.placed.ensures.there c.placed.ensures.number) ∙ c.if-shows_host.true)

pub returns : goal.returns
returns c =
    let past = c.args.self.now in
    let pair = c.args.pair.now in
    none_found past (shows_host past (node_at pair.write.by) (node_at pair.later) (access_of pair.access) (byte_of pair.write.byte)) c.loop-number.number c.loop-number.invariant (omega (arith, c.count-number-end.ensures, c.loop-number-test.false))
