use Rattle.std.proofs.Common.{◌≡◌, true, arith, sym, ◌∙◌}
use Rattle.vk_order.specs.Bytes.{byte_of}
use Rattle.vk_hazards.specs.Hazards.{node_at}
use Rattle.vk_hazards.specs.Links.{needs_flush, flushes_after}
use Rattle.vk_hazards.proofs.FirstLemmas.{below_next, first_found, none_found}
use Rattle.vk_hazards.proofs.AvailabilityLemmas.{no_early_flush, flush_same}
use Rattle.vk_hazards.proofs.nodes.Nodes.flush_after.Goals as goal

pub loop-number-init : goal.loop-number-init
loop-number-init c = λ n cn lt. no_early_flush c.args.self.now (node_at c.args.by.now) c.requires.there (byte_of c.args.byte) n cn lt

pub loop-number-preserved : goal.loop-number-preserved
loop-number-preserved c =
    let past = c.args.self.now in
    let w = node_at c.args.by.now in
    let b = byte_of c.args.byte in
    let needed : needs_flush past w b ≡ true = sym c.requires.needed ∙ c.if-not-is_needed.false in
    below_next past (flushes_after past w b) c.loop-number.number c.loop-number.invariant
    (λ n cn is. sym (flush_same past w c.requires.there b needed n cn) ∙ sym (c.flushes.ensures n cn is) ∙ c.if-flushes.false)

pub returns-then-flushes : goal.returns-then-flushes
returns-then-flushes c =
    let past = c.args.self.now in
    let w = node_at c.args.by.now in
    let b = byte_of c.args.byte in
    let needed : needs_flush past w b ≡ true = sym c.requires.needed ∙ c.if-not-is_needed.false in
    let f = node_at c.placed.result in
    first_found past (flushes_after past w b) c.placed.result c.loop-number.number c.loop-number.invariant c.placed.ensures.there c.placed.ensures.number
    (sym (flush_same past w c.requires.there b needed f c.placed.ensures.there) ∙ sym (c.flushes.ensures f c.placed.ensures.there c.placed.ensures.number) ∙ c.if-flushes.true)

pub returns : goal.returns
returns c =
    let past = c.args.self.now in
    none_found past (flushes_after past (node_at c.args.by.now) (byte_of c.args.byte)) c.loop-number.number c.loop-number.invariant (omega (arith, c.count-number-end.ensures, c.loop-number-test.false))
