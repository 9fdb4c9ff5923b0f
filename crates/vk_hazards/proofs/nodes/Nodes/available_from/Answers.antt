use Rattle.std.proofs.Common.{Option, sym, ◌∙◌, subst}
use Rattle.vk_hazards.specs.declared.hazards.Placed.{Placed}
use Rattle.vk_hazards.specs.Hazards.{node_at}
use Rattle.vk_hazards.specs.Links.{flushes_after, IsFirst}
use Rattle.vk_hazards.proofs.AvailabilityLemmas.{from_write, from_flush, from_nowhere}
use Rattle.vk_hazards.proofs.nodes.Nodes.available_from.Goals as goal

pub returns-then-not-is_needed : goal.returns-then-not-is_needed
returns-then-not-is_needed c = λ byte same first.
    from_write c.args.self.now (node_at c.args.by.now) c.requires.there byte (sym same ∙ c.if-not-is_needed.true)

pub returns-in-Some : goal.returns-in-Some
returns-in-Some c = λ byte same first.
    let past = c.args.self.now in
    let w = node_at c.args.by.now in
    from_flush past w c.requires.there byte (node_at c.in-Some.flush) (subst (λ (o : Option Placed). IsFirst past (flushes_after past w byte) o) c.in-Some.is first)

pub returns-in-None : goal.returns-in-None
returns-in-None c = λ byte same first.
    let past = c.args.self.now in
    let w = node_at c.args.by.now in
    from_nowhere past w c.requires.there byte (sym same ∙ c.if-not-is_needed.false) (subst (λ (o : Option Placed). IsFirst past (flushes_after past w byte) o) c.in-None.is first) c.count.result c.count.ensures
