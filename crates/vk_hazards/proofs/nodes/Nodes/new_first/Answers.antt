use Rattle.std.proofs.Common.{ap, ◌∙◌, subst}
use Rattle.vk_order.specs.declared.lines.Line.{Line}
use Rattle.vk_order.specs.Lines.{class_of}
use Rattle.vk_hazards.specs.Inner.Availability.{IsListed}
use Rattle.vk_hazards.proofs.nodes.Nodes.new_first.Goals as goal

pub returns-then-is_listed-clause-none : goal.returns-then-is_listed-clause-none
returns-then-is_listed-clause-none c = λ n cn is h.
    subst (λ (l : Line). IsListed c.args.firsts.now l) (c.of-line.ensures ∙ ap class_of (c.placed.ensures.node n cn is)) (c.is_listed.ensures c.if-is_listed.true)
