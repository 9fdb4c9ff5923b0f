use Rattle.vk_hazards.proofs.LinkFaultLemmas.{until_lacking, until_links, until_some}
use Rattle.vk_hazards.proofs.faults.links_of_fault.Goals as goal

pub links-requires-clause-earlier : goal.links-requires-clause-earlier
links-requires-clause-earlier c =
    (until_lacking c.args.entries.now c.args.at c.args.rule c.args.fact.now c.in-Some.nodes c.requires (until_some c.args.entries.now c.args.at c.in_ok-nodes.field-0 c.in-Some.nodes c.in-Some.is c.in_ok-nodes.ensures)).earlier

pub links-requires-clause-later : goal.links-requires-clause-later
links-requires-clause-later c =
    (until_lacking c.args.entries.now c.args.at c.args.rule c.args.fact.now c.in-Some.nodes c.requires (until_some c.args.entries.now c.args.at c.in_ok-nodes.field-0 c.in-Some.nodes c.in-Some.is c.in_ok-nodes.ensures)).later

pub links-requires-clause-hazard : goal.links-requires-clause-hazard
links-requires-clause-hazard c =
    (until_lacking c.args.entries.now c.args.at c.args.rule c.args.fact.now c.in-Some.nodes c.requires (until_some c.args.entries.now c.args.at c.in_ok-nodes.field-0 c.in-Some.nodes c.in-Some.is c.in_ok-nodes.ensures)).hazard

pub returns : goal.returns
returns c =
    until_links c.args.entries.now c.args.at c.args.fact.now c.in-Some.nodes c.in_ok-links.links (until_some c.args.entries.now c.args.at c.in_ok-nodes.field-0 c.in-Some.nodes c.in-Some.is c.in_ok-nodes.ensures) c.in_ok-links.ensures
