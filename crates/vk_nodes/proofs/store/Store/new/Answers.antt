use Rattle.vk_nodes.proofs.ColumnLemmas.{nodes-new, names-new}
use Rattle.vk_nodes.proofs.store.Store.new.Goals as goal

pub returns-in-Some-clause-nodes : goal.returns-in-Some-clause-nodes
returns-in-Some-clause-nodes c = nodes-new _ _ _ c.empty.ensures c.in-Some.ensures.1

pub returns-in-Some-clause-names : goal.returns-in-Some-clause-names
returns-in-Some-clause-names c = names-new _ _ _ c.empty.ensures c.in-Some.ensures.1
