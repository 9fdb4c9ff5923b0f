use Rattle.vk_nodes.proofs.ColumnLemmas.{nodes-longer, names-longer}
use Rattle.vk_nodes.proofs.store.Store.longer.Goals as goal

pub returns-clause-nodes : goal.returns-clause-nodes
returns-clause-nodes c = nodes-longer _ _ _ _ c.self.view_is c.as_slice-slots.ensures.0 _ _ c.in_ok-longer.ensures.nodes c.copy_from.ensures.nodes

pub returns-clause-names : goal.returns-clause-names
returns-clause-names c = names-longer _ _ _ _ c.self.view_is c.as_slice-slots.ensures.0 _ _ c.in_ok-longer.ensures.names c.copy_from.ensures.names
