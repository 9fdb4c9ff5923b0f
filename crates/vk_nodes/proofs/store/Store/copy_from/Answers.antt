use Rattle.vk_nodes.proofs.ColumnLemmas.{nodes-over, names-over}
use Rattle.vk_nodes.proofs.store.Store.copy_from.Goals as goal

pub returns-clause-nodes : goal.returns-clause-nodes
returns-clause-nodes c = nodes-over _ _ _ _ _ c.self.view_is c.as_mut_slice-all.ensures.value.0 c.copy_over.ensures

pub returns-clause-names : goal.returns-clause-names
returns-clause-names c = names-over _ _ _ _ _ c.self.view_is c.as_mut_slice-all.ensures.value.0 c.copy_over.ensures
