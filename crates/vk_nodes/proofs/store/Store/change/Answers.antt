use Rattle.std.proofs.Common.{refl}
use Rattle.vk_nodes.proofs.ColumnLemmas.{nodes-changed, nodes-unchanged, names-kept}
use Rattle.vk_nodes.proofs.store.Store.change.Goals as goal

pub returns-clause-nodes : goal.returns-clause-nodes
returns-clause-nodes c = nodes-changed _ _ _ c.self.view_is c.as_mut_slice-slots.ensures.value.0 _ _ _ c.apply.ensures

pub returns-clause-none : goal.returns-clause-none
returns-clause-none c = nodes-unchanged _ _ _ c.self.view_is c.as_mut_slice-slots.ensures.value.0 _ _ _ c.apply.ensures

pub returns-clause-names : goal.returns-clause-names
returns-clause-names c = names-kept _ _ _ c.self.view_is c.as_mut_slice-slots.ensures.value.0 _ _ refl
