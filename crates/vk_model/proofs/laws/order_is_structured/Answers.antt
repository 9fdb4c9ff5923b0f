use Rattle.vk_model.proofs.Trace.Structure.{order_ordered, order_has_entries, order_grows_on}
use Rattle.vk_model.proofs.Trace.PlainStructure.{plain_ordered}
use Rattle.vk_model.proofs.laws.order_is_structured.Goals as goal

pub returns-clause-ordered : goal.returns-clause-ordered
returns-clause-ordered c = order_ordered

pub returns-clause-entries : goal.returns-clause-entries
returns-clause-entries c = order_has_entries

pub returns-clause-grows : goal.returns-clause-grows
returns-clause-grows c = order_grows_on

pub returns-clause-plain : goal.returns-clause-plain
returns-clause-plain c = plain_ordered
