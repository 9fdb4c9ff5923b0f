use Rattle.vk_model.proofs.Sync.Paths.{transitive, leads_on}
use Rattle.vk_model.proofs.laws.before_is_order.Goals as goal

pub returns-clause-transitive : goal.returns-clause-transitive
returns-clause-transitive c = transitive

pub returns-clause-forward : goal.returns-clause-forward
returns-clause-forward c = leads_on
