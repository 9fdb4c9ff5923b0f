use Rattle.vk_cache_laws.proofs.InPlaceSteps.{nodes_told, touch_told}
use Rattle.vk_cache_laws.proofs.in_place.caches_work_in_place.Goals as goal

pub returns-clause-nodes : goal.returns-clause-nodes
returns-clause-nodes c = λ s e m lag cells told. nodes_told s e m lag cells told

pub returns-clause-touches : goal.returns-clause-touches
returns-clause-touches c = λ m lag cells touch queue test told. touch_told m lag cells touch queue test told
