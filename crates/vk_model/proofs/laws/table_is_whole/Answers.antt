use Rattle.vk_model.proofs.Rules.Table.{has_one_place}
use Rattle.vk_model.proofs.laws.table_is_whole.Goals as goal

pub returns : goal.returns
returns c = has_one_place
