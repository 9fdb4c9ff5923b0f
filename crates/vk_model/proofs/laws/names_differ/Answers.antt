use Rattle.vk_model.proofs.Rules.Table.{names_apart}
use Rattle.vk_model.proofs.laws.names_differ.Goals as goal

pub returns : goal.returns
returns c = names_apart
