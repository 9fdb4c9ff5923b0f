use Rattle.vk_row_text.proofs.NamesApart.{names_apart}
use Rattle.vk_row_text.proofs.laws.names_differ.Goals as goal

pub returns : goal.returns
returns c = names_apart
