use Rattle.vk_row_text.proofs.TellingBatches.{tells}
use Rattle.vk_row_text.proofs.laws.rows_tell_points.Goals as goal

pub returns : goal.returns
returns c = tells
