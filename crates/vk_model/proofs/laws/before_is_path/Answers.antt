use Rattle.vk_model.proofs.Sync.Paths.{before_path}
use Rattle.vk_model.proofs.laws.before_is_path.Goals as goal

pub returns : goal.returns
returns c = before_path
