use Rattle.vk_model.proofs.Memory.Taken.{taking_away_is_sound}
use Rattle.vk_model.proofs.places.taking_away_is_sound.Goals as goal

pub returns : goal.returns
returns c = taking_away_is_sound
