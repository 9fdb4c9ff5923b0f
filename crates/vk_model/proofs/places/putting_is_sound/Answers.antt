use Rattle.vk_model.proofs.Memory.Taken.{putting_is_sound}
use Rattle.vk_model.proofs.places.putting_is_sound.Goals as goal

pub returns : goal.returns
returns c = putting_is_sound
