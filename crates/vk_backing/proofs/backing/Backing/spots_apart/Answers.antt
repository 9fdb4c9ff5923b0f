use Rattle.vk_backing.proofs.Spots.{are_spots}
use Rattle.vk_backing.proofs.backing.Backing.spots_apart.Goals as goal

pub returns : goal.returns
returns c = are_spots c.args.self.now c.args.memories.now c.requires
