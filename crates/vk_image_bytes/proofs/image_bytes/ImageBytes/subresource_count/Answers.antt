use Rattle.std.proofs.lemmas.Nat.{mul-le}
use Rattle.vk_image_tiles.proofs.LevelBounds.{counts}
use Rattle.vk_image_bytes.proofs.image_bytes.ImageBytes.subresource_count.Goals as goal

pub returns-clause-within : goal.returns-clause-within
returns-clause-within c =
    let m = c.self.inside.image in
    let few = counts m c.self.invariant.shaped in
    mul-le m.layers m.levels 256 13 few.layers.few few.levels.few
