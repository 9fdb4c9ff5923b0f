use Rattle.std.proofs.Common.{ℕ, Some, take}
use Rattle.std.specs.List.{flat_map}
use Rattle.vk_model.specs.World.ByteWrites.{copy_image_writes}
use Rattle.vk_image_bytes.specs.Copies.{AreBetween}
use Rattle.vk_image_bytes.specs.Numbers.{byte_count, byte_of}
use Rattle.vk_image_bytes.proofs.Gathering.{HaveGathered}
use Rattle.vk_image_bytes.proofs.image_bytes.ImageBytes.copies_from.Given as goal

abbrev pub invariant-loop-region : goal.invariant-loop-region
invariant-loop-region l =
    (s d : ℕ) → AreBetween l.source l.self l.regions → HaveGathered l.copies (byte_of l.source s) (byte_of l.self d) (byte_count l.source) (byte_count l.self) (flat_map (copy_image_writes s d (Some l.self)) (take l.region-index l.regions))
