use Rattle.std.proofs.Common.{◌<◌, ◌^◌, ℕ, Some, take}
use Rattle.std.specs.List.{flat_map}
use Rattle.vk_model.specs.World.Bytes.{in_buffer}
use Rattle.vk_model.specs.World.ByteWrites.{copy_in_writes}
use Rattle.vk_image_bytes.specs.Copies.{AreInside}
use Rattle.vk_image_bytes.specs.Numbers.{byte_count, byte_of}
use Rattle.vk_image_bytes.proofs.Gathering.{HaveGathered}
use Rattle.vk_image_bytes.proofs.image_bytes.ImageBytes.copies_in.Given as goal

abbrev pub invariant-loop-region : goal.invariant-loop-region
invariant-loop-region l =
    (b i size : ℕ) → size < 2 ^ 64 → AreInside l.self size l.regions → HaveGathered l.copies (in_buffer b) (byte_of l.self i) size (byte_count l.self) (flat_map (copy_in_writes b i (Some l.self)) (take l.region-index l.regions))
