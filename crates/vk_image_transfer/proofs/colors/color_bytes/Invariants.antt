use Rattle.std.proofs.Common.{◌≡◌, ℕ, ◌%◌, ◌<◌, length, slice_index}
use Rattle.vk_model.specs.Trace.Image.{texel}
use Rattle.vk_model.specs.World.ByteWrites.{color_byte}
use Rattle.vk_image_transfer.proofs.colors.color_bytes.Given as goal

abbrev pub invariant-loop-index : goal.invariant-loop-index
invariant-loop-index l = record {
  long : length l.bytes ≡ 64;
  so_far : (k : ℕ) → k < l.index → slice_index l.bytes k ≡ color_byte l.image l.color (k % texel l.image.format);
}
