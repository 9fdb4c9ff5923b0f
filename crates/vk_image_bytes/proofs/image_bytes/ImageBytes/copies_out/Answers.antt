use Rattle.std.proofs.Common.{◌≡◌, length, arith, Some}
use Rattle.std.proofs.lemmas.List.Elements.{Contains-get_or}
use Rattle.vk_model.specs.World.Bytes.{in_buffer}
use Rattle.vk_model.specs.World.ByteWrites.{copy_out_writes}
use Rattle.vk_image_bytes.specs.Numbers.{byte_count, byte_of}
use Rattle.vk_image_bytes.proofs.Gathering.{next_gathered, all_gathered}
use Rattle.vk_image_bytes.proofs.image_bytes.ImageBytes.copies_out.Goals as goal

pub loop-region-init : goal.loop-region-init
loop-region-init c b i size small inside = record { writes = c.new-copies.ensures.none (byte_of c.args.self.now i) (in_buffer b); within = c.new-copies.ensures.within (byte_count c.args.self.now) size }

pub loop-region-preserved : goal.loop-region-preserved
loop-region-preserved c b i size small inside =
    let n = c.loop-region.region-index in
    next_gathered (byte_of c.args.self.now i) (in_buffer b) (byte_count c.args.self.now) size (copy_out_writes i b (Some c.args.self.now)) c.args.regions.now c.loop-region.copies c.add_out.new.copies n _ c.loop-region-test.true (c.loop-region.invariant b i size small inside)
    (c.in_ok-add_out.ensures b i size small (inside _ (Contains-get_or c.args.regions.now n _ c.loop-region-test.true)))

pub returns : goal.returns
returns c b i size small inside =
    let first = c.loop-region.auto.region-index-end in
    let last = c.loop-region-test.false in
    let all : c.loop-region.region-index ≡ length c.args.regions.now = omega (arith, first, last) in
    all_gathered (byte_of c.args.self.now i) (in_buffer b) (byte_count c.args.self.now) size (copy_out_writes i b (Some c.args.self.now)) c.args.regions.now c.loop-region.copies c.loop-region.region-index c.in_ok-list.list.items all (c.loop-region.invariant b i size small inside)
    (c.in_ok-list.ensures.writes (byte_of c.args.self.now i) (in_buffer b)) (c.in_ok-list.ensures.within (byte_count c.args.self.now) size)
