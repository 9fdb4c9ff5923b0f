use Rattle.std.proofs.Common.{◌≡◌, length, arith, Some}
use Rattle.std.proofs.lemmas.List.Elements.{Contains-get_or}
use Rattle.vk_model.specs.World.Bytes.{in_buffer}
use Rattle.vk_model.specs.World.ByteWrites.{copy_in_writes}
use Rattle.vk_image_bytes.specs.Numbers.{byte_count, byte_of}
use Rattle.vk_image_bytes.proofs.Gathering.{next_gathered, all_gathered}
use Rattle.vk_image_bytes.proofs.image_bytes.ImageBytes.copies_in.Goals as goal

pub loop-region-init : goal.loop-region-init
loop-region-init c b i size small inside = record { writes = c.new-copies.ensures.none (in_buffer b) (byte_of c.args.self.now i); within = c.new-copies.ensures.within size (byte_count c.args.self.now) }

pub loop-region-preserved : goal.loop-region-preserved
loop-region-preserved c b i size small inside =
    let n = c.loop-region.region-index in
    next_gathered (in_buffer b) (byte_of c.args.self.now i) size (byte_count c.args.self.now) (copy_in_writes b i (Some c.args.self.now)) c.args.regions.now c.loop-region.copies c.add_in.new.copies n _ c.loop-region-test.true (c.loop-region.invariant b i size small inside)
    (c.in_ok-add_in.ensures b i size small (inside _ (Contains-get_or c.args.regions.now n _ c.loop-region-test.true)))

pub returns : goal.returns
returns c b i size small inside =
    let first = c.loop-region.auto.region-index-end in
    let last = c.loop-region-test.false in
    let all : c.loop-region.region-index ≡ length c.args.regions.now = omega (arith, first, last) in
    all_gathered (in_buffer b) (byte_of c.args.self.now i) size (byte_count c.args.self.now) (copy_in_writes b i (Some c.args.self.now)) c.args.regions.now c.loop-region.copies c.loop-region.region-index c.in_ok-list.list.items all (c.loop-region.invariant b i size small inside)
    (c.in_ok-list.ensures.writes (in_buffer b) (byte_of c.args.self.now i)) (c.in_ok-list.ensures.within size (byte_count c.args.self.now))
