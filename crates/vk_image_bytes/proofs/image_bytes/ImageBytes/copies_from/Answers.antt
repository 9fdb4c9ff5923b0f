use Rattle.std.proofs.Common.{◌≡◌, length, arith, Some}
use Rattle.std.proofs.lemmas.List.Elements.{Contains-get_or}
use Rattle.vk_model.specs.World.ByteWrites.{copy_image_writes}
use Rattle.vk_image_bytes.specs.Numbers.{byte_count, byte_of}
use Rattle.vk_image_bytes.proofs.Gathering.{next_gathered, all_gathered}
use Rattle.vk_image_bytes.proofs.image_bytes.ImageBytes.copies_from.Goals as goal

pub loop-region-init : goal.loop-region-init
loop-region-init c s d between = record { writes = c.new-copies.ensures.none (byte_of c.args.source.now s) (byte_of c.args.self.now d); within = c.new-copies.ensures.within (byte_count c.args.source.now) (byte_count c.args.self.now) }

pub loop-region-preserved : goal.loop-region-preserved
loop-region-preserved c s d between =
    let n = c.loop-region.region-index in
    next_gathered (byte_of c.args.source.now s) (byte_of c.args.self.now d) (byte_count c.args.source.now) (byte_count c.args.self.now) (copy_image_writes s d (Some c.args.self.now)) c.args.regions.now c.loop-region.copies c.add_from.new.copies n _ c.loop-region-test.true (c.loop-region.invariant s d between)
    (let there = Contains-get_or c.args.regions.now n _ c.loop-region-test.true in c.in_ok-add_from.ensures s d between.texels (between.sources _ there) (between.destinations _ there))

pub returns : goal.returns
returns c s d between =
    let first = c.loop-region.auto.region-index-end in
    let last = c.loop-region-test.false in
    let all : c.loop-region.region-index ≡ length c.args.regions.now = omega (arith, first, last) in
    all_gathered (byte_of c.args.source.now s) (byte_of c.args.self.now d) (byte_count c.args.source.now) (byte_count c.args.self.now) (copy_image_writes s d (Some c.args.self.now)) c.args.regions.now c.loop-region.copies c.loop-region.region-index c.in_ok-list.list.items all (c.loop-region.invariant s d between)
    (c.in_ok-list.ensures.writes (byte_of c.args.source.now s) (byte_of c.args.self.now d)) (c.in_ok-list.ensures.within (byte_count c.args.source.now) (byte_count c.args.self.now))
