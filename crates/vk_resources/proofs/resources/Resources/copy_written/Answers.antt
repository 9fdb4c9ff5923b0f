use Rattle.std.proofs.Common.{List, sym, subst, arith}
use Rattle.std.proofs.lemmas.List.Elements.{All-contains}
use Rattle.vk_transfer.specs.Copies.{FitsBuffers, region_piece}
use Rattle.vk_model.specs.World.ByteWrites.{ByteWrite}
use Rattle.vk_resources.specs.Stretches.{HasWrites}
use Rattle.vk_resources.proofs.WrittenBytes.{stretch_has_writes}
use Rattle.vk_resources.proofs.resources.Resources.copy_written.Goals as goal

pub stretch-stretch-requires-clause-end : goal.stretch-stretch-requires-clause-end
stretch-stretch-requires-clause-end c =
    let inside = (All-contains (λ g. FitsBuffers g c.args.source.size c.args.placed.size) c.args.pieces.now c.find-found.result.copy.region c.requires.piece.1 c.find-found.ensures.region).1 in
    omega (arith, inside)

pub one-requires-clause-end : goal.one-requires-clause-end
one-requires-clause-end c =
    let inside = (All-contains (λ g. FitsBuffers g c.args.source.size c.args.placed.size) c.args.pieces.now c.find-found.result.copy.region c.requires.piece.1 c.find-found.ensures.region).1 in
    let to = c.stretch-stretch.ensures.to in
    omega (arith, inside, to)

pub returns : goal.returns
returns c = λ a.
    let to = c.stretch-stretch.ensures.to in
    let inside = (All-contains (λ g. FitsBuffers g c.args.source.size c.args.placed.size) c.args.pieces.now c.find-found.result.copy.region c.requires.piece.1 c.find-found.ensures.region).1 in
    subst (λ (ms : List ByteWrite). HasWrites c.args.self.now ms (record { resource = c.args.destination; left = c.one.result })) (sym (c.find-found.ensures.piece a c.args.destination))
    (stretch_has_writes c.args.self.now c.args.destination c.args.placed c.requires.placed (region_piece a c.args.destination c.find-found.result.copy.region c.find-found.result.number) c.stretch-stretch.result c.one.result c.one.ensures (c.stretch-stretch.ensures.written a c.args.destination) (omega (arith, to, inside)))
