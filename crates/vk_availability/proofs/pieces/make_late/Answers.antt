use Rattle.std.proofs.Common.{◌≡◌, length, ap, ◌∙◌, arith}
use Rattle.vk_memory.specs.MemoryState.{MemoryState, region_of}
use Rattle.vk_resources.specs.Held.{placed}
use Rattle.vk_lag.specs.Lags.{late_at}
use Rattle.vk_availability.proofs.Behind.{becomes_behind, spot_here, late_there}
use Rattle.vk_availability.proofs.pieces.make_late.Goals as goal

pub make_late_in-requires-clause-room : goal.make_late_in-requires-clause-room
make_late_in-requires-clause-room c = λ k among.
    let inside = c.requires.inside k among in
    let room = c.requires.room in
    omega (arith, inside, room)

pub make_late_in-requires-clause-inside : goal.make_late_in-requires-clause-inside
make_late_in-requires-clause-inside c = λ k among.
    let inside = c.requires.inside k among in
    let room = c.in-Some.ensures.inside.room in
    let spot = spot_here (placed c.args.resources.now c.args.written.resource) c.in-Some.spot c.requires.place c.in-Some.ensures.there c.requires.here in
    let size : c.in-Some.spot.size ≡ c.requires.place.size = ap (λ z. z.size) spot in
    let long : length c.region-region.result.now ≡ length (region_of c.args.resources.now.memory c.in-Some.spot.memory) = ap length (c.region-region.ensures ∙ ap (λ (m : MemoryState). region_of m c.in-Some.spot.memory) c.memories.ensures) in
    omega (arith, inside, room, size, long)

pub returns-clause-bytes : goal.returns-clause-bytes
returns-clause-bytes c = λ p here id k.
    c.make_late_in.ensures.bytes id k
    ∙ late_there c.args.resources.now.memory c.region-region.result.now c.in-Some.spot (placed c.args.resources.now c.args.written.resource) p (c.region-region.ensures ∙ ap (λ (m : MemoryState). region_of m c.in-Some.spot.memory) c.memories.ensures) c.in-Some.ensures.there here
    c.args.written.resource c.args.written.left c.args.writer id k (late_at c.args.lags.now id k)

pub returns-clause-behind : goal.returns-clause-behind
returns-clause-behind c = becomes_behind c.args.resources.now c.args.lags.now c.make_late_in.new.lags c.args.written c.args.writer c.requires.place c.requires.here
    (λ id k.
    c.make_late_in.ensures.bytes id k
    ∙ late_there c.args.resources.now.memory c.region-region.result.now c.in-Some.spot (placed c.args.resources.now c.args.written.resource) c.requires.place (c.region-region.ensures ∙ ap (λ (m : MemoryState). region_of m c.in-Some.spot.memory) c.memories.ensures)
    c.in-Some.ensures.there c.requires.here c.args.written.resource c.args.written.left c.args.writer id k (late_at c.args.lags.now id k))
