use Rattle.std.proofs.Common.{◌≡◌, ℕ, ◌-◌, ◌*◌, true, false, arith}
use Rattle.std.specs.Prelude.{min}
use Rattle.vma_defrag.specs.Inner.Planned.{move_of}
use Rattle.vma_defrag.proofs.Copying.{part_inside}
use Rattle.vma_defrag.proofs.Spots.{both_spots, from_holds, to_holds, from_size, to_size, holds_live, holds_room, holds_small}
use Rattle.vma_defrag.proofs.parts.copy_bytes.Goals as goal

part_is : (bytes number size : ℕ) → size ≡ min 4096 (bytes - number * 4096) → size ≡ min 4096 (bytes - 4096 * number)
part_is bytes number size is = omega (arith, is)

pub overflow_add-from : goal.overflow_add-from
overflow_add-from g c =
    let s = c.args.pools.now in let m = move_of c.args.one in let from = c.place-from.result in let to = c.target-to.result in
    let between = both_spots s c.args.one.allocation from to c.place-from.ensures c.target-to.ensures in
    let held = from_holds s c.are_pools.ensures c.requires.planned.0 m c.requires.planned.1 from to between in
    let same = from_size s c.are_pools.ensures c.requires.planned.0 m c.requires.planned.1 from to between in
    let small = holds_small s c.are_pools.ensures c.args.memories.now c.requires.backs c.requires.matched m.id false from held in
    omega (arith, small, same, c.requires.some)

pub overflow_add-to : goal.overflow_add-to
overflow_add-to g c =
    let s = c.args.pools.now in let m = move_of c.args.one in let from = c.place-from.result in let to = c.target-to.result in
    let between = both_spots s c.args.one.allocation from to c.place-from.ensures c.target-to.ensures in
    let held = to_holds s c.are_pools.ensures c.requires.planned.0 m c.requires.planned.1 from to between in
    let same = to_size s c.are_pools.ensures c.requires.planned.0 m c.requires.planned.1 from to between in
    let small = holds_small s c.are_pools.ensures c.args.memories.now c.requires.backs c.requires.matched m.id true to held in
    omega (arith, small, same, c.requires.some)

pub copy-requires-clause-source : goal.copy-requires-clause-source
copy-requires-clause-source g c =
    let s = c.args.pools.now in let m = move_of c.args.one in let from = c.place-from.result in let to = c.target-to.result in
    let between = both_spots s c.args.one.allocation from to c.place-from.ensures c.target-to.ensures in
    let held = from_holds s c.are_pools.ensures c.requires.planned.0 m c.requires.planned.1 from to between in
    let same = from_size s c.are_pools.ensures c.requires.planned.0 m c.requires.planned.1 from to between in
    let live = holds_live s c.are_pools.ensures c.args.memories.now c.requires.backs c.requires.matched m.id false from held in
    let room = holds_room s c.are_pools.ensures c.args.memories.now c.requires.backs c.requires.matched m.id false from held in
    let inside = part_inside m.bytes c.args.number c.min-size.result c.requires.some (part_is m.bytes c.args.number c.min-size.result c.min-size.ensures) in
    (live, omega (arith, room, same, inside))

pub copy-requires-clause-destination : goal.copy-requires-clause-destination
copy-requires-clause-destination g c =
    let s = c.args.pools.now in let m = move_of c.args.one in let from = c.place-from.result in let to = c.target-to.result in
    let between = both_spots s c.args.one.allocation from to c.place-from.ensures c.target-to.ensures in
    let held = to_holds s c.are_pools.ensures c.requires.planned.0 m c.requires.planned.1 from to between in
    let same = to_size s c.are_pools.ensures c.requires.planned.0 m c.requires.planned.1 from to between in
    let live = holds_live s c.are_pools.ensures c.args.memories.now c.requires.backs c.requires.matched m.id true to held in
    let room = holds_room s c.are_pools.ensures c.args.memories.now c.requires.backs c.requires.matched m.id true to held in
    let inside = part_inside m.bytes c.args.number c.min-size.result c.requires.some (part_is m.bytes c.args.number c.min-size.result c.min-size.ensures) in
    (live, omega (arith, room, same, inside))
