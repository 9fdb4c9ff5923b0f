use Rattle.std.proofs.Common.{Err, ◌≡◌, ap, sym, subst, length, nat_le, true}
use Rattle.vk_model.specs.declared.suballoc.SubFault.{SubFault}
use Rattle.vk_memory.specs.MemoryState.{IsFull}
use Rattle.vma_pools.specs.Pools.{Kept}
use Rattle.vma_pools.proofs.RoomLemmas.{at-limit, heap-full, has-room}
use Rattle.vma_pools.proofs.pool.PoolOf.allocate.Goals as goal

pub returns-then-is_at_limit-clause-no_room : goal.returns-then-is_at_limit-clause-no_room
returns-then-is_at_limit-clause-no_room g c is =
    let none = c.in-Err-NoRoom.ensures.no_room (ap (λ (f : SubFault). Err f) c.in-Err-NoRoom.field-0-is) in
    let limit = subst (λ (k : Kept). nat_le k.pool.info.block_limit (length k.pool.blocks) ≡ true) c.in-Err-NoRoom.ensures.err (sym c.if-is_at_limit.ensures) in
    at-limit c.args.self.now.pool c.args.memories.now _ c.args.upper none limit

pub returns-in-Ok-clause-room : goal.returns-in-Ok-clause-room
returns-in-Ok-clause-room g c ok none =
    let t = c.in-Ok.ensures.ok in has-room c.args.self.now.pool c.args.memories.now _ c.args.upper c.blocks_give.ensures _ t.given t.has none

pub returns-else-is_at_limit-clause-no_room : goal.returns-else-is_at_limit-clause-no_room
returns-else-is_at_limit-clause-no_room g c is =
    let none = c.in-Err-NoRoom.ensures.no_room (ap (λ (f : SubFault). Err f) c.in-Err-NoRoom.field-0-is) in
    let full = subst (λ (k : Kept). IsFull c.args.memories.now k.pool.info.memory_type k.pool.info.block_size) c.in-Err-NoRoom.ensures.err (c.take_new.ensures.full is) in
    heap-full c.args.self.now.pool c.args.memories.now _ c.args.upper none full
