use Rattle.std.proofs.Common.{List, length, subst}
use Rattle.vk_model.specs.Memory.Suballocation.{Request}
use Rattle.vk_model.specs.Memory.MoveTargets.{BlockStart}
use Rattle.vma_pools.specs.declared.blocks.Held.{Held}
use Rattle.vma_pools.specs.Pools.{Kept, HasNoTarget, HasTarget}
use Rattle.vma_pools.specs.Inner.Walk.{seen}
use Rattle.vma_pools.specs.Inner.Lower.{IsLowest, NoneLower}
use Rattle.vma_pools.proofs.TargetLemmas.{none-seen, target-seen}
use Rattle.vma_pools.proofs.pool.PoolOf.lower_place.Goals as goal

pub returns-in-None : goal.returns-in-None
returns-in-None g c =
    let f = c.self.inside in let block = g.B.PoolBlock.block in
    let from : BlockStart = record { block = c.args.from.block; start = c.args.from.start } in let r : Request = record { size = c.args.bytes; align = c.args.align; kind = c.args.kind } in
    let none = subst (λ (l : List (Held g.row.B.Denot)). NoneLower (seen block l) from r (length l)) c.deref.ensures.value (rw c.in-None.is at c.place_below.ensures) in
    subst (λ (k : Kept). HasNoTarget k.pool from r) c.self.view_is (none-seen block f.info f.blocks.items f.next from r none)

pub returns : goal.returns
returns g c =
    let f = c.self.inside in let block = g.B.PoolBlock.block in let lower = c.in-Some.lower in
    let from : BlockStart = record { block = c.args.from.block; start = c.args.from.start } in let r : Request = record { size = c.args.bytes; align = c.args.align; kind = c.args.kind } in
    let lowest = subst (λ (l : List (Held g.row.B.Denot)). IsLowest (seen block l) from r lower.0 lower.1) c.deref.ensures.value (rw c.in-Some.is at c.place_below.ensures) in
    subst (λ (k : Kept). HasTarget k.pool from r (record { block = c.index.result.now.number; start = lower.1 })) c.self.view_is
    (target-seen block f.info f.blocks.items f.next from r lower.0 lower.1 lowest c.index.result.now c.index.ensures)
