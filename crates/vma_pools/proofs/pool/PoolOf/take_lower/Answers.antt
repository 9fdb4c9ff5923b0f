use Rattle.std.proofs.Common.{List, length, ◌≡◌, ◌∙◌, ◌+◌, ◌≤◌, ap, arith, refl, sym, subst}
use Rattle.std.proofs.lemmas.List.{with_items_is}
use Rattle.vk_model.specs.declared.resource.PoolKind.TheVariants as algorithm
use Rattle.vk_model.specs.Memory.Suballocation.{Request}
use Rattle.vk_model.specs.Memory.MoveTargets.{BlockStart}
use Rattle.vma_pools.specs.declared.blocks.Held.{Held}
use Rattle.vma_pools.specs.Pools.{Kept, HasNoTarget}
use Rattle.vma_pools.specs.Exhausted.{IsExhausted}
use Rattle.vma_pools.specs.Inner.Kinds.{IsKeptPool}
use Rattle.vma_pools.specs.Inner.Walk.{kept_of}
use Rattle.vma_pools.proofs.KindLemmas.{stays-taken}
use Rattle.vma_pools.proofs.TargetLemmas.{kept-same, lower-takes, no-target, takes-target}
use Rattle.vma_pools.proofs.pool.PoolOf.take_lower.Goals as goal

pub returns-in-None-clause-ok : goal.returns-in-None-clause-ok
returns-in-None-clause-ok g c =
    let f = c.self.inside in let block = g.B.PoolBlock.block in let old = c.deref_mut.result.now in let new = c.take_below.new.blocks in
    let from : BlockStart = record { block = c.args.from.block; start = c.args.from.start } in let r : Request = record { size = c.args.bytes; align = c.args.align; kind = c.args.kind } in
    let same : length new ≡ f.blocks.len = c.take_below.auto.blocks ∙ c.deref_mut.ensures.len in
    let h = subst (λ (l : List (Held g.row.B.Denot)). IsKeptPool (kept_of block f.info l f.next).pool) (sym c.deref_mut.ensures.value) c.self.invariant in
    let kind = subst (λ (k : Kept). k.pool.info.kind ≡ algorithm.Tlsf) (sym c.self.view_is) c.requires.general in
    let room = subst (λ (k : Kept). c.args.from.start + c.args.bytes ≤ k.pool.info.block_size) (sym c.self.view_is) c.requires.inside in
    let inside : c.args.from.start ≤ f.info.block_size = omega (arith, room) in
    let view = ap (λ (l : List (Held g.row.B.Denot)). kept_of block f.info l f.next) c.deref_mut.ensures.value ∙ c.self.view_is in
    let ok = rw c.in-None.is at c.in_ok-lower.ensures.ok in
    let none = no-target block f.info old new new f.next h kind from r inside ok.0 in (
      subst (λ (k : Kept). HasNoTarget k.pool from r) view none,
      ap (λ (l : List (Held g.row.B.Denot)). kept_of block f.info l f.next) (with_items_is f.blocks new same) ∙ kept-same block f.info old new f.next ok.1 c.take_below.ensures.objects ∙ view,
    )

pub invariant_of-self-2 : goal.invariant_of-self-2
invariant_of-self-2 g c =
    let f = c.self.inside in let block = g.B.PoolBlock.block in let old = c.deref_mut.result.now in let new = c.take_below.new.blocks in
    let from : BlockStart = record { block = c.args.from.block; start = c.args.from.start } in let r : Request = record { size = c.args.bytes; align = c.args.align; kind = c.args.kind } in
    let same : length new ≡ f.blocks.len = c.take_below.auto.blocks ∙ c.deref_mut.ensures.len in
    let h = subst (λ (l : List (Held g.row.B.Denot)). IsKeptPool (kept_of block f.info l f.next).pool) (sym c.deref_mut.ensures.value) c.self.invariant in
    let kind = subst (λ (k : Kept). k.pool.info.kind ≡ algorithm.Tlsf) (sym c.self.view_is) c.requires.general in
    let room = subst (λ (k : Kept). c.args.from.start + c.args.bytes ≤ k.pool.info.block_size) (sym c.self.view_is) c.requires.inside in
    let inside : c.args.from.start ≤ f.info.block_size = omega (arith, room) in
    let ok = rw c.in-Some.is at c.in_ok-lower.ensures.ok in
    let t = lower-takes block f.info old new _ f.next h kind from r inside c.in-Some.lower.0 c.in-Some.lower.1 ok (with_items_is f.blocks new same) c.take_below.ensures.objects _ refl c.index.result.now c.index.ensures in
    stays-taken _ _ _ _ _ c.requires.request.some h t.given t.pool

pub returns-clause-ok : goal.returns-clause-ok
returns-clause-ok g c =
    let f = c.self.inside in let block = g.B.PoolBlock.block in let old = c.deref_mut.result.now in let new = c.take_below.new.blocks in
    let from : BlockStart = record { block = c.args.from.block; start = c.args.from.start } in let r : Request = record { size = c.args.bytes; align = c.args.align; kind = c.args.kind } in
    let same : length new ≡ f.blocks.len = c.take_below.auto.blocks ∙ c.deref_mut.ensures.len in
    let h = subst (λ (l : List (Held g.row.B.Denot)). IsKeptPool (kept_of block f.info l f.next).pool) (sym c.deref_mut.ensures.value) c.self.invariant in
    let kind = subst (λ (k : Kept). k.pool.info.kind ≡ algorithm.Tlsf) (sym c.self.view_is) c.requires.general in
    let room = subst (λ (k : Kept). c.args.from.start + c.args.bytes ≤ k.pool.info.block_size) (sym c.self.view_is) c.requires.inside in
    let inside : c.args.from.start ≤ f.info.block_size = omega (arith, room) in
    let view = ap (λ (l : List (Held g.row.B.Denot)). kept_of block f.info l f.next) c.deref_mut.ensures.value ∙ c.self.view_is in
    let ok = rw c.in-Some.is at c.in_ok-lower.ensures.ok in
    takes-target block f.info old new _ f.next h kind from r inside c.in-Some.lower.0 c.in-Some.lower.1 ok (with_items_is f.blocks new same) c.take_below.ensures.objects _ view c.index.result.now c.index.ensures

pub take_below-requires-clause-low : goal.take_below-requires-clause-low
take_below-requires-clause-low g c =
    let f = c.self.inside in let block = g.B.PoolBlock.block in
    let low : BlockStart = record { block = c.args.low.block; start = c.args.low.start } in let r : Request = record { size = c.args.bytes; align = c.args.align; kind = c.args.kind } in
    subst (λ (l : List (Held g.row.B.Denot)). IsExhausted (kept_of block f.info l f.next).pool low r) (sym c.deref_mut.ensures.value) (subst (λ (k : Kept). IsExhausted k.pool low r) (sym c.self.view_is) c.requires.low)
