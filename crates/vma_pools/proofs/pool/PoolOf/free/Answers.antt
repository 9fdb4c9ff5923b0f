use Rattle.std.proofs.Common.{List, length, ◌≡◌, ◌<◌, refl, sym, subst, get_or}
use Rattle.vk_model.specs.Memory.Suballocation.{IsTakenAt}
use Rattle.vk_model.specs.Memory.MoveTargets.{BlockStart}
use Rattle.vk_model.specs.Memory.Pools.{block_taken}
use Rattle.vma_pools.specs.declared.blocks.Held.{Held}
use Rattle.vma_pools.specs.Pools.{Kept, HasTaken}
use Rattle.vma_pools.proofs.KindLemmas.{stays-freed}
use Rattle.vma_pools.proofs.FreeLemmas.{held-rise, any-number, taken-there, kept-freed, kept-objects, kept-blocks, gone-freed, gone-loses, gone-blocks}
use Rattle.vma_pools.proofs.pool.PoolOf.free.Goals as goal

pub index_of-index-requires-clause-rising : goal.index_of-index-requires-clause-rising
index_of-index-requires-clause-rising g c = rw c.deref.ensures.value (held-rise g.B.PoolBlock.block c.self.inside.blocks.items c.self.invariant.pool.rising)

pub index_of-index-requires-clause-there : goal.index_of-index-requires-clause-there
index_of-index-requires-clause-there g c =
    let s : BlockStart = record { block = c.args.place.block; start = c.args.place.start } in
    rw c.deref.ensures.value (any-number g.B.PoolBlock.block c.self.inside.blocks.items s (subst (λ (k : Kept). HasTaken k.pool s) (sym c.self.view_is) c.requires))

pub free-requires : goal.free-requires
free-requires g c =
    let f = c.self.inside in let x = c.index_mut-held.result.now in let s : BlockStart = record { block = c.args.place.block; start = c.args.place.start } in let block = g.B.PoolBlock.block in
    let lt : c.index_of-index.result < length f.blocks.items = subst (λ (l : List (Held g.row.B.Denot)). c.index_of-index.result < length l) c.deref.ensures.value c.index_of-index.ensures.within in
    let number = subst (λ (l : List (Held g.row.B.Denot)). (get_or l c.index_of-index.result x).number ≡ c.args.place.block) c.deref.ensures.value (c.index_of-index.ensures.found x) in
    subst (λ (y : Held g.row.B.Denot). IsTakenAt s.start (block_taken (block y.block))) (sym c.index_mut-held.ensures.value)
    (taken-there block f.blocks.items s c.index_of-index.result x (held-rise block f.blocks.items c.self.invariant.pool.rising) lt number (subst (λ (k : Kept). HasTaken k.pool s) (sym c.self.view_is) c.requires))

pub invariant_of-self : goal.invariant_of-self
invariant_of-self g c =
    let f = c.self.inside in let x = c.index_mut-held.result.now in let s : BlockStart = record { block = c.args.place.block; start = c.args.place.start } in
    let lt : c.index_of-index.result < length f.blocks.items = subst (λ (l : List (Held g.row.B.Denot)). c.index_of-index.result < length l) c.deref.ensures.value c.index_of-index.ensures.within in
    let number = subst (λ (l : List (Held g.row.B.Denot)). (get_or l c.index_of-index.result x).number ≡ c.args.place.block) c.deref.ensures.value (c.index_of-index.ensures.found x) in
    stays-freed _ _ s c.self.invariant
    (kept-freed g.B.PoolBlock.block f.info f.blocks.items f.next c.self.invariant.pool _ refl c.index_of-index.result x c.index_mut-held.ensures.value lt s number c.free.new.self c.free.ensures c.if-not-is_empty.ensures)

pub returns-then-not-is_empty-clause-pool : goal.returns-then-not-is_empty-clause-pool
returns-then-not-is_empty-clause-pool g c =
    let f = c.self.inside in let x = c.index_mut-held.result.now in let s : BlockStart = record { block = c.args.place.block; start = c.args.place.start } in
    let lt : c.index_of-index.result < length f.blocks.items = subst (λ (l : List (Held g.row.B.Denot)). c.index_of-index.result < length l) c.deref.ensures.value c.index_of-index.ensures.within in
    let number = subst (λ (l : List (Held g.row.B.Denot)). (get_or l c.index_of-index.result x).number ≡ c.args.place.block) c.deref.ensures.value (c.index_of-index.ensures.found x) in
    kept-freed g.B.PoolBlock.block f.info f.blocks.items f.next c.self.invariant.pool _ c.self.view_is c.index_of-index.result x c.index_mut-held.ensures.value lt s number c.free.new.self c.free.ensures c.if-not-is_empty.ensures

pub returns-then-not-is_empty-clause-kept : goal.returns-then-not-is_empty-clause-kept
returns-then-not-is_empty-clause-kept g c =
    let f = c.self.inside in let x = c.index_mut-held.result.now in let s : BlockStart = record { block = c.args.place.block; start = c.args.place.start } in
    let lt : c.index_of-index.result < length f.blocks.items = subst (λ (l : List (Held g.row.B.Denot)). c.index_of-index.result < length l) c.deref.ensures.value c.index_of-index.ensures.within in
    let number = subst (λ (l : List (Held g.row.B.Denot)). (get_or l c.index_of-index.result x).number ≡ c.args.place.block) c.deref.ensures.value (c.index_of-index.ensures.found x) in
    kept-objects g.B.PoolBlock.block f.info f.blocks.items f.next c.self.invariant.pool _ c.self.view_is c.index_of-index.result x c.index_mut-held.ensures.value lt s number c.free.new.self c.free.ensures c.if-not-is_empty.ensures

pub returns-then-not-is_empty-clause-blocks : goal.returns-then-not-is_empty-clause-blocks
returns-then-not-is_empty-clause-blocks g c =
    let f = c.self.inside in let x = c.index_mut-held.result.now in let s : BlockStart = record { block = c.args.place.block; start = c.args.place.start } in
    let lt : c.index_of-index.result < length f.blocks.items = subst (λ (l : List (Held g.row.B.Denot)). c.index_of-index.result < length l) c.deref.ensures.value c.index_of-index.ensures.within in
    let number = subst (λ (l : List (Held g.row.B.Denot)). (get_or l c.index_of-index.result x).number ≡ c.args.place.block) c.deref.ensures.value (c.index_of-index.ensures.found x) in
    kept-blocks g.B.PoolBlock.block f.info f.blocks.items f.next c.self.invariant.pool _ c.self.view_is c.index_of-index.result x c.index_mut-held.ensures.value lt s number c.free.new.self c.free.ensures c.if-not-is_empty.ensures

pub invariant_of-self-2 : goal.invariant_of-self-2
invariant_of-self-2 g c =
    let f = c.self.inside in let x = c.index_mut-held.result.now in let s : BlockStart = record { block = c.args.place.block; start = c.args.place.start } in
    let lt : c.index_of-index.result < length f.blocks.items = subst (λ (l : List (Held g.row.B.Denot)). c.index_of-index.result < length l) c.deref.ensures.value c.index_of-index.ensures.within in
    let number = subst (λ (l : List (Held g.row.B.Denot)). (get_or l c.index_of-index.result x).number ≡ c.args.place.block) c.deref.ensures.value (c.index_of-index.ensures.found x) in
    stays-freed _ _ s c.self.invariant
    (gone-freed g.B.PoolBlock.block f.info f.blocks.items f.next c.self.invariant.pool _ refl c.index_of-index.result x c.index_mut-held.ensures.value lt s number c.free.new.self c.free.ensures c.if-not-is_empty.ensures c.remove-gone.new.self.items c.remove-gone.ensures.by_index.2)

pub returns-clause-pool : goal.returns-clause-pool
returns-clause-pool g c =
    let f = c.self.inside in let x = c.index_mut-held.result.now in let s : BlockStart = record { block = c.args.place.block; start = c.args.place.start } in
    let lt : c.index_of-index.result < length f.blocks.items = subst (λ (l : List (Held g.row.B.Denot)). c.index_of-index.result < length l) c.deref.ensures.value c.index_of-index.ensures.within in
    let number = subst (λ (l : List (Held g.row.B.Denot)). (get_or l c.index_of-index.result x).number ≡ c.args.place.block) c.deref.ensures.value (c.index_of-index.ensures.found x) in
    gone-freed g.B.PoolBlock.block f.info f.blocks.items f.next c.self.invariant.pool _ c.self.view_is c.index_of-index.result x c.index_mut-held.ensures.value lt s number c.free.new.self c.free.ensures c.if-not-is_empty.ensures c.remove-gone.new.self.items c.remove-gone.ensures.by_index.2

pub returns-clause-gone : goal.returns-clause-gone
returns-clause-gone g c =
    let f = c.self.inside in let x = c.index_mut-held.result.now in let s : BlockStart = record { block = c.args.place.block; start = c.args.place.start } in
    let lt : c.index_of-index.result < length f.blocks.items = subst (λ (l : List (Held g.row.B.Denot)). c.index_of-index.result < length l) c.deref.ensures.value c.index_of-index.ensures.within in
    let number = subst (λ (l : List (Held g.row.B.Denot)). (get_or l c.index_of-index.result x).number ≡ c.args.place.block) c.deref.ensures.value (c.index_of-index.ensures.found x) in
    gone-loses g.B.PoolBlock.block f.info f.blocks.items f.next c.self.invariant.pool _ c.self.view_is c.index_of-index.result x c.index_mut-held.ensures.value lt s number c.free.new.self c.free.ensures c.if-not-is_empty.ensures c.remove-gone.new.self.items c.remove-gone.ensures.by_index.2 c.remove-gone.result c.remove-gone.ensures.value

pub returns-clause-blocks : goal.returns-clause-blocks
returns-clause-blocks g c =
    let f = c.self.inside in let x = c.index_mut-held.result.now in let s : BlockStart = record { block = c.args.place.block; start = c.args.place.start } in
    let lt : c.index_of-index.result < length f.blocks.items = subst (λ (l : List (Held g.row.B.Denot)). c.index_of-index.result < length l) c.deref.ensures.value c.index_of-index.ensures.within in
    let number = subst (λ (l : List (Held g.row.B.Denot)). (get_or l c.index_of-index.result x).number ≡ c.args.place.block) c.deref.ensures.value (c.index_of-index.ensures.found x) in
    gone-blocks g.B.PoolBlock.block f.info f.blocks.items f.next c.self.invariant.pool _ c.self.view_is c.index_of-index.result x c.index_mut-held.ensures.value lt s number c.free.new.self c.free.ensures c.if-not-is_empty.ensures c.remove-gone.new.self.items c.remove-gone.ensures.by_index.2 c.remove-gone.result c.remove-gone.ensures.value
