use Rattle.std.proofs.Common.{List, [], ◌∷◌, ◌++◌, ◌∙◌, All, Result, Ok, Err, ap, sym, subst}
use Rattle.vk_memory.specs.declared.memories.MemoryError.{MemoryError}
use Rattle.vk_memory.specs.declared.memories.MemoryError.TheVariants as fault
use Rattle.std.proofs.lemmas.Result.{err_from_is_err_and}
use Rattle.vk_model.specs.Memory.Room.{BlockHolds}
use Rattle.vk_memory.specs.MemoryState.{IsFull}
use Rattle.vma_pools.specs.declared.blocks.Held.{Held}
use Rattle.vma_pools.specs.Pools.{Kept}
use Rattle.vma_pools.proofs.KindLemmas.{stays-taken}
use Rattle.vma_pools.proofs.PoolLemmas.{gives-there, new-is, takes-new}
use Rattle.vma_pools.proofs.pool.PoolOf.take_new.Goals as goal

abbrev error_of : {T E : Type 0} → E → Result T E → E
error_of d (Ok x) = d
error_of d (Err e) = e

pub returns-in_err-memory-clause-full : goal.returns-in_err-memory-clause-full
returns-in_err-memory-clause-full g c is =
    let p = err_from_is_err_and c.from_residual-in_err-memory.result c.from_residual-in_err-memory.ensures.1 in
    subst (λ (k : Kept). IsFull c.args.memories.now k.pool.info.memory_type k.pool.info.block_size) c.self.view_is
    (c.in_err-memory.ensures.full (ap (λ (e : MemoryError). Err e) (sym p.2 ∙ ap (error_of fault.NoRoom) (sym p.1 ∙ is))))

pub invariant_of-self-2 : goal.invariant_of-self-2
invariant_of-self-2 g c =
    let f = c.self.inside in let block = g.B.PoolBlock.block in
    let held : Held g.row.B.Denot = record { number = f.next; memory = c.in_ok-memory.memory; block = c.in_ok-fresh.fresh.block } in
    let is = c.push_reserved.ensures.items ∙ ap (λ (l : List (Held g.row.B.Denot)). l ++ held ∷ []) c.reserve.ensures.items in
    let none = subst (λ (k : Kept). All (λ b. BlockHolds b.block (record { size = c.args.bytes; align = c.args.align; kind = c.args.kind }) c.args.upper → ⊥) k.pool.blocks) (sym c.self.view_is) c.requires.none in
    stays-taken _ _ _ _ _ c.requires.request.some c.self.invariant
    (gives-there block f.info f.blocks.items c.push_reserved.new.self.items f.next held.memory held.block _ _ _ none c.in_ok-fresh.ensures.gives c.in_ok-fresh.ensures.taken is)
    (new-is block f.info f.blocks.items c.push_reserved.new.self.items f.next held.memory held.block _ _ _ none c.in_ok-fresh.ensures.gives c.in_ok-fresh.ensures.taken is)

pub returns-clause-ok : goal.returns-clause-ok
returns-clause-ok g c =
    let f = c.self.inside in let block = g.B.PoolBlock.block in
    let held : Held g.row.B.Denot = record { number = f.next; memory = c.in_ok-memory.memory; block = c.in_ok-fresh.fresh.block } in
    let is = c.push_reserved.ensures.items ∙ ap (λ (l : List (Held g.row.B.Denot)). l ++ held ∷ []) c.reserve.ensures.items in
    let none = subst (λ (k : Kept). All (λ b. BlockHolds b.block (record { size = c.args.bytes; align = c.args.align; kind = c.args.kind }) c.args.upper → ⊥) k.pool.blocks) (sym c.self.view_is) c.requires.none in
    takes-new block f.info f.blocks.items c.push_reserved.new.self.items f.next held.memory held.block _ _ _ none c.in_ok-fresh.ensures.gives c.in_ok-fresh.ensures.taken is
    _ c.self.view_is _ _ c.in_ok-memory.ensures.ok.0 c.in_ok-memory.ensures.ok.1

pub returns-clause-room : goal.returns-clause-room
returns-clause-room g c ok = subst (λ (k : Kept). IsFull c.args.memories.now k.pool.info.memory_type k.pool.info.block_size → ⊥) c.self.view_is (c.in_ok-memory.ensures.room ok)
