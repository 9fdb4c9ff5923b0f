use Rattle.std.proofs.Common.{List, length, ◌≡◌, ◌∙◌, ap, sym, subst, refl}
use Rattle.std.proofs.lemmas.List.{with_items_is}
use Rattle.vma_pools.specs.declared.blocks.Held.{Held}
use Rattle.vma_pools.specs.Inner.Kinds.{IsKeptPool}
use Rattle.vma_pools.specs.Inner.Walk.{kept_of}
use Rattle.vma_pools.proofs.KindLemmas.{stays-taken}
use Rattle.vma_pools.proofs.PoolLemmas.{fit-takes}
use Rattle.vma_pools.proofs.pool.PoolOf.take.Goals as goal

pub invariant_of-self-2 : goal.invariant_of-self-2
invariant_of-self-2 g c =
    let f = c.self.inside in let lent = c.deref_mut.ensures in let block = g.B.PoolBlock.block in
    let same : length c.take_in.new.blocks ≡ f.blocks.len = c.take_in.auto.blocks ∙ lent.len in
    let h = subst (λ (l : List (Held g.row.B.Denot)). IsKeptPool (kept_of block f.info l f.next).pool) (sym lent.value) c.self.invariant in
    let t = fit-takes block f.info c.deref_mut.result.now c.take_in.new.blocks _ f.next h.pool _ _ _ _ c.in_ok-index.ensures.ok (with_items_is f.blocks c.take_in.new.blocks same) c.take_in.ensures.objects _ refl c.index.result.now c.index.ensures in
    stays-taken _ _ _ _ _ c.requires.some h t.given t.pool

pub returns-clause-ok : goal.returns-clause-ok
returns-clause-ok g c =
    let i = c.self.invariant in let f = c.self.inside in let lent = c.deref_mut.ensures in let block = g.B.PoolBlock.block in
    let same : length c.take_in.new.blocks ≡ f.blocks.len = c.take_in.auto.blocks ∙ lent.len in
    let h = subst (λ (l : List (Held g.row.B.Denot)). IsKeptPool (kept_of block f.info l f.next).pool) (sym lent.value) i in
    let view = ap (λ (l : List (Held g.row.B.Denot)). kept_of block f.info l f.next) lent.value ∙ c.self.view_is in
    fit-takes block f.info c.deref_mut.result.now c.take_in.new.blocks _ f.next h.pool _ _ _ _ c.in_ok-index.ensures.ok (with_items_is f.blocks c.take_in.new.blocks same)
    c.take_in.ensures.objects _ view c.index.result.now c.index.ensures
