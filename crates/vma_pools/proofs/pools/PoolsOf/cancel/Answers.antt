use Rattle.std.proofs.Common.{sym, subst}
use Rattle.vk_memory.specs.MemoryState.{MemoryState}
use Rattle.vma_pools.specs.State.{Backs}
use Rattle.vma_pools.specs.Moves.{IsMoving, IsSettled}
use Rattle.vma_pools.proofs.EndedLemmas.{live-is}
use Rattle.vma_pools.proofs.CallLemmas.{live-holds}
use Rattle.vma_pools.proofs.SettledBacks.{settled-backs, settled-live}
use Rattle.vma_pools.proofs.pools.PoolsOf.cancel.Goals as goal

pub release-requires : goal.release-requires
release-requires g c =
    let s = c.args.self.now in let i = c.args.allocation in let its = c.moving-its.result in let new = c.settle-gone.new.self in let gone = c.settle-gone.result in
    let l = live-is s i (λ a. IsMoving a.home a.target) c.requires.moving in
    settled-live s new c.args.memories.now c.requires.backs i l.0 l.1 its.pool its.target its.from c.settle-gone.ensures.always gone
    (live-holds s i (λ a. IsSettled s new i a its.pool its.target its.from gone) c.settle-gone.ensures.settled l.0 l.1)

pub returns-clause-kept : goal.returns-clause-kept
returns-clause-kept g c =
    let s = c.args.self.now in let i = c.args.allocation in let its = c.moving-its.result in let new = c.settle-gone.new.self in let gone = c.settle-gone.result in
    let l = live-is s i (λ a. IsMoving a.home a.target) c.requires.moving in
    subst (λ (m : MemoryState). Backs new m) (sym c.release.ensures)
    (settled-backs s new c.args.memories.now c.requires.backs i l.0 l.1 its.pool its.target its.from gone
    (live-holds s i (λ a. IsSettled s new i a its.pool its.target its.from gone) c.settle-gone.ensures.settled l.0 l.1))
