use Rattle.std.proofs.Common.{◌≡◌, ℕ, ◌+◌, length, sym, subst, arith}
use Rattle.vk_memory.specs.MemoryState.{MemoryState}
use Rattle.vma_pools.specs.State.{Backs}
use Rattle.vma_defrag.specs.Inner.Ending.{AreEnded}
use Rattle.vma_defrag.proofs.Endings.{none_ended, next_unreserved, more_ended}
use Rattle.vma_defrag.proofs.ending.end_all.Goals as goal

pub loop-number-init : goal.loop-number-init
loop-number-init g c = none_ended c.args.pools.now c.args.memories.now c.args.numbers.now c.requires.backs c.requires.matched

pub free-requires-clause-unreserved : goal.free-requires-clause-unreserved
free-requires-clause-unreserved g c =
    let its = c.requires.listed in
    next_unreserved c.args.pools.now c.args.memories.now c.args.numbers.now c.loop-number.number-index c.loop-number.pools c.loop-number.memories c.loop-number.invariant c.loop-number-test.true its.0 its.1 its.2

pub free-requires-clause-backs : goal.free-requires-clause-backs
free-requires-clause-backs g c = c.loop-number.invariant.backs

pub loop-number-preserved : goal.loop-number-preserved
loop-number-preserved g c =
    let its = c.requires.listed in let s = c.args.pools.now in let m = c.args.memories.now in let numbers = c.args.numbers.now in let k = c.loop-number.number-index in
    subst (λ (n : MemoryState). AreEnded s m numbers (k + 1) c.free.new.self n) (sym c.free.ensures.memories)
    (more_ended s m numbers k c.loop-number.pools c.loop-number.memories c.loop-number.invariant c.loop-number-test.true its.0 its.1 its.2 c.free.new.self c.free.result c.free.ensures.ended
    (subst (λ (n : MemoryState). Backs c.free.new.self n) c.free.ensures.memories c.free.ensures.kept))

pub returns : goal.returns
returns g c =
    let same : c.loop-number.number-index ≡ length c.args.numbers.now = omega (arith, c.loop-number-test.false, c.loop-number.auto.number-index-end) in
    subst (λ (k : ℕ). AreEnded c.args.pools.now c.args.memories.now c.args.numbers.now k c.loop-number.pools c.loop-number.memories) same c.loop-number.invariant
