use Rattle.std.proofs.Common.{◌≡◌, ℕ, ◌+◌, length, sym, subst, arith}
use Rattle.vk_memory.specs.MemoryState.{MemoryState}
use Rattle.vma_pools.specs.State.{Backs}
use Rattle.vma_defrag.specs.declared.open.Fate.TheVariants.{Made}
use Rattle.vma_defrag.specs.declared.open.Planned.{Planned}
use Rattle.vma_defrag.specs.Inner.Ending.{AreSettled}
use Rattle.vma_defrag.proofs.Chains.{none_settled, next_move, more_settled}
use Rattle.vma_defrag.proofs.ending.settle_all.Goals as goal

abbrev none : Planned
none = record { allocation = 0; to = record { block = 0; start = 0 }; bytes = 0; fate = Made }

pub loop-one-init : goal.loop-one-init
loop-one-init g c = none_settled c.args.pools.now c.args.memories.now c.args.planned.now c.requires.backs c.requires.matched

pub settle-requires : goal.settle-requires
settle-requires g c = record {
  planned = (
    c.requires.planned.0,
    next_move c.args.pools.now c.args.memories.now c.args.planned.now c.loop-one.one-index c.loop-one.pools c.loop-one.memories c.loop-one.invariant c.loop-one-test.true none c.requires.planned.0 c.requires.planned.1,
  );
  backs = c.loop-one.invariant.backs;
}

pub loop-one-preserved : goal.loop-one-preserved
loop-one-preserved g c =
    let s = c.args.pools.now in let m = c.args.memories.now in let planned = c.args.planned.now in let k = c.loop-one.one-index in
    subst (λ (n : MemoryState). AreSettled s m planned (k + 1) c.settle.new.pools n) (sym c.settle.ensures.memory)
    (more_settled s m planned k c.loop-one.pools c.loop-one.memories c.loop-one.invariant c.loop-one-test.true none c.requires.planned.0 c.requires.planned.1 c.settle.new.pools c.settle.result c.settle.ensures.settles
    (subst (λ (n : MemoryState). Backs c.settle.new.pools n) c.settle.ensures.memory c.settle.ensures.backs))

pub returns : goal.returns
returns g c =
    let same : c.loop-one.one-index ≡ length c.args.planned.now = omega (arith, c.loop-one-test.false, c.loop-one.auto.one-index-end) in
    subst (λ (k : ℕ). AreSettled c.args.pools.now c.args.memories.now c.args.planned.now k c.loop-one.pools c.loop-one.memories) same c.loop-one.invariant
