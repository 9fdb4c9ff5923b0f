use Rattle.std.proofs.Common.{◌≡◌, ℕ, List, length, refl, sym, subst, ◌∙◌, arith}
use Rattle.vk_transfer.specs.Counted.{AreCounted}
use Rattle.vma_defrag.specs.State.{part_count}
use Rattle.vma_defrag.specs.Inner.Planned.{moves_of}
use Rattle.vma_defrag.specs.Inner.Copying.{AreTaken}
use Rattle.vma_defrag.proofs.Objects.{keeps_backs}
use Rattle.vma_defrag.proofs.Taking.{none_taken, more_taken, all_taken}
use Rattle.vma_defrag.proofs.ending.copy_rest.Goals as goal

pub loop-init : goal.loop-init
loop-init g c =
    (refl, none_taken c.args.pools.now c.are_pools.ensures c.requires.planned.0 c.args.planned.now c.requires.planned.1 c.requires.matched c.args.parts.now.left c.args.memories.now c.requires.backs c.requires.within)

pub take_part-requires-clause-some : goal.take_part-requires-clause-some
take_part-requires-clause-some g c = omega (arith, c.loop.invariant.1.fewer, c.left-end.ensures, c.loop-test.true)

pub take_part-requires-clause-backs : goal.take_part-requires-clause-backs
take_part-requires-clause-backs g c = keeps_backs c.args.memories.now c.loop.memories c.loop.invariant.1.objects c.args.pools.now c.requires.backs

pub take_part-requires-clause-counted : goal.take_part-requires-clause-counted
take_part-requires-clause-counted g c = subst (λ (l : List ℕ). AreCounted part_count (moves_of c.args.planned.now) (length (moves_of c.args.planned.now)) l) (sym c.loop.invariant.0) c.requires.counted

pub take_part-requires-clause-within : goal.take_part-requires-clause-within
take_part-requires-clause-within g c = c.loop.invariant.1.within

pub loop-preserved : goal.loop-preserved
loop-preserved g c = (
  c.take_part.ensures.counts ∙ c.loop.invariant.0,
  more_taken c.args.pools.now c.are_pools.ensures c.requires.planned.0 c.args.planned.now c.requires.planned.1 c.requires.matched c.args.parts.now.left c.args.memories.now c.requires.backs
      c.loop.counter c.loop.parts.left c.loop.memories c.loop.invariant.1 c.take_part.new.parts.left c.take_part.new.memories c.take_part.ensures.taken,
)

pub returns-clause-copied : goal.returns-clause-copied
returns-clause-copied g c = λ ignored destroyed fates copied.
    let all : c.loop.counter ≡ length c.args.parts.now.left = omega (arith, c.loop-test.false, c.left-end.ensures, c.loop.invariant.1.fewer) in
    all_taken c.args.pools.now c.are_pools.ensures c.requires.planned.0 c.args.planned.now c.requires.planned.1 c.requires.matched c.args.parts.now.left c.args.memories.now c.requires.backs c.loop.parts.left c.loop.memories
    (subst (λ (k : ℕ). AreTaken c.args.pools.now c.args.planned.now c.args.parts.now.left c.args.memories.now k c.loop.parts.left c.loop.memories) all c.loop.invariant.1) ignored destroyed fates copied

pub returns-clause-backs : goal.returns-clause-backs
returns-clause-backs g c = keeps_backs c.args.memories.now c.loop.memories c.loop.invariant.1.objects c.args.pools.now c.requires.backs
