use Rattle.std.proofs.Common.{arith, ◌<◌, ◌+◌, ◌-◌, ◌/◌, length}
use Rattle.vma_pools.proofs.FreeLemmas.{lower-before, none_lower-from}
use Rattle.vma_pools.proofs.blocks.first_from.Goals as goal

pub loop-low-preserved-then-blocks-middle : goal.loop-low-preserved-then-blocks-middle
loop-low-preserved-then-blocks-middle g c =
    let i = c.loop-low.invariant in
    let within : c.loop-low.low + (c.loop-low.high - c.loop-low.low) / 2 < length c.args.blocks.now = omega (arith, i.within, c.loop-low-test.true) in
    record {
      order = omega (arith, c.loop-low-test.true);
      within = i.within;
      before = λ k d less. lower-before c.args.blocks.now c.args.number c.requires.rising _ c.index-blocks-middle.result within c.if-blocks-middle.true k d less;
      from = i.from;
    }

pub loop-low-preserved : goal.loop-low-preserved
loop-low-preserved g c =
    let i = c.loop-low.invariant in
    let within : c.loop-low.low + (c.loop-low.high - c.loop-low.low) / 2 < length c.args.blocks.now = omega (arith, i.within, c.loop-low-test.true) in
    record {
      order = omega (arith, c.loop-low-test.true);
      within = omega (arith, within);
      before = i.before;
      from = λ k d le lt. none_lower-from c.args.blocks.now c.args.number c.requires.rising _ c.index-blocks-middle.result within c.if-blocks-middle.false k d le lt;
    }
