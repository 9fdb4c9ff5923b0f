use Rattle.std.proofs.Common.{sym, ◌∙◌, arith}
use Rattle.vma_linear.proofs.Searching.{low_more, high_less}
use Rattle.vma_linear.proofs.slots.place_of.Goals as goal
use Rattle.vma_linear.proofs.slots.place_of.Goals.{then-is_before, else-is_before}

pub loop-low-preserved : goal.loop-low-preserved
loop-low-preserved c =
    let inside = c.loop-low.invariant.within in
    let under = c.within-middle.ensures.high in
    let above = c.within-middle.ensures.low in
    elim c.if-is_before.branch [
      | then-is_before w ↦ rw (w.low-is, w.high-is) (record {
        in_order = omega arith;
        within = c.loop-low.invariant.within;
        before = low_more _ _ _ _ _ c.requires (omega arith) (sym c.is_before.ensures ∙ w.if-is_before.true);
        after = c.loop-low.invariant.after;
      })
      | else-is_before w ↦ rw (w.low-is, w.high-is) (record {
        in_order = above;
        within = omega arith;
        before = c.loop-low.invariant.before;
        after = high_less _ _ _ _ _ c.requires (omega arith) (sym c.is_before.ensures ∙ w.if-is_before.false);
      })
    ]
