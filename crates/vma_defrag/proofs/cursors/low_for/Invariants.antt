use Rattle.std.proofs.Common.{ℕ, ◌<◌, get_or}
use Rattle.vk_model.specs.Memory.Pools.{IsHigher}
use Rattle.vma_pools.specs.Exhausted.{IsAsLarge}
use Rattle.vma_pools.specs.State.{request_in, start_of}
use Rattle.vma_defrag.specs.declared.cursors.Cursor.{Cursor}
use Rattle.vma_defrag.specs.Inner.Cursors.{BeginsAt}
use Rattle.vma_defrag.proofs.cursors.low_for.Given as goal

abbrev pub invariant-loop-cursor : goal.invariant-loop-cursor
invariant-loop-cursor l = record {
  begins : BeginsAt l.cursors l.asked l.low;
  highest : (k : ℕ) (d : Cursor) → k < l.cursor-index → IsAsLarge (request_in (get_or l.cursors k d).asked) (request_in l.asked) → IsHigher (start_of (get_or l.cursors k d).low) (start_of l.low) → ⊥;
}
