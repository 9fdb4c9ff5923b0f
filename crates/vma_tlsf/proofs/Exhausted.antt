-- Below which start a block has no room for a request.
use Rattle.std.proofs.Common.{ℕ, List, arith}
use Rattle.vk_model.specs.Memory.Suballocation.{Taken, Request}
use Rattle.vma_tlsf.specs.Block.{IsExhaustedBelow}

-- nothing starts below the block's start, where any search may begin
pub exhausted_below-start : (size : ℕ) (taken : List Taken) (r : Request) → IsExhaustedBelow size taken r 0
exhausted_below-start size taken r start less = absurd (omega (arith, less))
