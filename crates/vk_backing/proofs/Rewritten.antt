-- What backs ids stays so where only bytes change.
use Rattle.std.proofs.Common.{◌≡◌, ℕ, List, length}
use Rattle.vk_memory.specs.MemoryState.{MemoryState, IsLive, region_of, with_region}
use Rattle.vma_defrag.specs.Bytes.{KeepsObjects}
use Rattle.vma_defrag.proofs.Objects.{keeps_backs, rewritten_keeps}
use Rattle.vk_backing.specs.Backed.{Backed, IsBacked}
use Rattle.vk_backing.proofs.KeptObjects.{kept_backed}

module _ (m : MemoryState) (n : ℕ) (bytes : List ℕ) (live : IsLive m n) (long : length bytes ≡ length (region_of m n)) where
  abbrev after : MemoryState
  after = with_region m n bytes

  keeps : KeepsObjects m after
  keeps = rewritten_keeps m n bytes live long

  -- a memory object has other bytes, as many as it had
  pub rewritten_backed : (b : Backed) → IsBacked b m → IsBacked b after
  rewritten_backed b h = kept_backed m after keeps b (keeps_backs m after keeps b.pools h.backs) h
