use Rattle.std.proofs.Common.{◌≡◌, ℕ, length, take}
use Rattle.vk_history.specs.Contents.{stretch_at, copied_at, ReadWithin}
use Rattle.vk_history.proofs.stretches.copies.Given as goal

abbrev pub invariant-loop-region : goal.invariant-loop-region
invariant-loop-region l = ReadWithin l.regions (length l.defined) → (k : ℕ) → stretch_at l.stretches.items k ≡ copied_at l.defined (take l.region-index l.regions) k
