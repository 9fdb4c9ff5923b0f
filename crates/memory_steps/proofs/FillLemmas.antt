-- A region of which words were filled has as many bytes as before.
use Rattle.std.proofs.Common.{◌≡◌, ℕ, ◌+◌, ◌*◌, ◌≤◌, List, length, ◌∙◌, arith}
use Rattle.std.specs.Int.{to_le_bytes, w32}
use Rattle.vk_heap.specs.Region.{splice, repeated}
use Rattle.vk_heap.proofs.RegionLemmas.{length-repeated}
use Rattle.vk_heap.proofs.SpliceLemmas.{length-splice}

pub length_filled : (region : List ℕ) (at words word : ℕ) → at + 4 * words ≤ length region → length (splice region at (repeated words (to_le_bytes w32 word))) ≡ length region
length_filled region at words word fits =
    let bytes : List ℕ = repeated words (to_le_bytes w32 word) in
    let all = length-repeated words (to_le_bytes w32 word) in
    let long : length bytes ≡ 4 * words = all ∙ omega arith in
    length-splice region bytes at (omega (arith, long, fits))
