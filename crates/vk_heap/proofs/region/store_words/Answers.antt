use Rattle.std.proofs.Common.{◌≡◌, ◌+◌, ◌*◌, ◌-◌, length, arith, ◌∙◌, sym}
use Rattle.std.proofs.lemmas.Slice.{take-put_mid}
use Rattle.vk_heap.proofs.RegionLemmas.{repeated-zero, repeated-more}
use Rattle.vk_heap.proofs.region.store_words.Goals as goal

pub loop-i-init : goal.loop-i-init
loop-i-init c = sym (repeated-zero _)

pub loop-i-preserved : goal.loop-i-preserved
loop-i-preserved c =
    take-put_mid (4 * c.loop-i.i) (4 * c.loop-i.i + 4 - 4 * c.loop-i.i) c.loop-i.out c.copy_from_slice.new.self (4 * (c.loop-i.i + 1))
    (let n : 4 * (c.loop-i.i + 1) ≡ 4 * c.loop-i.i + length c.copy_from_slice.new.self = omega arith in n)
    (omega arith)
    ∙ (rw (c.loop-i.invariant, c.copy_from_slice.ensures.after, c.to_le_bytes-bytes.ensures) (sym (repeated-more c.loop-i.i _)))
