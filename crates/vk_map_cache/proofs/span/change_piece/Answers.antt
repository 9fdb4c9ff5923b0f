use Rattle.std.proofs.Common.{◌≡◌, ◌<◌, ◌≤◌, ◌+◌, ◌-◌, ◌⊎◌, ℕ, ◌&&◌, nat_lt, nat_le, List, length, get_or, ap, sym, ◌∙◌, arith, inl, inr, refl}
use Rattle.vk_map_cache.specs.Inner.Marks.{changed}
use Rattle.vk_map_cache.proofs.CellLemmas.{same_cell, changed_if, kept_unless}
use Rattle.vk_map_cache.proofs.HoldingLemmas.{in_range_or}
use Rattle.vk_heap.proofs.SpliceLemmas.{splice-in, splice-out, get_or-piece}
use Rattle.vk_map_cache.proofs.span.change_piece.Goals as goal

pub returns-clause-bytes : goal.returns-clause-bytes
returns-clause-bytes c = λ k cell was.
    let at = c.args.at in
    let n = length c.args.bytes.now in
    let region = c.args.region.now in
    let long : length c.read.new.out ≡ n = c.read.auto.out in
    let longer : length c.change.new.region ≡ n = c.change.auto.region ∙ long in
    let fits : at + length c.change.new.region ≤ length region = omega (arith, longer, c.requires.within) in
    let written = ap (λ (l : List ℕ). get_or l k 0) c.write.ensures in
    elim (in_range_or at (at + n) k) [
      | inl (is, low, high) ↦
          changed_if (changed c.args.change) cell (nat_le at k && nat_lt k (at + n)) is
          (same_cell refl (sym (written ∙ splice-in region c.change.new.region at fits k low (omega (arith, high, longer))))
          (c.change.ensures.inside k cell low (omega (arith, high, long))
          (same_cell refl (sym (ap (λ (l : List ℕ). get_or l (k - at) 0) c.read.ensures ∙ get_or-piece region at n k low high)) was)))
      | inr (is, out) ↦
          kept_unless (changed c.args.change) cell (nat_le at k && nat_lt k (at + n)) is
          (same_cell (sym (c.change.ensures.outside k (out_of n (length c.read.new.out) at k long out)))
          (sym (written ∙ splice-out region c.change.new.region at fits k (out_of n (length c.change.new.region) at k longer out))) was)
    ]
  where
    out_of : (n len at k : ℕ) → len ≡ n → (k < at) ⊎ (at + n ≤ k) → (k < at) ⊎ (at + len ≤ k)
    out_of n len at k long (inl lt) = inl lt
    out_of n len at k long (inr le) = inr (omega (arith, le, long))
