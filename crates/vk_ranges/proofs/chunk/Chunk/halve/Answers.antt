use Rattle.std.proofs.Common.{◌≡◌, ◌+◌, ◌-◌, ◌/◌, ◌++◌, ℕ, List, length, arith, refl, sym, subst}
use Rattle.std.proofs.lemmas.List.{take-append-drop}
use Rattle.vk_ranges.specs.Inner.Chunks.{AreRising}
use Rattle.vk_ranges.proofs.RisingLemmas.{rising_halves}
use Rattle.vk_ranges.proofs.chunk.Chunk.halve.Goals as goal

pub returns-clause-ok : goal.returns-clause-ok
returns-clause-ok g c =
    let old = c.args.self.now in
    let runs = old.runs.items in
    let kept = c.split_off.new.self.items in
    let more = c.in_ok-runs.runs.items in
    let whole : runs ≡ kept ++ more = rw (c.in_ok-runs.ensures.items, c.in_ok-runs.ensures.tail) (sym (take-append-drop _ runs)) in
    let at : c.len-half.result / 2 - 1 + 1 ≡ length kept = omega (arith, c.in_ok-runs.ensures.len) in
    record {
      whole = whole;
      last = refl;
      rising = λ low r. rising_halves low (old.last + 1) kept more c.index.result.now (subst (λ (xs : List (ℕ × g.row.T.Denot)). AreRising low (old.last + 1) xs) whole r) (c.len-half.result / 2 - 1) at c.index.ensures;
    }
