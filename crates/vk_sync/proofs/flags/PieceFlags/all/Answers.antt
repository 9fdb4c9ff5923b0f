use Rattle.std.proofs.Common.{arith, ◌∙◌, ap, refl, ℕ}
use Rattle.std.specs.Prelude.{sum}
use Rattle.std.proofs.lemmas.List.Sums.{sum_by_push}
use Rattle.vk_sync.specs.Inner.Places.{places, is_so}
use Rattle.vk_sync.proofs.LeftLemmas.{counted_sum, counted_more, counted_all, flags_made}
use Rattle.vk_sync.proofs.PlaceLemmas.{places_all}
use Rattle.vk_sync.proofs.flags.PieceFlags.all.Goals as goal

pub add-requires-clause-fits : goal.add-requires-clause-fits
add-requires-clause-fits c =
    let now = c.loop-counted in
    let m = now.invariant in
    let one = ap sum c.in_ok-push_zero.ensures.ok ∙ sum_by_push (λ (x : ℕ). x) now.groups 0 in
    omega (arith, one, counted_sum c.args.count now.counted now.groups m)

pub loop-counted-preserved : goal.loop-counted-preserved
loop-counted-preserved c =
    let now = c.loop-counted in
    counted_more c.args.count now.counted c.min-more.result now.groups c.add.new.self now.invariant c.loop-counted-test.true c.min-more.ensures (rw (← c.in_ok-push_zero.ensures.ok) c.add.ensures)

pub invariant_of-result : goal.invariant_of-result
invariant_of-result c =
    let now = c.loop-counted in
    let m = now.invariant in
    let w = m.within in
    let flags = flags_made c.args.count _ c.new-flags.result.items c.resize.new.self.items c.new-flags.ensures.items c.new-flags.ensures.len c.in_ok-resize.ensures.items in
    (rw flags (counted_all c.args.count now.counted now.groups m (omega arith)), refl)

pub returns : goal.returns
returns c =
    let flags = flags_made c.args.count _ c.new-flags.result.items c.resize.new.self.items c.new-flags.ensures.items c.new-flags.ensures.len c.in_ok-resize.ensures.items in
    ap (places is_so 0) flags ∙ places_all 0 c.args.count
