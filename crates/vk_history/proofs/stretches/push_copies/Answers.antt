use Rattle.std.proofs.Common.{◌∷◌, List, Bool, subst, sym}
use Rattle.vk_ranges.specs.Overlaps.{Piece, piece_of, pieces_left}
use Rattle.vk_history.specs.declared.stretches.Stretch.{Stretch}
use Rattle.vk_history.proofs.Kept.Stretches.{ArePushed, push_next}
use Rattle.vk_history.proofs.stretches.push_copies.Goals as goal

pub loop-run-preserved : goal.loop-run-preserved
loop-run-preserved c =
    let old = c.args.stretches.now.items in
    let values = c.args.defined.now in
    let region = c.args.region.now in
    let low = c.of-part.result.low in
    let high = c.of-part.result.high in
    let piece = piece_of c.in-Some.run' in
    let rest = pieces_left c.next.new.self in
    let so_far : ArePushed c.loop-run.stretches.items old values region low high (piece ∷ rest) = subst (λ (xs : List (Piece Bool)). ArePushed c.loop-run.stretches.items old values region low high xs) c.in-Some.ensures.steps c.loop-run.invariant in
    subst (λ (ss : List Stretch). ArePushed ss old values region low high rest) (sym c.in_ok-push.ensures.items) (push_next c.loop-run.stretches.items old values region low high piece rest so_far)
