use Rattle.std.proofs.Common.{◌∷◌, List, true, false, subst, refl}
use Rattle.std.specs.Fn.{FnReturnsAt}
use Rattle.std.proofs.iter.Next.{says_at}
use Rattle.vk_ranges.specs.Overlaps.{Piece, piece_of, pieces_left}
use Rattle.vk_ranges.proofs.Searching.{IsSearched, search_found, search_next}
use Rattle.vk_ranges.proofs.map.RangeMap.find.Goals as goal

pub returns-then-test-clause-passes : goal.returns-then-test-clause-passes
returns-then-test-clause-passes g c =
    let values = c.args.self.now in
    let fails = λ (value : g.row.T.Denot). FnReturnsAt g.F.Fn c.args.test value false in
    let passes = λ (value : g.row.T.Denot). FnReturnsAt g.F.Fn c.args.test value true in
    let piece = piece_of c.in-Some.run' in
    let rest = pieces_left c.next.new.self in
    let so_far : IsSearched values fails c.args.low c.args.high (piece ∷ rest) = subst (λ (xs : List (Piece _)). IsSearched values fails c.args.low c.args.high xs) c.in-Some.ensures.steps c.loop-run.invariant in
    search_found values fails c.args.low c.args.high piece rest so_far passes (says_at g.F.Fn c.if-test.ensures refl)

pub loop-run-preserved : goal.loop-run-preserved
loop-run-preserved g c =
    let values = c.args.self.now in
    let fails = λ (value : g.row.T.Denot). FnReturnsAt g.F.Fn c.args.test value false in
    let piece = piece_of c.in-Some.run' in
    let rest = pieces_left c.next.new.self in
    let so_far : IsSearched values fails c.args.low c.args.high (piece ∷ rest) = subst (λ (xs : List (Piece _)). IsSearched values fails c.args.low c.args.high xs) c.in-Some.ensures.steps c.loop-run.invariant in
    search_next values fails c.args.low c.args.high piece rest so_far (says_at g.F.Fn c.if-test.ensures refl)
