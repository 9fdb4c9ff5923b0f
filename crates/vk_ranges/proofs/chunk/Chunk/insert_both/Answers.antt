use Rattle.std.proofs.Common.{ℕ, List, arith, ap, ◌∙◌}
use Rattle.std.specs.List.{insert}
use Rattle.vk_ranges.proofs.RisingLemmas.{gap_within, insert_both}
use Rattle.vk_ranges.proofs.chunk.Chunk.insert_both.Goals as goal

pub insert-requires : goal.insert-requires
insert-requires g c =
    let runs = c.args.self.now.runs.items in
    let within = gap_within c.args.low.0 c.args.high.0 c.args.place runs c.requires.gap in
    omega (arith, within, c.in_ok-reserve.ensures.len)

pub insert-requires-2 : goal.insert-requires-2
insert-requires-2 g c =
    let runs = c.args.self.now.runs.items in
    let within = gap_within c.args.low.0 c.args.high.0 c.args.place runs c.requires.gap in
    omega (arith, within, c.in_ok-reserve.ensures.len, c.in_ok-insert.ensures.len)

pub returns-clause-ok : goal.returns-clause-ok
returns-clause-ok g c =
    let place = c.args.place in
    let runs = c.args.self.now.runs.items in
    let more : List (ℕ × g.row.T.Denot) → List (ℕ × g.row.T.Denot) = λ xs. insert xs place c.args.high in
    c.in_ok-insert-2.ensures.items
    ∙ ap (λ (xs : List (ℕ × g.row.T.Denot)). insert xs place c.args.low) (c.in_ok-insert.ensures.items ∙ ap more c.in_ok-reserve.ensures.items)
    ∙ insert_both place c.args.low c.args.high runs c.requires.rising c.requires.gap
