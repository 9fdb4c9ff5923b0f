use Rattle.std.proofs.Common.{◌∷◌, ℕ, Ok, refl}
use Rattle.std.specs.Option.{option_copied}
use Rattle.std.specs.Fn.{FnReturnsAt}
use Rattle.std.proofs.iter.Next.{says_at}
use Rattle.vk_ranges.specs.Inner.Walks.{IsMapped, with_last}
use Rattle.vk_ranges.proofs.Mapping.{gives_after}
use Rattle.vk_ranges.proofs.Carrying.{makes, begun}
use Rattle.vk_ranges.proofs.planning.plan_of_each.Goals as goal

pub mapped-requires-clause-given : goal.mapped-requires-clause-given
mapped-requires-clause-given g c = says_at g.F.Fn c.in_ok-first.ensures refl

pub returns : goal.returns
returns g c =
    let gives = λ (before after : g.row.T.Denot). FnReturnsAt g.F.Fn c.args.f before (Ok after) in
    let runs = c.args.runs.now in
    let low = c.args.low in
    let high = c.args.high in
    let first = c.in_ok-first.first in
    let start = c.start_of-is_end.result in
    let begins = c.start_of-is_end.ensures in
    let run : ℕ × g.row.T.Denot = (start.end, start.value.now) in
    let changes = c.in_ok-changes.field-0.changes.items in
    let mapped : IsMapped gives low high (run ∷ start.rest) changes c.in_ok-changes.field-0.at_high first =
    c.in_ok-changes.ensures low c.requires.tiling.0 (begun low high runs c.requires.tiling c.requires.some run start.rest begins.here) c.requires.some c.requires.tiling.2
    in
    let news = with_last changes high mapped.last in (
      news,
      (makes low high runs c.requires.maximal c.requires.some (option_copied start.left) start.is_end run start.rest begins _ first mapped.last c.in_ok-at_low.ensures mapped.walked
          c.requires.tiling news refl mapped.new.tiling mapped.new.maximal mapped.new.starts),
      (λ index from to. gives_after gives low runs news index from (rw begins.here (mapped.new.values index from to))),
    )
