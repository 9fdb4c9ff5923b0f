use Rattle.std.proofs.Common.{ℕ, ◌∷◌, [], ◌++◌, refl, ap}
use Rattle.std.specs.Option.{option_copied}
use Rattle.vk_ranges.proofs.Carrying.{makes, begun, one_starts}
use Rattle.vk_ranges.proofs.planning.plan_of_one.Goals as goal

pub returns : goal.returns
returns g c =
    let runs = c.args.runs.now in
    let low = c.args.low in
    let high = c.args.high in
    let value = c.args.value in
    let start = c.start_of-is_end.result in
    let begins = c.start_of-is_end.ensures in
    let run : ℕ × g.row.T.Denot = (start.end, start.value.now) in
    makes low high runs c.requires.maximal c.requires.some (option_copied start.left) start.is_end run start.rest begins _ value value c.in_ok-at_low.ensures
    (c.in_ok-changes.ensures.walked low c.requires.tiling.0 (begun low high runs c.requires.tiling c.requires.some run start.rest begins.here) c.requires.some c.requires.tiling.2)
    c.requires.tiling ((high, value) ∷ []) (ap (λ xs. xs ++ (high, value) ∷ []) c.in_ok-changes.ensures.none) (c.requires.some, refl) (tt, tt) (one_starts low high value c.requires.some)
