use Rattle.std.proofs.Common.{ℕ, sym, ap, ◌∙◌, arith}
use Rattle.vk_ranges.specs.Runs.{after}
use Rattle.vk_ranges.proofs.Reading.{value_first, some_after, length_is, get_is}
use Rattle.vk_ranges.proofs.map.RangeMap.at.Goals as goal

pub unreachable-requires : goal.unreachable-requires
unreachable-requires g c =
    let fields = c.self.inside in
    let len = length_is fields.len fields.runs c.args.self.now c.self.invariant c.self.view_is in
    let within = c.requires in
    some_after c.narrow-index.result fields.len fields.runs c.self.invariant.tiling (omega (arith, c.narrow-index.ensures)) (sym c.runs_after.ensures ∙ c.in_default.ensures.steps.0)

pub returns : goal.returns
returns g c =
    let fields = c.self.inside in
    get_is fields.len fields.runs c.args.self.now c.self.invariant c.self.view_is c.args.index
    ∙ value_first c.args.index c.in-Some.field-0-0 c.in-Some.value.now fields.runs c.next.new.self (ap (λ (n : ℕ). after n fields.runs) (sym c.narrow-index.ensures) ∙ sym c.runs_after.ensures ∙ c.in-Some.ensures.steps)
