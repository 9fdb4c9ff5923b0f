use Rattle.std.proofs.Common.{◌≡◌, ℕ, ◌+◌, ◌*◌, ◌-◌, ◌<◌, sym, subst, arith}
use Rattle.std.specs.Prelude.{◌%◌, ◌/◌}
use Rattle.vk_model.specs.Basics.{within}
use Rattle.vk_order.specs.Units.{in_subresources}
use Rattle.vk_order.proofs.UnitLemmas.{whole_layers, within_layer}
use Rattle.vk_order.proofs.units.subresources_until.Goals as goal

pub returns-then-range-levels-clause-alike : goal.returns-then-range-levels-clause-alike
returns-then-range-levels-clause-alike c = λ k low high.
    let r = c.args.range.now in
    let at = c.args.at in
    whole_layers r c.args.levels k at c.requires.some c.if-range-eq0.true c.if-range-levels.true
    (subst (λ (row : ℕ). within (r.first_layer * row) (r.layers * row) k ≡ within (r.first_layer * row) (r.layers * row) at) c.from-row.ensures
    (subst (λ (n : ℕ). within (r.first_layer * c.from-row.result) (n * c.from-row.result) k ≡ within (r.first_layer * c.from-row.result) (n * c.from-row.result) at) c.from-then-range-levels.ensures
    (subst (λ (n : ℕ). within (n * c.from-row.result) (c.from-then-range-levels.result * c.from-row.result) k ≡ within (n * c.from-row.result) (c.from-then-range-levels.result * c.from-row.result) at) c.from.ensures
    (c.range_until.ensures.alike k low high))))

pub returns-clause-alike : goal.returns-clause-alike
returns-clause-alike c = λ k low high.
    let r = c.args.range.now in
    let at = c.args.at in
    let row = c.from-row.result in
    let end = c.range_until-2.ensures.within in
    let least = c.min.ensures in
    subst (λ (row : ℕ). in_subresources r (k % row) (k / row) ≡ in_subresources r (at % row) (at / row)) c.from-row.ensures
    (within_layer r row k at (subst (λ (n : ℕ). 0 < n) (sym c.from-row.ensures) c.requires.some) low (omega arith)
    (subst (λ (n : ℕ). within (at - at % row + r.first_level) n k ≡ within (at - at % row + r.first_level) n at) c.into.ensures
    (subst (λ (n : ℕ). within (at - at % row + n) c.into.result k ≡ within (at - at % row + n) c.into.result at) c.from-2.ensures
    (c.range_until-2.ensures.alike k low high))))
