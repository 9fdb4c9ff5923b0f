use Rattle.std.proofs.Common.{ℕ, [], ◌∷◌, OnOk, refl, arith}
use Rattle.std.proofs.lemmas.Result.{on_ok_weaker}
use Rattle.vk_ranges.specs.Inner.Plans.{IsRewritten}
use Rattle.vk_ranges.proofs.Rewriting.{tiled, fits, are_still_runs, same_length, kept_before, kept_after, one_inside}
use Rattle.vk_ranges.proofs.map.RangeMap.assign.Goals as goal
use Rattle.vk_ranges.proofs.map.RangeMap.assign.Goals.{After-assign_runs}

pub assign_runs-requires-clause-some : goal.assign_runs-requires-clause-some
assign_runs-requires-clause-some g c = let order = c.requires.order in rw (c.narrow-low.ensures, c.narrow-high.ensures) (omega (order, arith))

pub assign_runs-requires-clause-tiling : goal.assign_runs-requires-clause-tiling
assign_runs-requires-clause-tiling g c =
    let old = c.self.inside in
    rw (c.narrow-high.ensures) (tiled old.len old.runs c.args.self.now c.self.invariant c.self.view_is c.args.high c.requires.within)

done : (g : _) (c : After-assign_runs g) → OnOk c.assign_runs.result (IsRewritten c.args.low c.args.high c.self.inside.len c.self.inside.runs c.assign_runs.new.runs ((c.args.high, c.args.value) ∷ []))
done g c =
    let old = c.self.inside in
    rw (← c.narrow-low.ensures, ← c.narrow-high.ensures)
    (on_ok_weaker c.assign_runs.result (λ (rewrites : (len : ℕ) → _). rewrites old.len c.self.invariant.tiling (rw (c.narrow-high.ensures) (fits old.len old.runs c.args.self.now c.self.invariant c.self.view_is c.args.high c.requires.within))) c.assign_runs.ensures.ok)

pub invariant_of-self : goal.invariant_of-self
invariant_of-self g c =
    let old = c.self.inside in
    are_still_runs old.len old.runs c.args.self.now c.self.invariant c.self.view_is c.assign_runs.result c.args.low c.args.high c.assign_runs.new.runs (on_ok_weaker c.assign_runs.result (λ rewritten. ((c.args.high, c.args.value) ∷ [], rewritten)) (done g c)) c.assign_runs.ensures.err

pub returns-clause-len : goal.returns-clause-len
returns-clause-len g c =
    let old = c.self.inside in
    same_length old.len old.runs c.args.self.now c.self.invariant c.self.view_is c.assign_runs.new.runs (invariant_of-self g c)

pub returns-clause-inside : goal.returns-clause-inside
returns-clause-inside g c =
    let old = c.self.inside in
    on_ok_weaker c.assign_runs.result (λ rewritten. one_inside old.len old.runs c.args.self.now c.self.invariant c.self.view_is c.args.low c.args.high c.assign_runs.new.runs ((c.args.high, c.args.value) ∷ []) rewritten c.args.value refl) (done g c)

pub returns-clause-before : goal.returns-clause-before
returns-clause-before g c =
    let old = c.self.inside in
    on_ok_weaker c.assign_runs.result (λ rewritten. kept_before old.len old.runs c.args.self.now c.self.invariant c.self.view_is c.args.low c.args.high c.assign_runs.new.runs ((c.args.high, c.args.value) ∷ []) rewritten) (done g c)

pub returns-clause-after : goal.returns-clause-after
returns-clause-after g c =
    let old = c.self.inside in
    on_ok_weaker c.assign_runs.result (λ rewritten. kept_after old.len old.runs c.args.self.now c.self.invariant c.self.view_is c.args.low c.args.high c.assign_runs.new.runs ((c.args.high, c.args.value) ∷ []) rewritten) (done g c)
