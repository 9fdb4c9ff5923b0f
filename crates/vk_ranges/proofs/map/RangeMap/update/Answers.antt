use Rattle.std.proofs.Common.{◌<◌, ◌≤◌, ℕ, List, Ok, OnOk, arith}
use Rattle.std.specs.Fn.{FnReturnsAt}
use Rattle.std.proofs.lemmas.Result.{on_ok_weaker}
use Rattle.vk_ranges.specs.Inner.Plans.{IsRewritten}
use Rattle.vk_ranges.specs.Inner.Walks.{Gives}
use Rattle.vk_ranges.proofs.Rewriting.{tiled, fits, are_still_runs, same_length, kept_before, kept_after, each_inside}
use Rattle.vk_ranges.proofs.map.RangeMap.update.Goals as goal
use Rattle.vk_ranges.proofs.map.RangeMap.update.Goals.{After-update_runs}

pub update_runs-requires-clause-some : goal.update_runs-requires-clause-some
update_runs-requires-clause-some g c = let order = c.requires.order in rw (c.narrow-low.ensures, c.narrow-high.ensures) (omega (order, arith))

pub update_runs-requires-clause-tiling : goal.update_runs-requires-clause-tiling
update_runs-requires-clause-tiling g c =
    let old = c.self.inside in
    rw (c.narrow-high.ensures) (tiled old.len old.runs c.args.self.now c.self.invariant c.self.view_is c.args.high c.requires.within)

done : (g : _) (c : After-update_runs g) → OnOk c.update_runs.result ((news : List (ℕ × g.row.T.Denot)) × IsRewritten c.args.low c.args.high c.self.inside.len c.self.inside.runs c.update_runs.new.runs news
    × ((index : ℕ) → c.args.low ≤ index → index < c.args.high → Gives (λ before after. FnReturnsAt g.F.Fn c.args.f before (Ok after)) c.self.inside.runs news index))
done g c =
    let old = c.self.inside in
    rw (← c.narrow-low.ensures, ← c.narrow-high.ensures)
    (on_ok_weaker c.update_runs.result (λ rewrites. (rewrites.0, rewrites.1 old.len c.self.invariant.tiling (rw (c.narrow-high.ensures) (fits old.len old.runs c.args.self.now c.self.invariant c.self.view_is c.args.high c.requires.within)), rewrites.2)) c.update_runs.ensures.ok)

pub invariant_of-self : goal.invariant_of-self
invariant_of-self g c =
    let old = c.self.inside in
    are_still_runs old.len old.runs c.args.self.now c.self.invariant c.self.view_is c.update_runs.result c.args.low c.args.high c.update_runs.new.runs (on_ok_weaker c.update_runs.result (λ is. (is.0, is.1)) (done g c)) c.update_runs.ensures.err

pub returns-clause-len : goal.returns-clause-len
returns-clause-len g c =
    let old = c.self.inside in
    same_length old.len old.runs c.args.self.now c.self.invariant c.self.view_is c.update_runs.new.runs (invariant_of-self g c)

pub returns-clause-inside : goal.returns-clause-inside
returns-clause-inside g c =
    let old = c.self.inside in
    on_ok_weaker c.update_runs.result (λ is. each_inside old.len old.runs c.args.self.now c.self.invariant c.self.view_is c.args.low c.args.high c.update_runs.new.runs is.0 is.1 (λ before after. FnReturnsAt g.F.Fn c.args.f before (Ok after)) is.2) (done g c)

pub returns-clause-before : goal.returns-clause-before
returns-clause-before g c =
    let old = c.self.inside in
    on_ok_weaker c.update_runs.result (λ is. kept_before old.len old.runs c.args.self.now c.self.invariant c.self.view_is c.args.low c.args.high c.update_runs.new.runs is.0 is.1) (done g c)

pub returns-clause-after : goal.returns-clause-after
returns-clause-after g c =
    let old = c.self.inside in
    on_ok_weaker c.update_runs.result (λ is. kept_after old.len old.runs c.args.self.now c.self.invariant c.self.view_is c.args.low c.args.high c.update_runs.new.runs is.0 is.1) (done g c)
