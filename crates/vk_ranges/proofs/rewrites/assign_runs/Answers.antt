use Rattle.std.proofs.Common.{ℕ, List, [], ◌∷◌, sym, subst}
use Rattle.std.proofs.lemmas.Result.{on_ok_weaker}
use Rattle.vk_ranges.specs.Inner.Plans.{IsRewritten}
use Rattle.vk_ranges.proofs.rewrites.assign_runs.Goals as goal

pub carry_out-requires : goal.carry_out-requires
carry_out-requires g c = c.in_ok-plan.ensures.undone

pub returns-clause-ok : goal.returns-clause-ok
returns-clause-ok g c =
    on_ok_weaker c.carry_out.result (λ is len tiling within. subst (λ (xs : List (ℕ × g.row.T.Denot)). IsRewritten c.args.low c.args.high len c.args.runs.now xs ((c.args.high, c.args.value) ∷ [])) (sym is) (c.in_ok-plan.ensures.rewrites len tiling within)) c.carry_out.ensures.ok
