use Rattle.std.proofs.Common.{ℕ, List, sym, subst}
use Rattle.std.proofs.lemmas.Result.{on_ok_weaker}
use Rattle.vk_ranges.specs.Inner.Plans.{IsRewritten}
use Rattle.vk_ranges.proofs.rewrites.update_runs.Goals as goal

pub carry_out-requires : goal.carry_out-requires
carry_out-requires g c = c.in_ok-plan.ensures.1.undone

pub returns-clause-ok : goal.returns-clause-ok
returns-clause-ok g c =
    let news = c.in_ok-plan.ensures.0 in
    on_ok_weaker c.carry_out.result (λ is. (news, (λ len tiling within. subst (λ (xs : List (ℕ × g.row.T.Denot)). IsRewritten c.args.low c.args.high len c.args.runs.now xs news) (sym is) (c.in_ok-plan.ensures.1.rewrites len tiling within)), c.in_ok-plan.ensures.2)) c.carry_out.ensures.ok
