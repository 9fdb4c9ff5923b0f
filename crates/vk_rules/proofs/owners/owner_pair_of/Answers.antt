use Rattle.std.proofs.Common.{sym, subst}
use Rattle.vk_model.specs.Trace.PointViews.{point_of, action_of}
use Rattle.vk_model.specs.declared.point.Action.{Action as Acts}
use Rattle.vk_history.specs.PointViews.{past}
use Rattle.vk_rules.proofs.Judging.Pairs.{no_owner_pair, IsNoBarrier}
use Rattle.vk_rules.proofs.owners.owner_pair_of.Goals as goal

pub returns-in-Host-clause-broken : goal.returns-in-Host-clause-broken
returns-in-Host-clause-broken c = sym (no_owner_pair (past c.args.history.now) (point_of c.args.point.now) (subst (λ (d : Acts). IsNoBarrier (action_of d)) (sym c.in-Host.is) (λ es e. absurd cc)))

pub returns-in-Wait-clause-broken : goal.returns-in-Wait-clause-broken
returns-in-Wait-clause-broken c = sym (no_owner_pair (past c.args.history.now) (point_of c.args.point.now) (subst (λ (d : Acts). IsNoBarrier (action_of d)) (sym c.in-Wait.is) (λ es e. absurd cc)))

pub returns-in-Signal-clause-broken : goal.returns-in-Signal-clause-broken
returns-in-Signal-clause-broken c = sym (no_owner_pair (past c.args.history.now) (point_of c.args.point.now) (subst (λ (d : Acts). IsNoBarrier (action_of d)) (sym c.in-Signal.is) (λ es e. absurd cc)))
