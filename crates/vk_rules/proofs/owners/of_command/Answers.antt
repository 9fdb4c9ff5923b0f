use Rattle.std.proofs.Common.{sym, ◌∙◌}
use Rattle.vk_model.specs.Trace.PointViews.{point_of}
use Rattle.vk_history.specs.PointViews.{past}
use Rattle.vk_rules.proofs.Judging.Pairs.{no_owner_pair, run_same}
use Rattle.vk_rules.proofs.owners.of_command.Goals as goal

pub returns-in_default-clause-broken : goal.returns-in_default-clause-broken
returns-in_default-clause-broken c = sym (no_owner_pair (past c.args.history.now) (point_of c.args.point.now) (λ es is. c.in_default.not-Barrier es (run_same (sym c.requires.runs ∙ is))))
