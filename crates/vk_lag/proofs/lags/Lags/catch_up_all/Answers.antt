use Rattle.std.proofs.Common.{rules, subst}
use Rattle.vk_lag.specs.Lags.{Lags, resource_in}
use Rattle.vk_lag.proofs.ResourceLemmas.{IsCaughtUp, all_caught_up}
use Rattle.vk_lag.proofs.lags.Lags.catch_up_all.Goals as goal

pub returns-clause-room : goal.returns-clause-room
returns-clause-room c = λ id. (subst (λ (l : Lags). IsCaughtUp c.args.due (resource_in l id) (resource_in c.retain.new.self.entries id)) c.self.view_is (all_caught_up _ c.args.due _ (λ i old b new f' t. search rules) c.self.inside.resources.entries c.retain.new.self.entries c.retain.ensures.filtered id)).len

pub returns-clause-bytes : goal.returns-clause-bytes
returns-clause-bytes c = λ id k. (subst (λ (l : Lags). IsCaughtUp c.args.due (resource_in l id) (resource_in c.retain.new.self.entries id)) c.self.view_is (all_caught_up _ c.args.due _ (λ i old b new f' t. search rules) c.self.inside.resources.entries c.retain.new.self.entries c.retain.ensures.filtered id)).bytes k
