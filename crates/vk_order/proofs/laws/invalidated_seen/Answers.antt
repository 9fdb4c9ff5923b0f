use Rattle.vk_order.proofs.CachedLemmas.{invalidated_seen, uninvalidated}
use Rattle.vk_order.proofs.laws.invalidated_seen.Goals as goal

pub returns-clause-invalidated : goal.returns-clause-invalidated
returns-clause-invalidated c = λ ns w f a cached b numbers hw ha device by_host is_cached is. invalidated_seen ns numbers w a cached b ha by_host is_cached f is device

pub returns-clause-uninvalidated : goal.returns-clause-uninvalidated
returns-clause-uninvalidated c = λ ns w a cached b numbers ha by_host is_cached none. uninvalidated ns numbers w a cached b ha by_host is_cached none
