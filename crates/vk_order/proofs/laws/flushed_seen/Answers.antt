use Rattle.vk_order.proofs.CachedLemmas.{flushed_seen, unflushed}
use Rattle.vk_order.proofs.laws.flushed_seen.Goals as goal

pub returns-clause-flushed : goal.returns-clause-flushed
returns-clause-flushed c = λ ns w f a cached k b numbers hw ha by_host device is_cached is. flushed_seen ns numbers w a cached k b hw by_host is_cached f is device

pub returns-clause-unflushed : goal.returns-clause-unflushed
returns-clause-unflushed c = λ ns w a cached k b numbers hw by_host is_cached none. unflushed ns numbers w a cached k b hw by_host is_cached none
