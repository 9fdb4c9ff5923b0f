use Rattle.vk_hazards.proofs.ExactLemmas.{one, unseen}
use Rattle.vk_hazards.proofs.laws.missing_is_one.Goals as goal

pub returns-clause-one : goal.returns-clause-one
returns-clause-one c = λ past w a k b m n cw is other. one past w a k b cw m n is other

pub returns-clause-unseen : goal.returns-clause-unseen
returns-clause-unseen c = λ past w a k b m cw ca is. unseen past w a k b cw ca m is
