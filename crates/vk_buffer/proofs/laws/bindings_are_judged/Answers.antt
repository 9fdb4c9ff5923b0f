use Rattle.vk_buffer.proofs.Judging.{judged}
use Rattle.vk_buffer.proofs.laws.bindings_are_judged.Goals as goal

pub returns : goal.returns
returns c = λ past p r m offset s binds inside. judged past p r m offset s binds inside
