use Rattle.std.proofs.Common.{refl}
use Rattle.std.specs.Fmt.{digits}
use Rattle.hex.proofs.OnLiterals.{hex_on_literals}
use Rattle.vk_trace.proofs.text_examples.answers.Goals as goal

pub returns : goal.returns
unfolding hex_on_literals digits
returns c = record { one_read = refl; stopped = refl; at_entry = refl; at_command = refl; at_wait = refl; at_signal = refl }
