use Rattle.std.proofs.Common.{ap}
use Rattle.std.specs.Prelude.{nat_le}
use Rattle.vk_rows.specs.Claims.{on_rows}
use Rattle.vk_rows.proofs.facts.limits.Goals as goal

pub returns : goal.returns
unfolding on_rows
returns c = record { limit = λ past p e. ap (nat_le 131072) e; limit_corrected = λ past p e. ap (nat_le 131072) e }
