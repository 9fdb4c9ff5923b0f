use Rattle.std.proofs.Common.{arith}
use Rattle.std.proofs.lemmas.Bool.{not-true}
use Rattle.vk_model.specs.Run.Runs.{is_done}
use Rattle.vk_laws.proofs.Running.OfferedPieces.{offered_of, is_piece, is_offered, free_next}
use Rattle.vk_laws.proofs.trace_runs.offered_are_pieces.Goals as goal

pub returns : goal.returns
returns c = record {
  pieces = λ past done x h. (is_piece past done x h, not-true (is_done done x) (offered_of past done x h).fresh);
  earliest = λ past done n k j cn act lt ran fresh. is_offered past done n k j cn act lt (free_next past done c.before_is_order.ensures.forward n.number ran n (omega arith)) fresh;
}
