use Rattle.vk_order.specs.Bytes.{byte_of}
use Rattle.vk_order.specs.Inner.Availability.{IsLastInvalidation}
use Rattle.vk_order.proofs.reads.last_invalidation.Given as goal

abbrev pub invariant-loop-earlier : goal.invariant-loop-earlier
invariant-loop-earlier l = IsLastInvalidation l.rows l.earlier (byte_of l.byte) l.last
