use Rattle.vma_tlsf.specs.Inner.Wants.{request_of_want}
use Rattle.vma_tlsf.proofs.Walking.{before_byte, none_at_all}
use Rattle.vma_tlsf.proofs.near.lowest_from.Goals as goal

pub returns-then-low-limit-clause-none : goal.returns-then-low-limit-clause-none
returns-then-low-limit-clause-none c _ = none_at_all c.args.nodes.now c.args.limit c.args.low (request_of_want c.args.want) c.requires.request.some c.if-low-limit.true c.requires.low

pub lowest_place-requires-clause-from : goal.lowest_place-requires-clause-from
lowest_place-requires-clause-from c = before_byte c.args.nodes.now (request_of_want c.args.want) c.args.limit c.slot_near-found.result.slot c.args.low c.requires.low c.slot_near-found.ensures
