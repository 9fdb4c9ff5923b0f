use Rattle.vma_tlsf.proofs.Walking.{lowest_taken}
use Rattle.vma_tlsf.specs.Inner.Wants.{request_of_want}
use Rattle.vma_tlsf.proofs.places.lowest_in.Goals as goal

pub returns-in_default : goal.returns-in_default
returns-in_default c = record {
  lowest = lowest_taken c.args.nodes.now c.requires.there.0 c.args.node (request_of_want c.args.want) c.args.limit c.requires.request.some (record { here = c.requires.there.1; some = c.requires.there.2 }) c.in_default.not-Free;
  free = tt;
}
