use Rattle.std.proofs.Common.{false}
use Rattle.vma_pools.specs.State.{request_in, start_of}
use Rattle.vma_pools.proofs.CountedLemmas.{counted-old}
use Rattle.vma_pools.proofs.counted.CountedPool.take_lower.Goals as goal

pub invariant_of-self-2 : goal.invariant_of-self-2
invariant_of-self-2 g c =
    let f = c.self.inside in let takes = rw c.in-Some.is at c.in_ok-lower.ensures.ok in
    counted-old f.pool.pool c.take_lower.new.self.pool c.is_kept.ensures f.ranges f.bytes c.self.invariant (request_in c.args.asked) c.requires.request.some false (start_of c.in-Some.lower) takes.given takes.pool takes.has
