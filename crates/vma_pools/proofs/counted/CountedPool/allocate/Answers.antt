use Rattle.std.proofs.Common.{ℕ, ◌+◌, ◌*◌, ◌<◌, ◌^◌, ap, subst}
use Rattle.vk_model.specs.declared.resource.PoolInfo.{PoolInfo}
use Rattle.vma_pools.specs.State.{request_in, start_of}
use Rattle.vma_pools.proofs.StateLemmas.{takes-gives}
use Rattle.vma_pools.proofs.CountedLemmas.{counted-given}
use Rattle.vma_pools.proofs.counted.CountedPool.allocate.Goals as goal

pub invariant_of-self-2 : goal.invariant_of-self-2
invariant_of-self-2 g c =
    let f = c.self.inside in let k = f.pool in let now = c.allocate.new.self in let place = c.in_ok-place.place in
    let takes = takes-gives k now c.args.memories.now c.allocate.new.memories (request_in c.args.asked) c.args.upper (start_of place) c.in_ok-place.ensures.ok in
    let blocks = c.blocks-else-not-can_count_range.result in
    let size = ap (λ (i : PoolInfo). i.block_size) c.info-block_size.ensures in
    let fits = subst (λ (n : ℕ). (n + 1) * k.pool.info.block_size < 2 ^ 64) c.blocks-else-not-can_count_range.ensures
    (subst (λ (n : ℕ). (blocks + 1) * n < 2 ^ 64) size (c.can_count_block.ensures c.if-not-can_count_block.false)) in
    counted-given k.pool now.pool c.is_kept.ensures f.ranges f.bytes c.self.invariant (request_in c.args.asked) c.requires.request.some c.args.upper (start_of place) takes.0 takes.1 fits
