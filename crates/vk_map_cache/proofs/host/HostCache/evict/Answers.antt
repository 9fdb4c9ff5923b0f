use Rattle.std.proofs.Common.{◌&&◌, ◌==◌, ◌/◌, nat_le, nat_lt, length, arith}
use Rattle.vk_map_cache.specs.Holdings.{is_in_atom, evicted}
use Rattle.vk_map_cache.proofs.HostLemmas.{retested, ended}
use Rattle.vk_map_cache.proofs.host.HostCache.evict.Goals as goal

pub returns : goal.returns
returns c =
    let span = c.atom_at-span.result in
    let len = length c.args.region.now in
    retested evicted c.args.memory c.args.self.now c.change_held.new.self c.args.region.now c.change_held.new.region (λ k. nat_le span.low k && nat_lt k span.high) (is_in_atom len c.args.atom)
    (λ k. ended (λ j. j / 64 == c.args.atom) span.low span.high len k (omega (arith, c.atom_at-span.ensures.end, c.size.ensures)) (λ lt. c.atom_at-span.ensures.bytes k (omega (arith, lt, c.size.ensures))))
    c.change_held.ensures
