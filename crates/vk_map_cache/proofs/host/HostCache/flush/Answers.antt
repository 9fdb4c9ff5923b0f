use Rattle.std.proofs.Common.{◌&&◌, nat_le, nat_lt, length, arith}
use Rattle.vk_model.specs.declared.command.Length.TheVariants as length_of
use Rattle.vk_model.specs.Run.Caches.{written_back}
use Rattle.vk_model.specs.World.Effect.{in_atoms}
use Rattle.vk_map_cache.specs.Holdings.{is_reached}
use Rattle.vk_map_cache.proofs.HostLemmas.{retested, ended}
use Rattle.vk_map_cache.proofs.host.HostCache.flush.Goals as goal

pub returns : goal.returns
returns c =
    let span = c.atoms_of-span.result in
    let len = length c.args.region.now in
    retested (written_back 0) c.args.memory c.args.self.now c.change_held.new.self c.args.region.now c.change_held.new.region (λ k. nat_le span.low k && nat_lt k span.high) (is_reached len c.args.offset c.args.size)
    (λ k. ended (in_atoms c.args.offset (length_of.Bytes c.args.size)) span.low span.high len k (omega (arith, c.atoms_of-span.ensures.end, c.size.ensures)) (λ lt. c.atoms_of-span.ensures.bytes k (omega (arith, lt, c.size.ensures))))
    c.change_held.ensures
