use Rattle.std.proofs.Common.{arith}
use Rattle.vk_model.specs.declared.command.Length.TheVariants as length_of
use Rattle.vk_model.specs.Run.Caches.{forgotten}
use Rattle.vk_model.specs.World.Effect.{in_atoms}
use Rattle.vk_map_cache.specs.Holdings.{only_where}
use Rattle.vk_map_cache.proofs.HostLemmas.{then_same, all_forgotten}
use Rattle.vk_map_cache.proofs.host.HostCache.drop_range.Goals as goal

pub free-requires : goal.free-requires
free-requires c = all_forgotten c.args.offset c.args.size c.args.memory c.args.self.now c.invalidate.new.self c.invalidate.ensures c.if-offset-eq0.true (omega (arith, c.room.ensures, c.if-room-size.true))

pub returns-then-room-size : goal.returns-then-room-size
returns-then-room-size c = λ region.
    then_same (only_where (in_atoms c.args.offset (length_of.Bytes c.args.size)) (forgotten 0)) c.args.memory c.args.self.now c.invalidate.new.self c.free.new.self region region (c.invalidate.ensures region) c.free.ensures.same
