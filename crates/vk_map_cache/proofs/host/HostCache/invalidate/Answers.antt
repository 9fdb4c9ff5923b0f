use Rattle.std.proofs.Common.{◌<◌, length, get_or, ap, refl, arith}
use Rattle.vk_model.specs.declared.command.Length.TheVariants as length_of
use Rattle.vk_model.specs.Run.Caches.{forgotten}
use Rattle.vk_model.specs.World.Effect.{in_atoms}
use Rattle.vk_map_cache.specs.Holdings.{only_where}
use Rattle.vk_map_cache.proofs.HostLemmas.{one_object, holds_same, object_read, forgotten_past}
use Rattle.vk_map_cache.proofs.host.HostCache.invalidate.Goals as goal

pub returns-then-memory-as_slice : goal.returns-then-memory-as_slice
returns-then-memory-as_slice c = λ region.
    let cache = c.self.inside.objects.items in
    let object = c.index_mut-object.result.now in
    let span = c.atoms_of-span.result in
    let test = in_atoms c.args.offset (length_of.Bytes c.args.size) in
    let named : c.args.memory < length cache = omega (arith, ap length c.as_slice.ensures.value, c.if-memory-as_slice.true) in
    one_object (only_where test (forgotten 0)) c.args.memory c.args.self.now cache object c.forget.new.self region region
    (holds_same c.args.self.now cache c.self.view_is) named (object_read cache c.args.memory object named c.index_mut-object.ensures.value) refl
    (λ k cell was.
    forgotten_past (test k) object c.forget.new.self (get_or region k 0) span.low span.high k cell c.forget.ensures.len (omega (arith, c.atoms_of-span.ensures.end, c.len.ensures))
    (λ lt. c.atoms_of-span.ensures.bytes k (omega (arith, lt, c.len.ensures))) was (c.forget.ensures.held k (get_or region k 0) cell was))
