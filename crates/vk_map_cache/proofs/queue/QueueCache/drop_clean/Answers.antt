use Rattle.std.proofs.Common.{◌<◌, length, get_or, refl, ap, sym, ◌∙◌, arith, None}
use Rattle.std.proofs.lemmas.List.{get_or_read}
use Rattle.vk_model.specs.Run.Caches.{dropped}
use Rattle.vk_map_cache.specs.Holdings.{only_where, is_between}
use Rattle.vk_map_cache.proofs.QueueLemmas.{queue_changed, queue_room}
use Rattle.vk_map_cache.proofs.queue.QueueCache.drop_clean.Goals as goal

pub returns-in-Some-clause-bytes : goal.returns-in-Some-clause-bytes
returns-in-Some-clause-bytes c = λ a region.
    let objects = c.self.inside.objects.items in
    let named : c.args.memory < length objects = omega (arith, ap length c.as_slice.ensures.value, c.if-memory-as_slice.true) in
    let is = sym (get_or_read objects c.args.memory c.index_mut.result.now named c.index_mut.ensures.value None) ∙ c.in-Some.is in
    queue_changed objects c.args.self.now c.self.view_is c.args.memory c.in-Some.object c.leave.new.self named is a (only_where (is_between c.args.low c.args.high) (dropped a)) region region refl
    (λ k cell was. c.leave.ensures.bytes a k (get_or region k 0) cell was)

pub returns-in-Some-clause-room : goal.returns-in-Some-clause-room
returns-in-Some-clause-room c =
    let objects = c.self.inside.objects.items in
    let named : c.args.memory < length objects = omega (arith, ap length c.as_slice.ensures.value, c.if-memory-as_slice.true) in
    let is = sym (get_or_read objects c.args.memory c.index_mut.result.now named c.index_mut.ensures.value None) ∙ c.in-Some.is in
    queue_room objects c.args.self.now c.self.view_is c.args.memory c.in-Some.object c.leave.new.self named is c.leave.ensures.len
