use Rattle.std.proofs.Common.{◌<◌, true, length, get_or, ap, ◌∙◌, refl, arith}
use Rattle.vk_model.specs.Run.CachedRuns.{after_host_write}
use Rattle.vk_map_cache.specs.Holdings.{Holdings, held_at, given}
use Rattle.vk_map_cache.proofs.HostLemmas.{one_object, object_read}
use Rattle.vk_map_cache.proofs.host.HostCache.write.Goals as goal

pub returns-clause-ok : goal.returns-clause-ok
returns-clause-ok c =
    let memory = c.args.memory in
    let cache = c.self.inside.objects.items in
    let object = c.index_mut.result.now in
    let region = c.args.region.now in
    let made = c.in_ok-make_room.ensures in
    let named : memory < length cache = omega (arith, made.named, ap (λ (h : Holdings). length h) c.self.view_is) in
    one_object (λ k. after_host_write true (given c.args.at c.args.bytes.now k)) memory c.args.self.now cache object c.write.new.self region region
    (λ number k. ap (λ (h : Holdings). held_at h number k) c.self.view_is ∙ made.same number k) named (object_read cache memory object named c.index_mut.ensures.value) refl
    (λ k cell was. c.write.ensures.held k (get_or region k 0) cell was)
