use Rattle.std.proofs.Common.{◌<◌, ◌/◌, ◌==◌, Bool, if◌then◌else◌, length, get_or, ap, subst, ◌∙◌, arith}
use Rattle.vk_model.specs.Run.CachedRuns.{turned_over}
use Rattle.vk_map_cache.specs.Holdings.{Holdings, IsCell, held_in, held_at, is_in_atom, only_where}
use Rattle.vk_map_cache.proofs.HostLemmas.{one_object, object_read, ended}
use Rattle.vk_map_cache.proofs.host.HostCache.turn_over.Goals as goal

pub returns-clause-ok : goal.returns-clause-ok
returns-clause-ok c =
    let memory = c.args.memory in
    let cache = c.self.inside.objects.items in
    let object = c.index_mut-object.result.now in
    let region = c.args.region.now in
    let span = c.atom_at-span.result in
    let made = c.in_ok-make_room.ensures in
    let named : memory < length cache = omega (arith, made.named, ap (λ (h : Holdings). length h) c.self.view_is) in
    one_object (only_where (is_in_atom (length region) c.args.atom) turned_over) memory c.args.self.now cache object c.change_span.new.object region c.change_span.new.region
    (λ number k. ap (λ (h : Holdings). held_at h number k) c.self.view_is ∙ made.same number k) named (object_read cache memory object named c.index_mut-object.ensures.value) c.change_span.ensures.region
    (λ k cell was.
    let P : Bool → Type 0 = λ t. IsCell (held_in c.change_span.new.object k) (get_or c.change_span.new.region k 0) (if t then turned_over cell else cell) in
    subst P (ended (λ j. j / 64 == c.args.atom) span.low span.high (length region) k (omega (arith, c.atom_at-span.ensures.end, c.size-size.ensures)) (λ lt. c.atom_at-span.ensures.bytes k (omega (arith, lt, c.size-size.ensures)))) (c.change_span.ensures.bytes k cell was))
