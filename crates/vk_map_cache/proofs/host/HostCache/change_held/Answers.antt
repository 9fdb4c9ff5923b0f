use Rattle.std.proofs.Common.{◌≡◌, ◌<◌, ◌&&◌, ℕ, nat_le, nat_lt, length, get_or, min, ap, subst, ◌∙◌, arith}
use Rattle.vk_model.specs.Run.Caches.{Cell}
use Rattle.vk_map_cache.specs.Holdings.{IsCell, held_in, only_where}
use Rattle.vk_map_cache.specs.Inner.Marks.{changed}
use Rattle.vk_map_cache.proofs.HostLemmas.{one_object, holds_same, object_read, clipped}
use Rattle.vk_map_cache.proofs.host.HostCache.change_held.Goals as goal

pub returns-then-memory-as_slice : goal.returns-then-memory-as_slice
returns-then-memory-as_slice c =
    let cache = c.self.inside.objects.items in
    let object = c.index_mut-object.result.now in
    let f = changed c.args.change in
    let low = c.args.span.low in
    let high = c.args.span.high in
    let named : c.args.memory < length cache = omega (arith, ap length c.as_slice.ensures.value, c.if-memory-as_slice.true) in
    let is_high : c.min-high.result ≡ min high (length object) = c.min-high.ensures ∙ ap (λ (n : ℕ). min high n) c.len.ensures in
    one_object (only_where (λ k. nat_le low k && nat_lt k high) f) c.args.memory c.args.self.now cache object c.change_span.new.object c.args.region.now c.change_span.new.region
    (holds_same c.args.self.now cache c.self.view_is) named (object_read cache c.args.memory object named c.index_mut-object.ensures.value) c.change_span.ensures.region
    (λ k cell was.
    let P : Cell → Type 0 = λ x. IsCell (held_in c.change_span.new.object k) (get_or c.change_span.new.region k 0) x in
    subst P (clipped f object (get_or c.args.region.now k 0) low high c.min-low.result c.min-high.result k cell c.requires.others is_high c.min-low.ensures was) (c.change_span.ensures.bytes k cell was))
