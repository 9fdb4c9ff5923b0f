use Rattle.std.proofs.Common.{◌≡◌, ℕ, Some, sym, ap, ◌∙◌, subst, slice_get}
use Rattle.std.proofs.lemmas.Option.{slice_get-get_or}
use Rattle.std.proofs.lemmas.Grind.{get_or_default_zero}
use Rattle.vk_model.specs.World.Bytes.{in_buffer}
use Rattle.vk_model.specs.Run.Caches.{view}
use Rattle.vk_laws.specs.Reader.{cells_of}
use Rattle.vk_laws.proofs.Caching.CacheView.{same_view}
use Rattle.vk_laws.proofs.reader.Memory.host_read.Goals as goal

pub returns : goal.returns
returns c = λ all done next v ordered none r may agent reads h.
    let m = c.args.self.now in
    let law = c.cached_trace_is_fresh.ensures.fresh all done (cells_of m) next (in_buffer 0 c.args.at) v ordered none r may reads h in
    let here : view 0 (cells_of m (in_buffer 0 c.args.at)) ≡ v = subst (λ (a : ℕ). view a (cells_of m (in_buffer 0 c.args.at)) ≡ v) agent law in
    let found : slice_get m.first.bytes.items c.args.at ≡ Some c.index.result.now = slice_get-get_or m.first.bytes.items c.args.at c.index.result.now c.requires.first ∙ ap Some (sym c.index.ensures) in
    let region = get_or_default_zero m.region.items c.args.at c.index-2.result.now c.requires.region in
    c.value_through.ensures ∙ same_view c.index.result.now (slice_get m.first.bytes.items c.args.at) _ _ found (c.index-2.ensures ∙ region) ∙ here
