use Rattle.std.proofs.Common.{◌≡◌, ℕ, Some, sym, ap, ◌∙◌, subst, slice_get}
use Rattle.std.proofs.lemmas.Option.{slice_get-get_or}
use Rattle.std.proofs.lemmas.Grind.{get_or_default_zero}
use Rattle.vk_model.specs.World.Bytes.{in_buffer}
use Rattle.vk_model.specs.Run.Caches.{view}
use Rattle.vk_laws.specs.Reader.{cells_of}
use Rattle.vk_laws.proofs.Caching.CacheView.{same_view}
use Rattle.vk_laws.proofs.reader.Memory.read.Goals as goal

pub returns : goal.returns
returns c = λ tr ca value done t v free cache model r may agent reads h.
    let m = c.args.self.now in
    let law = c.every_order.ensures.fresh tr ca value done (cells_of m) t (in_buffer 0 c.args.at) v free cache model r may reads h in
    let here : view 1 (cells_of m (in_buffer 0 c.args.at)) ≡ v = subst (λ (a : ℕ). view a (cells_of m (in_buffer 0 c.args.at)) ≡ v) agent law in
    let found : slice_get m.second.bytes.items c.args.at ≡ Some c.index.result.now = slice_get-get_or m.second.bytes.items c.args.at c.index.result.now c.requires.second ∙ ap Some (sym c.index.ensures) in
    let region = get_or_default_zero m.region.items c.args.at c.index-2.result.now c.requires.region in
    c.value_through.ensures ∙ same_view c.index.result.now (slice_get m.second.bytes.items c.args.at) _ _ found (c.index-2.ensures ∙ region) ∙ here
