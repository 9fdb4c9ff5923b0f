use Rattle.std.proofs.Common.{◌≡◌, ◌+◌, ◌*◌, ℕ, List, [], ◌∷◌, ◌++◌, map, refl, sym, ap, ◌∙◌, append_assoc, arith}
use Rattle.std.proofs.lemmas.List.FromFn.{map-range_with_len_more}
use Rattle.vk_model.specs.Basics.{below}
use Rattle.vk_model.specs.Trace.Image.{texel}
use Rattle.vk_model.specs.World.Areas.{row_start}
use Rattle.vk_overlaps.specs.declared.extents.Extent.{Extent}
use Rattle.vk_overlaps.specs.Inner.Places.{bytes_at, row_at}
use Rattle.vk_overlaps.proofs.rows.push_rows.Goals as goal

pub loop-row-preserved : goal.loop-row-preserved
loop-row-preserved c =
    let t = texel c.args.format in
    let f : ℕ → Extent = row_at t c.args.region.now in
    let begun = c.args.rows.now.items in
    let row = c.loop-row.row in
    let starts : c.in-Ok.start ≡ row_start t c.args.region.now row = c.in-Ok.ensures.1 ∙ c.row_start.ensures.start in
    let is_row : c.bytes_at.result ≡ f row = c.bytes_at.ensures ∙ ap (λ s. bytes_at s c.row_size-size.result) starts ∙ ap (λ n. bytes_at (row_start t c.args.region.now row) n) c.row_size-size.ensures in
    let more = map-range_with_len_more f 0 row row (omega arith) in
    c.in_ok-push-in-Ok.ensures.items ∙ ap (λ xs. xs ++ c.bytes_at.result ∷ []) c.loop-row.invariant ∙ ap (λ e. (begun ++ map f (below row)) ++ e ∷ []) is_row ∙ append_assoc begun (map f (below row)) (f row ∷ []) ∙ ap (λ xs. begun ++ xs) (sym more)
