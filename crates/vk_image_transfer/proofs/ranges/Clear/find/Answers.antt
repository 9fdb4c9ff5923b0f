use Rattle.std.proofs.Common.{◌≡◌, ℕ, ◌+◌, ◌-◌, ◌*◌, ◌<◌, ◌≤◌, List, get_or, ap, sym, subst, ◌∙◌, arith}
use Rattle.vk_model.specs.declared.command.SubresourceRange.{SubresourceRange}
use Rattle.vk_model.specs.declared.resource.ImageInfo.{ImageInfo}
use Rattle.std.specs.List.{sum_by}
use Rattle.vk_model.specs.Basics.{below}
use Rattle.vk_model.specs.Trace.Image.{level_height}
use Rattle.vk_model.specs.Run.Pieces.{level_pieces}
use Rattle.vk_image_transfer.specs.Pieces.{piece_in, level_rows, range_rows}
use Rattle.vk_image_transfer.proofs.AllPieces.{clear_found}
use Rattle.vk_image_transfer.proofs.ranges.Clear.find.Goals as goal

abbrev none : SubresourceRange
none = record { first_level = 0; levels = 0; first_layer = 0; layers = 0 }

pub returns-then-left-rows-clause-piece : goal.returns-then-left-rows-clause-piece
returns-then-left-rows-clause-piece c = λ i.
    let m = c.args.image.now in
    let rs = c.args.self.now.ranges.now in
    let found = c.level_of.ensures in
    let low : c.loop-range.left < range_rows m (get_or rs c.loop-range.range-index none) = omega (arith, c.if-left-rows.true, c.rows_of-rows.ensures.rows, ap (λ (n : ImageInfo). range_rows n (get_or rs c.loop-range.range-index none)) c.image-info.ensures.image) in
    let same : c.level_of.result.clear.range ≡ get_or rs c.loop-range.range-index none = found.range in
    let above : c.level_of.result.clear.range.first_level ≤ c.level_of.result.clear.level = subst (λ (r : SubresourceRange). r.first_level ≤ c.level_of.result.clear.level) (sym same) found.low in
    let under : c.level_of.result.clear.level < c.level_of.result.clear.range.first_level + c.level_of.result.clear.range.levels =
    subst (λ (r : SubresourceRange). c.level_of.result.clear.level < r.first_level + r.levels) (sym same) found.high in
    let q = get_or rs c.loop-range.range-index none in
    let level = c.level_of.result.clear.level in
    let at = c.level_of.result.number in
    let sum : sum_by (level_rows m c.level_of.result.clear.range) (below (level - c.level_of.result.clear.range.first_level)) + at ≡ c.loop-range.left =
    ap (λ (r : SubresourceRange). sum_by (level_rows m r) (below (level - r.first_level)) + at) same
    ∙ ap (λ (n : ImageInfo). sum_by (level_rows n q) (below (level - q.first_level)) + at) (sym c.image-info.ensures.image) ∙ found.number in
    let here : at < c.level_of.result.clear.range.layers * level_height m level =
    omega (arith, found.row, ap (λ (r : SubresourceRange). r.layers * level_height m level) same, ap (λ (n : ImageInfo). q.layers * level_height n level) c.image-info.ensures.image) in
    clear_found i c.args.self.now.color m rs c.loop-range.range-index c.args.number c.loop-range.left c.level_of.result.number c.level_of.result.clear.level none c.level_of.result.clear.range c.loop-range-test.true c.loop-range.invariant low same above under sum here
    ∙ ap (λ (color : List ℕ). piece_in (level_pieces i color m c.level_of.result.clear.range c.level_of.result.clear.level) c.level_of.result.number) (sym found.color)
