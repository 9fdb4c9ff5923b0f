use Rattle.std.proofs.Common.{arith, ◌≡◌, ◌+◌, ◌<◌, length, get_or, set, get_or-set_same, length-set, ap, ◌∙◌}
use Rattle.vk_model.specs.Trace.Image.{level_size}
use Rattle.vk_image_tiles.proofs.LevelBounds.{level_within, starts_more}
use Rattle.vk_image_tiles.proofs.shapes.level_starts.Goals as goal

pub overflow_cast-starts : goal.overflow_cast-starts
overflow_cast-starts c = omega (arith, c.level_size.ensures.size, level_within c.args.image.now c.loop-level.level c.requires)

pub overflow_add-starts : goal.overflow_add-starts
overflow_add-starts c = omega (arith, c.level_size.ensures.size, level_within c.args.image.now c.loop-level.level c.requires, c.loop-level.invariant.within)

pub loop-level-preserved : goal.loop-level-preserved
loop-level-preserved c =
    let n = c.loop-level.level in
    let starts = c.loop-level.starts in
    let next = get_or starts n 0 + c.level_size.result in
    let len = c.loop-level.invariant.len in
    let room : n + 1 < length starts = omega (arith, len, c.loop-level-test.true) in
    let size = c.level_size.ensures.size in
    let new : get_or (set starts (n + 1) next) (n + 1) 0 ≡ next = get_or-set_same starts (n + 1) next 0 room in
    record {
      len = length-set starts (n + 1) next ∙ len;
      starts = starts_more (level_size c.args.image.now) starts n next c.loop-level.invariant.starts room (ap (λ s. get_or starts n 0 + s) size);
      within = omega (arith, new, size, level_within c.args.image.now n c.requires, c.loop-level.invariant.within);
    }
